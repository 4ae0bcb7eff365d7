-- What is made of content that a file may have is content that a file may have.
use Rattle.std.proofs.Common.{◌≡◌, ◌≢◌, ◌≤◌, ◌<◌, ◌+◌, ◌-◌, ◌*◌, ◌/◌, ◌%◌, ◌^◌, max, zero, suc, ℕ, Bool, true, false, cond, ltb, List, [], ◌∷◌, ◌++◌, Option, Some, None, length, take, set, get_or, replicate, refl, sym, ap, ◌∙◌, subst, arith}
use Rattle.std.proofs.Math.ListN.{length-set, length-replicate}
use Rattle.std.proofs.lemmas.Bool.{ltb-true}
use Rattle.std.proofs.lemmas.Bool.Decides.{nat_tests}
use Rattle.std.proofs.lemmas.List.{get_or-set_other, get_or_past, get_or-append_right, length-append, length-take-le}
use Rattle.std.proofs.lemmas.Map.Lookups.{exact_unsigned}
use Rattle.std.proofs.lemmas.Map.Views.{tells_apart}
use Rattle.std.specs.Ordering.{nat_cmp, eq_by_cmp}
use Rattle.std.specs.Cmp.{nat_cmp_total}
use Rattle.std.specs.FinMap.{get, insert, empty, get-insert, get-empty}
use Rattle.kernel_core.specs.FileContent.{Blocks, FileContent, IsBlock, IsContent, block_or_zeros, zero_block, with_byte, with_bytes, with_zero_tail, size_with, cut, greatest_size}
use Rattle.file_blocks.specs.Kept.{NoneFrom}
use Rattle.file_blocks.proofs.Cuts.{below, get-below}

abbrev pub AreBytes : List ℕ → Type 0
AreBytes bytes = (place : ℕ) → get_or bytes place 0 < 256

-- blocks that a file of this size may keep
abbrev pub AreBlocks : ℕ → Blocks → Type 0
AreBlocks size blocks = (index : ℕ) (block : List ℕ) → get blocks index ≡ Some block → IsBlock size index block

pub empty-valid : (size : ℕ) → AreBlocks size empty
empty-valid size index block found =
    absurd (let none : get (empty {X = List ℕ} {R = nat_cmp}) index ≡ None = get-empty nat_cmp index in let e : None ≡ Some block = sym none ∙ found in cc)

insert_go : (size : ℕ) (blocks : Blocks) (k q : ℕ) (v block : List ℕ) (b : Bool) → AreBlocks size blocks → IsBlock size k v → eq_by_cmp nat_cmp q k ≡ b
    → cond b (Some v) (get blocks q) ≡ Some block → IsBlock size q block
insert_go size blocks k q v block true valid here same found =
    let at : k ≡ q = sym (tells_apart exact_unsigned q k same) in
    let what : v ≡ block = cc in
    subst (λ n. IsBlock size n block) at (subst (IsBlock size k) what here)
insert_go size blocks k q v block false valid here apart found = valid q block found

pub insert-valid : (size : ℕ) (blocks : Blocks) (k : ℕ) (v : List ℕ) → AreBlocks size blocks → IsBlock size k v → AreBlocks size (insert blocks k v)
insert-valid size blocks k v valid here q block found =
    insert_go size blocks k q v block _ valid here refl (sym (get-insert nat_cmp_total blocks k v q) ∙ found)

-- Writes

zeros_are_bytes : (n : ℕ) → AreBytes (replicate n 0)
zeros_are_bytes zero place = omega arith
zeros_are_bytes (suc n) zero = omega arith
zeros_are_bytes (suc n) (suc place) = zeros_are_bytes n place

zeros_are_zero : (n place : ℕ) → ◌≡◌ {A = ℕ} (get_or (replicate n 0) place 0) 0
zeros_are_zero zero place = refl
zeros_are_zero (suc n) zero = refl
zeros_are_zero (suc n) (suc place) = zeros_are_zero n place

set_are_bytes : (bytes : List ℕ) (at b : ℕ) → AreBytes bytes → b < 256 → AreBytes (set bytes at b)
set_are_bytes [] at b all byte place = all place
set_are_bytes (x ∷ bytes) zero b all byte zero = byte
set_are_bytes (x ∷ bytes) zero b all byte (suc place) = all (suc place)
set_are_bytes (x ∷ bytes) (suc at) b all byte zero = all zero
set_are_bytes (x ∷ bytes) (suc at) b all byte (suc place) = set_are_bytes bytes at b (λ k. all (suc k)) byte place

pub take_are_bytes : (n : ℕ) (bytes : List ℕ) → AreBytes bytes → AreBytes (take n bytes)
take_are_bytes zero bytes all place = omega arith
take_are_bytes (suc n) [] all place = omega arith
take_are_bytes (suc n) (x ∷ bytes) all zero = all zero
take_are_bytes (suc n) (x ∷ bytes) all (suc place) = take_are_bytes n bytes (λ k. all (suc k)) place

record IsPadded (size : ℕ) (index : ℕ) (block : List ℕ) : Type 0 where
  whole : length block ≡ 4096
  are_bytes : AreBytes block
  tail : (place : ℕ) → size ≤ index * 4096 + place → get_or block place 0 ≡ 0

padded : (size : ℕ) (blocks : Blocks) (index : ℕ) (o : Option (List ℕ)) → AreBlocks size blocks → get blocks index ≡ o → IsPadded size index (block_or_zeros o)
unfolding zero_block
padded size blocks index None valid found =
    record { whole = length-replicate {A = ℕ} 4096 0; are_bytes = zeros_are_bytes 4096; tail = λ place past. zeros_are_zero 4096 place }
padded size blocks index (Some block) valid found =
    let is = valid index block found in
    record { whole = is.whole; are_bytes = is.are_bytes; tail = is.tail }

-- a block, kept or not, has 4096 bytes
pub whole_or_zeros : (size : ℕ) (blocks : Blocks) (index : ℕ) → AreBlocks size blocks → length (block_or_zeros (get blocks index)) ≡ 4096
whole_or_zeros size blocks index valid = (padded size blocks index _ valid refl).whole

grown : (size to : ℕ) (blocks : Blocks) → size ≤ to → AreBlocks size blocks → AreBlocks to blocks
grown size to blocks more valid index block found =
    let is = valid index block found in
    record { below = let low = is.below in omega arith; whole = is.whole; are_bytes = is.are_bytes; tail = λ place past. is.tail place (omega arith) }

with_byte-valid : (size : ℕ) (blocks : Blocks) (a b : ℕ) → AreBlocks size blocks → b < 256 → AreBlocks (max size (a + 1)) (with_byte blocks a b)
unfolding with_byte
with_byte-valid size blocks a b valid byte =
    let old = block_or_zeros (get blocks (a / 4096)) in
    let is = padded size blocks (a / 4096) _ valid refl in
    insert-valid (max size (a + 1)) blocks (a / 4096) (set old (a % 4096) b) (grown size (max size (a + 1)) blocks (omega arith) valid) (record {
      below = omega arith;
      whole = length-set old (a % 4096) b ∙ is.whole;
      are_bytes = set_are_bytes old (a % 4096) b is.are_bytes byte;
      tail = λ place past.
          let apart : place ≢ a % 4096 = λ e. omega arith in
          get_or-set_other old (a % 4096) place b 0 apart ∙ is.tail place (omega arith);
    })

size_with-more : (size a n : ℕ) → size_with (max size (a + 1)) (a + 1) n ≡ size_with size a (suc n)
size_with-more size a zero = omega arith
size_with-more size a (suc n) = omega arith

pub with_bytes-valid : (bytes : List ℕ) (size : ℕ) (blocks : Blocks) (a : ℕ) → AreBlocks size blocks → AreBytes bytes
    → AreBlocks (size_with size a (length bytes)) (with_bytes blocks a bytes)
unfolding with_bytes
with_bytes-valid [] size blocks a valid all = valid
with_bytes-valid (b ∷ bytes) size blocks a valid all =
    subst (λ n. AreBlocks n (with_bytes (with_byte blocks a b) (a + 1) bytes)) (size_with-more size a (length bytes))
    (with_bytes-valid bytes (max size (a + 1)) (with_byte blocks a b) (a + 1) (with_byte-valid size blocks a b valid (all zero)) (λ k. all (suc k)))

small_go : (size a n : ℕ) → size ≤ greatest_size → a + n ≤ greatest_size → size_with size a n ≤ greatest_size
small_go size a zero small end = small
small_go size a (suc n) small end = omega arith

-- a write of a first part of the bytes
pub write-valid : (size to : ℕ) (blocks new : Blocks) (a n : ℕ) (bytes : List ℕ) → IsContent (record { size = size; blocks = blocks }) → AreBytes bytes
    → a + length bytes ≤ greatest_size → n ≤ length bytes → to ≡ size_with size a n → new ≡ with_bytes blocks a (take n bytes)
    → IsContent (record { size = to; blocks = new })
write-valid size to blocks new a n bytes valid all end within is written =
    let long : length (take n bytes) ≡ n = length-take-le n bytes within in
    let same : size_with size a (length (take n bytes)) ≡ to = ap (size_with size a) long ∙ sym is in
    let stand = with_bytes-valid (take n bytes) size blocks a valid.blocks (take_are_bytes n bytes all) in
    record {
      small = subst (λ k. k ≤ greatest_size) (sym is) (small_go size a n valid.small (omega arith));
      blocks = subst (λ m. AreBlocks to m) (sym written) (subst (λ k. AreBlocks k (with_bytes blocks a (take n bytes))) same stand);
    }

-- Cuts

kept_go : (size to : ℕ) (blocks : Blocks) (index : ℕ) (block : List ℕ) (b : Bool) → AreBlocks size blocks → ltb (index * 4096) to ≡ b → cond b (get blocks index) None ≡ Some block
    → (index * 4096 < to) × IsBlock size index block
kept_go size to blocks index block true valid inside found = (ltb-true _ _ inside, valid index block found)
kept_go size to blocks index block false valid inside found = absurd (cc)

kept : (size to : ℕ) (blocks : Blocks) (index : ℕ) (block : List ℕ) → AreBlocks size blocks → get (below blocks to) index ≡ Some block
    → (index * 4096 < to) × IsBlock size index block
kept size to blocks index block valid found = kept_go size to blocks index block _ valid refl (sym (get-below blocks to index) ∙ found)

-- a block that lies whole below the size
inner : (size to : ℕ) (blocks : Blocks) (index : ℕ) (block : List ℕ) → AreBlocks size blocks → index ≢ to / 4096 → get (below blocks to) index ≡ Some block → IsBlock to index block
inner size to blocks index block valid apart found =
    let facts = kept size to blocks index block valid found in
    let low = facts.0 in
    let is = facts.1 in
    let before : index * 4096 + 4096 ≤ to = grind arith in
    record { below = low; whole = is.whole; are_bytes = is.are_bytes; tail = λ place past. get_or_past block place 0 (omega (arith, is.whole)) }

append_are_bytes : (xs ys : List ℕ) → AreBytes xs → AreBytes ys → AreBytes (xs ++ ys)
append_are_bytes [] ys all more place = more place
append_are_bytes (x ∷ xs) ys all more zero = all zero
append_are_bytes (x ∷ xs) ys all more (suc place) = append_are_bytes xs ys (λ k. all (suc k)) more place

-- a block whose end lies past the size
last : (size to : ℕ) (blocks : Blocks) (block : List ℕ) → AreBlocks size blocks → get (below blocks to) (to / 4096) ≡ Some block
    → IsBlock to (to / 4096) (take (to % 4096) block ++ replicate (4096 - to % 4096) 0)
last size to blocks block valid found =
    let facts = kept size to blocks (to / 4096) block valid found in
    let is = facts.1 in
    let head = take (to % 4096) block in
    let zeros : List ℕ = replicate (4096 - to % 4096) 0 in
    let long : length head ≡ to % 4096 = length-take-le (to % 4096) block (omega (arith, is.whole)) in
    record {
      below = facts.0;
      whole = length-append head zeros ∙ omega (arith, long, length-replicate {A = ℕ} (4096 - to % 4096) 0);
      are_bytes = append_are_bytes head zeros (take_are_bytes (to % 4096) block is.are_bytes) (zeros_are_bytes _);
      tail = λ place past. get_or-append_right head zeros (to % 4096) place 0 long (omega arith) ∙ zeros_are_zero (4096 - to % 4096) (place - to % 4096);
    }

tail_go : (size to : ℕ) (blocks : Blocks) (o : Option (List ℕ)) → AreBlocks size blocks → get (below blocks to) (to / 4096) ≡ o
    → AreBlocks to (with_zero_tail (below blocks to) (to / 4096) o (to % 4096))
tail_go size to blocks None valid missing index block found =
    inner size to blocks index block valid (λ e. let bad : None ≡ Some block = sym missing ∙ ap (get (below blocks to)) (sym e) ∙ found in cc) found
tail_go size to blocks (Some old) valid there index block found =
    either _ refl (sym (get-insert nat_cmp_total (below blocks to) (to / 4096) (take (to % 4096) old ++ replicate (4096 - to % 4096) 0) index) ∙ found)
  where
    either : (b : Bool) → eq_by_cmp nat_cmp index (to / 4096) ≡ b
        → cond b (Some (take (to % 4096) old ++ replicate (4096 - to % 4096) 0)) (get (below blocks to) index) ≡ Some block → IsBlock to index block
    either true same is =
        let at : to / 4096 ≡ index = sym (tells_apart exact_unsigned index (to / 4096) same) in
        let what : take (to % 4096) old ++ replicate (4096 - to % 4096) 0 ≡ block = cc in
        subst (λ n. IsBlock to n block) at (subst (IsBlock to (to / 4096)) what (last size to blocks old valid there))
    either false apart is = inner size to blocks index block valid (λ e. grind (arith, nat_tests)) is

pub cut-valid : (size to : ℕ) (blocks : Blocks) → AreBlocks size blocks → AreBlocks to (cut blocks to)
cut-valid size to blocks valid = tail_go size to blocks _ valid refl

-- Indexes

far_go : (size index : ℕ) (blocks : Blocks) (o : Option (List ℕ)) → size ≤ index * 4096 → AreBlocks size blocks → get blocks index ≡ o → o ≡ None
far_go size index blocks None past valid found = refl
far_go size index blocks (Some block) past valid found = absurd (let low = (valid index block found).below in omega arith)

-- past the size no block is kept
pub none_far : (content : FileContent) (from : ℕ) → IsContent content → 2 ^ 32 ≤ from → NoneFrom content.blocks from
none_far content from valid high index above =
    far_go content.size index content.blocks _ (let small = valid.small in omega arith) valid.blocks refl
