-- Blocks that are taken away from the end on.
use Rattle.std.proofs.Common.{◌≡◌, ◌≤◌, ◌<◌, ◌+◌, ◌-◌, ◌*◌, ◌/◌, ◌%◌, zero, suc, ℕ, Bool, true, false, cond, ltb, List, ◌++◌, take, replicate, Option, Some, None, IsSome, is_some, refl, sym, ap, ◌∙◌, arith}
use Rattle.std.proofs.lemmas.Bool.{ltb-false}
use Rattle.std.proofs.lemmas.Bool.Decides.{nat_tests}
use Rattle.std.proofs.lemmas.Map.Lookups.{exact_unsigned}
use Rattle.std.proofs.lemmas.Map.Views.{tells_apart}
use Rattle.std.specs.Ordering.{nat_cmp, eq_by_cmp}
use Rattle.std.specs.Cmp.{nat_cmp_total}
use Rattle.std.specs.FinMap.{get, remove, retain_keys, len, get-remove, get-retain_keys, get-empty, empty_of_len, len-insert, len-remove, same_map, nat_cmp-IsAntisymmetric}
use Rattle.kernel_core.specs.FileContent.{Blocks, with_zero_tail, cut}
use Rattle.file_blocks.specs.Kept.{NoneFrom}

-- the blocks that begin below a size
abbrev pub below : Blocks → ℕ → Blocks
below blocks size = retain_keys blocks (λ index. ltb (index * 4096) size)

pub get-below : (blocks : Blocks) (size q : ℕ) → get (below blocks size) q ≡ cond (ltb (q * 4096) size) (get blocks q) None
get-below blocks size q = get-retain_keys blocks (λ index. ltb (index * 4096) size) q (λ x tied. ap (λ n. ltb (n * 4096) size) (sym (exact_unsigned q x tied)))

same_below : (blocks : Blocks) (size last q : ℕ) (p e : Bool) → ltb (q * 4096) size ≡ p → eq_by_cmp nat_cmp q last ≡ e → size ≤ last * 4096
    → cond p (cond e None (get blocks q)) None ≡ cond p (get blocks q) None
same_below blocks size last q true true inside same past =
    absurd (let is : q ≡ last = tells_apart exact_unsigned q last same in grind (arith, nat_tests))
same_below blocks size last q true false inside same past = refl
same_below blocks size last q false e inside same past = refl

-- a block past the size is not among those below it
pub below-remove : (blocks : Blocks) (size last : ℕ) → size ≤ last * 4096 → below (remove blocks last) size ≡ below blocks size
below-remove blocks size last past =
    same_map nat_cmp_total nat_cmp-IsAntisymmetric _ _ (λ q.
    get-below (remove blocks last) size q
    ∙ ap (λ o. cond (ltb (q * 4096) size) o None) (get-remove nat_cmp_total blocks last q)
    ∙ same_below blocks size last q _ _ refl refl past
    ∙ sym (get-below blocks size q))

all_go : (p : Bool) (o : Option (List ℕ)) → (p ≡ false → o ≡ None) → cond p o None ≡ o
all_go true o none = refl
all_go false o none = sym (none refl)

-- where no block is kept from an index past the size on, all are below it
pub below-all : (blocks : Blocks) (size from : ℕ) → NoneFrom blocks from → (0 < from → (from - 1) * 4096 < size) → below blocks size ≡ blocks
below-all blocks size from none inside =
    same_map nat_cmp_total nat_cmp-IsAntisymmetric _ _ (λ q.
    get-below blocks size q ∙ all_go (ltb (q * 4096) size) (get blocks q) (λ past. none q (reach q past)))
  where
    reach : (q : ℕ) → ltb (q * 4096) size ≡ false → from ≤ q
    reach q past = let low = ltb-false (q * 4096) size past in grind arith

some_go : (blocks : Blocks) (last n : ℕ) → len blocks ≡ n → IsSome (get blocks last) → 0 < n
some_go blocks last zero none some =
    absurd (let missing : get blocks last ≡ None = ap (λ m. get m last) (empty_of_len blocks none) ∙ get-empty nat_cmp last in
    let no_block : false ≡ true = sym (ap is_some missing) ∙ some in cc)
some_go blocks last (suc n) some kept = omega arith

-- a block that is taken away makes them fewer
pub len-remove-fewer : (blocks : Blocks) (last : ℕ) → IsSome (get blocks last) → len (remove blocks last) < len blocks
len-remove-fewer blocks last some =
    let more = some_go blocks last _ refl some in
    let less : len (remove blocks last) ≡ len blocks - 1 = len-remove nat_cmp_total blocks last ∙ ap (λ b. cond b (len blocks - 1) (len blocks)) some in
    omega arith

-- zeros at the end of a kept block
pub len-with_zero_tail : (blocks : Blocks) (index place : ℕ) (o : Option (List ℕ)) → get blocks index ≡ o → len (with_zero_tail blocks index o place) ≡ len blocks
len-with_zero_tail blocks index place None missing = refl
len-with_zero_tail blocks index place (Some block) found =
    len-insert nat_cmp_total blocks index (take place block ++ replicate (4096 - place) 0)
    ∙ ap (λ o. cond (is_some o) (len blocks) (len blocks + 1)) found

-- a size at which a block ends
pub cut-even : (blocks : Blocks) (size : ℕ) → size % 4096 ≡ 0 → below blocks size ≡ cut blocks size
cut-even blocks size even =
    let kept = below blocks size in
    let past : ltb (size / 4096 * 4096) size ≡ false = grind (arith, nat_tests) in
    let none : get kept (size / 4096) ≡ None = get-below blocks size (size / 4096) ∙ ap (λ b. cond b (get blocks (size / 4096)) None) past in
    ap (λ o. with_zero_tail kept (size / 4096) o (size % 4096)) (sym none)
