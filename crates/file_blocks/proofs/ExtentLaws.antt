-- Which extent has the block of an index, and what the extents keep.
use Rattle.std.proofs.Common.{◌≡◌, ◌≢◌, ◌≤◌, ◌<◌, ◌+◌, ◌-◌, ◌^◌, zero, suc, ℕ, Bool, true, false, cond, ltb, List, Option, Some, None, IsSome, is_some, length, refl, sym, ap, ◌∙◌, subst, arith}
use Rattle.std.proofs.lemmas.Bool.{ltb-true, ltb-false}
use Rattle.std.proofs.lemmas.Bool.Decides.{nat_tests}
use Rattle.std.proofs.lemmas.Map.Lookups.{exact_unsigned}
use Rattle.std.proofs.lemmas.Map.Views.{tells_apart}
use Rattle.std.proofs.lemmas.Option.{slice_get_past}
use Rattle.std.specs.List.{slice_get}
use Rattle.std.specs.Ordering.{nat_cmp, eq_by_cmp}
use Rattle.std.specs.Cmp.{nat_cmp_total}
use Rattle.std.specs.FinMap.{get, insert, len, get-insert, get-empty, len-insert, len-empty}
use Rattle.kernel_core.specs.FileContent.{Blocks}
use Rattle.file_blocks.specs.inside.Extents.{Extents, IsLastUpTo, NoneUpTo, AreExtents, block_of, block_up_to, block_at, with_block, blocks_below, blocks_in}

abbrev pub Extent : Type 0
Extent = List (List ℕ)

-- what stands is not absent
pub there_not_none : {X : Type 0} {o : Option X} {x : X} → o ≡ Some x → o ≡ None → ⊥
there_not_none {x} some none = let bad : None ≡ Some x = sym none ∙ some in cc

pub some_not_none : {X : Type 0} {o : Option X} → IsSome o → o ≡ None → ⊥
some_not_none some none = let bad : false ≡ true = sym (ap is_some none) ∙ some in cc

-- The search

pub data Found (m : Extents) (index : ℕ) : Type 0 where
  nowhere : NoneUpTo m index → Found m index
  last : (first : ℕ) (blocks : Extent) → IsLastUpTo m index first blocks → Found m index

up_to_more : (m : Extents) (k : ℕ) → get m (suc k) ≡ None → Found m k → Found m (suc k)
up_to_more m k none (nowhere before) = nowhere (λ other low. go other low _ refl)
  where
    go : (other : ℕ) → other ≤ suc k → (b : Bool) → ltb other (suc k) ≡ b → get m other ≡ None
    go other low true less = before other (let h = ltb-true other (suc k) less in omega arith)
    go other low false more = let same : other ≡ suc k = (let h = ltb-false other (suc k) more in omega arith) in ap (get m) same ∙ none
up_to_more m k none (last first blocks is) = last first blocks (record {
  up_to = let h = is.up_to in omega arith;
  there = is.there;
  none_between = λ other high low. go other high low _ refl;
})
  where
    go : (other : ℕ) → first < other → other ≤ suc k → (b : Bool) → ltb other (suc k) ≡ b → get m other ≡ None
    go other high low true less = is.none_between other high (let h = ltb-true other (suc k) less in omega arith)
    go other high low false more = let same : other ≡ suc k = (let h = ltb-false other (suc k) more in omega arith) in ap (get m) same ∙ none

here_found : (m : Extents) (k : ℕ) (blocks : Extent) → get m k ≡ Some blocks → Found m k
here_found m k blocks there = last k blocks (record { up_to = omega arith; there = there; none_between = λ other high low. absurd (omega arith) })

first_go : (m : Extents) (o : Option Extent) → get m zero ≡ o → Found m zero
first_go m None none = nowhere (λ other low. let same : other ≡ 0 = omega arith in ap (get m) same ∙ none)
first_go m (Some blocks) there = here_found m zero blocks there

next_go : (m : Extents) (k : ℕ) (o : Option Extent) → get m (suc k) ≡ o → Found m k → Found m (suc k)
next_go m k None none before = up_to_more m k none before
next_go m k (Some blocks) there before = here_found m (suc k) blocks there

-- an extent that begins last up to the index, or none
pub found : (m : Extents) (index : ℕ) → Found m index
found m zero = first_go m _ refl
found m (suc k) = next_go m k _ refl (found m k)

-- there is one at most
pub last_once : (m : Extents) (index first other : ℕ) (blocks others : Extent) → IsLastUpTo m index first blocks → IsLastUpTo m index other others → first ≡ other
last_once m index first other blocks others one two = go _ _ refl refl
  where
    go : (b c : Bool) → ltb first other ≡ b → ltb other first ≡ c → first ≡ other
    go true c low high =
        absurd (there_not_none two.there (one.none_between other (ltb-true first other low) two.up_to))
    go false true low high =
        absurd (there_not_none one.there (two.none_between first (ltb-true other first high) one.up_to))
    go false false low high = let h = ltb-false first other low in let k = ltb-false other first high in omega arith

-- What is kept at an index

block_of-same : (index first : ℕ) (o p : Option Extent) (before : Option (List ℕ)) → o ≡ p → block_of index first o before ≡ block_of index first p before
block_of-same index first o p before same = ap (λ s. block_of index first s before) same

up_to-none : (m : Extents) (index k : ℕ) → NoneUpTo m k → block_up_to m index k ≡ None
unfolding block_up_to
up_to-none m index zero none = ap (λ s. block_of index zero s None) (none zero (omega arith))
up_to-none m index (suc k) none =
    ap (λ s. block_of index (suc k) s (block_up_to m index k)) (none (suc k) (omega arith))
    ∙ up_to-none m index k (λ other low. none other (omega arith))

last_go : (m : Extents) (index k first : ℕ) (blocks : Extent) → IsLastUpTo m (suc k) first blocks
    → (IsLastUpTo m k first blocks → block_up_to m index k ≡ slice_get blocks (index - first))
    → (b : Bool) → ltb first (suc k) ≡ b → block_up_to m index (suc k) ≡ slice_get blocks (index - first)
unfolding block_up_to
last_go m index k first blocks is before true less =
    let low = ltb-true first (suc k) less in
    ap (λ s. block_of index (suc k) s (block_up_to m index k)) (is.none_between (suc k) low (omega arith))
    ∙ before (record { up_to = omega arith; there = is.there; none_between = λ other high h. is.none_between other high (omega arith) })
last_go m index k first blocks is before false more =
    let same : first ≡ suc k = (let h = is.up_to in let g = ltb-false first (suc k) more in omega arith) in
    ap (λ s. block_of index (suc k) s (block_up_to m index k)) (ap (get m) (sym same) ∙ is.there)
    ∙ ap (λ n. slice_get blocks (index - n)) (sym same)

up_to-last : (m : Extents) (index k first : ℕ) (blocks : Extent) → IsLastUpTo m k first blocks → block_up_to m index k ≡ slice_get blocks (index - first)
unfolding block_up_to
up_to-last m index zero first blocks is =
    let same : first ≡ 0 = (let h = is.up_to in omega arith) in
    ap (λ s. block_of index zero s None) (ap (get m) (sym same) ∙ is.there)
    ∙ ap (λ n. slice_get blocks (index - n)) (sym same)
up_to-last m index (suc k) first blocks is = last_go m index k first blocks is (λ before. up_to-last m index k first blocks before) _ refl

pub at-none : (m : Extents) (index : ℕ) → NoneUpTo m index → block_at m index ≡ None
at-none m index none = up_to-none m index index none

pub at-last : (m : Extents) (index first : ℕ) (blocks : Extent) → IsLastUpTo m index first blocks → block_at m index ≡ slice_get blocks (index - first)
at-last m index first blocks is = up_to-last m index index first blocks is

-- The blocks

pub strictly : (n q : ℕ) → n ≤ q → (q ≡ n → ⊥) → n < q
strictly n q low apart = grind arith

more : (n q : ℕ) (within : Bool) → ltb q n ≡ within → eq_by_cmp nat_cmp q n ≡ false → within ≡ ltb q (suc n)
more n q true low apart =
    let h = ltb-true q n low in
    let inside : ltb q (suc n) ≡ true = grind (arith, nat_tests) in
    sym inside
more n q false low apart =
    let h : n < q = strictly n q (ltb-false q n low) (λ e. grind (arith, nat_tests)) in
    let outside : ltb q (suc n) ≡ false = grind (arith, nat_tests) in
    sym outside

below_go : (blocks : Blocks) (n q : ℕ) (o p : Option (List ℕ)) (within here : Bool) → ltb q n ≡ within → eq_by_cmp nat_cmp q n ≡ here
    → (q ≡ n → p ≡ o) → get blocks q ≡ cond within p None → get (with_block blocks n o) q ≡ cond (ltb q (suc n)) p None
below_go blocks n q o p true true low same at before =
    absurd (let is : q ≡ n = tells_apart exact_unsigned q n same in let h = ltb-true q n low in omega arith)
below_go blocks n q None p false true low same at before =
    let is : q ≡ n = tells_apart exact_unsigned q n same in
    let inside : ltb q (suc n) ≡ true = grind (arith, nat_tests) in
    before ∙ sym (at is) ∙ ap (λ b. cond b p None) (sym inside)
below_go blocks n q (Some block) p false true low same at before =
    let is : q ≡ n = tells_apart exact_unsigned q n same in
    let inside : ltb q (suc n) ≡ true = grind (arith, nat_tests) in
    get-insert nat_cmp_total blocks n block q ∙ ap (λ b. cond b (Some block) (get blocks q)) same ∙ sym (at is) ∙ ap (λ b. cond b p None) (sym inside)
below_go blocks n q None p within false low apart at before =
    before ∙ ap (λ b. cond b p None) (more n q within low apart)
below_go blocks n q (Some block) p within false low apart at before =
    get-insert nat_cmp_total blocks n block q ∙ ap (λ b. cond b (Some block) (get blocks q)) apart ∙ before ∙ ap (λ b. cond b p None) (more n q within low apart)

get-below_n : (m : Extents) (n q : ℕ) → get (blocks_below m n) q ≡ cond (ltb q n) (block_at m q) None
unfolding blocks_below
get-below_n m zero q =
    let outside : ltb q 0 ≡ false = grind (arith, nat_tests) in
    get-empty nat_cmp q ∙ ap (λ b. cond b (block_at m q) None) (sym outside)
get-below_n m (suc n) q =
    below_go (blocks_below m n) n q (block_at m n) (block_at m q) _ _ refl refl (λ is. ap (block_at m) is) (get-below_n m n q)

len-with_block : (blocks : Blocks) (n : ℕ) (o : Option (List ℕ)) → len (with_block blocks n o) ≤ len blocks + 1
len-with_block blocks n None = omega arith
len-with_block blocks n (Some block) =
    one _ refl
  where
    one : (b : Bool) → is_some (get blocks n) ≡ b → len (insert blocks n block) ≤ len blocks + 1
    one true is = let e : len (insert blocks n block) ≡ len blocks = len-insert nat_cmp_total blocks n block ∙ ap (λ b. cond b (len blocks) (len blocks + 1)) is in omega arith
    one false is = let e : len (insert blocks n block) ≡ len blocks + 1 = len-insert nat_cmp_total blocks n block ∙ ap (λ b. cond b (len blocks) (len blocks + 1)) is in omega arith

len-below_n : (m : Extents) (n : ℕ) → len (blocks_below m n) ≤ n
unfolding blocks_below
len-below_n m zero = let e = len-empty nat_cmp (List ℕ) in omega arith
len-below_n m (suc n) = let h = len-with_block (blocks_below m n) n (block_at m n) in let k = len-below_n m n in omega arith

-- there are no more blocks than indexes
pub few_blocks : (m : Extents) → len (blocks_in m) ≤ 2 ^ 32
unfolding blocks_in
few_blocks m = len-below_n m (2 ^ 32)

past_small : (m : Extents) (q : ℕ) → AreExtents m → 2 ^ 32 ≤ q → Found m q → block_at m q ≡ None
past_small m q are past (nowhere none) = at-none m q none
past_small m q are past (last first blocks is) =
    at-last m q first blocks is
    ∙ slice_get_past blocks (q - first) (let h = are.small first blocks is.there in let k = is.up_to in omega arith)

inside_go : (m : Extents) (q : ℕ) (b : Bool) → AreExtents m → ltb q (2 ^ 32) ≡ b → cond b (block_at m q) None ≡ block_at m q
inside_go m q true are low = refl
inside_go m q false are high = sym (past_small m q are (ltb-false q (2 ^ 32) high) (found m q))

-- what is kept at an index is what its extent has there
pub get-blocks_in : (m : Extents) → AreExtents m → (q : ℕ) → get (blocks_in m) q ≡ block_at m q
unfolding blocks_in
get-blocks_in m are q = get-below_n m (2 ^ 32) q ∙ inside_go m q _ are refl
