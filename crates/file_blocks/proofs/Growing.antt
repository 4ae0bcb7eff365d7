-- An extent that grows: the steps in which its neighbour's blocks are taken, joined with it or given back.
use Rattle.std.proofs.Common.{◌≡◌, ◌≢◌, ◌<◌, ◌+◌, ℕ, Bool, true, false, cond, List, [], ◌∷◌, ◌++◌, Option, Some, None, IsSome, Result, Ok, Err, OnErr, refl, sym, ap, ◌∙◌, subst, arith}
use Rattle.std.proofs.lemmas.Bool.Decides.{nat_tests}
use Rattle.std.proofs.lemmas.Map.Lookups.{exact_unsigned}
use Rattle.std.proofs.lemmas.Map.Views.{tells_apart}
use Rattle.std.specs.Ordering.{nat_cmp, eq_by_cmp}
use Rattle.std.specs.Cmp.{nat_cmp_total}
use Rattle.std.specs.FinMap.{get, insert, remove, get-insert, get-remove, same_map, nat_cmp-IsAntisymmetric}
use Rattle.paged_bytes.proofs.Puts.{get-insert_same, insert-insert}
use Rattle.file_blocks.specs.inside.Extents.{Extents, blocks_or_none, blocks_from, replaced, joined}
use Rattle.file_blocks.proofs.ExtentLaws.{Extent}
use Rattle.file_blocks.proofs.ExtentChanges.{get-insert_other, insert-same, insert-remove_over}

pub on_err : {X E P : Type 0} (r : Result X E) → P → OnErr r P
on_err (Ok x) p = tt
on_err (Err e) p = p

-- the neighbour without its blocks
abbrev pub emptied : Extents → ℕ → Extents
emptied m next = replaced m next (get m next) []

replaced_other : (m : Extents) (next q : ℕ) (o : Option Extent) (bs : Extent) → q ≢ next → get (replaced m next o bs) q ≡ get m q
replaced_other m next q None bs apart = refl
replaced_other m next q (Some old) bs apart = get-insert_other m next q bs apart

-- the other extents are as they were
pub get-emptied : (m : Extents) (first next : ℕ) → first < next → get (emptied m next) first ≡ get m first
get-emptied m first next less = replaced_other m next first (get m next) [] (λ e. omega arith)

pub emptied_there : (m : Extents) (first next : ℕ) → first < next → IsSome (get m first) → IsSome (get (emptied m next) first)
emptied_there m first next less some = subst IsSome (sym (get-emptied m first next less)) some

given_go : (m : Extents) (next : ℕ) (o : Option Extent) → get m next ≡ o → replaced (replaced m next o []) next (get (replaced m next o []) next) (blocks_or_none o) ≡ m
given_go m next None none = ap (λ p. replaced m next p []) none
given_go m next (Some bs) there =
    ap (λ p. replaced (insert m next []) next p bs) (get-insert_same m next [])
    ∙ insert-insert m next [] bs
    ∙ insert-same m next bs there

-- its blocks given back
pub given-back : (m : Extents) (next : ℕ) → replaced (emptied m next) next (get (emptied m next) next) (blocks_from m next) ≡ m
given-back m next = given_go m next (get m next) refl

removed_go : (m : Extents) (next q : ℕ) (o : Option Extent) (b : Bool) → eq_by_cmp nat_cmp q next ≡ b → cond b None (get (replaced m next o []) q) ≡ cond b None (get m q)
removed_go m next q o true test = refl
removed_go m next q o false test = replaced_other m next q o [] (λ e. grind (arith, nat_tests))

two_go : (p r : Option Extent) (b c : Bool) (all : Extent) → (b ≡ true → c ≡ false) → cond c None p ≡ cond c None r → cond c None (cond b (Some all) p) ≡ cond b (Some all) (cond c None r)
two_go p r true c all apart same = ap (λ d. cond d None (Some all)) (apart refl)
two_go p r false c all apart same = same

-- joined with its blocks, and the neighbour taken away
pub grown : (m : Extents) (first next : ℕ) (all : Extent) → first < next → remove (insert (emptied m next) first all) next ≡ insert (remove m next) first all
grown m first next all less = same_map nat_cmp_total nat_cmp-IsAntisymmetric _ _ (λ q.
    get-remove nat_cmp_total (insert (emptied m next) first all) next q
    ∙ ap (cond (eq_by_cmp nat_cmp q next) None) (get-insert nat_cmp_total (emptied m next) first all q)
    ∙ two_go (get (emptied m next) q) (get m q) (eq_by_cmp nat_cmp q first) (eq_by_cmp nat_cmp q next) all (apart q) (removed_go m next q (get m next) _ refl)
    ∙ sym (get-insert nat_cmp_total (remove m next) first all q ∙ ap (cond (eq_by_cmp nat_cmp q first) (Some all)) (get-remove nat_cmp_total m next q)))
  where
    apart : (q : ℕ) → eq_by_cmp nat_cmp q first ≡ true → eq_by_cmp nat_cmp q next ≡ false
    apart q here = let e : q ≡ first = tells_apart exact_unsigned q first here in grind (arith, nat_tests)

pub grown-joined : (m : Extents) (first next : ℕ) (block : List ℕ) → first < next
    → remove (insert (emptied m next) first (blocks_from (emptied m next) first ++ block ∷ blocks_from m next)) next ≡ joined m first (blocks_from m first) block next
grown-joined m first next block less =
    ap (λ o. remove (insert (emptied m next) first (blocks_or_none o ++ block ∷ blocks_from m next)) next) (get-emptied m first next less)
    ∙ grown m first next (blocks_from m first ++ block ∷ blocks_from m next) less

-- an extent that begins, and then grows
pub begun-joined : (m : Extents) (first : ℕ) (block : List ℕ)
    → joined (insert m first []) first (blocks_from (insert m first []) first) block (first + 1) ≡ joined m first [] block (first + 1)
begun-joined m first block =
    ap (λ o. insert (remove (insert m first []) (first + 1)) first (blocks_or_none o ++ block ∷ blocks_from (insert m first []) (first + 1))) (get-insert_same m first [])
    ∙ ap (λ o. insert (remove (insert m first []) (first + 1)) first ([] ++ block ∷ blocks_or_none o)) (get-insert_other m first (first + 1) [] (λ e. omega arith))
    ∙ insert-remove_over m first (first + 1) [] ([] ++ block ∷ blocks_from m (first + 1))
