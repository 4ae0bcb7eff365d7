-- The entries of a tree, loaded in their order: what holds of the next one.
use Rattle.std.proofs.Common.{◌≡◌, ◌<◌, false, List, [], ◌∷◌, ◌++◌, map, All, None, refl, ◌∙◌}
use Rattle.std.specs.declared.cmp.Ordering.TheVariants.{Less}
use Rattle.std.specs.List.{AllByRecursion, IsDistinct}
use Rattle.std.specs.List.Sorted.{IsStrictlySortedBy}
use Rattle.std.specs.Ordering.{nat_cmp}
use Rattle.std.specs.Str.{bytes_eq}
use Rattle.std.proofs.lemmas.Cmp.{nat_list_eq_equiv}
use Rattle.std.proofs.lemmas.List.Elements.{All-nil, All-cons}
use Rattle.kernel_core.specs.declared.tree.DirEntry.{DirEntry}
use Rattle.kernel_core.specs.ValidTree.{AreEntries}
use Rattle.directory_names.specs.Names.{NamedNode, plain, find_name}
use Rattle.directory_names.proofs.Lists.{lt_from_less}
use Rattle.directory_names.proofs.NameLemmas.{first_or}

of_next : {K : Type 0} (P : K → Type 0) (f : DirEntry → K) (before : List DirEntry) (next : DirEntry) (rest : List DirEntry)
    → AllByRecursion P (map f (before ++ next ∷ rest)) → P (f next)
of_next P f [] next rest all = all.0
of_next P f (e ∷ before) next rest all = of_next P f before next rest all.1

absent_among : (entries : List NamedNode) (next : DirEntry) (rest : List DirEntry) → IsDistinct bytes_eq (map (λ e. e.name) (map plain entries ++ next ∷ rest))
    → find_name entries next.name ≡ None
unfolding IsDistinct
absent_among [] next rest distinct = refl
absent_among (e ∷ entries) next rest distinct =
    let differ = of_next (λ y. bytes_eq e.name y ≡ false) (λ d. d.name) (map plain entries) next rest distinct.0 in
    first_or e entries next.name false (nat_list_eq_equiv.symm next.name e.name ∙ differ) ∙ absent_among entries next rest distinct.1

-- the next entry's name is none of those that are loaded
pub absent-next : (entries : List NamedNode) (next : DirEntry) (rest : List DirEntry) → AreEntries (map plain entries ++ next ∷ rest)
    → find_name entries next.name ≡ None
absent-next entries next rest are = absent_among entries next rest are.distinct

below_among : (before : List DirEntry) (next : DirEntry) (rest : List DirEntry) → IsStrictlySortedBy nat_cmp (map (λ e. e.cookie) (before ++ next ∷ rest))
    → All (λ e. e.cookie < next.cookie) before
unfolding IsStrictlySortedBy
below_among [] next rest rising = All-nil _
below_among (e ∷ before) next rest rising =
    All-cons (λ d. d.cookie < next.cookie) e before
    (lt_from_less e.cookie next.cookie (of_next (λ y. nat_cmp e.cookie y ≡ Less) (λ d. d.cookie) before next rest rising.0))
    (below_among before next rest rising.1)

-- the next entry's cookie is above those that are loaded
pub below-next : (before : List DirEntry) (next : DirEntry) (rest : List DirEntry) → AreEntries (before ++ next ∷ rest)
    → All (λ e. e.cookie < next.cookie) before
below-next before next rest are = below_among before next rest are.rising
