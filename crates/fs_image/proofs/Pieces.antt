-- The names that a directory has so far, as a set.
use Rattle.std.proofs.Common.{◌≡◌, ℕ, List, [], ◌∷◌, refl, sym, ap, ◌∙◌, ◌++◌, map, Bool, true, false, cond, ◌||◌}
use Rattle.std.specs.Str.{bytes_eq}
use Rattle.std.specs.HashSet.{HashSet, UpdatesBy}
use Rattle.std.specs.List.{list_any}
use Rattle.std.specs.Cmp.Lexicographic.{nat_list_eq_equiv}
use Rattle.std.proofs.lemmas.List.Folds.{list_any-append}
use Rattle.std.proofs.lemmas.List.{map-append}
use denote.Ref.{Bor}
use Rattle.kernel_core.specs.declared.tree.DirEntry.{DirEntry}
use Rattle.fs_image.specs.inside.Names.{has_name, AreNames}
use Rattle.fs_image.specs.Reading.{is_taken}

either : (a b : Bool) → cond a true b ≡ (a || b)
either true b = refl
either false b = refl

-- the names after one more
pub has_name-more : {S : Type 0} (name : List ℕ) (names more : HashSet (Bor (List ℕ)) S) → UpdatesBy (λ x y. bytes_eq x.now y.now) (λ k. bytes_eq name k.now) names more true
    → (bytes : List ℕ) → has_name more bytes ≡ (bytes_eq name bytes || has_name names bytes)
has_name-more name names more h bytes = h.0 (record { ref_ptr = (0, 0); now = bytes }) ∙ either (bytes_eq name bytes) (has_name names bytes)

swapped : (a b : Bool) → (a || b) ≡ (b || (a || false))
swapped true true = refl
swapped true false = refl
swapped false true = refl
swapped false false = refl

-- the names with an entry's name more are those of the entries with it
pub AreNames-more : {S : Type 0} (names more : HashSet (Bor (List ℕ)) S) (before : List DirEntry) (name : List ℕ) → AreNames names before
    → ((bytes : List ℕ) → has_name more bytes ≡ (bytes_eq name bytes || has_name names bytes))
    → (entry : DirEntry) → entry.name ≡ name → AreNames more (before ++ entry ∷ [])
AreNames-more names more before name are joined entry same bytes =
    let pushed : is_taken (before ++ entry ∷ []) bytes ≡ (is_taken before bytes || (bytes_eq bytes entry.name || false)) =
    ap (list_any (bytes_eq bytes)) (map-append (λ (e : DirEntry). e.name) before (entry ∷ [])) ∙ list_any-append (bytes_eq bytes) (map (λ (e : DirEntry). e.name) before) (entry.name ∷ []) in
    let turned : bytes_eq bytes entry.name ≡ bytes_eq name bytes = ap (bytes_eq bytes) same ∙ nat_list_eq_equiv.symm bytes name in
    joined bytes ∙ (ap (λ b. bytes_eq name bytes || b) (are bytes) ∙ (swapped (bytes_eq name bytes) (is_taken before bytes) ∙ sym (pushed ∙ ap (λ b. is_taken before bytes || (b || false)) turned)))
