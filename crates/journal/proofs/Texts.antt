-- Texts of values, and of their bytes.
use Rattle.std.proofs.Common.{◌≡◌, ℕ, ◌<◌, List, [], ◌∷◌, ◌++◌, length, get_or, map, All, refl, sym, ap, subst, ◌∙◌, arith}
use Rattle.std.specs.List.{flat_map}
use Rattle.std.proofs.lemmas.List.{get_or-map, length-map}
use Rattle.std.proofs.lemmas.List.Concat.{flat_map-cons}

-- what each of a list's images has
pub All-unmap : {A : Type 0} (P : List ℕ → Type 0) (f : A → List ℕ) (xs : List A) → All P (map f xs) → All (λ x. P (f x)) xs
All-unmap P f xs all k d below = subst P (get_or-map f xs k d (f d) below) (all k (f d) (omega (arith, length-map xs f, below)))

-- the texts of the images
pub texts_of : {A : Type 0} (text : List ℕ → List ℕ) (f : A → List ℕ) (xs : List A) → flat_map (λ x. text (f x)) xs ≡ flat_map text (map f xs)
texts_of text f [] = refl
texts_of text f (x ∷ xs) = flat_map-cons (λ y. text (f y)) x xs ∙ (ap (λ (t : List ℕ). text (f x) ++ t) (texts_of text f xs) ∙ sym (flat_map-cons text (f x) (map f xs)))
