-- A path ends before the first NUL.
use Rattle.std.proofs.Common.{◌≡◌, ℕ, zero, suc, ◌<◌, ◌≤◌, false, List, [], ◌∷◌, length, take, get_or, Some, refl, ap, ◌∙◌, arith}
use Rattle.std.specs.Prelude.{◌||◌, position}
use Rattle.std.specs.List.{list_any}
use Rattle.std.proofs.lemmas.List.{length-take, length-take-le}
use Rattle.std.proofs.lemmas.List.Quantifiers.{position-Some}
use Rattle.native_calls.specs.HostBytes.{loadable}
use Rattle.native_calls.specs.Paths.{is_nul}
use Rattle.native_files.specs.Answers.{IsPlain, IsShortPlain}

none_before : (bytes : List ℕ) (place : ℕ) → ((k : ℕ) → k < place → is_nul (get_or bytes k 0) ≡ false) → list_any is_nul (take place bytes) ≡ false
none_before bytes zero none = refl
none_before [] (suc place) none = refl
none_before (byte ∷ bytes) (suc place) none =
    ap (λ b. b || list_any is_nul (take place bytes)) (none zero (omega arith)) ∙ none_before bytes place (λ k below. none (suc k) (omega arith))

module _ (bytes : List ℕ) (place : ℕ) (found : position is_nul bytes ≡ Some place) where
  pub path-plain : IsPlain (take place bytes)
  path-plain = none_before bytes place (position-Some is_nul bytes place 0 found).2

  pub path-short : length bytes ≤ 4096 → IsShortPlain (take place bytes)
  path-short few =
      let inside = (position-Some is_nul bytes place 0 found).0 in
      record { plain = path-plain; short = omega (arith, few, inside, length-take-le place bytes (omega arith)) }

pub loadable-few : (memory : List ℕ) (address count : ℕ) → length (loadable memory address count) ≤ count
loadable-few memory address count = omega (arith, length-take {A = ℕ})
