-- The least free number, by the first free place.
use Rattle.std.proofs.Common.{◌≡◌, ℕ, ◌+◌, List, length, Option, Some, None, ap, ◌∙◌, arith}
use Rattle.std.specs.Prelude.{is_none, option_map, position, unwrap_or}
use Rattle.kernel_model.specs.Table.{new_place}

pub place-some : {A : Type 0} (slots : List (Option A)) (number : ℕ) → Some number ≡ position (λ s. is_none s) slots → number ≡ new_place slots
place-some slots number first =
    let e : number ≡ 0 + number = omega arith in
    e ∙ ap (λ o. unwrap_or (option_map (λ k. 0 + k) o) (length slots)) first

pub place-none : {A : Type 0} (slots : List (Option A)) → None ≡ position (λ s. is_none s) slots → length slots ≡ new_place slots
place-none slots first = ap (λ o. unwrap_or (option_map (λ k. 0 + k) o) (length slots)) first
