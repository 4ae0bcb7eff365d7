-- The fields of a status, put one by one, are its structure.
use Rattle.std.proofs.Common.{◌≡◌, ℕ, ◌+◌, ◌<◌, ◌^◌, false, List, drop, get_or, ℤ, pos, to_z, of_z, ap, ◌∙◌, arith}
use Rattle.std.proofs.lemmas.Int.{ints}
use mir.Syntax.{w128}
use Rattle.kernel_core.specs.FileSystem.{IsTime}
use Rattle.kernel_model.specs.ContentRows.{Status}
use Rattle.layouts.specs.Native.{stat}
use Rattle.layouts.specs.Number.{field_at, with_value}
use Rattle.layouts.specs.Shape.{with_values}
use Rattle.layouts.proofs.RecordLaws.{with_values-step}
use Rattle.native_calls.specs.Status.{status_values}

-- what some bytes are with the fields from a place on
abbrev pub with_rest : Status → ℕ → List ℕ → List ℕ
with_rest status place bytes = with_values false (drop place stat.fields) (drop place (status_values status)) bytes

-- one field more
pub one_more : (status : Status) (place : ℕ) (given : ℤ) (old new : List ℕ) → place < 16 → given ≡ get_or (status_values status) place (pos 0)
    → new ≡ with_value false (field_at stat.fields place) given old → with_rest status (place + 1) new ≡ with_rest status place old
one_more status place given old new below same is =
    ap (with_rest status (place + 1)) (is ∙ ap (λ (value : ℤ). with_value false (field_at stat.fields place) value old) same)
    ∙ with_values-step false stat.fields (status_values status) place old below below

-- a number, and what is told of a time, as a value that is passed on
pub number_same : (number : ℕ) (given : ℤ) → number < 2 ^ 64 → given ≡ pos number → to_z w128 (of_z w128 given) ≡ pos number
number_same number given small is = omega (arith, ints)

pub time_same : (part : ℤ → ℤ) (time given : ℤ) → IsTime time → given ≡ part (to_z w128 (of_z w128 time)) → to_z w128 (of_z w128 given) ≡ given
    → to_z w128 (of_z w128 given) ≡ part time
time_same part time given within is same =
    let kept : to_z w128 (of_z w128 time) ≡ time = omega (arith, ints) in
    same ∙ is ∙ ap part kept
