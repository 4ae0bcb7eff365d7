-- Words of the laws.
use Rattle.std.specs.Prelude.{◌≡◌, ℕ, ◌<◌, ◌≤◌, true, List, length, Option, None, is_some, ⊤}
use Rattle.kernel_model.specs.Came.{Came, Done, Refused, Waits, Did}
use Rattle.kernel_model.specs.Table.{slot}

-- a place is the first from one on at which nothing stands
pub record IsLeastFree {A : Type 0} (slots : List (Option A)) (from number : ℕ) : Type 0 where
  pub from_there : from ≤ number
  pub within : number < length slots
  pub free : slot slots number ≡ None
  pub taken : (lower : ℕ) → from ≤ lower → lower < number → is_some (slot slots lower) ≡ true

-- where a row is refused, or waits with nothing done yet, its state is this one

abbrev pub StaysAt : {S V : Type 0} → S → S → Came V → Type 0
StaysAt old new (Done value) = ⊤
StaysAt old new (Refused error) = new ≡ old
StaysAt old new (Waits wake) = wake.done ≡ 0 → new ≡ old

pub record StaysUnlessDone {S V : Type 0} (state : S) (did : Did S V) : Type 0 where
  pub stays : StaysAt state did.state did.came
