-- What a row comes to, and how a row is written: as its checks in order and then its effect.
use Rattle.std.specs.Prelude.{ℕ, Bool, Option, Some, None, Result, Ok, Err, if◌then◌else◌}
use Rattle.kernel_model.specs.Shared.{Errno}
use Rattle.kernel_model.specs.Shared.{Wake}

-- a row is done with a value, refused with an error, or waits
pub data Came (V : Type 0) : Type 0 where
  Done : V → Came V
  Refused : Errno → Came V
  Waits : Wake → Came V

-- the state after a row, and what it came to
pub record Did (S V : Type 0) : Type 0 where
  pub state : S
  pub came : Came V

-- An argument that is read from memory: what the reading gave. A structure that can't be read is EFAULT, and a path ENAMETOOLONG too.
abbrev pub Given : Type 0 → Type 0
Given A = Result A Errno

abbrev pub done : {S V : Type 0} → S → V → Did S V
done state value = record { state = state; came = Done value }

abbrev pub refused : {S V : Type 0} → S → Errno → Did S V
refused state error = record { state = state; came = Refused error }

-- a wait that has done nothing yet
abbrev pub waits : {S V : Type 0} → S → Option ℕ → Did S V
waits state until = record { state = state; came = Waits (record { done = 0; until = until }) }

-- Checks. Each is refused with the state as it is, or the row goes on.

abbrev pub refused_if : {S V : Type 0} → Bool → Errno → S → Did S V → Did S V
refused_if wrong error state rest = if wrong then refused state error else rest

abbrev pub refused_by : {S V : Type 0} → Option Errno → S → Did S V → Did S V
refused_by (Some error) state rest = refused state error
refused_by None state rest = rest

-- what was found or read, or the error of that
abbrev pub with_given : {S V A : Type 0} → S → Given A → (A → Did S V) → Did S V
with_given state (Err error) rest = refused state error
with_given state (Ok value) rest = rest value

-- what is there, or this error
abbrev pub with_some : {S V A : Type 0} → S → Errno → Option A → (A → Did S V) → Did S V
with_some state error None rest = refused state error
with_some state error (Some value) rest = rest value

-- An argument whose pointer may be null: nothing is read there.
abbrev pub given_or_none : {A : Type 0} → Option (Given A) → Given (Option A)
given_or_none None = Ok None
given_or_none (Some (Err error)) = Err error
given_or_none (Some (Ok value)) = Ok (Some value)

-- a row over a part of a state, as a row over the whole
abbrev pub widened : {S T V : Type 0} → (S → T) → Did S V → Did T V
widened whole did = record { state = whole did.state; came = did.came }

-- a row whose value is another's in other terms

abbrev pub came_as : {V W : Type 0} → (V → W) → Came V → Came W
came_as meaning (Done found) = Done (meaning found)
came_as meaning (Refused error) = Refused error
came_as meaning (Waits wake) = Waits wake

abbrev pub told_as : {S V W : Type 0} → (V → W) → Did S V → Did S W
told_as meaning did = record { state = did.state; came = came_as meaning did.came }

-- a row that tells nothing gives 0
abbrev pub told_zero : {S : Type 0} → Did S (Unit {0}) → Did S ℕ
told_zero did = told_as (λ _. 0) did
