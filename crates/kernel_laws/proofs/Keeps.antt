-- A row keeps what a state always is: each check does, and what follows it. What a check found is told to what follows it.
use Rattle.std.proofs.Common.{◌≡◌, ℕ, Bool, true, false, refl}
use Rattle.std.specs.Prelude.{Option, Some, None, Ok, Err, ◌==◌, if◌then◌else◌}
use Rattle.kernel_model.specs.Came.{Did, Given, done, refused, waits, widened, refused_if, refused_by, with_given, with_some}
use Rattle.kernel_model.specs.Shared.{Errno}
use Rattle.kernel_model.specs.Transfers.{transferring}

pub record Keeps {S V : Type 0} (P : S → Type 0) (did : Did S V) : Type 0 where
  pub kept : P did.state

pub done_keeps : {S V : Type 0} (P : S → Type 0) (new : S) (value : V) → P new → Keeps P (done new value)
done_keeps P new value is = record { kept = is }

module _ {S V : Type 0} (P : S → Type 0) (state : S) (is : P state) where
  pub refused_keeps : (error : Errno) → Keeps {V = V} P (refused state error)
  refused_keeps error = record { kept = is }

  pub waits_keeps : (until : Option ℕ) → Keeps {V = V} P (waits state until)
  waits_keeps until = record { kept = is }

  pub if_keeps : (wrong : Bool) (error : Errno) (rest : Did S V) → (wrong ≡ false → Keeps P rest) → Keeps P (refused_if wrong error state rest)
  if_keeps true error rest h = refused_keeps error
  if_keeps false error rest h = h refl

  pub by_keeps : (found : Option Errno) (rest : Did S V) → (found ≡ None → Keeps P rest) → Keeps P (refused_by found state rest)
  by_keeps (Some error) rest h = refused_keeps error
  by_keeps None rest h = h refl

  pub given_keeps : {A : Type 0} (given : Given A) (rest : A → Did S V) → ((value : A) → given ≡ Ok value → Keeps P (rest value)) → Keeps P (with_given state given rest)
  given_keeps (Err error) rest h = refused_keeps error
  given_keeps (Ok value) rest h = h value refl

  pub some_keeps : {A : Type 0} (error : Errno) (found : Option A) (rest : A → Did S V) → ((value : A) → found ≡ Some value → Keeps P (rest value))
      → Keeps P (with_some state error found rest)
  some_keeps error None rest h = refused_keeps error
  some_keeps error (Some value) rest h = h value refl

-- a choice of two rows
pub choice_keeps : {S V : Type 0} (P : S → Type 0) (test : Bool) (first second : Did S V) → (test ≡ true → Keeps P first) → (test ≡ false → Keeps P second)
    → Keeps P (if test then first else second)
choice_keeps P true first second h g = h refl
choice_keeps P false first second h g = g refl

-- a transfer of no byte, of one that can't be accessed, or of some
pub transferring_keeps : {S V : Type 0} (P : S → Type 0) (state : S) (is : P state) (asked : Given ℕ) (accessible : ℕ) (none : V) (rest : ℕ → Did S V)
    → ((most : ℕ) → Keeps P (rest most)) → Keeps P (transferring state asked accessible none rest)
transferring_keeps P state is asked accessible none rest h =
    given_keeps P state is asked _ (λ count e. choice_keeps P (count == 0) _ _ (λ e. done_keeps P state none is) (λ e. if_keeps P state is _ _ _ (λ e. h _)))

-- a row over a part of the state
pub widened_keeps : {S T V : Type 0} (P : T → Type 0) (whole : S → T) (did : Did S V) → Keeps (λ s. P (whole s)) did → Keeps P (widened whole did)
widened_keeps P whole did h = record { kept = h.kept }

pub ruleset keeps = (done_keeps, refused_keeps, waits_keeps, if_keeps, by_keeps, given_keeps, some_keeps, choice_keeps)
