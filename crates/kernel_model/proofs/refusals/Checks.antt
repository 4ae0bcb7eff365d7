-- A row that is refused, or waits with nothing done, leaves the state: each check does, and what follows it.
use Rattle.std.proofs.Common.{ℕ, Bool, true, false, refl, ap}
use Rattle.std.specs.Prelude.{Option, Some, None, Ok, Err, if◌then◌else◌}
use Rattle.kernel_model.specs.Came.{Did, Given, done, refused, waits, widened, Came, Done, Refused, Waits, refused_if, refused_by, with_given, with_some}
use Rattle.kernel_model.specs.Laws.{StaysUnlessDone, StaysAt}
use Rattle.kernel_model.specs.Shared.{Errno}

module _ {S V : Type 0} (state : S) where
  pub done_stays : (new : S) (value : V) → StaysUnlessDone state (done new value)
  done_stays new value = record { stays = tt }

  pub refused_stays : (error : Errno) → StaysUnlessDone {V = V} state (refused state error)
  refused_stays error = record { stays = refl }

  pub waits_stays : (until : Option ℕ) → StaysUnlessDone {V = V} state (waits state until)
  waits_stays until = record { stays = λ e. refl }

  pub if_stays : (wrong : Bool) (error : Errno) (rest : Did S V) → StaysUnlessDone state rest → StaysUnlessDone state (refused_if wrong error state rest)
  if_stays true error rest h = refused_stays error
  if_stays false error rest h = h

  pub by_stays : (found : Option Errno) (rest : Did S V) → StaysUnlessDone state rest → StaysUnlessDone state (refused_by found state rest)
  by_stays (Some error) rest h = refused_stays error
  by_stays None rest h = h

  pub given_stays : {A : Type 0} (given : Given A) (rest : A → Did S V) → ((value : A) → StaysUnlessDone state (rest value)) → StaysUnlessDone state (with_given state given rest)
  given_stays (Err error) rest h = refused_stays error
  given_stays (Ok value) rest h = h value

  pub some_stays : {A : Type 0} (error : Errno) (found : Option A) (rest : A → Did S V) → ((value : A) → StaysUnlessDone state (rest value)) → StaysUnlessDone state (with_some state error found rest)
  some_stays error None rest h = refused_stays error
  some_stays error (Some value) rest h = h value

-- a choice of two rows
pub choice_stays : {S V : Type 0} (state : S) (test : Bool) (first second : Did S V) → StaysUnlessDone state first → StaysUnlessDone state second
    → StaysUnlessDone state (if test then first else second)
choice_stays state true first second h g = h
choice_stays state false first second h g = g

-- a row over a part of the state
pub widened_stays : {S T V : Type 0} (whole : S → T) (state : S) (did : Did S V) → StaysUnlessDone state did → StaysUnlessDone (whole state) (widened whole did)
widened_stays {S = S} {V = V} whole state did h = record { stays = at did.state did.came h.stays } where
  at : (new : S) (came : Came V) → StaysAt state new came → StaysAt (whole state) (whole new) came
  at new (Done value) h = tt
  at new (Refused error) h = ap whole h
  at new (Waits wake) h = λ e. ap whole (h e)

pub ruleset stays = (done_stays, refused_stays, waits_stays, if_stays, by_stays, given_stays, some_stays, choice_stays)
