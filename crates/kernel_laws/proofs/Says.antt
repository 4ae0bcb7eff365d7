-- What holds where a row is done: a check that is refused says nothing, and what a check found is told to what follows it.
use Rattle.std.proofs.Common.{◌≡◌, ℕ, Bool, true, false, refl, subst}
use Rattle.std.specs.Prelude.{Option, Some, None, Ok, Err, if◌then◌else◌}
use Rattle.kernel_model.specs.Came.{Did, Done, Given, done, refused, refused_by, refused_if, waits, with_given, with_some}
use Rattle.kernel_model.specs.Shared.{Errno}

pub record Says {S V : Type 0} (Q : S → V → Type 0) (did : Did S V) : Type 0 where
  pub said : (value : V) → did.came ≡ Done value → Q did.state value

pub done_says : {S V : Type 0} (Q : S → V → Type 0) (state : S) (value : V) → Q state value → Says Q (done state value)
done_says Q state value h = record { said = λ other e. let same : value ≡ other = cc in subst (λ v. Q state v) same h }

module _ {S V : Type 0} (Q : S → V → Type 0) (state : S) where
  pub refused_says : (error : Errno) → Says Q (refused state error)
  refused_says error = record { said = λ value e. absurd cc }

  pub waits_says : (until : Option ℕ) → Says Q (waits state until)
  waits_says until = record { said = λ value e. absurd cc }

  pub if_says : (wrong : Bool) (error : Errno) (rest : Did S V) → (wrong ≡ false → Says Q rest) → Says Q (refused_if wrong error state rest)
  if_says true error rest h = refused_says error
  if_says false error rest h = h refl

  pub by_says : (found : Option Errno) (rest : Did S V) → (found ≡ None → Says Q rest) → Says Q (refused_by found state rest)
  by_says (Some error) rest h = refused_says error
  by_says None rest h = h refl

  pub given_says : {A : Type 0} (given : Given A) (rest : A → Did S V) → ((value : A) → given ≡ Ok value → Says Q (rest value)) → Says Q (with_given state given rest)
  given_says (Err error) rest h = refused_says error
  given_says (Ok value) rest h = h value refl

  pub some_says : {A : Type 0} (error : Errno) (found : Option A) (rest : A → Did S V) → ((value : A) → found ≡ Some value → Says Q (rest value))
      → Says Q (with_some state error found rest)
  some_says error None rest h = refused_says error
  some_says error (Some value) rest h = h value refl

-- a choice of two rows
pub choice_says : {S V : Type 0} (Q : S → V → Type 0) (test : Bool) (first second : Did S V) → (test ≡ true → Says Q first) → (test ≡ false → Says Q second)
    → Says Q (if test then first else second)
choice_says Q true first second h g = h refl
choice_says Q false first second h g = g refl

pub ruleset says = (done_says, refused_says, waits_says, if_says, by_says, given_says, some_says)
