-- A call that fails moves nothing: the calls on time and readiness. Those that store several pieces may have stored a part.
use Rattle.std.proofs.Common.{◌≡◌, ℕ, ◌==◌, Bool, true, false, List, [], ◌∷◌, refl, subst, arith}
use Rattle.std.specs.Prelude.{T, Option, Some, if◌then◌else◌, ⊤}
use Rattle.std.proofs.lemmas.Bool.Decides.{nat_tests}
use Rattle.layouts.specs.Number.{bytes_of}
use Rattle.o32_model.proofs.Quiet.{CallQuiet, QuietIfAny, gives_quiet, stores_quiet, unless_null_quiet}
use Rattle.o32_model.proofs.ResultQuiet.{result_unless_null_quiet}
use Rattle.o32_model.specs.Clocks.{clock_calls, time_row, clock_getres_row}
use Rattle.o32_model.specs.Laws.{stores_in_parts}
use Rattle.o32_model.specs.Polling.{poll_calls}
use Rattle.o32_model.specs.Selecting.{select_calls}
use Rattle.o32_model.specs.Sleeps.{sleep_calls, alarm_row, setitimer_row, getitimer_row, nanosleep_row, clock_nanosleep_row}
use Rattle.o32_model.specs.Step.{O32Row}
use Rattle.o32_model.specs.Table.{call_in, wait_call_or}

-- Each call where it is meant

abbrev QuietWhereMeant : ℕ → List O32Row → Type 0
QuietWhereMeant number [] = ⊤
QuietWhereMeant number (call ∷ calls) = (number ≡ call.number → CallQuiet call) × QuietWhereMeant number calls

meant_in : (calls : List O32Row) (otherwise : Option O32Row) (number : ℕ) → QuietWhereMeant number calls → QuietIfAny otherwise
    → QuietIfAny (call_in calls otherwise number)
meant_in [] otherwise number quiet others = others
meant_in (call ∷ calls) otherwise number quiet others = by_test (number == call.number) refl (meant_in calls otherwise number quiet.1 others)
  where
    by_test : (test : Bool) → (number == call.number) ≡ test → QuietIfAny (call_in calls otherwise number)
        → QuietIfAny (if test then Some call else call_in calls otherwise number)
    by_test true same rest = quiet.0 (grind (arith, nat_tests))
    by_test false other rest = rest

-- a call that stores in parts is not meant
in_parts : (number part : ℕ) {call : O32Row} → number ≡ part → stores_in_parts number ≡ false → stores_in_parts part ≡ true → CallQuiet call
in_parts number part same whole parts =
    absurd (subst T (λ i. whole_part i) tt)
  where
    whole_part : true ≡ false
    whole_part = subst (λ test. test ≡ false) parts (subst (λ n. stores_in_parts n ≡ false) same whole)

clocks_quiet : (number : ℕ) → stores_in_parts number ≡ false → QuietWhereMeant number clock_calls
unfolding time_row clock_getres_row
clocks_quiet number whole = (λ _. record { quiet = λ kernel guest left. result_unless_null_quiet (bytes_of true 4) (λ seconds. seconds) guest _ _ left }, (λ same. in_parts number _ same whole refl, (λ _. record { quiet = λ kernel guest left. unless_null_quiet guest _ _ left }, tt)))

sleeps_quiet : (number : ℕ) → stores_in_parts number ≡ false → QuietWhereMeant number sleep_calls
unfolding alarm_row setitimer_row getitimer_row nanosleep_row clock_nanosleep_row
sleeps_quiet number whole = (λ _. record { quiet = λ kernel guest left. gives_quiet guest _ left }, (λ _. record { quiet = λ kernel guest left. unless_null_quiet guest _ _ left }, (λ _. record { quiet = λ kernel guest left. stores_quiet guest _ _ left }, (λ _. record { quiet = λ kernel guest left. gives_quiet guest _ left }, (λ _. record { quiet = λ kernel guest left. gives_quiet guest _ left }, tt)))))

polls_quiet : (number : ℕ) → stores_in_parts number ≡ false → QuietWhereMeant number poll_calls
polls_quiet number whole = (λ same. in_parts number _ same whole refl, (λ same. in_parts number _ same whole refl, tt))

selects_quiet : (number : ℕ) → stores_in_parts number ≡ false → QuietWhereMeant number select_calls
selects_quiet number whole = (λ same. in_parts number _ same whole refl, (λ same. in_parts number _ same whole refl, tt))

pub waits_quiet : (number : ℕ) (otherwise : Option O32Row) → stores_in_parts number ≡ false → QuietIfAny otherwise
    → QuietIfAny (wait_call_or otherwise number)
waits_quiet number otherwise whole others =
    meant_in clock_calls _ number (clocks_quiet number whole)
    (meant_in sleep_calls _ number (sleeps_quiet number whole)
    (meant_in poll_calls _ number (polls_quiet number whole)
    (meant_in select_calls otherwise number (selects_quiet number whole) others)))
