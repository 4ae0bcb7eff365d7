-- How the text of a trace grows.
use Rattle.std.proofs.Common.{◌≡◌, ℕ, zero, suc, ◌+◌, ◌<◌, List, [], ◌++◌, arith, ap, ◌∙◌, add-zero, append-nil}
use Rattle.kernel_core.specs.declared.event.Event.{Event}
use Rattle.outside.specs.Streams.{Contents}
use Rattle.o32_machine.specs.Quiet.{IsQuiet}
use Rattle.o32_turns.specs.Machine.{Machine}
use Rattle.o32_turns.specs.Runs.{Reached, attempt, reached}
use Rattle.o32_turns.specs.Turn.{turn_of}
use Rattle.o32_runner.specs.Runs.{IsSoFar}
use Rattle.o32_runner.specs.Trace.{attempt_lines, traced, turn_lines}
use Rattle.o32_runner.proofs.QuietTurns.{behind, composed}

-- a turn more
pub next_traced : (quantum : ℕ) (machine : Machine) (left : List ℕ) (k : ℕ) → traced quantum machine left (k + 1) ≡ traced quantum machine left k ++ attempt_lines quantum machine left k
unfolding traced
next_traced quantum machine left k =
    let next : k + 1 ≡ suc k = omega arith in ap (λ (n : ℕ). traced quantum machine left n) next

-- an attempt behind others is one of the run from there
module _ (quantum : ℕ) (machine : Machine) (left : List ℕ) (j : ℕ) (before at : Contents) (now : Machine) (so : IsSoFar quantum machine left j before at now) where
  abbrev pub here : Reached
  here = reached quantum machine left j

  pub there : (d : ℕ) → reached quantum machine left (j + d) ≡ behind here.sent (reached quantum now here.left d)
  there d = composed quantum machine left j d so.alive ∙ ap (λ (m : Machine). behind here.sent (reached quantum m here.left d)) so.same

  attempt_there : (d : ℕ) → (attempt quantum machine left (j + d)).events ≡ (attempt quantum now here.left d).events
  attempt_there d = ap (λ (r : Reached). (turn_of quantum r.machine r.left).events) (there d)

  -- turns without events add nothing
  pub traced_quiet : (k : ℕ) → ((d : ℕ) → d < k → (attempt quantum now here.left d).events ≡ []) → traced quantum machine left (j + k) ≡ traced quantum machine left j
  traced_quiet zero silent = ap (λ (n : ℕ). traced quantum machine left n) (add-zero j)
  traced_quiet (suc k) silent =
      let next : j + suc k ≡ (j + k) + 1 = omega arith in
      let none : (attempt quantum machine left (j + k)).events ≡ [] = attempt_there k ∙ silent k (omega arith) in
      ap (λ (n : ℕ). traced quantum machine left n) next
      ∙ next_traced quantum machine left (j + k)
      ∙ ap (λ (happened : List Event). traced quantum machine left (j + k) ++ turn_lines (j + k + 1) happened) none
      ∙ append-nil (traced quantum machine left (j + k))
      ∙ traced_quiet k (λ d below. silent d (omega arith))

  pub quiet_traced : (k : ℕ) (then : Machine) → IsQuiet quantum now k then → traced quantum machine left (j + k) ≡ traced quantum machine left j
  quiet_traced k then quiet = traced_quiet k (λ d below. quiet.silent here.left d below)
