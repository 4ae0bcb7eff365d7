-- Waits for signals, as outcomes. (The form is this project's own.)
use Rattle.std.specs.Prelude.{Option, Some, None}
use Rattle.kernel_core.specs.declared.error.Errno.TheVariants.{EINTR}
use Rattle.kernel_model.specs.Shared.{Wake}
use Rattle.kernel_model.specs.SignalSets.{SignalSet}
use Rattle.o32_model.specs.Step.{failure, wait_of}
use Rattle.o32_model.specs.declared.call_words.CallWords.{CallWords}
use Rattle.o32_model.specs.declared.outcome.Outcome.{Outcome}
use Rattle.o32_model.specs.declared.outcome.Outcome.TheVariants as outcomes
use Rattle.o32_model.specs.declared.wait.Wait.{Wait}

-- a wait without an end
abbrev pub endless : Wake
endless = record { done = 0; until = None }

abbrev pub asleep : CallWords → Outcome
asleep words = outcomes.Sleep (wait_of words endless)

-- a wait with the mask that was before it
abbrev pub masked : Outcome → SignalSet → Outcome
masked (outcomes.Sleep wait) before = outcomes.Sleep (record wait { mask = Some before })
masked (outcomes.Value value) before = outcomes.Value value
masked (outcomes.Pair first second) before = outcomes.Pair first second
masked (outcomes.Error error) before = outcomes.Error error
masked outcomes.Frame before = outcomes.Frame
masked outcomes.BadFrame before = outcomes.BadFrame
masked (outcomes.Exit status) before = outcomes.Exit status

-- restart_syscall(2)
abbrev pub restart_outcome : Option Wait → Outcome
restart_outcome None = failure EINTR
restart_outcome (Some wait) = outcomes.Sleep wait
