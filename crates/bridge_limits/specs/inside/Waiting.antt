-- A call that waits, with the mask that it keeps. (The form is this project's own.)
use Rattle.std.specs.Prelude.{ℕ, Option}
use Rattle.kernel_model.specs.SignalSets.{SignalSet}
use Rattle.o32_model.specs.Step.{wait_of}
use Rattle.o32_model.specs.declared.call_words.CallWords.{CallWords}
use Rattle.o32_model.specs.declared.outcome.Outcome.{Outcome}
use Rattle.o32_model.specs.declared.outcome.Outcome.TheVariants.{Sleep}
use Rattle.o32_model.specs.declared.wait.Wait.{Wait}

abbrev pub waiting : CallWords → Option ℕ → Option SignalSet → Wait
waiting words until mask = record (wait_of words (record { done = 0; until = until })) { mask = mask }

abbrev pub sleeping : CallWords → Option ℕ → Option SignalSet → Outcome
sleeping words until mask = Sleep (waiting words until mask)
