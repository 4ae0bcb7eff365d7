-- How an outcome is put into the registers, and which turn a call's end makes. (The form is this project's own.)
use Rattle.o32_model.specs.declared.call_words.CallWords.{CallWords}
use Rattle.o32_model.specs.declared.outcome.Outcome.{Outcome}
use Rattle.o32_turns.specs.Instruction.{after_outcome, restart_after}
use Rattle.o32_turns.specs.Machine.{Machine, Within}

-- behind a call of these words, which came to this and left the machine so
abbrev pub finished : CallWords → Machine → Outcome → Within
finished words machine outcome = after_outcome words (record machine { restart = restart_after words.nr machine.restart }) outcome
