-- The calls that ask the kernel for nothing, which are made beside the others. (That they are, is this project's own.)
use Rattle.std.specs.Prelude.{◌≡◌, ℕ, List, Option, Some, None}
use Rattle.o32_calls.specs.Numbers.{call_of_number, plain_number}
use Rattle.o32_calls.specs.declared.process.PlainCall.{PlainCall}
use Rattle.o32_machine.specs.Emulator.{ProcessState, machine_of}
use Rattle.o32_model.specs.declared.call_words.CallWords.{CallWords}
use Rattle.o32_turns.specs.Instruction.{called}
use Rattle.o32_turns.specs.Machine.{Turn}
use Rattle.o32_turns.specs.Turn.{after_events, whole}

-- the number is that of such a call, or of no call at all (syscalls(2))
abbrev pub IsPlainly : Option PlainCall → ℕ → Type 0
IsPlainly (Some call) number = number ≡ plain_number call
IsPlainly None number = call_of_number number ≡ None

-- the turn of a process in which the call of its SYSCALL is made
abbrev pub called_of : ProcessState → List ℕ → Turn
called_of process left = after_events process.going.events (called whole (machine_of process) left)

-- the words of a call with these on the stack, which such a call doesn't look at
abbrev pub with_stack : List (Option ℕ) → CallWords → CallWords
with_stack stack words = record words { stack = stack }
