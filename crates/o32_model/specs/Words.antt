-- What a call is handed, and how it returns: its number in $v0, its arguments in $a0 to $a3 and on the stack from $sp + 16 on, its result
-- in $v0, and in $a3 whether that is an error's number (System V ABI, MIPS RISC Processor Supplement, the calling convention; syscall(2);
-- Linux arch/mips/kernel/scall32-o32.S).
use Rattle.std.specs.Prelude.{ℕ, ◌+◌, ◌*◌, ◌%◌, ◌^◌, ℤ, List, [], ◌∷◌, slice_index, slice_index_or, Option, Some, None, unwrap_or, Result, Ok, Err}
use Rattle.std.specs.Int.{w32, cast_signed}
use Rattle.guest_space.specs.Bytes.{read}
use Rattle.guest_space.specs.Memory.{Memory}
use Rattle.guest_space.specs.declared.access.Denied.{Denied}
use Rattle.mips_exec.specs.Processor.{Processor, register, with_register}
use Rattle.number_tables.specs.Errors.{o32_errno}
use Rattle.o32_model.specs.declared.call_words.CallWords.{CallWords}
use Rattle.o32_model.specs.declared.outcome.Outcome.{Outcome}
use Rattle.o32_model.specs.declared.outcome.Outcome.TheVariants.{Value, Pair, Error, Sleep, Frame, BadFrame, Exit}

-- The registers of a call

abbrev pub v0 : ℕ
v0 = 2

abbrev pub v1 : ℕ
v1 = 3

abbrev pub a0 : ℕ
a0 = 4

abbrev pub a1 : ℕ
a1 = 5

abbrev pub a2 : ℕ
a2 = 6

abbrev pub a3 : ℕ
a3 = 7

abbrev pub sp : ℕ
sp = 29

-- What it is handed

abbrev pub if_read : Result ℕ Denied → Option ℕ
if_read (Ok word) = Some word
if_read (Err denied) = None

-- The words on the stack from the fifth argument on, by their places from 0: none where one can't be read. Addresses count modulo 2^32.
abbrev pub stack_argument : Processor → Memory → ℕ → Option ℕ
stack_argument processor memory place = if_read (read memory ((register processor sp + 16 + 4 * place) % 2 ^ 32) 4)

unfoldable pub call_words : Processor → Memory → CallWords
call_words processor memory = record {
  nr = register processor v0;
  reg = register processor a0 ∷ register processor a1 ∷ register processor a2 ∷ register processor a3 ∷ [];
  stack =
      stack_argument processor memory 0 ∷ stack_argument processor memory 1 ∷ stack_argument processor memory 2
      ∷ stack_argument processor memory 3 ∷ [];
}

-- An argument in a register, by its place from 0: a descriptor, an address, a length, flags (an int, a long, a pointer: each has 32 bits). A
-- descriptor below 0 is then one from 2^31 on, which is never open.
abbrev pub argument : CallWords → ℕ → ℕ
argument words place = slice_index words.reg place

-- one that may be below 0 (pid_t)
abbrev pub signed_argument : CallWords → ℕ → ℤ
signed_argument words place = cast_signed w32 (argument words place)

abbrev pub stack_word : CallWords → ℕ → Option ℕ
stack_word words place = slice_index_or words.stack place None

-- A number of 64 bits is a pair of words whose first has an even place among the arguments, the high word first.

abbrev pub pair : ℕ → ℕ → ℕ
pair high low = high * 2 ^ 32 + low

abbrev pub if_both : Option ℕ → Option ℕ → Option ℕ
if_both None low = None
if_both (Some high) None = None
if_both (Some high) (Some low) = Some (pair high low)

-- the fifth argument and the sixth as one of 64 bits, which is none where one of them can't be read
abbrev pub stack_pair : CallWords → Option ℕ
stack_pair words = if_both (stack_word words 0) (stack_word words 1)

-- the first six argument words, with 0 for one that can't be read
abbrev pub six_words : CallWords → List ℕ
six_words words =
    argument words 0 ∷ argument words 1 ∷ argument words 2 ∷ argument words 3
    ∷ unwrap_or (stack_word words 0) 0 ∷ unwrap_or (stack_word words 1) 0 ∷ []

-- How it returns

-- the processor with a result in $v0, and in $a3 whether the call failed
abbrev pub with_result : Processor → ℕ → ℕ → Processor
with_result processor value failed = with_register (with_register processor v0 value) a3 failed

-- a call that waits, ends the process, has set all registers or could not return to them returns nothing
abbrev pub returned : Processor → Outcome → Processor
returned processor (Value value) = with_result processor value 0
returned processor (Pair first second) = with_register (with_result processor first 0) v1 second
returned processor (Error error) = with_result processor (o32_errno error) 1
returned processor (Sleep wait) = processor
returned processor Frame = processor
returned processor BadFrame = processor
returned processor (Exit status) = processor
