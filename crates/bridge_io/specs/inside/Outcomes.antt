-- Outcomes whose number is not the reply's. (The form is this project's own.)
use Rattle.std.specs.Prelude.{ℕ, ◌+◌, ◌*◌, pos, negsuc, List, slice_index, Option, Some, None, if◌then◌else◌}
use Rattle.guest_space.specs.Memory.{Memory}
use Rattle.host_mem.specs.Memory.{first_address}
use Rattle.kernel_core.specs.Bits.{one_if, has}
use Rattle.kernel_core.specs.declared.error.Errno.{Errno}
use Rattle.kernel_core.specs.declared.error.Errno.TheVariants.{EINVAL}
use Rattle.kernel_core.specs.declared.reply.Reply.{Reply}
use Rattle.kernel_core.specs.declared.reply.Reply.TheVariants as replies
use Rattle.kernel_model.specs.DescriptorRows.{PipeFlags}
use Rattle.native_calls.specs.Descriptors.{pipe_number}
use Rattle.number_tables.specs.OpenNumbers.{o32_open, native_open_read}
use Rattle.o32_model.specs.Descriptors.{pipe_flags}
use Rattle.o32_model.specs.GuestBytes.{is_storable}
use Rattle.o32_model.specs.declared.call_words.CallWords.{CallWords}
use Rattle.o32_model.specs.declared.outcome.Outcome.{Outcome}
use Rattle.o32_model.specs.declared.outcome.Outcome.TheVariants as outcomes
use Rattle.bridge_log.specs.Arguments.{is_among, commands_with_argument}
use Rattle.bridge_log.specs.Outcomes.{outcome_of}

-- this number in the place of the reply's
abbrev pub outcome_with : CallWords → ℕ → Reply → Outcome
outcome_with words value (replies.Done (pos number)) = outcomes.Value value
outcome_with words value (replies.Done (negsuc number)) = outcome_of words (replies.Done (negsuc number))
outcome_with words value (replies.Sleep wake) = outcome_of words (replies.Sleep wake)

-- flags of open(2), by their o32 numbers
abbrev pub outcome_flags : CallWords → Reply → Outcome
outcome_flags words (replies.Done (pos number)) = outcomes.Value (o32_open (native_open_read number))
outcome_flags words (replies.Done (negsuc number)) = outcome_of words (replies.Done (negsuc number))
outcome_flags words (replies.Sleep wake) = outcome_of words (replies.Sleep wake)

-- what F_SETFL sets of o32 flags, by native numbers
abbrev pub native_status_flags : ℕ → ℕ
native_status_flags flags = 0x400 * one_if (has flags 0x8) + 0x800 * one_if (has flags 0x80)

-- the last argument that the native fcntl(2) is handed: 0 for a command that takes none
abbrev pub handed : ℕ → ℕ → ℕ
handed command argument = if is_among command commands_with_argument then argument else 0

-- the little-endian number of four bytes from a place on
abbrev pub int_at : List ℕ → ℕ → ℕ
int_at memory place =
    slice_index memory place + 0x100 * slice_index memory (place + 1) + 0x1_0000 * slice_index memory (place + 2) + 0x100_0000 * slice_index memory (place + 3)

-- two numbers that stand in host memory
abbrev pub outcome_pair : CallWords → List ℕ → Reply → Outcome
outcome_pair words memory (replies.Done (pos number)) = outcomes.Pair (int_at memory 0) (int_at memory 4)
outcome_pair words memory (replies.Done (negsuc number)) = outcome_of words (replies.Done (negsuc number))
outcome_pair words memory (replies.Sleep wake) = outcome_of words (replies.Sleep wake)

abbrev pub told_pair : CallWords → List ℕ → Reply → Outcome
told_pair words memory reply = outcome_pair words memory reply

-- the native number of flags of pipe2(2); 1 is no such flag
abbrev pub number_of_flags : Option PipeFlags → ℕ
number_of_flags None = 1
number_of_flags (Some flags) = pipe_number flags

abbrev pub native_pipe_flags : ℕ → ℕ
native_pipe_flags flags = number_of_flags (pipe_flags flags)

-- the first address of host memory where so many bytes can be stored to the program's memory, and else 0, where no byte of host memory is
abbrev pub host_place : Memory → ℕ → ℕ → ℕ
host_place memory address count = if is_storable memory address count then first_address else 0

-- both whatever host memory is afterwards

abbrev pub told_value : CallWords → ℕ → List ℕ → Reply → Outcome
told_value words value memory reply = outcome_with words value reply

abbrev pub told_flags : CallWords → List ℕ → Reply → Outcome
told_flags words memory reply = outcome_flags words reply

-- how many buffers a vector at address 0 of host memory has, so that the native kernel finds this error
abbrev pub wrong_count : Errno → ℕ
wrong_count EINVAL = 1025
wrong_count _ = 1
