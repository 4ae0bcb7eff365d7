-- The lines of the log of the native kernel: what it was asked and told, an entry a line, with the number of its turn. This project's own.
use Rattle.std.specs.Prelude.{ℕ, ◌+◌, List, [], ◌∷◌, ◌++◌, codes, Option, None, Some, slice_index}
use Rattle.std.specs.Fmt.{decimal, signed_decimal}
use Rattle.hex.specs.Hex.{encode_lower}
use Rattle.kernel_core.specs.declared.log_entry.LogEntry.{LogEntry}
use Rattle.kernel_core.specs.declared.log_entry.LogEntry.TheVariants as entries
use Rattle.kernel_core.specs.declared.reply.Reply.{Reply}
use Rattle.kernel_core.specs.declared.reply.Reply.TheVariants.{Done, Sleep}
use Rattle.number_tables.specs.Signals.{native_signal}
use Rattle.trace_text.specs.Digits.{long_word}
use Rattle.trace_text.specs.Trace.{newline, space}

abbrev pub nothing_text : List ℕ
nothing_text = codes "-"

-- the bytes of host memory, two digits each, or `-` where there are none
unfoldable pub memory_text : List ℕ → List ℕ
memory_text [] = nothing_text
memory_text (byte ∷ bytes) = encode_lower (byte ∷ bytes)

-- a deadline, or `-` where there is none
unfoldable pub deadline_text : Option ℕ → List ℕ
deadline_text None = nothing_text
deadline_text (Some time) = decimal time

unfoldable pub reply_text : Reply → List ℕ
reply_text (Done number) = signed_decimal number
reply_text (Sleep wake) = codes "sleep " ++ decimal wake.done ++ space ++ deadline_text wake.until

abbrev pub argument : List ℕ → ℕ → List ℕ
argument words place = long_word (slice_index words place)

-- three arguments from a place on, and all six
unfoldable pub three_text : List ℕ → ℕ → List ℕ
three_text words place = argument words place ++ space ++ argument words (place + 1) ++ space ++ argument words (place + 2)

abbrev pub arguments_text : List ℕ → List ℕ
arguments_text words = three_text words 0 ++ space ++ three_text words 3

-- host memory before and after a call, and what it replied
unfoldable pub gave_text : List ℕ → List ℕ → Reply → List ℕ
gave_text before after reply = memory_text before ++ space ++ memory_text after ++ codes " = " ++ reply_text reply

-- What is told of an entry. Signals have their numbers for the native kernel.
abbrev pub entry_text : LogEntry → List ℕ
entry_text (entries.Clock time) = codes "clock " ++ decimal time
entry_text (entries.Post signal code value) =
    codes "post " ++ decimal (native_signal signal) ++ space ++ signed_decimal code ++ space ++ decimal value
entry_text (entries.Call number words before after reply) =
    codes "call " ++ decimal number ++ space ++ arguments_text words ++ space ++ gave_text before after reply

-- the line of an entry of this turn
abbrev pub native_line : ℕ → LogEntry → List ℕ
native_line turn entry = decimal turn ++ space ++ entry_text entry ++ newline
