-- The lines of a trace: what happened in a run, an event a line, with the number of its turn. This project's own.
use Rattle.std.specs.Prelude.{ℕ, List, [], ◌∷◌, ◌++◌, codes, slice_index}
use Rattle.std.specs.Fmt.{decimal}
use Rattle.kernel_core.specs.declared.event.Delivery.{Delivery}
use Rattle.kernel_core.specs.declared.event.Delivery.TheVariants.{Handler, Ignored, Stop}
use Rattle.kernel_core.specs.declared.event.Event.{Event}
use Rattle.kernel_core.specs.declared.event.Event.TheVariants as events
use Rattle.number_tables.specs.Signals.{o32_signal}
use Rattle.trace_text.specs.Digits.{word}

abbrev pub newline : List ℕ
newline = 10 ∷ []

abbrev pub space : List ℕ
space = codes " "

unfoldable pub delivery_text : Delivery → List ℕ
delivery_text Handler = codes "handler"
delivery_text Ignored = codes "ignored"
delivery_text Stop = codes "stop"

abbrev pub argument : List ℕ → ℕ → List ℕ
argument words place = word (slice_index words place)

-- the four arguments of a call
unfoldable pub arguments_text : List ℕ → List ℕ
arguments_text words = argument words 0 ++ space ++ argument words 1 ++ space ++ argument words 2 ++ space ++ argument words 3

-- what a call gives in its two registers
unfoldable pub result_text : ℕ → ℕ → List ℕ
result_text value failed = word value ++ space ++ decimal failed

-- What is told of an event. Signals have their numbers for an o32 program.
unfoldable pub event_text : Event → List ℕ
event_text (events.Post signal) = codes "post " ++ decimal (o32_signal signal)
event_text (events.Dropped signal) = codes "drop " ++ decimal (o32_signal signal)
event_text events.Cont = codes "cont"
event_text (events.Fault signal code address) =
    codes "fault " ++ decimal (o32_signal signal) ++ space ++ decimal code ++ space ++ word address
event_text (events.Signal signal delivery) = codes "signal " ++ decimal (o32_signal signal) ++ space ++ delivery_text delivery
event_text (events.Wait number words) = codes "wait " ++ decimal number ++ space ++ arguments_text words
event_text (events.Done value failed) = codes "done " ++ result_text value failed
event_text (events.Restart number) = codes "restart " ++ decimal number
event_text (events.Call number words value failed) = codes "call " ++ decimal number ++ space ++ arguments_text words ++ codes " = " ++ result_text value failed
event_text events.Return = codes "return"
event_text (events.Exit status) = codes "exit " ++ decimal status
event_text (events.Killed signal) = codes "killed " ++ decimal (o32_signal signal)
event_text events.Budget = codes "budget"
event_text events.Blocked = codes "blocked"

-- the line of an event in this turn
abbrev pub trace_line : ℕ → Event → List ℕ
trace_line turn event = decimal turn ++ space ++ event_text event ++ newline
