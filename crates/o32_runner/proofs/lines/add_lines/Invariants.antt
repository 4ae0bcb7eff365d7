use Rattle.std.proofs.Common.{◌≡◌, ◌++◌, drop}
use Rattle.o32_runner.specs.Trace.{turn_lines}
use Rattle.o32_runner.proofs.lines.add_lines.Given as goal

-- the whole is what stands there, and the lines to come
abbrev pub invariant-loop-event : goal.invariant-loop-event
invariant-loop-event l =
    l.fn.text.items ++ turn_lines l.turn l.events
    ≡ l.text.items ++ turn_lines l.turn (drop l.event-index l.events)
