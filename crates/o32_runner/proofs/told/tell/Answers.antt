use Rattle.std.proofs.Common.{◌≡◌, ◌+◌, ◌-◌, ℕ, List, ap, ◌∙◌}
use Rattle.std.specs.Option.{option_copied}
use Rattle.kernel_core.specs.declared.event.Event.{Event}
use Rattle.kernel_core.specs.declared.log_entry.LogEntry.{LogEntry}
use Rattle.o32_machine.specs.Answered.{turns_of}
use Rattle.o32_runner.specs.NativeText.{entry_lines}
use Rattle.stored_files.specs.Stored.{stored_of}
use Rattle.o32_runner.specs.inside.Told.{native_of, told_lines, trace_of}
use Rattle.o32_runner.proofs.Files.{first_in_part, second_in_part}
use Rattle.o32_runner.proofs.told.tell.Goals as goal

pub returns-in_err-tell_trace-clause-part : goal.returns-in_err-tell_trace-clause-part
returns-in_err-tell_trace-clause-part g c =
    let lines : told_lines c.turns-turns.result c.args.turn c.events.result.now ≡ trace_of c.args.emulator.now c.args.turn =
    ap (λ (n : ℕ). told_lines n c.args.turn c.events.result.now) c.turns-turns.ensures
    ∙ ap (λ (list : List Event). told_lines c.args.emulator.now.turns c.args.turn list) c.events.ensures in
    first_in_part c.from_residual.result (option_copied c.args.names.trace) (option_copied c.args.names.native) (told_lines c.turns-turns.result c.args.turn c.events.result.now)
    (trace_of c.args.emulator.now c.args.turn) (native_of c.args.emulator.now c.args.turn)
    (stored_of g.F.Store.files g.F.Store.created g.F.Store.loads g.F.Store.turned_away g.F.Store.write_faults c.args.files.now)
    (stored_of g.F.Store.files g.F.Store.created g.F.Store.loads g.F.Store.turned_away g.F.Store.write_faults c.tell_trace.new.files) lines c.in_err-tell_trace.ensures.part

pub returns-clause-part : goal.returns-clause-part
returns-clause-part g c =
    let lines : told_lines c.turns-turns.result c.args.turn c.events.result.now ≡ trace_of c.args.emulator.now c.args.turn =
    ap (λ (n : ℕ). told_lines n c.args.turn c.events.result.now) c.turns-turns.ensures
    ∙ ap (λ (list : List Event). told_lines c.args.emulator.now.turns c.args.turn list) c.events.ensures in
    let entries : entry_lines (c.turns-turns.result - c.count.result + 1) c.native.result.now ≡ native_of c.args.emulator.now c.args.turn =
    ap (λ (n : ℕ). entry_lines (n - c.count.result + 1) c.native.result.now) c.turns-turns.ensures
    ∙ ap (λ (n : ℕ). entry_lines (c.args.emulator.now.turns - n + 1) c.native.result.now) c.count.ensures
    ∙ ap (λ (list : List LogEntry). entry_lines (c.args.emulator.now.turns - turns_of c.args.turn + 1) list) c.native.ensures in
    second_in_part c.tell_native.result (option_copied c.args.names.trace) (option_copied c.args.names.native) (told_lines c.turns-turns.result c.args.turn c.events.result.now)
    (trace_of c.args.emulator.now c.args.turn) (entry_lines (c.turns-turns.result - c.count.result + 1) c.native.result.now) (native_of c.args.emulator.now c.args.turn)
    (stored_of g.F.Store.files g.F.Store.created g.F.Store.loads g.F.Store.turned_away g.F.Store.write_faults c.args.files.now)
    (stored_of g.F.Store.files g.F.Store.created g.F.Store.loads g.F.Store.turned_away g.F.Store.write_faults c.tell_trace.new.files)
    (stored_of g.F.Store.files g.F.Store.created g.F.Store.loads g.F.Store.turned_away g.F.Store.write_faults c.tell_native.new.files) lines entries c.in_ok-tell_trace.ensures.added c.tell_native.ensures.part
