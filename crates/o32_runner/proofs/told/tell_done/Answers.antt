use Rattle.std.proofs.Common.{refl}
use Rattle.std.specs.Option.{option_copied}
use Rattle.kernel_core.specs.declared.event.Event.TheVariants as event
use Rattle.trace_text.specs.Trace.{trace_line}
use Rattle.stored_files.specs.Stored.{stored_of}
use Rattle.o32_runner.specs.inside.Told.{budget_record}
use Rattle.o32_runner.proofs.Files.{first_in_part, second_in_part}
use Rattle.o32_runner.proofs.told.tell_done.Goals as goal

pub returns-in_err-tell_budget-clause-part : goal.returns-in_err-tell_budget-clause-part
returns-in_err-tell_budget-clause-part g c =
    first_in_part c.from_residual.result (option_copied c.args.names.trace) (option_copied c.args.names.journal) (trace_line c.args.turns event.Budget)
    (trace_line c.args.turns event.Budget) (budget_record c.args.front.now c.args.turns)
    (stored_of g.F.Store.files g.F.Store.created g.F.Store.loads g.F.Store.turned_away g.F.Store.write_faults c.args.files.now)
    (stored_of g.F.Store.files g.F.Store.created g.F.Store.loads g.F.Store.turned_away g.F.Store.write_faults c.tell_budget.new.files) refl c.in_err-tell_budget.ensures.part

pub returns-clause-part : goal.returns-clause-part
returns-clause-part g c =
    second_in_part c.tell_end.result (option_copied c.args.names.trace) (option_copied c.args.names.journal) (trace_line c.args.turns event.Budget)
    (trace_line c.args.turns event.Budget) (budget_record c.args.front.now c.args.turns) (budget_record c.args.front.now c.args.turns)
    (stored_of g.F.Store.files g.F.Store.created g.F.Store.loads g.F.Store.turned_away g.F.Store.write_faults c.args.files.now)
    (stored_of g.F.Store.files g.F.Store.created g.F.Store.loads g.F.Store.turned_away g.F.Store.write_faults c.tell_budget.new.files)
    (stored_of g.F.Store.files g.F.Store.created g.F.Store.loads g.F.Store.turned_away g.F.Store.write_faults c.tell_end.new.files) refl refl c.in_ok-tell_budget.ensures.added c.tell_end.ensures.part
