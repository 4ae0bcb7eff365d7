-- Flags that can't be read are refused before any native call; else it is linkat with them.
use Rattle.std.proofs.Common.{ℕ, Option, None, refl, sym, subst, ◌∙◌}
use Rattle.kernel_core.specs.declared.error.Errno.TheVariants.{EFAULT}
use Rattle.o32_model.specs.Answered.{Called, IsCall}
use Rattle.o32_model.specs.Names.{linkat_row}
use Rattle.o32_model.specs.PathArguments.{base}
use Rattle.o32_model.specs.declared.outcome.Outcome.TheVariants.{Error}
use Rattle.outside.specs.Streams.{contents}
use Rattle.bridge_paths.proofs.Passed.{still_called, still_keeps}
use Rattle.bridge_paths.specs.Passed.{Keeps, KeepsCall}
use Rattle.bridge_paths.proofs.Refusing.{still_of}
use Rattle.bridge_file.proofs.names.linkat.Goals as goal

pub returns-in-Some-clause-row : goal.returns-in-Some-clause-row
unfolding linkat_row
returns-in-Some-clause-row g c = λ guest same memory.
    subst (λ (f : Option ℕ). IsCall (linkat_row c.args.below.now.kernel.now guest (base c.args.old.directory) c.args.old.address (base c.args.new.directory) c.args.new.address f) c.link.result c.link.new.below.kernel.now guest.memory guest.processor (contents g.I.Source.left g.O.Sink.written g.E.Sink.written c.args.dev.now) (contents g.I.Source.left g.O.Sink.written g.E.Sink.written c.link.new.dev))
    (sym c.in-Some.is ∙ c.fifth.ensures) (c.link.ensures.row guest same memory)

pub returns-in-Some-clause-kept : goal.returns-in-Some-clause-kept
unfolding linkat_row
returns-in-Some-clause-kept g c = λ guest same memory.
    subst (λ (f : Option ℕ). KeepsCall (linkat_row c.args.below.now.kernel.now guest (base c.args.old.directory) c.args.old.address (base c.args.new.directory) c.args.new.address f) c.link.result c.args.below.now.kernel.now guest (g.I.Source.left c.args.dev.now.input) c.args.below.now.log.now c.link.new.below.log.now)
    (sym c.in-Some.is ∙ c.fifth.ensures) (c.link.ensures.kept guest same memory)

pub returns-in-None-clause-row : goal.returns-in-None-clause-row
unfolding linkat_row
returns-in-None-clause-row g c = λ guest same memory left told.
    let at = contents g.I.Source.left g.O.Sink.written g.E.Sink.written c.args.dev.now in
    subst (λ (f : Option ℕ). Called (linkat_row c.args.below.now.kernel.now guest (base c.args.old.directory) c.args.old.address (base c.args.new.directory) c.args.new.address f left) (Error EFAULT) c.args.below.now.kernel.now guest.memory guest.processor at at)
    (sym c.in-None.is ∙ c.fifth.ensures)
    (still_called guest c.args.below.now.kernel.now left (Error EFAULT) (linkat_row c.args.below.now.kernel.now guest (base c.args.old.directory) c.args.old.address (base c.args.new.directory) c.args.new.address None left) at told (still_of guest c.args.below.now.kernel.now EFAULT left (linkat_row c.args.below.now.kernel.now guest (base c.args.old.directory) c.args.old.address (base c.args.new.directory) c.args.new.address None left) refl))

pub returns-in-None-clause-kept : goal.returns-in-None-clause-kept
unfolding linkat_row
returns-in-None-clause-kept g c = λ guest same memory left told.
    subst (λ (f : Option ℕ). Keeps (linkat_row c.args.below.now.kernel.now guest (base c.args.old.directory) c.args.old.address (base c.args.new.directory) c.args.new.address f left) c.args.below.now.kernel.now left guest c.args.below.now.log.now c.args.below.now.log.now)
    (sym c.in-None.is ∙ c.fifth.ensures)
    (still_keeps guest c.args.below.now.kernel.now left (Error EFAULT) (linkat_row c.args.below.now.kernel.now guest (base c.args.old.directory) c.args.old.address (base c.args.new.directory) c.args.new.address None left) c.args.below.now.log.now (still_of guest c.args.below.now.kernel.now EFAULT left (linkat_row c.args.below.now.kernel.now guest (base c.args.old.directory) c.args.old.address (base c.args.new.directory) c.args.new.address None left) refl))
