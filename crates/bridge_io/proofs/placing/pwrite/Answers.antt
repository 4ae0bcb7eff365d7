-- A place that can't be read is refused before any native call.
use Rattle.std.proofs.Common.{ℕ, Option, subst}
use Rattle.kernel_core.specs.declared.error.Errno.TheVariants.{EFAULT}
use Rattle.o32_model.specs.Answered.{Answers}
use Rattle.o32_model.specs.Transfers.{pwrite_row}
use Rattle.o32_model.specs.Words.{argument, stack_pair}
use Rattle.o32_model.specs.declared.outcome.Outcome.TheVariants.{Error}
use Rattle.outside.specs.Streams.{contents}
use Rattle.std.specs.Prelude.{OnOk}
use Rattle.bridge_log.proofs.Ends.{Still, still_called, still_keeps}
use Rattle.bridge_log.specs.Keeping.{Keeps}
use Rattle.bridge_io.proofs.PwriteMirrors.{pwrite_unplaced}
use Rattle.bridge_io.proofs.placing.pwrite.Goals as goal

pub returns-in-None-clause-row : goal.returns-in-None-clause-row
returns-in-None-clause-row g c = λ guest same memory left told.
    still_called guest c.args.below.now.kernel.now left (Error EFAULT) (pwrite_row c.args.below.now.kernel.now guest (argument c.args.words.now 0) (argument c.args.words.now 1) (argument c.args.words.now 2) (stack_pair c.args.words.now) left) (contents g.I.Source.left g.O.Sink.written g.E.Sink.written c.args.dev.now) told
    (subst (λ (p : Option ℕ). Still guest c.args.below.now.kernel.now left (Error EFAULT) (pwrite_row c.args.below.now.kernel.now guest (argument c.args.words.now 0) (argument c.args.words.now 1) (argument c.args.words.now 2) p left)) c.in-None.ensures
    (pwrite_unplaced guest c.args.below.now.kernel.now left (argument c.args.words.now 0) (argument c.args.words.now 1) (argument c.args.words.now 2)))

pub returns-in-None-clause-kept : goal.returns-in-None-clause-kept
returns-in-None-clause-kept g c = λ guest same memory left told.
    still_keeps guest c.args.below.now.kernel.now left (Error EFAULT) (pwrite_row c.args.below.now.kernel.now guest (argument c.args.words.now 0) (argument c.args.words.now 1) (argument c.args.words.now 2) (stack_pair c.args.words.now) left) c.args.below.now.log.now
    (subst (λ (p : Option ℕ). Still guest c.args.below.now.kernel.now left (Error EFAULT) (pwrite_row c.args.below.now.kernel.now guest (argument c.args.words.now 0) (argument c.args.words.now 1) (argument c.args.words.now 2) p left)) c.in-None.ensures
    (pwrite_unplaced guest c.args.below.now.kernel.now left (argument c.args.words.now 0) (argument c.args.words.now 1) (argument c.args.words.now 2)))

pub returns-in-Some-clause-row : goal.returns-in-Some-clause-row
returns-in-Some-clause-row g c = λ guest same memory left told.
    subst (λ (p : Option ℕ). Answers (pwrite_row c.args.below.now.kernel.now guest (argument c.args.words.now 0) (argument c.args.words.now 1) (argument c.args.words.now 2) p left) c.write_at.result c.write_at.new.below.kernel.now guest.memory guest.processor
    (contents g.I.Source.left g.O.Sink.written g.E.Sink.written c.args.dev.now) (contents g.I.Source.left g.O.Sink.written g.E.Sink.written c.write_at.new.dev)) c.in-Some.ensures
    (c.write_at.ensures.row guest same memory left told)

pub returns-in-Some-clause-kept : goal.returns-in-Some-clause-kept
returns-in-Some-clause-kept g c = λ guest same memory left told.
    subst (λ (p : Option ℕ). OnOk c.write_at.result (Keeps (pwrite_row c.args.below.now.kernel.now guest (argument c.args.words.now 0) (argument c.args.words.now 1) (argument c.args.words.now 2) p left) c.args.below.now.kernel.now left guest c.args.below.now.log.now c.write_at.new.below.log.now)) c.in-Some.ensures
    (c.write_at.ensures.kept guest same memory left told)
