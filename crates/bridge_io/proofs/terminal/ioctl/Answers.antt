-- The request that is listed, or none.
use Rattle.std.proofs.Common.{[], subst, sym, ◌∙◌, arith}
use Rattle.guest_space.specs.Memory.{Memory}
use Rattle.o32_model.specs.Answered.{Answers}
use Rattle.o32_model.specs.Terminal.{ioctl_row}
use Rattle.o32_model.specs.Words.{argument}
use Rattle.outside.specs.Streams.{contents}
use Rattle.bridge_io.proofs.TerminalMirrors.{ioctl_unlisted}
use Rattle.bridge_io.proofs.terminal.ioctl.Goals as goal

pub returns-in-Some-clause-row : goal.returns-in-Some-clause-row
returns-in-Some-clause-row g c = λ guest same memory. c.listed.ensures.row guest (argument c.args.words.now 1) same memory (sym c.of_o32.ensures ∙ c.in-Some.is)

pub returns-in-Some-clause-kept : goal.returns-in-Some-clause-kept
returns-in-Some-clause-kept g c = λ guest same memory. c.listed.ensures.kept guest (argument c.args.words.now 1) same memory (sym c.of_o32.ensures ∙ c.in-Some.is)

pub returns-in-None-clause-row : goal.returns-in-None-clause-row
returns-in-None-clause-row g c = λ guest same memory left told.
    let row = ioctl_row c.args.below.now.kernel.now guest (argument c.args.words.now 0) (argument c.args.words.now 1) (argument c.args.words.now 2) in
    subst (λ (m : Memory). Answers (row left) c.plain.result c.plain.new.below.kernel.now m guest.processor (contents g.I.Source.left g.O.Sink.written g.E.Sink.written c.args.dev.now) (contents g.I.Source.left g.O.Sink.written g.E.Sink.written c.plain.new.dev)) memory
    (c.plain.ensures.row guest row same
    (λ left. ioctl_unlisted guest c.args.below.now.kernel.now left [] (argument c.args.words.now 0) (argument c.args.words.now 1) (argument c.args.words.now 2) (omega arith) (sym c.of_o32.ensures ∙ c.in-None.is)) left told)

pub returns-in-None-clause-kept : goal.returns-in-None-clause-kept
returns-in-None-clause-kept g c = λ guest same memory.
    c.plain.ensures.kept guest (ioctl_row c.args.below.now.kernel.now guest (argument c.args.words.now 0) (argument c.args.words.now 1) (argument c.args.words.now 2)) same
    (λ left. ioctl_unlisted guest c.args.below.now.kernel.now left [] (argument c.args.words.now 0) (argument c.args.words.now 1) (argument c.args.words.now 2) (omega arith) (sym c.of_o32.ensures ∙ c.in-None.is))
