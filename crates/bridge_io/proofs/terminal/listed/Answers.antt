-- The row of each request, by what its pointer is for.
use Rattle.std.proofs.Common.{[], subst, sym, ◌∙◌, arith}
use Rattle.guest_space.specs.Memory.{Memory}
use Rattle.o32_model.specs.Answered.{Answers}
use Rattle.o32_model.specs.Terminal.{ioctl_row}
use Rattle.o32_model.specs.Words.{argument}
use Rattle.outside.specs.Streams.{contents}
use Rattle.bridge_io.proofs.TerminalMirrors.{ioctl_stores, ioctl_loads, ioctl_unused}
use Rattle.bridge_io.proofs.terminal.listed.Goals as goal

pub returns-in-Stores-clause-row : goal.returns-in-Stores-clause-row
returns-in-Stores-clause-row g c = λ guest asked same memory named.
    c.show.ensures.row guest (ioctl_row c.args.below.now.kernel.now guest (argument c.args.words.now 0) asked (argument c.args.words.now 2)) same memory
    (λ left. ioctl_stores guest c.args.below.now.kernel.now left (argument c.args.words.now 0) _ asked (argument c.args.words.now 2) c.args.request _ (omega arith) c.to_native-number.ensures (sym c.purpose_of.ensures ∙ c.in-Stores.is) named)

pub returns-in-Stores-clause-kept : goal.returns-in-Stores-clause-kept
returns-in-Stores-clause-kept g c = λ guest asked same memory named.
    c.show.ensures.kept guest (ioctl_row c.args.below.now.kernel.now guest (argument c.args.words.now 0) asked (argument c.args.words.now 2)) same memory
    (λ left. ioctl_stores guest c.args.below.now.kernel.now left (argument c.args.words.now 0) _ asked (argument c.args.words.now 2) c.args.request _ (omega arith) c.to_native-number.ensures (sym c.purpose_of.ensures ∙ c.in-Stores.is) named)

pub returns-in-Loads-clause-row : goal.returns-in-Loads-clause-row
returns-in-Loads-clause-row g c = λ guest asked same memory named.
    c.take.ensures.row guest (ioctl_row c.args.below.now.kernel.now guest (argument c.args.words.now 0) asked (argument c.args.words.now 2)) same memory
    (λ left room place taken. ioctl_loads guest c.args.below.now.kernel.now left room (argument c.args.words.now 0) _ place asked (argument c.args.words.now 2) c.args.request _ (omega arith) c.to_native-number.ensures (sym c.purpose_of.ensures ∙ c.in-Loads.is) named taken)

pub returns-in-Loads-clause-kept : goal.returns-in-Loads-clause-kept
returns-in-Loads-clause-kept g c = λ guest asked same memory named.
    c.take.ensures.kept guest (ioctl_row c.args.below.now.kernel.now guest (argument c.args.words.now 0) asked (argument c.args.words.now 2)) same memory
    (λ left room place taken. ioctl_loads guest c.args.below.now.kernel.now left room (argument c.args.words.now 0) _ place asked (argument c.args.words.now 2) c.args.request _ (omega arith) c.to_native-number.ensures (sym c.purpose_of.ensures ∙ c.in-Loads.is) named taken)

pub returns-in-Unused-clause-row : goal.returns-in-Unused-clause-row
returns-in-Unused-clause-row g c = λ guest asked same memory named left told.
    let row = ioctl_row c.args.below.now.kernel.now guest (argument c.args.words.now 0) asked (argument c.args.words.now 2) in
    subst (λ (m : Memory). Answers (row left) c.plain.result c.plain.new.below.kernel.now m guest.processor (contents g.I.Source.left g.O.Sink.written g.E.Sink.written c.args.dev.now) (contents g.I.Source.left g.O.Sink.written g.E.Sink.written c.plain.new.dev)) memory
    (c.plain.ensures.row guest row same
    (λ left. ioctl_unused guest c.args.below.now.kernel.now left [] (argument c.args.words.now 0) _ asked (argument c.args.words.now 2) c.args.request (omega arith) c.to_native-number.ensures (sym c.purpose_of.ensures ∙ c.in-Unused.is) named) left told)

pub returns-in-Unused-clause-kept : goal.returns-in-Unused-clause-kept
returns-in-Unused-clause-kept g c = λ guest asked same memory named.
    c.plain.ensures.kept guest (ioctl_row c.args.below.now.kernel.now guest (argument c.args.words.now 0) asked (argument c.args.words.now 2)) same
    (λ left. ioctl_unused guest c.args.below.now.kernel.now left [] (argument c.args.words.now 0) _ asked (argument c.args.words.now 2) c.args.request (omega arith) c.to_native-number.ensures (sym c.purpose_of.ensures ∙ c.in-Unused.is) named)
