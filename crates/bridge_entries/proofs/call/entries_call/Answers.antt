-- Each arm makes the row of its number.
use Rattle.std.proofs.Common.{refl, ◌∙◌, ap, rules}
use Rattle.bridge_entries.specs.Found.{found}
use Rattle.outside.specs.Streams.{contents}
use Rattle.bridge_entries.proofs.ByNumber.{by_number, by_number_kept}
use Rattle.o32_calls.specs.Numbers.{entries_number}
use Rattle.bridge_entries.proofs.call.entries_call.Goals as goal

pub returns-in-Getdents-clause-row : goal.returns-in-Getdents-clause-row
returns-in-Getdents-clause-row g c = λ left told.
    let guest = found c.args.args.now c.args.cpu.now c.args.space.now in
    let row = by_number 4141 c.args.k.now guest left c.getdents.result c.getdents.new.below.kernel.now c.getdents.new.space c.args.cpu.now (contents g.I.Source.left g.O.Sink.written g.E.Sink.written c.args.dev.now) (contents g.I.Source.left g.O.Sink.written g.E.Sink.written c.getdents.new.dev) (c.requires ∙ ap entries_number c.in-Getdents.is)
    (c.getdents.ensures.row guest refl refl left told) in
    search rules

pub returns-in-Getdents-clause-kept : goal.returns-in-Getdents-clause-kept
returns-in-Getdents-clause-kept g c = λ left told.
    let guest = found c.args.args.now c.args.cpu.now c.args.space.now in
    let row = by_number_kept 4141 c.args.k.now guest left c.getdents.result c.args.log.now c.getdents.new.below.log.now (c.requires ∙ ap entries_number c.in-Getdents.is) (c.getdents.ensures.kept guest refl refl left told) in
    search rules

pub returns-in-Getdents64-clause-row : goal.returns-in-Getdents64-clause-row
returns-in-Getdents64-clause-row g c = λ left told.
    let guest = found c.args.args.now c.args.cpu.now c.args.space.now in
    let row = by_number 4219 c.args.k.now guest left c.getdents64.result c.getdents64.new.below.kernel.now c.getdents64.new.space c.args.cpu.now (contents g.I.Source.left g.O.Sink.written g.E.Sink.written c.args.dev.now) (contents g.I.Source.left g.O.Sink.written g.E.Sink.written c.getdents64.new.dev) (c.requires ∙ ap entries_number c.in-Getdents64.is)
    (c.getdents64.ensures.row guest refl refl left told) in
    search rules

pub returns-in-Getdents64-clause-kept : goal.returns-in-Getdents64-clause-kept
returns-in-Getdents64-clause-kept g c = λ left told.
    let guest = found c.args.args.now c.args.cpu.now c.args.space.now in
    let row = by_number_kept 4219 c.args.k.now guest left c.getdents64.result c.args.log.now c.getdents64.new.below.log.now (c.requires ∙ ap entries_number c.in-Getdents64.is) (c.getdents64.ensures.kept guest refl refl left told) in
    search rules
