-- Each arm makes the row of its number.
use Rattle.std.proofs.Common.{refl, ◌∙◌, ap, rules}
use Rattle.bridge_paths.specs.Found.{found}
use Rattle.outside.specs.Streams.{contents}
use Rattle.bridge_paths.proofs.ByNumber.{by_number}
use Rattle.o32_calls.specs.Numbers.{open_number}
use Rattle.bridge_open.proofs.call.open_call.Goals as goal

pub returns-in-Open-clause-row : goal.returns-in-Open-clause-row
returns-in-Open-clause-row g c = λ left told.
    let guest = found c.args.args.now c.args.cpu.now c.args.space.now in
    let row = by_number 4005 c.args.k.now guest left c.open.result c.open.new.below.kernel.now c.args.space.now c.args.cpu.now (contents g.I.Source.left g.O.Sink.written g.E.Sink.written c.args.dev.now) (contents g.I.Source.left g.O.Sink.written g.E.Sink.written c.open.new.dev) (c.requires ∙ ap open_number c.in-Open.is)
    (c.open.ensures.row guest refl refl left told) in
    search rules

pub returns-in-Creat-clause-row : goal.returns-in-Creat-clause-row
returns-in-Creat-clause-row g c = λ left told.
    let guest = found c.args.args.now c.args.cpu.now c.args.space.now in
    let row = by_number 4008 c.args.k.now guest left c.open-in-Creat.result c.open-in-Creat.new.below.kernel.now c.args.space.now c.args.cpu.now (contents g.I.Source.left g.O.Sink.written g.E.Sink.written c.args.dev.now) (contents g.I.Source.left g.O.Sink.written g.E.Sink.written c.open-in-Creat.new.dev) (c.requires ∙ ap open_number c.in-Creat.is)
    (c.open-in-Creat.ensures.row guest refl refl left told) in
    search rules

pub returns-in-Openat-clause-row : goal.returns-in-Openat-clause-row
returns-in-Openat-clause-row g c = λ left told.
    let guest = found c.args.args.now c.args.cpu.now c.args.space.now in
    let row = by_number 4288 c.args.k.now guest left c.open-in-Openat.result c.open-in-Openat.new.below.kernel.now c.args.space.now c.args.cpu.now (contents g.I.Source.left g.O.Sink.written g.E.Sink.written c.args.dev.now) (contents g.I.Source.left g.O.Sink.written g.E.Sink.written c.open-in-Openat.new.dev) (c.requires ∙ ap open_number c.in-Openat.is)
    (c.open-in-Openat.ensures.row guest refl refl left told) in
    search rules
