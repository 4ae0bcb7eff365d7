-- Each arm makes the row of its number.
use Rattle.std.proofs.Common.{refl, ◌∙◌, ap, rules}
use Rattle.outside.specs.Streams.{contents}
use Rattle.bridge_system.proofs.PlainCalls.{by_number}
use Rattle.bridge_system.specs.Found.{found}
use Rattle.o32_calls.specs.Numbers.{system_number}
use Rattle.bridge_system.proofs.small.system_call.Goals as goal

pub returns-in-Getrlimit-clause-row : goal.returns-in-Getrlimit-clause-row
returns-in-Getrlimit-clause-row g c = λ left told.
    let guest = found c.args.args.now c.args.cpu.now c.args.space.now in
    let row = by_number 4076 c.args.k.now guest left c.getrlimit.result c.getrlimit.new.below.kernel.now c.getrlimit.new.space c.args.cpu.now (contents g.I.Source.left g.O.Sink.written g.E.Sink.written c.args.dev.now) (contents g.I.Source.left g.O.Sink.written g.E.Sink.written c.getrlimit.new.dev) (c.requires ∙ ap system_number c.in-Getrlimit.is)
    (c.getrlimit.ensures.row guest refl refl left told) in
    search rules

pub returns-in-Uname-clause-row : goal.returns-in-Uname-clause-row
returns-in-Uname-clause-row g c = λ left told.
    let guest = found c.args.args.now c.args.cpu.now c.args.space.now in
    let row = by_number 4122 c.args.k.now guest left c.uname.result c.uname.new.below.kernel.now c.uname.new.space c.args.cpu.now (contents g.I.Source.left g.O.Sink.written g.E.Sink.written c.args.dev.now) (contents g.I.Source.left g.O.Sink.written g.E.Sink.written c.uname.new.dev) (c.requires ∙ ap system_number c.in-Uname.is)
    (c.uname.ensures.row guest refl refl left told) in
    search rules

pub returns-in-Prlimit64-clause-row : goal.returns-in-Prlimit64-clause-row
returns-in-Prlimit64-clause-row g c = λ left told.
    let guest = found c.args.args.now c.args.cpu.now c.args.space.now in
    let row = by_number 4338 c.args.k.now guest left c.prlimit.result c.prlimit.new.below.kernel.now c.prlimit.new.space c.args.cpu.now (contents g.I.Source.left g.O.Sink.written g.E.Sink.written c.args.dev.now) (contents g.I.Source.left g.O.Sink.written g.E.Sink.written c.prlimit.new.dev) (c.requires ∙ ap system_number c.in-Prlimit64.is)
    (c.prlimit.ensures.row guest refl refl left told) in
    search rules

pub returns-in-Getrandom-clause-row : goal.returns-in-Getrandom-clause-row
returns-in-Getrandom-clause-row g c = λ left told.
    let guest = found c.args.args.now c.args.cpu.now c.args.space.now in
    let row = by_number 4353 c.args.k.now guest left c.getrandom.result c.getrandom.new.below.kernel.now c.getrandom.new.space c.args.cpu.now (contents g.I.Source.left g.O.Sink.written g.E.Sink.written c.args.dev.now) (contents g.I.Source.left g.O.Sink.written g.E.Sink.written c.getrandom.new.dev) (c.requires ∙ ap system_number c.in-Getrandom.is)
    (c.getrandom.ensures.row guest refl refl left told) in
    search rules
