-- Each arm makes the row of its number.
use Rattle.std.proofs.Common.{refl, ◌∙◌, ap, rules}
use Rattle.outside.specs.Streams.{contents}
use Rattle.bridge_wait.proofs.Calls.{by_number}
use Rattle.bridge_wait.specs.Found.{found}
use Rattle.o32_calls.specs.Numbers.{time_number}
use Rattle.bridge_wait.proofs.call.wait_call.Goals as goal

pub returns-in-Time-clause-row : goal.returns-in-Time-clause-row
returns-in-Time-clause-row g c = λ left told.
    let guest = found c.args.args.now c.args.cpu.now c.args.space.now in
    let row = by_number 4013 c.args.seen.now c.args.k.now guest left c.time.result c.time.new.below.kernel.now c.time.new.space c.args.cpu.now (contents g.I.Source.left g.O.Sink.written g.E.Sink.written c.args.dev.now) (contents g.I.Source.left g.O.Sink.written g.E.Sink.written c.time.new.dev) (c.requires ∙ ap time_number c.in-Time.is)
    (c.time.ensures.row guest refl left told) in
    search rules

pub returns-in-Gettimeofday-clause-row : goal.returns-in-Gettimeofday-clause-row
returns-in-Gettimeofday-clause-row g c = λ left told.
    let guest = found c.args.args.now c.args.cpu.now c.args.space.now in
    let row = by_number 4078 c.args.seen.now c.args.k.now guest left c.gettimeofday.result c.gettimeofday.new.below.kernel.now c.gettimeofday.new.space c.args.cpu.now (contents g.I.Source.left g.O.Sink.written g.E.Sink.written c.args.dev.now) (contents g.I.Source.left g.O.Sink.written g.E.Sink.written c.gettimeofday.new.dev) (c.requires ∙ ap time_number c.in-Gettimeofday.is)
    (c.gettimeofday.ensures.row guest refl left told) in
    search rules

pub returns-in-Nanosleep-clause-row : goal.returns-in-Nanosleep-clause-row
returns-in-Nanosleep-clause-row g c = λ left told.
    let guest = found c.args.args.now c.args.cpu.now c.args.space.now in
    let row = by_number 4166 c.args.seen.now c.args.k.now guest left c.nanosleep.result c.nanosleep.new.below.kernel.now c.args.space.now c.args.cpu.now (contents g.I.Source.left g.O.Sink.written g.E.Sink.written c.args.dev.now) (contents g.I.Source.left g.O.Sink.written g.E.Sink.written c.nanosleep.new.dev) (c.requires ∙ ap time_number c.in-Nanosleep.is)
    (c.nanosleep.ensures.row guest refl refl left told) in
    search rules

pub returns-in-ClockGettime-clause-row : goal.returns-in-ClockGettime-clause-row
returns-in-ClockGettime-clause-row g c = λ left told.
    let guest = found c.args.args.now c.args.cpu.now c.args.space.now in
    let row = by_number 4263 c.args.seen.now c.args.k.now guest left c.clock_gettime.result c.clock_gettime.new.below.kernel.now c.clock_gettime.new.space c.args.cpu.now (contents g.I.Source.left g.O.Sink.written g.E.Sink.written c.args.dev.now) (contents g.I.Source.left g.O.Sink.written g.E.Sink.written c.clock_gettime.new.dev) (c.requires ∙ ap time_number c.in-ClockGettime.is)
    (c.clock_gettime.ensures.row guest refl left told) in
    search rules

pub returns-in-ClockGetres-clause-row : goal.returns-in-ClockGetres-clause-row
returns-in-ClockGetres-clause-row g c = λ left told.
    let guest = found c.args.args.now c.args.cpu.now c.args.space.now in
    let row = by_number 4264 c.args.seen.now c.args.k.now guest left c.clock_getres.result c.clock_getres.new.below.kernel.now c.clock_getres.new.space c.args.cpu.now (contents g.I.Source.left g.O.Sink.written g.E.Sink.written c.args.dev.now) (contents g.I.Source.left g.O.Sink.written g.E.Sink.written c.clock_getres.new.dev) (c.requires ∙ ap time_number c.in-ClockGetres.is)
    (c.clock_getres.ensures.row guest refl left told) in
    search rules

pub returns-in-ClockNanosleep-clause-row : goal.returns-in-ClockNanosleep-clause-row
returns-in-ClockNanosleep-clause-row g c = λ left told.
    let guest = found c.args.args.now c.args.cpu.now c.args.space.now in
    let row = by_number 4265 c.args.seen.now c.args.k.now guest left c.clock_nanosleep.result c.clock_nanosleep.new.below.kernel.now c.args.space.now c.args.cpu.now (contents g.I.Source.left g.O.Sink.written g.E.Sink.written c.args.dev.now) (contents g.I.Source.left g.O.Sink.written g.E.Sink.written c.clock_nanosleep.new.dev) (c.requires ∙ ap time_number c.in-ClockNanosleep.is)
    (c.clock_nanosleep.ensures.row guest refl refl left told) in
    search rules
