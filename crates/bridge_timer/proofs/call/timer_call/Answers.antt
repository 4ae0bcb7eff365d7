-- Each arm makes the row of its number.
use Rattle.std.proofs.Common.{refl, rules, ◌∙◌, ap}
use Rattle.o32_model.specs.Answered.{Answers}
use Rattle.o32_model.specs.Table.{machine_call}
use Rattle.outside.specs.Streams.{contents}
use Rattle.bridge_timer.proofs.Calls.{by_number}
use Rattle.bridge_timer.specs.Found.{found}
use Rattle.o32_calls.specs.Numbers.{timer_number}
use Rattle.bridge_timer.proofs.call.timer_call.Goals as goal

pub returns-in-Alarm-clause-row : goal.returns-in-Alarm-clause-row
returns-in-Alarm-clause-row g c = λ left told.
    let guest = found c.args.args.now c.args.cpu.now c.args.space.now in
    let row : Answers (machine_call c.args.seen.now c.args.k.now guest left) c.alarm.result c.alarm.new.below.kernel.now c.args.space.now c.args.cpu.now (contents g.I.Source.left g.O.Sink.written g.E.Sink.written c.args.dev.now) (contents g.I.Source.left g.O.Sink.written g.E.Sink.written c.alarm.new.dev) =
    by_number 4027 c.args.seen.now c.args.k.now guest left c.alarm.result c.alarm.new.below.kernel.now c.args.space.now c.args.cpu.now (contents g.I.Source.left g.O.Sink.written g.E.Sink.written c.args.dev.now) (contents g.I.Source.left g.O.Sink.written g.E.Sink.written c.alarm.new.dev) (c.requires ∙ ap timer_number c.in-Alarm.is)
    (c.alarm.ensures.row guest left told) in search rules

pub returns-in-Setitimer-clause-row : goal.returns-in-Setitimer-clause-row
returns-in-Setitimer-clause-row g c = λ left told.
    let guest = found c.args.args.now c.args.cpu.now c.args.space.now in
    let row = by_number 4104 c.args.seen.now c.args.k.now guest left c.setitimer.result c.setitimer.new.below.kernel.now c.setitimer.new.space c.args.cpu.now (contents g.I.Source.left g.O.Sink.written g.E.Sink.written c.args.dev.now) (contents g.I.Source.left g.O.Sink.written g.E.Sink.written c.setitimer.new.dev) (c.requires ∙ ap timer_number c.in-Setitimer.is)
    (c.setitimer.ensures.row guest refl refl left told) in
    search rules

pub returns-in-Getitimer-clause-row : goal.returns-in-Getitimer-clause-row
returns-in-Getitimer-clause-row g c = λ left told.
    let guest = found c.args.args.now c.args.cpu.now c.args.space.now in
    let row = by_number 4105 c.args.seen.now c.args.k.now guest left c.getitimer.result c.getitimer.new.below.kernel.now c.getitimer.new.space c.args.cpu.now (contents g.I.Source.left g.O.Sink.written g.E.Sink.written c.args.dev.now) (contents g.I.Source.left g.O.Sink.written g.E.Sink.written c.getitimer.new.dev) (c.requires ∙ ap timer_number c.in-Getitimer.is)
    (c.getitimer.ensures.row guest refl left told) in
    search rules
