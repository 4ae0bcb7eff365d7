-- The call by what it asks for.
use Rattle.std.proofs.Common.{sym, subst, Ok, Err, OnOk, rules}
use Rattle.o32_model.specs.Answered as o32
use Rattle.o32_model.specs.Step.{O32Step, failure}
use Rattle.o32_model.specs.Table.{machine_call}
use Rattle.outside.specs.Streams.{contents}
use Rattle.bridge_limits.proofs.Endings.{ends_called, ends_quietly}
use Rattle.bridge_limits.specs.Passed.{Keeps}
use Rattle.bridge_limits.proofs.Moving.{moves_none}
use Rattle.bridge_select.specs.Found.{found}
use Rattle.bridge_select.specs.inside.Requests.{requested}
use Rattle.bridge_select.proofs.Rows.{called_row}
use Rattle.bridge_select.proofs.call.select_call.Goals as goal

pub returns-in-Err-clause-row : goal.returns-in-Err-clause-row
returns-in-Err-clause-row g c = λ left told.
    let kernel = c.args.k.now in
    let guest = found c.args.args.now c.args.cpu.now c.args.space.now in
    let at = contents g.I.Source.left g.O.Sink.written g.E.Sink.written c.args.dev.now in
    let row = ends_called guest (failure c.in-Err.error) c.args.space.now (machine_call c.args.seen.now kernel guest left) (moves_none kernel at left c.args.log.now) told
    (called_row c.args.call c.args.seen.now kernel guest left (Err c.in-Err.error) c.requires c.in-Err.ensures) in
    search rules

pub returns-in-Err-clause-kept : goal.returns-in-Err-clause-kept
returns-in-Err-clause-kept g c = λ left told.
    let kernel = c.args.k.now in
    let guest = found c.args.args.now c.args.cpu.now c.args.space.now in
    let at = contents g.I.Source.left g.O.Sink.written g.E.Sink.written c.args.dev.now in
    let row = ends_quietly guest (failure c.in-Err.error) (machine_call c.args.seen.now kernel guest left) (moves_none kernel at left c.args.log.now)
    (called_row c.args.call c.args.seen.now kernel guest left (Err c.in-Err.error) c.requires c.in-Err.ensures) in
    search rules

pub returns-in-Ok-clause-row : goal.returns-in-Ok-clause-row
returns-in-Ok-clause-row g c = λ left told.
    let kernel = c.args.k.now in
    let guest = found c.args.args.now c.args.cpu.now c.args.space.now in
    let row = subst (λ (step : O32Step). o32.Answers step c.select.result c.select.new.below.kernel.now c.select.new.space c.args.cpu.now
    (contents g.I.Source.left g.O.Sink.written g.E.Sink.written c.args.dev.now) (contents g.I.Source.left g.O.Sink.written g.E.Sink.written c.select.new.dev))
    (sym (called_row c.args.call c.args.seen.now kernel guest left (Ok (requested c.in-Ok.request)) c.requires c.in-Ok.ensures))
    (c.select.ensures.row c.args.cpu.now left told) in
    search rules

pub returns-in-Ok-clause-kept : goal.returns-in-Ok-clause-kept
returns-in-Ok-clause-kept g c = λ left told.
    let kernel = c.args.k.now in
    let guest = found c.args.args.now c.args.cpu.now c.args.space.now in
    let row = subst (λ (step : O32Step). OnOk c.select.result (Keeps step kernel left guest c.args.log.now c.select.new.below.log.now))
    (sym (called_row c.args.call c.args.seen.now kernel guest left (Ok (requested c.in-Ok.request)) c.requires c.in-Ok.ensures))
    (c.select.ensures.kept c.args.cpu.now left told) in
    search rules
