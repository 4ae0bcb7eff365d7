-- What was accepted is told as the row says.
use Rattle.std.proofs.Common.{rules}
use Rattle.o32_model.specs.Table.{machine_call}
use Rattle.outside.specs.Streams.{contents}
use Rattle.bridge_acceptance.proofs.Closed.{ends_called, ends_keeps}
use Rattle.bridge_acceptance.proofs.Rows.{called_row}
use Rattle.bridge_acceptance.specs.Found.{found}
use Rattle.bridge_signal_state.proofs.Passed.{stopped_row}
use Rattle.bridge_acceptance.proofs.call.acceptance_call.Goals as goal

pub returns-clause-row : goal.returns-clause-row
returns-clause-row g c = λ left told.
    let guest = found c.args.args.now c.args.cpu.now c.args.space.now in
    let seen = c.in_ok-came.ensures.acts left told in
    let row = ends_called guest c.outcome_of.result c.tell.new.space c.in_ok-told.told (machine_call c.args.seen.now c.args.k.now guest left) seen.1 told
    (called_row c.args.seen.now c.args.k.now c.accept.new.below.kernel.now guest c.tell.new.space left c.in_ok-came.came c.in_ok-told.told c.requires seen.0 c.in_ok-told.ensures.ends)
    c.outcome_of.ensures in
    search rules

pub returns-clause-kept : goal.returns-clause-kept
returns-clause-kept g c = λ left told.
    let guest = found c.args.args.now c.args.cpu.now c.args.space.now in
    let seen = c.in_ok-came.ensures.acts left told in
    let row = ends_keeps guest c.tell.new.space c.in_ok-told.told (machine_call c.args.seen.now c.args.k.now guest left) c.tell.new.log seen.1
    (called_row c.args.seen.now c.args.k.now c.accept.new.below.kernel.now guest c.tell.new.space left c.in_ok-came.came c.in_ok-told.told c.requires seen.0 c.in_ok-told.ensures.ends)
    c.tell.ensures.native c.in_ok-told.ensures.effects in
    search rules

pub returns-in_err-came-clause-row : goal.returns-in_err-came-clause-row
returns-in_err-came-clause-row g c = λ left told.
    let guest = found c.args.args.now c.args.cpu.now c.args.space.now in
    let row = stopped_row (machine_call c.args.seen.now c.args.k.now guest left) c.from_residual.result c.accept.new.below.kernel.now c.args.space.now c.args.cpu.now
    (contents g.I.Source.left g.O.Sink.written g.E.Sink.written c.args.dev.now) (contents g.I.Source.left g.O.Sink.written g.E.Sink.written c.accept.new.dev) c.from_residual.ensures.0 (c.in_err-came.ensures.acts left told) in
    search rules

pub returns-in_err-told-clause-row : goal.returns-in_err-told-clause-row
returns-in_err-told-clause-row g c = λ left told.
    let guest = found c.args.args.now c.args.cpu.now c.args.space.now in
    let seen = c.in_ok-came.ensures.acts left told in
    let row = stopped_row (machine_call c.args.seen.now c.args.k.now guest left) c.from_residual-in_err-told.result c.accept.new.below.kernel.now c.tell.new.space c.args.cpu.now
    (contents g.I.Source.left g.O.Sink.written g.E.Sink.written c.args.dev.now) (contents g.I.Source.left g.O.Sink.written g.E.Sink.written c.accept.new.dev) c.from_residual-in_err-told.ensures.0 seen.1.rest in
    search rules
