use Rattle.std.proofs.Common.{◌≡◌, true, false, rules}
use Rattle.std.specs.Prelude.{◌==◌}
use Rattle.outside.specs.Streams.{contents}
use Rattle.bridge_signal_state.proofs.Moving.{moves_look, moves_none}
use Rattle.bridge_signal.proofs.Asking.{pending_refused, pending_told}
use Rattle.bridge_signal.proofs.telling.told_pending.Goals as goal

pub returns-then-not-is_set_size-clause-acts : goal.returns-then-not-is_set_size-clause-acts
returns-then-not-is_set_size-clause-acts g c = λ left told.
    let other : (c.args.size == 16) ≡ false = search rules in
    (pending_refused c.args.below.now.kernel.now c.args.size other, moves_none c.args.below.now.kernel.now (contents g.I.Source.left g.O.Sink.written g.E.Sink.written c.args.dev.now) left c.args.below.now.log.now)

pub returns-clause-acts : goal.returns-clause-acts
returns-clause-acts g c = λ left told.
    let seen = c.in_ok-set.ensures.looks left told in
    let whole : (c.args.size == 16) ≡ true = search rules in
    (pending_told c.args.below.now.kernel.now c.pending.new.below.kernel.now c.args.size c.in_ok-set.set whole seen.0 seen.1.same, moves_look seen.1)
