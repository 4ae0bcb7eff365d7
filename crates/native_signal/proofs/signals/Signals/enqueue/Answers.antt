use Rattle.native_signal.proofs.Soundness.{push_sound}
use Rattle.native_signal.proofs.signals.Signals.enqueue.Goals as goal

pub invariant_of-self-2 : goal.invariant_of-self-2
invariant_of-self-2 c =
    let inside = c.self.inside in (
      c.self.invariant.0,
      push_sound inside.actions.items inside.pending c.push.new.self inside.mask inside.stack c.place_of-place.result c.self.invariant.1 c.args.info c.requires.can_pend c.in_ok-push.ensures.ok,
    )
