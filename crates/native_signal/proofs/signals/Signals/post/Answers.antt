use Rattle.std.proofs.Common.{sym, ap, ◌∙◌}
use Rattle.kernel_model.specs.SignalRows.{Posted, posted}
use Rattle.kernel_model.specs.State.{Signals}
use Rattle.native_signal.proofs.LatePost.{post-late, without_opposed}
use Rattle.native_signal.proofs.signals.Signals.post.Goals as goal

pub returns-clause-row : goal.returns-clause-row
returns-clause-row c =
    ap (λ (s : Signals). posted s c.in_ok-post.post) c.remove_opposed.ensures
    ∙ ap (λ (p : Posted). without_opposed c.args.info.sig p) c.in_ok-post.ensures.row
    ∙ sym (post-late c.args.self.now c.args.info c.args.kept)
