use Rattle.kernel_laws.proofs.Posts.{dropped_why, queued_pends}
use Rattle.kernel_laws.proofs.sending.a_post_tells_what_became_of_the_signal.Goals as goal

pub returns : goal.returns
returns c = record {
  queued = λ signals info kept is e. queued_pends signals is.pending info kept e;
  dropped = λ signals info kept is e. dropped_why signals is.pending info kept e;
}
