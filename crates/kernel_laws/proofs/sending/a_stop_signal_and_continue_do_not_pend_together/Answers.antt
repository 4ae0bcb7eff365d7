use Rattle.kernel_laws.proofs.Posts.{continue_removes_stops, stop_removes_continue}
use Rattle.kernel_laws.proofs.sending.a_stop_signal_and_continue_do_not_pend_together.Goals as goal

pub returns : goal.returns
returns c = record {
  stop = λ signals info kept is e. stop_removes_continue signals is.pending info kept e;
  continued = λ signals info kept is e other stop. continue_removes_stops signals is.pending info kept e other stop;
}
