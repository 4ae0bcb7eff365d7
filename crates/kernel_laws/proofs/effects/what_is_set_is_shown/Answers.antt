use Rattle.kernel_laws.proofs.Shown.{shows_cloexec, shows_limit, shows_position, shows_umask}
use Rattle.kernel_laws.proofs.Undone.{shows_flags}
use Rattle.kernel_laws.proofs.effects.what_is_set_is_shown.Goals as goal

pub returns : goal.returns
returns c = record {
  status_flags = λ files fd description open_as append nonblock. shows_flags files fd description open_as append nonblock;
  close_on_exec = shows_cloexec;
  position = shows_position;
  umask = shows_umask;
  limit = λ kernel is resource limit pid old e. shows_limit kernel is resource limit pid old e;
}
