use Rattle.kernel_laws.proofs.OtherKept.{poll_keeps, random_bytes_keeps, select_keeps, set_limit_keeps}
use Rattle.kernel_laws.proofs.WholeKept.{poll_ends, random_bytes_ends, select_ends, set_limit_ends}
use Rattle.kernel_laws.proofs.every_row.another_row_keeps_the_kernel_sound.Goals as goal

pub returns : goal.returns
returns c = record {
  poll = λ kernel wait count entries is. record { always = (poll_keeps kernel is.always wait count entries).kept; ends = (poll_ends kernel is.ends wait count entries).kept };
  select = λ kernel wait count sets is. record { always = (select_keeps kernel is.always wait count sets).kept; ends = (select_ends kernel is.ends wait count sets).kept };
  set_limit = λ kernel pid resource limit is fits. record { always = (set_limit_keeps kernel is.always pid resource limit fits).kept; ends = (set_limit_ends kernel is.ends pid resource limit).kept };
  random_bytes = λ kernel asked room flags is. record { always = (random_bytes_keeps kernel is.always asked room flags).kept; ends = (random_bytes_ends kernel is.ends asked room flags).kept };
}
