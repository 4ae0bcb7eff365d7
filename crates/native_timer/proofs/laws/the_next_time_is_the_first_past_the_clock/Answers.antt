use Rattle.native_timer.proofs.FirstPast.{next_is_first_past}
use Rattle.native_timer.proofs.laws.the_next_time_is_the_first_past_the_clock.Goals as goal

pub returns-clause-period : goal.returns-clause-period
returns-clause-period c = λ clock time period came early some. next_is_first_past clock time period came some early
