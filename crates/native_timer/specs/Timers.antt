-- The interval timer as it is set and as it goes off (setitimer(2), alarm(2)), over the definitions of kernel_model. All times are in
-- nanoseconds of the clock. How a timer goes on after it went off late is this project's own rule.
use Rattle.std.specs.Prelude.{◌≡◌, ℕ, ◌+◌, ◌*◌, ◌<◌, ◌≤◌, ◌==◌, Option, Some, None, unwrap_or, if◌then◌else◌}
use Rattle.kernel_model.specs.Clock.{capped, gone_off, unarmed}
use Rattle.kernel_model.specs.State.{Timer}

-- when a timer that is set at a time of the clock to this length goes off first; a length of 0 disarms it
abbrev pub first_time : ℕ → ℕ → Option ℕ
first_time clock length = if length == 0 then None else Some (clock + length)

-- a timer that goes off first at this time and then each period; where there is no time, it is not armed
abbrev pub armed_at : Option ℕ → ℕ → Timer
armed_at None period = unarmed
armed_at (Some time) period = record { due = Some (capped time); period = capped period }

-- what a timer is after a time of the clock: where it was due then, it has gone off
abbrev pub after_firing : ℕ → Timer → Timer
after_firing clock timer = unwrap_or (gone_off clock timer) timer

-- the first of a time and whole periods after it that is past the clock
pub record IsFirstPast (clock time period next : ℕ) : Type 0 where
  pub whole : (count : ℕ) × (next ≡ time + period * count)
  pub past : clock < next
  pub first : (count : ℕ) → clock < time + period * count → next ≤ time + period * count
