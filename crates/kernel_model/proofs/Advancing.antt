-- The clock's move keeps the kernel.
use Rattle.std.proofs.Common.{◌≡◌, ℕ, ◌+◌, ◌-◌, ◌*◌, ◌/◌, ◌^◌, ◌<◌, Bool, true, false, refl, ap, subst, arith}
use Rattle.std.specs.Prelude.{Option, Some, None, unwrap_or, ◌==◌, if◌then◌else◌}
use Rattle.kernel_model.proofs.Posting.{post_kept}
use Rattle.kernel_model.specs.Always.{IsKernel, IsTimer}
use Rattle.kernel_model.specs.Clock.{capped, gone_off, gone_off_at, is_due, next_due, unarmed}
use Rattle.kernel_model.specs.SignalRows.{advance, after_expiry, timer_info}
use Rattle.kernel_model.specs.State.{Kernel, Timer}

unarmed_is : IsTimer unarmed
unarmed_is = (λ h. refl, omega arith, λ time h. absurd cc)

armed_is : (time period : ℕ) → period < 2 ^ 63 → IsTimer (record { due = Some (capped time); period = period })
armed_is time period small = (λ h. absurd cc, small, λ at h. let same : capped time ≡ at = ap (λ o. unwrap_or o at) h in omega (arith, same))

next_is_timer : (clock time period : ℕ) → period < 2 ^ 63 → IsTimer (next_due clock time period)
next_is_timer clock time period small = by (period == 0) where
  by : (b : Bool) → IsTimer (if b then unarmed else record { due = Some (capped (time + period * ((clock - time) / period + 1))); period = period })
  by true = unarmed_is
  by false = armed_is _ period small

gone_off_is : (clock period : ℕ) (due : Option ℕ) (timer : Timer) → period < 2 ^ 63 → gone_off_at clock period due ≡ Some timer → IsTimer timer
gone_off_is clock period None timer small e = absurd cc
gone_off_is clock period (Some time) timer small e = by (is_due clock time) e where
  by : (d : Bool) → (if d then Some (next_due clock time period) else None) ≡ Some timer → IsTimer timer
  by true h = subst (λ t. IsTimer t) (ap (λ o. unwrap_or o timer) h) (next_is_timer clock time period small)
  by false h = absurd cc

pub advance_kept : (kernel : Kernel) (to : ℕ) (kept : Bool) → IsKernel kernel → IsKernel (advance kernel to kept)
unfolding advance
advance_kept kernel to kept is = by (gone_off to kernel.timer) refl where
  by : (gone : Option Timer) → gone_off to kernel.timer ≡ gone → IsKernel (after_expiry (record kernel { clock = to }) kept gone)
  by None e = record { files = is.files; timer = is.timer; signals = is.signals; limits = is.limits; each_limit = is.each_limit; nofile = is.nofile; chance = is.chance; chance_bytes = is.chance_bytes }
  by (Some timer) e = record {
    files = is.files;
    timer = gone_off_is to kernel.timer.period kernel.timer.due timer is.timer.1 e;
    signals = post_kept kernel.signals timer_info kept is.signals;
    limits = is.limits;
    each_limit = is.each_limit;
    nofile = is.nofile;
    chance = is.chance;
    chance_bytes = is.chance_bytes;
  }
