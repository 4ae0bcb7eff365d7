-- The interval timer as the clock moves.
use Rattle.std.proofs.Common.{◌≡◌, Bool, true, false, Option, Some, None, is_some, unwrap_or, ap, ◌∙◌}
use Rattle.kernel_model.specs.SignalRows.{after_expiry, post, timer_info}
use Rattle.kernel_model.specs.State.{Kernel, Signals, Timer}

-- it was due
pub expired : (kernel : Kernel) (kept : Bool) (gone : Option Timer) (timer : Timer) (signals : Signals) → is_some gone ≡ true
    → timer ≡ unwrap_or gone kernel.timer → signals ≡ (post kernel.signals timer_info kept).signals
    → record kernel { timer = timer; signals = signals } ≡ after_expiry kernel kept gone
expired kernel kept None timer signals due fired posted = cc
expired kernel kept (Some next) timer signals due fired posted =
    ap (λ (t : Timer). record kernel { timer = t; signals = signals }) fired ∙ ap (λ (s : Signals). record kernel { timer = next; signals = s }) posted

-- it was not
pub not_expired : (kernel : Kernel) (kept : Bool) (gone : Option Timer) (timer : Timer) → is_some gone ≡ false
    → timer ≡ unwrap_or gone kernel.timer → record kernel { timer = timer } ≡ after_expiry kernel kept gone
not_expired kernel kept None timer due fired = ap (λ (t : Timer). record kernel { timer = t }) fired
not_expired kernel kept (Some next) timer due fired = cc

pub ruleset expiry = (expired, not_expired)
