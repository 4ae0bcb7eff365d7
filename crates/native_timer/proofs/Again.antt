-- A timer that is fired twice.
use Rattle.std.proofs.Common.{◌≡◌, ℕ, ◌^◌, ◌≤◌, ◌⊎◌, inl, inr, refl, sym, ◌∙◌, ap}
use Rattle.std.specs.Prelude.{Option, Some, None, unwrap_or}
use Rattle.kernel_model.proofs.Expiry.{gone_off_twice}
use Rattle.kernel_model.specs.Clock.{gone_off}
use Rattle.kernel_model.specs.State.{Timer}
use Rattle.native_timer.specs.Timers.{after_firing}

-- where it is not due, it stays as it is
after_firing-none : (clock : ℕ) (timer : Timer) → gone_off clock timer ≡ None → after_firing clock timer ≡ timer
after_firing-none clock timer e = ap (λ gone. unwrap_or gone timer) e

pub after_firing-after_firing : (first second : ℕ) (timer : Timer) → first ≤ second → (second ≤ 2 ^ 61) ⊎ (gone_off first timer ≡ None)
    → after_firing second (after_firing first timer) ≡ after_firing second timer
after_firing-after_firing first second timer later premise = by (gone_off first timer) refl premise where
  not_due : gone_off first timer ≡ None → after_firing second (after_firing first timer) ≡ after_firing second timer
  not_due e = ap (λ t. after_firing second t) (after_firing-none first timer e)

  by : (gone : Option Timer) → gone_off first timer ≡ gone → (second ≤ 2 ^ 61) ⊎ (gone_off first timer ≡ None)
      → after_firing second (after_firing first timer) ≡ after_firing second timer
  by None e _ = not_due e
  by (Some next) e (inr none) = not_due none
  by (Some next) e (inl early) =
      ap (λ gone. after_firing second (unwrap_or gone timer)) e
      ∙ sym (ap (λ gone. unwrap_or gone timer) (gone_off_twice first second later early timer.period timer.due next e))
