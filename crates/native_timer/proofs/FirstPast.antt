-- The first of a time and whole periods after it that is past the clock.
use Rattle.std.proofs.Common.{◌≡◌, ℕ, ◌+◌, ◌-◌, ◌*◌, ◌/◌, ◌^◌, ◌<◌, ◌≤◌, refl, arith}
use Rattle.std.specs.Prelude.{Some, true}
use Rattle.std.proofs.Math.Nat.{div-add-mod, lt_of_mul-lt-mul_left, mul-le-mul_left}
use Rattle.std.proofs.lemmas.Bool.{le-leb}
use Rattle.kernel_model.specs.Clock.{capped, gone_off, is_due}
use Rattle.native_timer.specs.Timers.{IsFirstPast}

module _ (clock time period : ℕ) (came : time ≤ clock) (some : 0 < period) where
  -- that time, by as many periods as have gone by and one more
  first_past : ℕ
  first_past = time + period * ((clock - time) / period + 1)

  is_first_past : IsFirstPast clock time period first_past
  unfolding first_past
  is_first_past =
      let gone = (clock - time) / period in
      let one_more : period * (gone + 1) ≡ period * gone + period = omega arith in
      record {
        whole = (gone + 1, refl);
        past = omega (arith, one_more, div-add-mod (clock - time) period);
        first = λ count later.
            let more : gone < count = lt_of_mul-lt-mul_left period (omega (arith, later, div-add-mod (clock - time) period)) in
            omega (arith, mul-le-mul_left {m = gone + 1} {n = count} period (omega (arith, more)));
      }

  pub next_is_first_past : time ≤ 2 ^ 61
      → (next : ℕ) × IsFirstPast clock time period next
      × (gone_off clock (record { due = Some time; period = period }) ≡ Some (record { due = Some (capped next); period = period }))
  unfolding first_past
  next_is_first_past early =
      let due : is_due clock time ≡ true = rw (le-leb time clock came) (le-leb time (2 ^ 61) early) in
      (first_past, is_first_past, grind (arith, due))
