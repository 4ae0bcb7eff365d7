-- The interval timer over two advances of the clock.
use Rattle.std.proofs.Common.{◌≡◌, ℕ, zero, suc, ◌+◌, ◌-◌, ◌*◌, ◌/◌, ◌^◌, ◌<◌, ◌≤◌, Bool, true, false, ◌&&◌, refl, sym, ◌∙◌, ap, subst, arith}
use Rattle.std.specs.Prelude.{Option, Some, None, unwrap_or, ◌==◌, nat_le, if◌then◌else◌}
use Rattle.std.proofs.Math.Nat.{add-mul-div_left, div-mul-le_self, mul-add, mul_comm}
use Rattle.std.proofs.lemmas.Nat.{div-mul-add}
use Rattle.std.proofs.lemmas.Bool.{leb-true, leb-false, le-leb}
use Rattle.kernel_model.specs.Clock.{is_due, comes, capped, next_due, gone_off, gone_off_at, unarmed}
use Rattle.kernel_model.specs.State.{Timer}

-- the first of a time and whole periods that is past the clock
turn : ℕ → ℕ → ℕ → ℕ
turn clock time period = time + period * ((clock - time) / period + 1)

module _ (first second time period : ℕ) (some : 0 < period) (came : time ≤ first) (later : first ≤ second) where
  same_quotient : (q : ℕ) → q * period ≤ first - time → second - time < q * period + period → (second - time) / period ≡ q
  same_quotient q low high =
      let rest : second - time ≡ q * period + (second - time - q * period) = omega (arith, low, came, later) in
      ap (λ n. n / period) rest ∙ div-mul-add q period (second - time - q * period) (omega (arith, high, low, came, later))

  -- no turn lies between
  turn_stays : second < turn first time period → turn second time period ≡ turn first time period
  unfolding turn
  turn_stays before =
      let q = (first - time) / period in
      ap (λ n. time + period * (n + 1)) (same_quotient q (div-mul-le_self (first - time) period) (omega (arith, before, came, later, mul-add period q 1, mul_comm period q)))

  -- a turn lies between, and the later one is reached from it
  turn_follows : turn first time period ≤ second → turn second (turn first time period) period ≡ turn second time period
  unfolding turn
  turn_follows reached =
      let more = (first - time) / period + 1 in
      let from = time + period * more in
      let apart : second - time ≡ (second - from) + period * more = omega (arith, reached) in
      let quotient : (second - time) / period ≡ (second - from) / period + more = ap (λ n. n / period) apart ∙ add-mul-div_left (second - from) more some in
      let sum : (a : ℕ) → from + period * (a + 1) ≡ time + period * (a + more + 1) = λ a. omega (arith, mul-add period a 1, mul-add period (a + more) 1, mul-add period a more) in
      sum ((second - from) / period) ∙ ap (λ n. time + period * (n + 1)) (sym quotient)

-- what it says that a time is due

due_facts : (clock time : ℕ) → is_due clock time ≡ true → (time ≤ clock) × (time ≤ 2 ^ 61)
due_facts clock time due = both (nat_le time clock) (nat_le time (2 ^ 61)) refl refl due where
  both : (a b : Bool) → nat_le time clock ≡ a → nat_le time (2 ^ 61) ≡ b → (a && b) ≡ true → (time ≤ clock) × (time ≤ 2 ^ 61)
  both true true p q h = (leb-true time clock p, leb-true time (2 ^ 61) q)
  both true false p q h = absurd cc
  both false b p q h = absurd cc

due_from : (clock time : ℕ) → time ≤ clock → time ≤ 2 ^ 61 → is_due clock time ≡ true
due_from clock time came comes = rw (le-leb time clock came) (le-leb time (2 ^ 61) comes)

not_yet : (clock time : ℕ) → clock ≤ 2 ^ 61 → is_due clock time ≡ false → clock < time
not_yet clock time early none = by (nat_le time clock) refl where
  by : (a : Bool) → nat_le time clock ≡ a → clock < time
  by false p = leb-false time clock p
  by true p =
      let le : time ≤ clock = leb-true time clock p in
      let due : is_due clock time ≡ true = due_from clock time le (omega (arith, le, early)) in
      absurd (let wrong : true ≡ false = sym due ∙ none in cc)

positive : (n : ℕ) → (n == 0) ≡ false → 0 < n
positive zero e = absurd cc
positive (suc n) e = omega arith

armed_at : ℕ → ℕ → Timer
armed_at time period = record { due = Some (capped time); period = period }

-- a time that came is not capped
uncapped : (time : ℕ) → capped time ≤ 2 ^ 61 → capped time ≡ time
uncapped time h = omega (arith, h)

next_is : (clock time period : ℕ) → (period == 0) ≡ false → next_due clock time period ≡ armed_at (turn clock time period) period
unfolding turn armed_at
next_is clock time period e = ap (λ b. if b then unarmed else record { due = Some (capped (time + period * ((clock - time) / period + 1))); period = period }) e

module _ (first second : ℕ) (later : first ≤ second) (early : second ≤ 2 ^ 61) where
  -- a timer with a period that went off, at the later time
  again_armed : (time period : ℕ) → (period == 0) ≡ false → time ≤ first
      → unwrap_or (gone_off second (armed_at (turn first time period) period)) (armed_at (turn first time period) period)
      ≡ armed_at (turn second time period) period
  unfolding armed_at
  again_armed time period e came = by (is_due second (capped (turn first time period))) refl where
    by : (d : Bool) → is_due second (capped (turn first time period)) ≡ d
        → unwrap_or (gone_off second (armed_at (turn first time period) period)) (armed_at (turn first time period) period)
        ≡ armed_at (turn second time period) period
    by true due =
        let facts = due_facts second (capped (turn first time period)) due in
        let same : capped (turn first time period) ≡ turn first time period = uncapped (turn first time period) facts.1 in
        let went : gone_off second (armed_at (turn first time period) period) ≡ Some (next_due second (capped (turn first time period)) period)
        = ap (λ b. if b then Some (next_due second (capped (turn first time period)) period) else None) due in
        ap (λ o. unwrap_or o (armed_at (turn first time period) period)) went
        ∙ next_is second (capped (turn first time period)) period e
        ∙ ap (λ n. armed_at (turn second n period) period) same
        ∙ ap (λ n. armed_at n period) (turn_follows first second time period (positive period e) came later (subst (λ n. n ≤ second) same facts.0))
    by false none =
        let before : second < turn first time period = omega (arith, not_yet second (capped (turn first time period)) early none) in
        let went : gone_off second (armed_at (turn first time period) period) ≡ None
        = ap (λ b. if b then Some (next_due second (capped (turn first time period)) period) else None) none in
        ap (λ o. unwrap_or o (armed_at (turn first time period) period)) went
        ∙ ap (λ n. armed_at n period) (sym (turn_stays first second time period (positive period e) came later before))

  again : (time period : ℕ) → time ≤ first
      → unwrap_or (gone_off second (next_due first time period)) (next_due first time period) ≡ next_due second time period
  again time period came = by (period == 0) refl where
    by : (b : Bool) → (period == 0) ≡ b
        → unwrap_or (gone_off second (next_due first time period)) (next_due first time period) ≡ next_due second time period
    by true e =
        let none : (clock : ℕ) → next_due clock time period ≡ unarmed
        = λ clock. ap (λ b. if b then unarmed else record { due = Some (capped (time + period * ((clock - time) / period + 1))); period = period }) e in
        ap (λ t. unwrap_or (gone_off second t) t) (none first) ∙ sym (none second)
    by false e =
        ap (λ t. unwrap_or (gone_off second t) t) (next_is first time period e)
        ∙ again_armed time period e came
        ∙ sym (next_is second time period e)

  -- A timer that went off at the first time went off at the second too, and to where the second one finds it.
  pub gone_off_twice : (period : ℕ) (due : Option ℕ) (timer : Timer) → gone_off_at first period due ≡ Some timer
      → gone_off_at second period due ≡ Some (unwrap_or (gone_off second timer) timer)
  gone_off_twice period None timer e = absurd cc
  gone_off_twice period (Some time) timer e = by (is_due first time) refl e where
    by : (d : Bool) → is_due first time ≡ d → (if d then Some (next_due first time period) else None) ≡ Some timer
        → gone_off_at second period (Some time) ≡ Some (unwrap_or (gone_off second timer) timer)
    by false none h = absurd cc
    by true due h =
        let facts = due_facts first time due in
        let is : next_due first time period ≡ timer = ap (λ o. unwrap_or o (next_due first time period)) h in
        ap (λ b. if b then Some (next_due second time period) else None) (due_from second time (omega (arith, facts.0, later)) facts.1)
        ∙ ap (λ t. Some t) (sym (again time period facts.0) ∙ ap (λ t. unwrap_or (gone_off second t) t) is)
