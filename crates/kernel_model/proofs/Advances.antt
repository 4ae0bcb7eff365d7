-- Advancing the clock twice.
use Rattle.std.proofs.Common.{◌≡◌, ℕ, ◌^◌, ◌≤◌, ◌⊎◌, inl, inr, List, [], ◌∷◌, ◌++◌, length, Bool, true, false, refl, sym, ◌∙◌, ap, arith}
use Rattle.std.specs.Prelude.{Option, Some, None, unwrap_or, nat_le, if◌then◌else◌, not}
use Rattle.std.proofs.lemmas.Bool.{leb-true, leb-false}
use Rattle.std.proofs.lemmas.List.{set_past, get_or-set_same}
use Rattle.kernel_core.specs.NameCalls.{is_empty_list}
use Rattle.kernel_core.specs.declared.signal.Sig.TheVariants.{Alrm}
use Rattle.kernel_model.proofs.Expiry.{gone_off_twice}
use Rattle.kernel_model.specs.Clock.{gone_off}
use Rattle.kernel_model.specs.SignalRows.{advance, after_expiry, appended, post, posted, timer_info, pending_at, pends, is_dropped}
use Rattle.kernel_model.specs.State.{Kernel, Signals, Timer}
use Rattle.kernel_model.specs.declared.signal.Post.TheVariants.{Queued, Dropped}

-- Posting the interval timer's signal

after : Bool → Signals → Signals
after kept signals = (post signals timer_info kept).signals

abbrev chosen : Bool → Bool → Signals → Signals
chosen dropped pending signals = if dropped then signals else (if pending then signals else appended signals timer_info)

ends_nonempty : {A : Type 0} (xs : List A) (x : A) → is_empty_list (xs ++ x ∷ []) ≡ false
ends_nonempty [] x = refl
ends_nonempty (y ∷ ys) x = refl

-- behind it the signal pends, or nothing changed because there is no place for it
pends_then : (signals : Signals) → (appended signals timer_info ≡ signals) ⊎ (pends (appended signals timer_info) Alrm ≡ true)
pends_then signals = by (nat_le 14 (length signals.pending)) refl where
  by : (b : Bool) → nat_le 14 (length signals.pending) ≡ b → (appended signals timer_info ≡ signals) ⊎ (pends (appended signals timer_info) Alrm ≡ true)
  by true e =
      inr (ap (λ infos. not (is_empty_list infos)) (get_or-set_same signals.pending 13 (pending_at signals Alrm ++ timer_info ∷ []) [] (omega (arith, leb-true 14 (length signals.pending) e)))
      ∙ ap not (ends_nonempty (pending_at signals Alrm) timer_info))
  by false e =
      inl (ap (λ pending. record signals { pending = pending }) (set_past signals.pending 13 (pending_at signals Alrm ++ timer_info ∷ []) (omega (arith, leb-false 14 (length signals.pending) e))))

module _ (kept : Bool) where
  -- it is dropped, pends already, or pends then
  after_is : (signals : Signals) → after kept signals ≡ chosen (is_dropped signals Alrm kept) (pends signals Alrm) signals
  unfolding after post
  after_is signals = by (is_dropped signals Alrm kept) (pends signals Alrm) where
    by : (d p : Bool)
        → (if d then posted signals Dropped else (if p then posted signals Dropped else posted (appended signals timer_info) Queued)).signals ≡ chosen d p signals
    by true p = refl
    by false true = refl
    by false false = refl

  stays : (signals : Signals) → after kept signals ≡ signals → after kept (after kept signals) ≡ after kept signals
  stays signals e = ap (λ s. after kept s) e

  -- it pends once
  twice : (signals : Signals) → after kept (after kept signals) ≡ after kept signals
  twice signals = by (is_dropped signals Alrm kept) (pends signals Alrm) refl refl where
    here : (d p : Bool) → is_dropped signals Alrm kept ≡ d → pends signals Alrm ≡ p → after kept signals ≡ chosen d p signals
    here d p de pe = after_is signals ∙ ap (λ b. chosen b (pends signals Alrm) signals) de ∙ ap (λ b. chosen d b signals) pe

    again : is_dropped signals Alrm kept ≡ false → after kept signals ≡ appended signals timer_info
        → (appended signals timer_info ≡ signals) ⊎ (pends (appended signals timer_info) Alrm ≡ true) → after kept (after kept signals) ≡ after kept signals
    again de e (inl same) = stays signals (e ∙ same)
    again de e (inr pending) =
        ap (λ s. after kept s) e ∙ after_is (appended signals timer_info)
        ∙ ap (λ b. chosen b (pends (appended signals timer_info) Alrm) (appended signals timer_info)) de
        ∙ ap (λ b. chosen false b (appended signals timer_info)) pending
        ∙ sym e

    by : (d p : Bool) → is_dropped signals Alrm kept ≡ d → pends signals Alrm ≡ p → after kept (after kept signals) ≡ after kept signals
    by true p de pe = stays signals (here true p de pe)
    by false true de pe = stays signals (here false true de pe)
    by false false de pe = again de (here false false de pe) (pends_then signals)

-- Advancing

module _ (kernel : Kernel) (first second : ℕ) (kept : Bool) where
  once : Timer → ℕ → Kernel
  once timer clock = record kernel { clock = clock; timer = timer; signals = after kept kernel.signals }

  expired : (clock : ℕ) (timer : Timer) → gone_off clock kernel.timer ≡ Some timer → advance kernel clock kept ≡ once timer clock
  unfolding advance once after
  expired clock timer e = ap (λ gone. after_expiry (record kernel { clock = clock }) kept gone) e

  not_expired : gone_off first kernel.timer ≡ None → advance kernel first kept ≡ record kernel { clock = first }
  unfolding advance
  not_expired e = ap (λ gone. after_expiry (record kernel { clock = first }) kept gone) e

  from_there : advance (record kernel { clock = first }) second kept ≡ advance kernel second kept
  unfolding advance
  from_there = refl

  expired_again : (timer : Timer) → advance (once timer first) second kept ≡ once (unwrap_or (gone_off second timer) timer) second
  unfolding advance once after
  expired_again timer = by (gone_off second timer) where
    by : (gone : Option Timer) → after_expiry (record (once timer first) { clock = second }) kept gone ≡ once (unwrap_or gone timer) second
    by None = refl
    by (Some next) = ap (λ signals. record kernel { clock = second; timer = next; signals = signals }) (twice kept kernel.signals)

  pub advance_twice : first ≤ second → (second ≤ 2 ^ 61) ⊎ (gone_off first kernel.timer ≡ None)
      → advance (advance kernel first kept) second kept ≡ advance kernel second kept
  advance_twice later premise = by (gone_off first kernel.timer) refl premise where
    by : (gone : Option Timer) → gone_off first kernel.timer ≡ gone → (second ≤ 2 ^ 61) ⊎ (gone_off first kernel.timer ≡ None)
        → advance (advance kernel first kept) second kept ≡ advance kernel second kept
    by None e h = ap (λ k. advance k second kept) (not_expired e) ∙ from_there
    by (Some timer) e (inr none) = absurd (let wrong : Some timer ≡ None = sym e ∙ none in cc)
    by (Some timer) e (inl early) =
        ap (λ k. advance k second kept) (expired first timer e)
        ∙ expired_again timer
        ∙ sym (expired second (unwrap_or (gone_off second timer) timer) (gone_off_twice first second later early kernel.timer.period kernel.timer.due timer e))

pub clock_at : (kernel : Kernel) (to : ℕ) (kept : Bool) → (advance kernel to kept).clock ≡ to
unfolding advance
clock_at kernel to kept = by (gone_off to kernel.timer) where
  by : (gone : Option Timer) → (after_expiry (record kernel { clock = to }) kept gone).clock ≡ to
  by None = refl
  by (Some timer) = refl
