-- What signals always are, kept by each change.
use Rattle.std.proofs.Common.{◌≡◌, ◌≢◌, ℕ, zero, suc, ◌-◌, ◌/◌, ◌%◌, ◌^◌, ◌<◌, ◌≤◌, List, [], ◌∷◌, length, drop, get_or, set, replicate, Bool, true, false, refl, sym, ◌∙◌, ap, subst, inl, inr, arith, lit<}
use Rattle.std.specs.Prelude.{All, sum_by, ◌==◌, slice_index, bit_and, if◌then◌else◌}
use Rattle.std.specs.Int.Bits.{and_zero_r}
use Rattle.std.proofs.lemmas.Bool.{cases_lt}
use Rattle.std.proofs.lemmas.Nat.{and_assoc}
use Rattle.std.proofs.lemmas.List.{length-replicate, length-set, length-drop, get_or-replicate, get_or-set_other, drop-replicate}
use Rattle.std.proofs.lemmas.List.Elements.{All-replicate, All-set, All-drop}
use Rattle.std.proofs.lemmas.List.Folds.{sum_by-replicate}
use Rattle.kernel_core.specs.declared.signal.Sig.{Sig}
use Rattle.kernel_model.proofs.Posting.{place_below, with_pending_kept}
use Rattle.kernel_model.specs.Always.{AreSignals, IsPendingAt, IsSet, IsMask, IsStack}
use Rattle.kernel_model.specs.Begin.{first_signals}
use Rattle.kernel_model.specs.Shared.{Info}
use Rattle.kernel_model.specs.SignalRows.{after_action, ignores, is_unblockable, kept_stack, no_action, pending_at, queued, queue_limit, with_pending}
use Rattle.kernel_model.specs.SignalSets.{SignalSet, blockable, no_signals, place, signal_count, standard_count, unblockable}
use Rattle.kernel_model.specs.State.{Signals}
use Rattle.kernel_model.specs.declared.signal.Action.{Action}
use Rattle.kernel_model.specs.declared.signal.SigStack.{SigStack}
use Rattle.native_signal.proofs.SetLaws.{queued-standard, queued-set}
use Rattle.native_signal.proofs.SetMarks.{without_both}

none_pending : (at : ℕ) → IsPendingAt at []
none_pending at = (λ k d h. absurd (omega (arith, h)), λ h. omega arith)

-- a mask loses KILL and STOP once

words_small : (a b c d : ℕ) → a < 2 ^ 32 → b < 2 ^ 32 → c < 2 ^ 32 → d < 2 ^ 32 → All (λ word. word < 2 ^ 32) (a ∷ b ∷ c ∷ d ∷ [])
words_small a b c d p q r s zero e inside = p
words_small a b c d p q r s (suc zero) e inside = q
words_small a b c d p q r s (suc (suc zero)) e inside = r
words_small a b c d p q r s (suc (suc (suc zero))) e inside = s
words_small a b c d p q r s (suc (suc (suc (suc k)))) e inside = absurd (omega arith)

lost_once : (a : ℕ) → a < 2 ^ 32 → (a - bit_and a 4194560) - bit_and (a - bit_and a 4194560) 4194560 ≡ a - bit_and a 4194560
lost_once a small =
    let same : a - bit_and a 4194560 ≡ bit_and a 4290772735 = sym (without_both a small) in
    let none : bit_and (bit_and a 4290772735) 4194560 ≡ bit_and a 0 = and_assoc 4194560 a 4290772735 in
    let nothing : bit_and (a - bit_and a 4194560) 4194560 ≡ 0 = ap (λ (n : ℕ). bit_and n 4194560) same ∙ none ∙ and_zero_r a in
    omega (arith, nothing)

none_lost : (w : ℕ) → (w - bit_and w 0) - bit_and (w - bit_and w 0) 0 ≡ w - bit_and w 0
none_lost w = omega (arith, and_zero_r (w - bit_and w 0))

four : (a b c d w x y z : ℕ) → a ≡ w → b ≡ x → c ≡ y → d ≡ z → a ∷ b ∷ c ∷ d ∷ [] ≡ w ∷ x ∷ y ∷ z ∷ []
four a b c d w x y z p q r s = cc

pub mask_blockable : (set : SignalSet) → IsSet set → IsMask (blockable set)
mask_blockable [] is = absurd (omega (arith, is.0))
mask_blockable (a ∷ []) is = absurd (omega (arith, is.0))
mask_blockable (a ∷ b ∷ []) is = absurd (omega (arith, is.0))
mask_blockable (a ∷ b ∷ c ∷ []) is = absurd (omega (arith, is.0))
mask_blockable (a ∷ b ∷ c ∷ d ∷ e ∷ more) is = absurd (omega (arith, is.0))
mask_blockable (a ∷ b ∷ c ∷ d ∷ []) is =
    let p : a < 2 ^ 32 = is.1 0 0 (lit< tt) in
    let q : b < 2 ^ 32 = is.1 1 0 (lit< tt) in
    let r : c < 2 ^ 32 = is.1 2 0 (lit< tt) in
    let s : d < 2 ^ 32 = is.1 3 0 (lit< tt) in (
      (refl, words_small _ _ _ _ (omega arith) (omega arith) (omega arith) (omega arith)),
      four _ _ _ _ _ _ _ _ (lost_once a p) (none_lost b) (none_lost c) (none_lost d),
    )

-- the first signals

first_each : (at : ℕ) → at < signal_count → IsPendingAt at (get_or (replicate 128 []) at [])
first_each at low = subst (λ (q : List Info). IsPendingAt at q) (sym (get_or-replicate 128 at [] [] low)) (none_pending at)

abbrev size : List Info → ℕ
size infos = length infos

abbrev none : List (List Info)
none = replicate 128 []

first_few : sum_by size (drop 31 none) ≤ queue_limit
first_few = omega (arith, ap (sum_by size) (drop-replicate 31 128 []), sum_by-replicate size 97 [])

pub zeros : IsMask no_signals
zeros = mask_blockable no_signals (refl, words_small 0 0 0 0 (lit< tt) (lit< tt) (lit< tt) (lit< tt))

pub first_kept : AreSignals first_signals
first_kept = record {
  actions = length-replicate {A = Action} 128 no_action;
  masks = All-replicate (λ (action : Action). IsMask action.mask) 128 no_action zeros;
  pending = length-replicate {A = List Info} 128 [];
  each = first_each;
  few = first_few;
  mask = zeros;
  stack = inl refl;
  kill = ap (λ (action : Action). action.handler) (get_or-replicate 128 8 no_action no_action (lit< tt));
  stop = ap (λ (action : Action). action.handler) (get_or-replicate 128 22 no_action no_action (lit< tt));
}

-- fewer at a place

fewer : (signals : Signals) (signal : Sig) (infos : List Info) → AreSignals signals → length infos ≤ length (pending_at signals signal)
    → queued (with_pending signals signal infos) ≤ queue_limit
fewer signals signal infos is less =
    elim (cases_lt (place signal) standard_count) [
      | inl low ↦ omega (arith, is.few, queued-standard signals.pending is.pending (place signal) (place_below signal) infos low)
      | inr high ↦ omega (arith, is.few, less, queued-set signals.pending is.pending (place signal) (place_below signal) infos high)
    ]

pub take_kept : (signals : Signals) (signal : Sig) → AreSignals signals → AreSignals (with_pending signals signal (drop 1 (pending_at signals signal)))
take_kept signals signal is =
    let here : IsPendingAt (place signal) (pending_at signals signal) = is.each (place signal) (place_below signal) in
    let shorter : length (drop 1 (pending_at signals signal)) ≤ length (pending_at signals signal) = omega (arith, length-drop 1 (pending_at signals signal)) in
    with_pending_kept signals signal (drop 1 (pending_at signals signal)) is
    (All-drop (λ (info : Info). place info.sig ≡ place signal) 1 (pending_at signals signal) here.0, λ low. omega (arith, here.1 low, shorter))
    (fewer signals signal (drop 1 (pending_at signals signal)) is shorter)

-- an action

not_at : (signal : Sig) (p : ℕ) → (slice_index unblockable (p / 32) / 2 ^ (p % 32) % 2 == 1) ≡ true → is_unblockable signal ≡ false → p ≢ place signal
not_at signal p there apart e =
    let same : (slice_index unblockable (p / 32) / 2 ^ (p % 32) % 2 == 1) ≡ is_unblockable signal
    = ap (λ (n : ℕ). slice_index unblockable (n / 32) / 2 ^ (n % 32) % 2 == 1) e in
    let both : true ≡ false = sym there ∙ same ∙ apart in
    cc both

abbrev changed : Signals → Sig → Action → Signals
changed signals signal action = record signals { actions = set signals.actions (place signal) (record action { mask = blockable action.mask }) }

changed_kept : (signals : Signals) (signal : Sig) (action : Action) → is_unblockable signal ≡ false → IsSet action.mask → AreSignals signals → AreSignals (changed signals signal action)
changed_kept signals signal action apart mask is = record {
  actions = length-set signals.actions (place signal) _ ∙ is.actions;
  masks = All-set (λ (a : Action). IsMask a.mask) signals.actions (place signal) (record action { mask = blockable action.mask }) (mask_blockable action.mask mask) is.masks;
  pending = is.pending;
  each = is.each;
  few = is.few;
  mask = is.mask;
  stack = is.stack;
  kill = ap (λ (a : Action). a.handler) (get_or-set_other signals.actions (place signal) 8 _ no_action (not_at signal 8 refl apart)) ∙ is.kill;
  stop = ap (λ (a : Action). a.handler) (get_or-set_other signals.actions (place signal) 22 _ no_action (not_at signal 22 refl apart)) ∙ is.stop;
}

pub action_kept : (signals : Signals) (signal : Sig) (action : Action) → is_unblockable signal ≡ false → IsSet action.mask → AreSignals signals → AreSignals (after_action signals signal action)
action_kept signals signal action apart mask is = by (ignores signal action) where
  there : AreSignals (changed signals signal action)
  there = changed_kept signals signal action apart mask is

  by : (b : Bool) → AreSignals (if b then with_pending (changed signals signal action) signal [] else changed signals signal action)
  by true = with_pending_kept (changed signals signal action) signal [] there (none_pending (place signal)) (fewer (changed signals signal action) signal [] there (omega arith))
  by false = there

-- the mask and the stack

pub mask_kept : (signals : Signals) (set : SignalSet) → IsSet set → AreSignals signals → AreSignals (record signals { mask = blockable set })
mask_kept signals set mask is = record {
  actions = is.actions;
  masks = is.masks;
  pending = is.pending;
  each = is.each;
  few = is.few;
  mask = mask_blockable set mask;
  stack = is.stack;
  kill = is.kill;
  stop = is.stop;
}

pub stack_kept : (signals : Signals) (stack : SigStack) → IsStack (kept_stack stack) → AreSignals signals → AreSignals (record signals { stack = kept_stack stack })
stack_kept signals stack kept is = record {
  actions = is.actions;
  masks = is.masks;
  pending = is.pending;
  each = is.each;
  few = is.few;
  mask = is.mask;
  stack = kept;
  kill = is.kill;
  stop = is.stop;
}
