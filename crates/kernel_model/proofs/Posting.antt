-- A post keeps what signals always are.
use Rattle.std.proofs.Common.{◌≡◌, ◌≢◌, ℕ, zero, suc, ◌+◌, ◌-◌, ◌<◌, ◌≤◌, List, [], ◌∷◌, ◌++◌, length, drop, get_or, set, Bool, true, false, ◌&&◌, refl, sym, ◌∙◌, ap, subst, arith, length-append, length-drop, lit<}
use Rattle.std.specs.Prelude.{All, sum_by, nat_le, ◌==◌, not, if◌then◌else◌}
use Rattle.std.proofs.lemmas.Bool.{leb-true, leb-false, ltb-true}
use Rattle.std.proofs.lemmas.List.{length-set, get_or-set_same, get_or-set_other, get_or-drop, drop-set-lt, drop-set-add}
use Rattle.std.proofs.lemmas.List.Elements.{All-append}
use Rattle.std.proofs.lemmas.List.Sums.{sum_by-set}
use Rattle.kernel_core.specs.NameCalls.{is_empty_list}
use Rattle.kernel_core.specs.RealTime.{is_real_time}
use Rattle.kernel_core.specs.declared.signal.Sig.{Sig}
use Rattle.kernel_core.specs.declared.signal.Sig.TheVariants as sigs
use Rattle.kernel_model.specs.Always.{AreSignals, IsPendingAt}
use Rattle.kernel_model.specs.Shared.{Info}
use Rattle.kernel_model.specs.SignalRows.{post, posted, posted_after, enqueued, appended, after_removal, with_pending, pending_at, pends, queued, queue_limit, is_stop, is_continue, is_standard, is_dropped}
use Rattle.kernel_model.specs.SignalSets.{place, signal_count, standard_count}
use Rattle.kernel_model.specs.State.{Signals}
use Rattle.kernel_model.specs.declared.signal.Post.TheVariants as posts

-- Each signal has one of the 128 places.

below : (number : ℕ) → is_real_time number ≡ true → number - 1 < 128
below number e = by (nat_le 32 number) (nat_le number 128) refl refl e where
  by : (a b : Bool) → nat_le 32 number ≡ a → nat_le number 128 ≡ b → (a && b) ≡ true → number - 1 < 128
  by true true p q h = omega (arith, leb-true 32 number p, leb-true number 128 q)
  by true false p q h = absurd cc
  by false b p q h = absurd cc

pub place_below : (signal : Sig) → place signal < 128
place_below (sigs.RealTime signal) = below signal.number signal.in_range
place_below _ = lit< tt

-- The lists of what pends, where one of them changes

none_pending : (at : ℕ) → IsPendingAt at []
none_pending at = (λ k d h. absurd (omega (arith, h)), λ h. omega arith)

same_place : (a b : ℕ) → (a == b) ≡ true → a ≡ b
same_place a b e = grind (arith, e)

other_place : (a b : ℕ) → (a == b) ≡ false → a ≢ b
other_place a b e = grind (arith, e)

module _ (signals : Signals) (signal : Sig) (infos : List Info) (is : AreSignals signals) (fits : IsPendingAt (place signal) infos) where
  each : (at : ℕ) → at < signal_count → IsPendingAt at (get_or (set signals.pending (place signal) infos) at [])
  each at low = by (at == place signal) refl where
    by : (b : Bool) → (at == place signal) ≡ b → IsPendingAt at (get_or (set signals.pending (place signal) infos) at [])
    by true e =
        let same : at ≡ place signal = same_place at (place signal) e in
        let here : get_or (set signals.pending (place signal) infos) (place signal) [] ≡ infos
        = get_or-set_same signals.pending (place signal) infos [] (omega (arith, place_below signal, is.pending)) in
        subst (λ n. IsPendingAt n (get_or (set signals.pending (place signal) infos) n [])) (sym same) (subst (λ xs. IsPendingAt (place signal) xs) (sym here) fits)
    by false e =
        subst (λ xs. IsPendingAt at xs) (sym (get_or-set_other signals.pending (place signal) at infos [] (other_place at (place signal) e))) (is.each at low)

  pub with_pending_kept : queued (with_pending signals signal infos) ≤ queue_limit → AreSignals (with_pending signals signal infos)
  with_pending_kept few = record {
    actions = is.actions;
    masks = is.masks;
    pending = length-set signals.pending (place signal) infos ∙ is.pending;
    each = each;
    few = few;
    mask = is.mask;
    stack = is.stack;
    kill = is.kill;
    stop = is.stop;
  }

-- a standard signal isn't queued
standard_few : (signals : Signals) (signal : Sig) (infos : List Info) → place signal < standard_count → queued signals ≤ queue_limit
    → queued (with_pending signals signal infos) ≤ queue_limit
standard_few signals signal infos low few =
    subst (λ xs. sum_by length xs ≤ queue_limit) (sym (drop-set-lt standard_count signals.pending (place signal) infos low)) few

removed : (signals : Signals) (signal : Sig) → place signal < standard_count → AreSignals signals → AreSignals (with_pending signals signal [])
removed signals signal low is = with_pending_kept signals signal [] is (none_pending (place signal)) (standard_few signals signal [] low is.few)

removal_kept : (signals : Signals) (signal : Sig) → AreSignals signals → AreSignals (after_removal signals signal)
removal_kept signals signal is = by (is_stop signal) (is_continue signal) where
  continue : AreSignals (with_pending signals sigs.Cont [])
  continue = removed signals sigs.Cont (lit< tt) is

  stops : AreSignals (with_pending (with_pending (with_pending (with_pending signals sigs.Stop []) sigs.Tstp []) sigs.Ttin []) sigs.Ttou [])
  stops = removed _ sigs.Ttou (lit< tt) (removed _ sigs.Ttin (lit< tt) (removed _ sigs.Tstp (lit< tt) (removed signals sigs.Stop (lit< tt) is)))

  by : (s c : Bool) → AreSignals (if s then with_pending signals sigs.Cont []
      else (if c then with_pending (with_pending (with_pending (with_pending signals sigs.Stop []) sigs.Tstp []) sigs.Ttin []) sigs.Ttou [] else signals))
  by true c = continue
  by false true = stops
  by false false = is

-- one more

empty : {A : Type 0} (xs : List A) → not (is_empty_list xs) ≡ false → length xs ≡ 0
empty [] e = refl
empty (x ∷ xs) e = absurd cc

one : (info : Info) → All (λ i. place i.sig ≡ place info.sig) (info ∷ [])
one info zero d h = refl
one info (suc k) d h = absurd (omega (arith, h))

module _ (signals : Signals) (info : Info) (is : AreSignals signals) where
  appended_all : All (λ i. place i.sig ≡ place info.sig) (pending_at signals info.sig ++ info ∷ [])
  appended_all = All-append (λ i. place i.sig ≡ place info.sig) (pending_at signals info.sig) (info ∷ []) (is.each (place info.sig) (place_below info.sig)).0 (one info)

  standard_kept : place info.sig < standard_count → pends signals info.sig ≡ false → AreSignals (appended signals info)
  standard_kept low none =
      with_pending_kept signals info.sig (pending_at signals info.sig ++ info ∷ []) is
      (appended_all, λ h. omega (arith, empty (pending_at signals info.sig) none, length-append (pending_at signals info.sig) (info ∷ [])))
      (standard_few signals info.sig _ low is.few)

  queued_more : standard_count ≤ place info.sig → nat_le queue_limit (queued signals) ≡ false → queued (appended signals info) ≤ queue_limit
  queued_more high room =
      let k = place info.sig - standard_count in
      let at : standard_count + k ≡ place info.sig = omega (arith, high) in
      let old = pending_at signals info.sig in
      let new = old ++ info ∷ [] in
      let moved : drop standard_count (set signals.pending (place info.sig) new) ≡ set (drop standard_count signals.pending) k new
      = ap (λ n. drop standard_count (set signals.pending n new)) (sym at) ∙ drop-set-add standard_count signals.pending k new in
      let there : get_or (drop standard_count signals.pending) k [] ≡ old
      = get_or-drop standard_count signals.pending k [] ∙ ap (λ n. get_or signals.pending n []) at in
      let sums = sum_by-set length (drop standard_count signals.pending) k new [] (omega (arith, length-drop standard_count signals.pending, is.pending, place_below info.sig, high)) in
      subst (λ xs. sum_by length xs ≤ queue_limit) (sym moved)
      (omega (arith, sums, ap length there, length-append old (info ∷ []), leb-false queue_limit (queued signals) room))

  real_time_kept : standard_count ≤ place info.sig → nat_le queue_limit (queued signals) ≡ false → AreSignals (appended signals info)
  real_time_kept high room =
      with_pending_kept signals info.sig (pending_at signals info.sig ++ info ∷ []) is
      (appended_all, λ h. absurd (omega (arith, h, high))) (queued_more high room)

  enqueued_kept : AreSignals (enqueued signals info).signals
  enqueued_kept = by (is_standard info.sig) (pends signals info.sig) (nat_le queue_limit (queued signals)) refl refl refl where
    by : (a b c : Bool) → is_standard info.sig ≡ a → pends signals info.sig ≡ b → nat_le queue_limit (queued signals) ≡ c
        → AreSignals (if a then (if b then posted signals posts.Dropped else posted (appended signals info) posts.Queued)
        else (if c then posted signals posts.Full else posted (appended signals info) posts.Queued)).signals
    by true true c p q r = is
    by true false c p q r = standard_kept (ltb-true (place info.sig) standard_count p) q
    by false b true p q r = is
    by false b false p q r = real_time_kept (omega (arith, leb-false (suc (place info.sig)) standard_count p)) r

  dropped_or_not : (kept : Bool) → AreSignals (posted_after signals info kept).signals
  dropped_or_not kept = by (is_dropped signals info.sig kept) where
    by : (d : Bool) → AreSignals (if d then posted signals posts.Dropped else enqueued signals info).signals
    by true = is
    by false = enqueued_kept

pub post_kept : (signals : Signals) (info : Info) (kept : Bool) → AreSignals signals → AreSignals (post signals info kept).signals
unfolding post
post_kept signals info kept is = dropped_or_not (after_removal signals info.sig) info (removal_kept signals info.sig is) kept
