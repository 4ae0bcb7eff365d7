-- No more signals pend than the kernel lets pend, whatever is posted or used up.
use Rattle.std.proofs.Common.{◌≡◌, ℕ, zero, suc, ◌+◌, ◌<◌, ◌≤◌, Bool, true, false, List, [], ◌∷◌, ◌++◌, length, drop, set, get_or, length-append, drop-set-lt, refl, sym, ap, subst, arith}
use Rattle.std.specs.Prelude.{not, nat_le, sum_by, if◌then◌else◌}
use Rattle.std.proofs.lemmas.Bool.{leb-false, ltb-false, ltb-true}
use Rattle.std.proofs.lemmas.List.Sums.{sum_by-cons}
use Rattle.kernel_core.specs.NameCalls.{is_empty_list}
use Rattle.kernel_core.specs.declared.signal.Sig.{Sig}
use Rattle.kernel_core.specs.declared.signal.Sig.TheVariants as sigs
use Rattle.kernel_model.specs.Always.{AreSignals}
use Rattle.kernel_model.specs.Shared.{Info}
use Rattle.kernel_model.specs.SignalRows.{after_removal, appended, enqueued, is_continue, is_dropped, is_standard, is_stop, pending_at, pends, post, posted, queue_limit, queued, with_pending}
use Rattle.kernel_model.specs.SignalSets.{place, standard_count}
use Rattle.kernel_model.specs.State.{Kernel, Signals}
use Rattle.kernel_model.specs.declared.signal.Post.TheVariants as posts

-- a standard signal pends once at most, and of the others so many are queued
pub record FewPend (pending : List (List Info)) : Type 0 where
  pub each : (at : ℕ) → at < standard_count → length (get_or pending at []) ≤ 1
  pub few : sum_by length (drop standard_count pending) ≤ queue_limit

abbrev pub Few : Kernel → Type 0
Few kernel = FewPend kernel.signals.pending

pub few_signals : (signals : Signals) → AreSignals signals → FewPend signals.pending
few_signals signals are = record { each = λ at below. (are.each at (omega (arith, below))).1 below; few = are.few }

-- One list of them is set

length_set : (pending : List (List Info)) (k at : ℕ) (infos : List Info) → length infos ≤ length (get_or pending k [])
    → length (get_or (set pending k infos) at []) ≤ length (get_or pending at [])
length_set [] k at infos fewer = omega arith
length_set (x ∷ pending) zero zero infos fewer = fewer
length_set (x ∷ pending) zero (suc at) infos fewer = omega arith
length_set (x ∷ pending) (suc k) zero infos fewer = omega arith
length_set (x ∷ pending) (suc k) (suc at) infos fewer = length_set pending k at infos fewer

length_bound : (bound : ℕ) (pending : List (List Info)) (k at : ℕ) (infos : List Info) → length infos ≤ bound → length (get_or pending at []) ≤ bound
    → length (get_or (set pending k infos) at []) ≤ bound
length_bound bound [] k at infos first second = second
length_bound bound (x ∷ pending) zero zero infos first second = first
length_bound bound (x ∷ pending) zero (suc at) infos first second = second
length_bound bound (x ∷ pending) (suc k) zero infos first second = second
length_bound bound (x ∷ pending) (suc k) (suc at) infos first second = length_bound bound pending k at infos first second

other_set : (pending : List (List Info)) (k at : ℕ) (infos : List Info) → (at ≡ k → ⊥) → get_or (set pending k infos) at [] ≡ get_or pending at []
other_set [] k at infos differ = refl
other_set (x ∷ pending) zero zero infos differ = absurd (differ refl)
other_set (x ∷ pending) zero (suc at) infos differ = refl
other_set (x ∷ pending) (suc k) zero infos differ = refl
other_set (x ∷ pending) (suc k) (suc at) infos differ = other_set pending k at infos (λ same. differ (ap suc same))

sum_set : (extra n : ℕ) (pending : List (List Info)) (k : ℕ) (infos : List Info) → length infos ≤ length (get_or pending k []) + extra
    → sum_by length (drop n (set pending k infos)) ≤ sum_by length (drop n pending) + extra
sum_set extra n [] k infos fewer = omega arith
sum_set extra zero (x ∷ pending) zero infos fewer = omega (arith, fewer, sum_by-cons length infos pending, sum_by-cons length x pending)
sum_set extra zero (x ∷ pending) (suc k) infos fewer =
    omega (arith, sum_set extra zero pending k infos fewer, sum_by-cons length x (set pending k infos), sum_by-cons length x pending)
sum_set extra (suc n) (x ∷ pending) zero infos fewer = omega arith
sum_set extra (suc n) (x ∷ pending) (suc k) infos fewer = sum_set extra n pending k infos fewer

pub fewer_pend : (pending : List (List Info)) (k : ℕ) (infos : List Info) → length infos ≤ length (get_or pending k []) → FewPend pending → FewPend (set pending k infos)
fewer_pend pending k infos fewer pend = record {
  each = λ at below. omega (arith, length_set pending k at infos fewer, pend.each at below);
  few = let sums = sum_set 0 standard_count pending k infos (omega (arith, fewer)) in omega (arith, sums, pend.few);
}

none_pend : (signals : Signals) (signal : Sig) → FewPend signals.pending → FewPend (with_pending signals signal []).pending
none_pend signals signal pend = fewer_pend signals.pending (place signal) [] (omega arith) pend

-- A post

pub either_few : (test : Bool) (one other : Signals) → FewPend one.pending → FewPend other.pending → FewPend (if test then one else other).pending
either_few true one other first second = first
either_few false one other first second = second

removal_few : (signals : Signals) (signal : Sig) → FewPend signals.pending → FewPend (after_removal signals signal).pending
removal_few signals signal pend =
    either_few (is_stop signal) (with_pending signals sigs.Cont []) _ (none_pend signals sigs.Cont pend)
    (either_few (is_continue signal) _ signals
    (none_pend (with_pending (with_pending (with_pending signals sigs.Stop []) sigs.Tstp []) sigs.Ttin []) sigs.Ttou
    (none_pend (with_pending (with_pending signals sigs.Stop []) sigs.Tstp []) sigs.Ttin
    (none_pend (with_pending signals sigs.Stop []) sigs.Tstp (none_pend signals sigs.Stop pend)))) pend)

empty_of : (infos : List Info) → not (is_empty_list infos) ≡ false → infos ≡ []
empty_of [] is = refl
empty_of (info ∷ infos) is = absurd cc

enqueued_few : (signals : Signals) (info : Info) → FewPend signals.pending → FewPend (enqueued signals info).signals.pending
enqueued_few signals info pend = by (is_standard info.sig) refl (pends signals info.sig) refl (nat_le queue_limit (queued signals)) refl where
  by : (standard : Bool) → is_standard info.sig ≡ standard → (some : Bool) → pends signals info.sig ≡ some → (full : Bool) → nat_le queue_limit (queued signals) ≡ full
      → FewPend (if standard then (if some then posted signals posts.Dropped else posted (appended signals info) posts.Queued)
      else (if full then posted signals posts.Full else posted (appended signals info) posts.Queued)).signals.pending
  by true is true of_some full of_full = pend
  by true is false none full of_full =
      let low : place info.sig < standard_count = ltb-true (place info.sig) standard_count is in
      let empty : pending_at signals info.sig ≡ [] = empty_of (pending_at signals info.sig) none in
      let added = pending_at signals info.sig ++ info ∷ [] in
      let one : length added ≤ 1 = subst (λ (l : List Info). length (l ++ info ∷ []) ≤ 1) (sym empty) (omega arith) in
      record {
        each = λ at below. length_bound 1 signals.pending (place info.sig) at added one (pend.each at below);
        few = subst (λ (l : List (List Info)). sum_by length l ≤ queue_limit) (sym (drop-set-lt standard_count signals.pending (place info.sig) added low)) pend.few;
      }
  by false is some of_some true full = pend
  by false is some of_some false room =
      let high : standard_count ≤ place info.sig = ltb-false (place info.sig) standard_count is in
      let free : queued signals < queue_limit = leb-false queue_limit (queued signals) room in
      let added = pending_at signals info.sig ++ info ∷ [] in
      let more : length added ≤ length (get_or signals.pending (place info.sig) []) + 1 = omega (arith, length-append (pending_at signals info.sig) (info ∷ [])) in
      record {
        each = λ at below.
            subst (λ (l : List Info). length l ≤ 1) (sym (other_set signals.pending (place info.sig) at added (λ same. omega (arith, same, below, high)))) (pend.each at below);
        few = omega (arith, sum_set 1 standard_count signals.pending (place info.sig) added more, free);
      }

pub post_few : (signals : Signals) (info : Info) (kept : Bool) → FewPend signals.pending → FewPend (post signals info kept).signals.pending
unfolding post
post_few signals info kept pend = by (is_dropped removed info.sig kept) where
  removed : Signals
  removed = after_removal signals info.sig

  by : (dropped : Bool) → FewPend (if dropped then posted (after_removal signals info.sig) posts.Dropped else enqueued (after_removal signals info.sig) info).signals.pending
  by true = removal_few signals info.sig pend
  by false = enqueued_few (after_removal signals info.sig) info (removal_few signals info.sig pend)
