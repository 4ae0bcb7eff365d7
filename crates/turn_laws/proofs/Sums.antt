-- How many signals pend, when some are used up.
use Rattle.std.proofs.Common.{◌≡◌, ℕ, zero, suc, ◌+◌, ◌*◌, ◌<◌, ◌≤◌, Bool, true, false, All, List, [], ◌∷◌, length, take, drop, set, get_or, length-take, refl, sym, ap, subst, ◌∙◌, arith, Option, Some, None}
use Rattle.std.specs.Prelude.{find, sum_by, if◌then◌else◌}
use Rattle.std.proofs.lemmas.List.{get_or_default, get_or-take}
use Rattle.std.proofs.lemmas.List.Sums.{sum_by-cons, sum_by-le, sum_by-set, sum_by-take-drop}
use Rattle.kernel_core.specs.declared.signal.Sig.{Sig}
use Rattle.kernel_model.specs.Always.{AreSignals}
use Rattle.kernel_model.specs.Shared.{Info}
use Rattle.kernel_model.specs.SignalRows.{queue_limit}
use Rattle.kernel_model.specs.SignalSets.{standard_count}
use Rattle.kernel_model.specs.State.{Signals}

abbrev pub total : Signals → ℕ
total signals = sum_by length signals.pending

inside : (pending : List (List Info)) (at : ℕ) (info : Info) (rest : List Info) → get_or pending at [] ≡ info ∷ rest → at < length pending
inside [] at info rest is = absurd cc
inside (x ∷ pending) zero info rest is = omega arith
inside (x ∷ pending) (suc at) info rest is = omega (arith, inside pending at info rest is)

-- one is used up
pub set_less : (pending : List (List Info)) (at : ℕ) (info : Info) (rest : List Info) → get_or pending at [] ≡ info ∷ rest
    → sum_by length (set pending at rest) + 1 ≡ sum_by length pending
set_less pending at info rest is =
    let sums = sum_by-set length pending at rest [] (inside pending at info rest is) in
    omega (arith, sums, ap length is)

-- all of a place are
pub set_none : (pending : List (List Info)) (at : ℕ) → sum_by length (set pending at []) ≤ sum_by length pending
set_none [] at = omega arith
set_none (x ∷ pending) zero = omega (arith, sum_by-cons length [] pending, sum_by-cons length x pending)
set_none (x ∷ pending) (suc at) =
    omega (arith, set_none pending at, sum_by-cons length x (set pending at []), sum_by-cons length x pending)

-- at most so many pend
pub total_few : (signals : Signals) → AreSignals signals → total signals ≤ queue_limit + standard_count
total_few signals is =
    let low = take standard_count signals.pending in
    let each : All (λ (infos : List Info). length infos ≤ 1) low =
    λ i d h.
    let below : i < standard_count = omega (arith, h, length-take standard_count signals.pending) in
    let there : i < length signals.pending = omega (arith, below, is.pending) in
    let same : get_or low i d ≡ get_or signals.pending i [] =
    get_or-take standard_count signals.pending i d below ∙ sym (get_or_default signals.pending i [] d there) in
    omega (arith, ap length same, (is.each i (omega (arith, there, is.pending))).1 below) in
    omega (arith, sum_by-take-drop length signals.pending standard_count, sum_by-le length 1 low each, length-take standard_count signals.pending, is.few)

-- what is found passes the test
pub find_passes : (test : Sig → Bool) (signals : List Sig) (signal : Sig) → find test signals ≡ Some signal → test signal ≡ true
find_passes test [] signal is = absurd cc
find_passes test (first ∷ signals) signal is = by (test first) refl is (find_passes test signals signal) where
  by : (b : Bool) → test first ≡ b → (if b then Some first else find test signals) ≡ Some signal → (find test signals ≡ Some signal → test signal ≡ true) → test signal ≡ true
  by true passes found rest = let same : first ≡ signal = cc in ap test (sym same) ∙ passes
  by false passes found rest = rest found
