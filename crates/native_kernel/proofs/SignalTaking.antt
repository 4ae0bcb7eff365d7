-- A signal that pends is taken.
use Rattle.std.proofs.Common.{◌≡◌, ℕ, ◌+◌, ◌-◌, ◌<◌, Bool, true, false, ◌&&◌, List, [], ◌∷◌, drop, Option, Some, None, refl, sym, ap, subst, ◌∙◌, if◌then◌else◌}
use Rattle.std.specs.Prelude.{IfNone, find, nat_le, not, slice_get}
use Rattle.kernel_core.specs.NameCalls.{is_empty_list}
use Rattle.kernel_core.specs.declared.error.Errno.TheVariants.{EAGAIN}
use Rattle.kernel_core.specs.declared.signal.Sig.{Sig}
use Rattle.kernel_model.specs.Came.{Did, done, refused, waits}
use Rattle.kernel_model.specs.Clock.{waits_until}
use Rattle.kernel_model.specs.Shared.{Info}
use Rattle.kernel_model.specs.SignalRows.{accept_first, accept_signal, pending_at, pends, with_pending, with_signals}
use Rattle.kernel_model.specs.SignalSets.{SignalSet, has}
use Rattle.kernel_model.specs.State.{Kernel, Signals}
use Rattle.native_kernel.proofs.SignalOrder.{found_at, none_left, passed_over}
use Rattle.native_kernel.specs.inside.Signals.{Takes, kept, order_from}
use Rattle.number_tables.specs.Signals.{signal_of_native}

-- whether a signal is in a set and pends
abbrev pub waits_in : Signals → SignalSet → Sig → Bool
waits_in signals set signal = has set signal && pends signals signal

-- what holds where none was taken
pub if_none : (taken : Option Info) {P : Type 0} → IfNone taken P → taken ≡ None → P
if_none None holds e = holds
if_none (Some info) holds e = absurd cc

by_infos : (signals new : Signals) (signal : Sig) (taken : Option Info) (infos : List Info) (passes : Bool) → pending_at signals signal ≡ infos → passes ≡ not (is_empty_list infos)
    → taken ≡ slice_get infos 0 → new ≡ with_pending signals signal (drop 1 infos) → (taken ≡ None → new ≡ signals)
    → Takes signals (if passes then Some signal else None) taken new
by_infos signals new signal taken [] passes at is first rest none =
    let nothing : taken ≡ None = first in
    let taking : Takes signals None taken new = (nothing, none nothing) in
    subst (λ (p : Bool). Takes signals (if p then Some signal else None) taken new) (sym is) taking
by_infos signals new signal taken (info ∷ infos) passes at is first rest none =
    let some : taken ≡ Some info = first in
    let taking : Takes signals (Some signal) (Some info) new = record {
      first = sym (ap (λ (l : List Info). slice_get l 0) at);
      rest = rest ∙ ap (λ (l : List Info). with_pending signals signal (drop 1 l)) (sym at);
    } in
    subst (λ (p : Bool). Takes signals (if p then Some signal else None) taken new) (sym is)
    (subst (λ (t : Option Info). Takes signals (Some signal) t new) (sym some) taking)

-- a signal of a set is taken, as far as it pends
pub taken_is : (signals new : Signals) (set : SignalSet) (signal : Sig) (taken : Option Info) → has set signal ≡ true
    → taken ≡ slice_get (pending_at signals signal) 0 → new ≡ with_pending signals signal (drop 1 (pending_at signals signal)) → (taken ≡ None → new ≡ signals)
    → Takes signals (kept (λ sig. has set sig && pends signals sig) (Some signal)) taken new
taken_is signals new set signal taken in_set first rest none =
    by_infos signals new signal taken (pending_at signals signal) (waits_in signals set signal) refl (ap (λ (b : Bool). b && pends signals signal) in_set) first rest none

-- and no other one is
pub not_taken : (signals : Signals) (set : SignalSet) (signal : Sig) → has set signal ≡ false
    → Takes signals (kept (λ sig. has set sig && pends signals sig) (Some signal)) None signals
not_taken signals set signal apart =
    let nothing : Takes signals None None signals = (refl, refl) in
    subst (λ (b : Bool). Takes signals (if b && pends signals signal then Some signal else None) None signals) (sym apart) nothing

-- One number after the other

none_takes : (old new : Signals) (one : Option Sig) → Takes old one None new → (None ≡ one) × (new ≡ old)
none_takes old new None takes = (refl, takes.1)
none_takes old new (Some signal) takes = absurd takes

some_takes : (old new : Signals) (one all : Option Sig) (info : Info) → ((signal : Sig) → Some signal ≡ one → Some signal ≡ all)
    → Takes old one (Some info) new → Takes old all (Some info) new
some_takes old new None all info to takes = let never : Some info ≡ None = takes.0 in absurd cc
some_takes old new (Some signal) all info to takes = subst (λ (a : Option Sig). Takes old a (Some info) new) (to signal refl) takes

-- nothing is taken of a number
pub next_number : (initial signals new : Signals) (set : SignalSet) (number : ℕ) (all : Option Sig) → signals ≡ initial → number < 129
    → Takes signals (kept (λ sig. has set sig && pends signals sig) (signal_of_native number)) None new
    → find (λ sig. has set sig && pends initial sig) (order_from number (129 - number)) ≡ all
    → (new ≡ initial) × (find (λ sig. has set sig && pends initial sig) (order_from (number + 1) (129 - (number + 1))) ≡ all)
next_number initial signals new set number all same low takes so_far =
    let test : Sig → Bool = waits_in initial set in
    let here = subst (λ (s : Signals). Takes s (kept (waits_in s set) (signal_of_native number)) None new) same takes in
    let over = none_takes initial new (kept test (signal_of_native number)) here in
    (over.1, passed_over test number all low over.0 so_far)

-- its signal is taken, which is the first
pub taken_at : (initial signals new : Signals) (set : SignalSet) (number : ℕ) (all : Option Sig) (info : Info) → signals ≡ initial → number < 129
    → Takes signals (kept (λ sig. has set sig && pends signals sig) (signal_of_native number)) (Some info) new
    → find (λ sig. has set sig && pends initial sig) (order_from number (129 - number)) ≡ all
    → Takes initial all (Some info) new
taken_at initial signals new set number all info same low takes so_far =
    let test : Sig → Bool = waits_in initial set in
    let here = subst (λ (s : Signals). Takes s (kept (waits_in s set) (signal_of_native number)) (Some info) new) same takes in
    some_takes initial new (kept test (signal_of_native number)) all info (λ signal is. found_at test number all signal low is so_far) here

-- none is left
pub none_taken : (initial new : Signals) (set : SignalSet) (number : ℕ) (all : Option Sig) → new ≡ initial → number ≡ 129
    → find (λ sig. has set sig && pends initial sig) (order_from number (129 - number)) ≡ all → Takes initial all None new
none_taken initial new set number all same last so_far =
    let nothing : Takes initial None None new = (refl, same) in
    subst (λ (a : Option Sig). Takes initial a None new) (none_left (waits_in initial set) number all last so_far) nothing

-- Accepting

first_accepted : (kernel : Kernel) (signal : Sig) (infos : List Info) (info : Info) (none : Did Kernel Info) → Some info ≡ slice_get infos 0
    → accept_first kernel signal infos none ≡ done (with_signals kernel (with_pending kernel.signals signal (drop 1 infos))) info
first_accepted kernel signal [] info none first = let never : Some info ≡ None = first in absurd cc
first_accepted kernel signal (one ∷ infos) info none first =
    let some : Some info ≡ Some one = first in
    let same : one ≡ info = cc in
    ap (λ (i : Info). done (with_signals kernel (with_pending kernel.signals signal infos)) i) same

-- the signal that was taken is accepted
pub accepted : (kernel : Kernel) (one : Option Sig) (info : Info) (new : Signals) (none : Did Kernel Info) → Takes kernel.signals one (Some info) new
    → accept_signal kernel one none ≡ done (with_signals kernel new) info
accepted kernel None info new none takes = let never : Some info ≡ None = takes.0 in absurd cc
accepted kernel (Some signal) info new none takes =
    first_accepted kernel signal (pending_at kernel.signals signal) info none takes.first
    ∙ ap (λ (s : Signals). done (with_signals kernel s) info) (sym takes.rest)

-- where none was taken, none is accepted
pub not_accepted : (kernel : Kernel) (one : Option Sig) (new : Signals) (none : Did Kernel Info) → Takes kernel.signals one None new
    → (accept_signal kernel one none ≡ none) × (new ≡ kernel.signals)
not_accepted kernel None new none takes = (refl, takes.1)
not_accepted kernel (Some signal) new none takes = absurd takes

-- a wait leaves the kernel
pub wait_leaves : (kernel : Kernel) (until : Option ℕ) → (waits_until kernel until (refused {V = Info} kernel EAGAIN)).state ≡ kernel
wait_leaves kernel None = refl
wait_leaves kernel (Some time) = by (nat_le time kernel.clock) where
  by : (b : Bool) → (if b then refused {V = Info} kernel EAGAIN else waits kernel (Some time)).state ≡ kernel
  by true = refl
  by false = refl
