-- The signals that a set names, and those of them that pend.
use Rattle.std.proofs.Common.{◌≡◌, ◌∙◌, Bool, true, false, ◌&&◌, List, [], ◌∷◌, Option, Some, None, Ok, Err, refl, sym, ap, if◌then◌else◌}
use Rattle.std.specs.Prelude.{◌==◌, find, is_some}
use Rattle.std.specs.List.{filter, list_any}
use Rattle.guest_space.specs.Memory.{Memory}
use Rattle.kernel_core.specs.declared.signal.Sig.{Sig}
use Rattle.kernel_model.specs.Came.{Given}
use Rattle.kernel_model.specs.SignalRows.{first_pending, pending_set, pends}
use Rattle.kernel_model.specs.SignalSets.{SignalSet, blockable, has}
use Rattle.kernel_model.specs.State.{Signals}
use Rattle.native_calls.specs.Signals.{native_order}
use Rattle.o32_calls.specs.Numbers.{rt_sigtimedwait_number}
use Rattle.o32_model.specs.Masks.{set_at}
use Rattle.o32_model.specs.SignalWaitEnds.{named_in, named_signals}
use Rattle.o32_model.specs.Suspending.{all_signals}
use Rattle.o32_model.specs.WaitEnds.{wait_word}
use Rattle.o32_model.specs.declared.wait.Wait.{Wait}
use Rattle.signal_choice.proofs.Found.{among_all, any_of, none_of}
use Rattle.signal_choice.proofs.Pends.{has_pending}
use Rattle.bridge_acceptance.specs.inside.Named.{named_set, set_or_none}

-- Searches

found_passes : (test : Sig → Bool) (signals : List Sig) (signal : Sig) → find test signals ≡ Some signal → test signal ≡ true
found_passes test [] signal found = absurd cc
found_passes test (first ∷ signals) signal found = by (test first) refl found (found_passes test signals signal) where
  by : (b : Bool) → test first ≡ b → (if b then Some first else find test signals) ≡ Some signal → (find test signals ≡ Some signal → test signal ≡ true) → test signal ≡ true
  by true passes same later = let is : first ≡ signal = cc in ap test (sym is) ∙ passes
  by false passes same later = later same

never_passes : (test : Sig → Bool) → find test all_signals ≡ None → (signal : Sig) → test signal ≡ false
never_passes test none signal = by (test signal) refl where
  by : (b : Bool) → test signal ≡ b → test signal ≡ false
  by true passes =
      let wrong : false ≡ true = sym (ap (λ (found : Option Sig). is_some found) none) ∙ among_all test signal passes in
      absurd cc
  by false passes = passes

-- where none of a set pends in one order, none does in the other
pub none_natively : (signals : Signals) (set : SignalSet) → first_pending signals all_signals set ≡ None → first_pending signals native_order set ≡ None
none_natively signals set none =
    none_of (λ (signal : Sig). has set signal && pends signals signal) native_order (never_passes (λ (signal : Sig). has set signal && pends signals signal) none)

-- What pends

-- the signal that is accepted is the first that pends
pub first_is : (signals : Signals) (pending set : SignalSet) (found : Option Sig) → pending ≡ pending_set signals → found ≡ find (λ (signal : Sig). has (blockable set) signal && has pending signal) all_signals
    → found ≡ first_pending signals all_signals (blockable set)
first_is signals pending set found same is =
    is ∙ ap (λ (p : SignalSet). find (λ (signal : Sig). has (blockable set) signal && has p signal) all_signals) same
    ∙ (λ i. find (λ (signal : Sig). has (blockable set) signal && has_pending signals signal i) all_signals)

second_true : (a b : Bool) → (a && b) ≡ true → b ≡ true
second_true true b both = both
second_true false b both = absurd cc

pub first_pends : (signals : Signals) (set : SignalSet) (signal : Sig) → first_pending signals all_signals set ≡ Some signal → pends signals signal ≡ true
first_pends signals set signal found =
    second_true (has set signal) (pends signals signal) (found_passes (λ (s : Sig). has set s && pends signals s) all_signals signal found)

-- whether one pends that is named
pub any_pends : (signals : Signals) (pending set : SignalSet) (found : Option Sig) → pending ≡ pending_set signals → found ≡ find (λ (signal : Sig). has (blockable set) signal && has pending signal) all_signals
    → is_some found ≡ list_any (λ (signal : Sig). pends signals signal) (filter (λ (signal : Sig). has (blockable set) signal) all_signals)
any_pends signals pending set found same is =
    ap (λ (f : Option Sig). is_some f) (first_is signals pending set found same is)
    ∙ sym (any_of (λ (signal : Sig). has (blockable set) signal) (λ (signal : Sig). pends signals signal) all_signals)

-- What a wait names

abbrev named_by : Bool → Given SignalSet → List Sig
named_by this set = if this then named_in set else []

abbrev set_by : Bool → Given SignalSet → Option SignalSet
set_by this set = if this then set_or_none set else None

none_by : (this : Bool) (set : Given SignalSet) → None ≡ set_by this set → named_by this set ≡ []
none_by false set none = refl
none_by true (Err error) none = refl
none_by true (Ok set) none = absurd cc

set_is : {one other : SignalSet} → Some one ≡ Some other → one ≡ other
set_is same = cc

some_by : (this : Bool) (given : Given SignalSet) (set : SignalSet) → Some set ≡ set_by this given → named_by this given ≡ filter (λ (signal : Sig). has (blockable set) signal) all_signals
some_by false given set some = absurd cc
some_by true (Err error) set some = absurd cc
some_by true (Ok there) set some = ap (λ (s : SignalSet). filter (λ (signal : Sig). has (blockable s) signal) all_signals) (sym (set_is some))

pub none_named : (memory : Memory) (wait : Wait) → None ≡ named_set memory wait → named_signals memory wait ≡ []
none_named memory wait none = none_by (wait.nr == rt_sigtimedwait_number) (set_at memory (wait_word wait 0)) none

pub some_named : (memory : Memory) (wait : Wait) (set : SignalSet) → Some set ≡ named_set memory wait → named_signals memory wait ≡ filter (λ (signal : Sig). has (blockable set) signal) all_signals
some_named memory wait set some = some_by (wait.nr == rt_sigtimedwait_number) (set_at memory (wait_word wait 0)) set some
