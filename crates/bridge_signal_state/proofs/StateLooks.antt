-- What the native calls on signals do, by which this crate reads and sets.
use Rattle.std.proofs.Common.{◌≡◌, ℕ, zero, suc, ◌+◌, ◌-◌, ◌/◌, ◌%◌, ◌^◌, ◌<◌, ◌≤◌, Bool, true, false, List, [], ◌∷◌, length, drop, replicate, Option, Some, None, Ok, refl, sym, ap, subst, ◌∙◌, arith, lit<, length-take}
use Rattle.std.specs.Int.{bit_at}
use Rattle.std.specs.Prelude.{◌==◌, ◌&&◌, All, nat_lt, slice_index, slice_range}
use Rattle.std.proofs.lemmas.Bool.Decides.{nat_tests}
use Rattle.std.proofs.lemmas.List.{get_or_past}
use Rattle.std.proofs.lemmas.List.Elements.{All-get_or}
use Rattle.host_mem.specs.Memory.{written}
use Rattle.kernel_core.specs.declared.error.Errno.{Errno}
use Rattle.kernel_core.specs.declared.error.Errno.TheVariants.{EINVAL, EPERM}
use Rattle.kernel_core.specs.declared.mask.MaskChange.TheVariants as changes
use Rattle.kernel_core.specs.declared.reply.Reply.{Reply}
use Rattle.kernel_core.specs.declared.signal.Sig.{Sig}
use Rattle.kernel_core.specs.declared.signal.Sig.TheVariants as sigs
use Rattle.kernel_model.specs.Always.{IsMask, IsSet}
use Rattle.kernel_model.specs.Came.{Came, Did, Done, Refused, Waits, Given, came_as, done, refused_if, told_as}
use Rattle.kernel_model.specs.Shared.{Info}
use Rattle.kernel_model.specs.SignalRows.{action_at, after_action, bits_of, change_mask, is_unblockable, no_action, pending, pending_set, set_action, set_action_to, set_stack, with_mask, with_signals}
use Rattle.kernel_model.specs.SignalSets.{SignalSet, no_signals, place}
use Rattle.kernel_model.specs.State.{Kernel, Signals}
use Rattle.kernel_model.specs.declared.signal.Action.{Action}
use Rattle.kernel_model.specs.declared.signal.SigStack.{SigStack}
use Rattle.native_calls.specs.SignalBytes as bytes
use Rattle.native_calls.specs.SignalBytes.{action_bytes, set_bytes, stack_bytes}
use Rattle.native_calls.specs.Signals.{rt_sigaction_row, rt_sigpending_row, rt_sigprocmask_row, sigaltstack_row}
use Rattle.native_calls.specs.HostBytes.{given, read_as}
use Rattle.native_calls.specs.Step as native_step
use Rattle.native_calls.specs.Step.{memory_after, reply_to, stored, stored_unless_null, stores_unless_null}
use Rattle.native_calls.specs.Table.{native_call}
use Rattle.native_signal.proofs.BitLaws.{bits_below}
use Rattle.native_signal.proofs.KeptLaws.{zeros}
use Rattle.native_signal.specs.Fitting.{IsNumberedStack}
use Rattle.number_tables.specs.Signals.{native_signal, signal_of_native, signal_of_o32}
use Rattle.number_tables.specs.inside.SignalLaws.{native_signal_found}
use Rattle.signal_sets.proofs.SameSets.{real_time_range}
use Rattle.signal_sets.proofs.Turned.{four_words_small}
use Rattle.signal_sets.specs.NativeSets.{bits_where, has_natively, has_o32_number, is_member, set_of_native}
use Rattle.bridge_log.specs.Looks.{IsLook}
use Rattle.bridge_signal_state.proofs.OneSignal.{no_bit}
use Rattle.bridge_signal_state.proofs.Rooms.{length-set_bytes, own_bytes, set_back, stack_back}
use Rattle.bridge_signal_state.specs.Setting.{is_done, stack_set}
use Rattle.bridge_signal_state.specs.Acting.{IsAct}
use Rattle.bridge_signal_state.specs.inside.Shown.{is_fine}

-- Looks. Whether there is room is not asked: what was put there is.

abbrev pub filled_with : ℕ → List ℕ → List ℕ
filled_with size bytes = written (replicate size 0) 65536 bytes

abbrev pub told_at : ℕ → List ℕ → Reply
told_at size bytes = stored (replicate size 0) 65536 bytes

pub pending_look : (kernel : Kernel) (left : List ℕ)
    → IsLook kernel (told_at 16 (set_bytes (pending_set kernel.signals))) (filled_with 16 (set_bytes (pending_set kernel.signals))) left (native_call 136 (65536 ∷ 16 ∷ 0 ∷ 0 ∷ 0 ∷ 0 ∷ []) kernel (replicate 16 0) left)
unfolding rt_sigpending_row pending
pending_look kernel left = record { kernel_stays = refl; left_stays = refl; sends = refl; replied = refl; stored = refl }

pub mask_look : (kernel : Kernel) (left : List ℕ)
    → IsLook kernel (told_at 16 (set_bytes kernel.signals.mask)) (filled_with 16 (set_bytes kernel.signals.mask)) left (native_call 135 (0 ∷ 0 ∷ 65536 ∷ 16 ∷ 0 ∷ 0 ∷ []) kernel (replicate 16 0) left)
unfolding rt_sigprocmask_row change_mask
mask_look kernel left = record { kernel_stays = refl; left_stays = refl; sends = refl; replied = refl; stored = refl }

pub stack_look : (kernel : Kernel) (left : List ℕ)
    → IsLook kernel (told_at 24 (stack_bytes kernel.signals.stack)) (filled_with 24 (stack_bytes kernel.signals.stack)) left (native_call 132 (0 ∷ 65536 ∷ 0 ∷ 0 ∷ 0 ∷ 0 ∷ []) kernel (replicate 24 0) left)
unfolding sigaltstack_row set_stack
stack_look kernel left = record { kernel_stays = refl; left_stays = refl; sends = refl; replied = refl; stored = refl }

-- a signal by its native number

number_small : (signal : Sig) → native_signal signal < 2 ^ 32
number_small (sigs.RealTime signal) = omega (arith, real_time_range signal)
number_small _ = lit< tt

pub named : (signal : Sig) (number : ℕ) → number ≡ native_signal signal → signal_of_native (number % 2 ^ 32) ≡ Some signal
named signal number same =
    let low : number % 2 ^ 32 ≡ native_signal signal = omega (arith, number_small signal) in
    ap signal_of_native low ∙ native_signal_found signal

action_look_of : (kernel : Kernel) (left : List ℕ) (signal : Sig) (found : Option Sig) → found ≡ Some signal
    → IsLook kernel (told_at 32 (action_bytes (action_at kernel.signals signal))) (filled_with 32 (action_bytes (action_at kernel.signals signal))) left
    (stores_unless_null (replicate 32 0) 65536 (told_as action_bytes (set_action kernel 16 found None)) left)
unfolding set_action
action_look_of kernel left signal found is =
    subst (λ (f : Option Sig). IsLook kernel (told_at 32 (action_bytes (action_at kernel.signals signal))) (filled_with 32 (action_bytes (action_at kernel.signals signal))) left
    (stores_unless_null (replicate 32 0) 65536 (told_as action_bytes (set_action kernel 16 f None)) left)) (sym is)
    (record { kernel_stays = refl; left_stays = refl; sends = refl; replied = refl; stored = refl })

pub action_look : (kernel : Kernel) (left : List ℕ) (signal : Sig) (number : ℕ) → number ≡ native_signal signal
    → IsLook kernel (told_at 32 (action_bytes (action_at kernel.signals signal))) (filled_with 32 (action_bytes (action_at kernel.signals signal))) left (native_call 134 (number ∷ 0 ∷ 65536 ∷ 16 ∷ 0 ∷ 0 ∷ []) kernel (replicate 32 0) left)
unfolding rt_sigaction_row
action_look kernel left signal number same = action_look_of kernel left signal (signal_of_native (number % 2 ^ 32)) (named signal number same)

-- Acts, with no address for what was set before

unwritten : {V : Type 0} (meaning : V → List ℕ) (memory : List ℕ) (came : Came V) → memory_after (written memory 0) memory (came_as meaning came) ≡ memory
unwritten meaning memory (Done found) = refl
unwritten meaning memory (Refused error) = refl
unwritten meaning memory (Waits wake) = refl

abbrev pub reply_of : {V : Type 0} → (V → List ℕ) → List ℕ → Came V → Reply
reply_of meaning memory came = reply_to (stored_unless_null memory 0) (came_as meaning came)

any_act : {V : Type 0} (meaning : V → List ℕ) (memory left : List ℕ) (did : Did Kernel V) → IsAct did.state (reply_of meaning memory did.came) memory left (stores_unless_null memory 0 (told_as meaning did) left)
any_act meaning memory left did = record { kernel_stays = refl; left_stays = refl; sends = refl; replied = refl; stored = unwritten meaning memory did.came }

act_by : {V : Type 0} (meaning : V → List ℕ) (memory left : List ℕ) (did same : Did Kernel V) → did ≡ same → IsAct same.state (reply_of meaning memory same.came) memory left (stores_unless_null memory 0 (told_as meaning did) left)
act_by meaning memory left did same e =
    subst (λ d. IsAct same.state (reply_of meaning memory same.came) memory left (stores_unless_null memory 0 (told_as meaning d) left)) (sym e) (any_act meaning memory left same)

-- the mask

set_there : (set : SignalSet) → IsSet set → bytes.set_at (set_bytes set) 65536 ≡ Ok set
set_there set is =
    ap (λ (found : Option (List ℕ)). read_as bytes.set_in (given found)) (own_bytes 16 (set_bytes set) (length-set_bytes set))
    ∙ ap (λ (s : SignalSet). Ok s) (set_back set is)

mask_set : (kernel : Kernel) (set : SignalSet) (found : Given SignalSet) → found ≡ Ok set → change_mask kernel 16 (Some changes.Set) (Some found) ≡ done (with_mask kernel set) kernel.signals.mask
unfolding change_mask
mask_set kernel set found is = ap (λ (f : Given SignalSet). change_mask kernel 16 (Some changes.Set) (Some f)) is

pub mask_act : (kernel : Kernel) (left : List ℕ) (set : SignalSet) → IsSet set
    → IsAct (with_mask kernel set) (native_step.value 0) (set_bytes set) left (native_call 135 (2 ∷ 65536 ∷ 0 ∷ 16 ∷ 0 ∷ 0 ∷ []) kernel (set_bytes set) left)
unfolding rt_sigprocmask_row
mask_act kernel left set is =
    act_by set_bytes (set_bytes set) left (change_mask kernel 16 (Some changes.Set) (Some (bytes.set_at (set_bytes set) 65536))) (done (with_mask kernel set) kernel.signals.mask)
    (mask_set kernel set (bytes.set_at (set_bytes set) 65536) (set_there set is))

-- a default action, which is 32 bytes of 0

zero_bits : (test : ℕ → Bool) → ((number : ℕ) → test number ≡ false) → (from count : ℕ) → bits_where test from count ≡ 0
unfolding bits_where
zero_bits test none from zero = refl
zero_bits test none from (suc count) = rw (none from, zero_bits test none (from + 1) count) refl

no_word : (k : ℕ) → slice_index (0 ∷ 0 ∷ []) k ≡ 0
no_word zero = refl
no_word (suc zero) = refl
no_word (suc (suc k)) = refl

no_member : (found : Option Sig) → is_member (has_natively (0 ∷ 0 ∷ [])) found ≡ false
no_member None = refl
no_member (Some signal) =
    ap (λ (w : ℕ). bit_at w ((native_signal signal - 1) % 64) == 1) (no_word ((native_signal signal - 1) / 64))
    ∙ ap (λ (n : ℕ). n == 1) (no_bit ((native_signal signal - 1) % 64))

no_set : set_of_native (0 ∷ 0 ∷ []) ≡ no_signals
unfolding set_of_native
no_set =
    let none = λ (from : ℕ). zero_bits (has_o32_number (0 ∷ 0 ∷ [])) (λ number. no_member (signal_of_o32 number)) from 32 in
    (λ i. none 1 i ∷ none 33 i ∷ none 65 i ∷ none 97 i ∷ [])

default_there : bytes.action_at (replicate 32 0) 65536 ≡ Ok no_action
default_there = ap (λ (set : SignalSet). Ok (record no_action { mask = set })) no_set

default_set : (kernel : Kernel) (signal : Sig) (found : Option Sig) (given : Given Action) → found ≡ Some signal → given ≡ Ok no_action → is_unblockable signal ≡ false
    → set_action kernel 16 found (Some given) ≡ done (with_signals kernel (after_action kernel.signals signal no_action)) (action_at kernel.signals signal)
unfolding set_action
default_set kernel signal found given is read blockable =
    ap (λ (f : Option Sig). set_action kernel 16 f (Some given)) is
    ∙ ap (λ (g : Given Action). set_action kernel 16 (Some signal) (Some g)) read
    ∙ ap (λ (b : Bool). refused_if (true && b) EINVAL kernel (set_action_to kernel signal (Some no_action))) blockable

pub default_act : (kernel : Kernel) (left : List ℕ) (signal : Sig) (number : ℕ) → number ≡ native_signal signal → is_unblockable signal ≡ false
    → IsAct (with_signals kernel (after_action kernel.signals signal no_action)) (native_step.value 0) (replicate 32 0) left (native_call 134 (number ∷ 65536 ∷ 0 ∷ 16 ∷ 0 ∷ 0 ∷ []) kernel (replicate 32 0) left)
unfolding rt_sigaction_row
default_act kernel left signal number same blockable =
    act_by action_bytes (replicate 32 0) left (set_action kernel 16 (signal_of_native (number % 2 ^ 32)) (Some (bytes.action_at (replicate 32 0) 65536)))
    (done (with_signals kernel (after_action kernel.signals signal no_action)) (action_at kernel.signals signal))
    (default_set kernel signal (signal_of_native (number % 2 ^ 32)) (bytes.action_at (replicate 32 0) 65536) (named signal number same) default_there blockable)

-- the alternate stack

stack_there : (stack : SigStack) → IsNumberedStack stack → bytes.stack_at (stack_bytes stack) 65536 ≡ Ok stack
stack_there stack is =
    ap (λ (found : Option (List ℕ)). read_as bytes.stack_in (given found)) (own_bytes 24 (stack_bytes stack) refl)
    ∙ ap (λ (s : SigStack). Ok s) (stack_back stack is)

pub stack_act : (kernel : Kernel) (left : List ℕ) (stack : SigStack) → IsNumberedStack stack
    → IsAct (stack_set kernel stack).state (reply_of stack_bytes (stack_bytes stack) (stack_set kernel stack).came) (stack_bytes stack) left (native_call 132 (65536 ∷ 0 ∷ 0 ∷ 0 ∷ 0 ∷ 0 ∷ []) kernel (stack_bytes stack) left)
unfolding sigaltstack_row
stack_act kernel left stack is =
    act_by stack_bytes (stack_bytes stack) left (set_stack kernel None (Some (bytes.stack_at (stack_bytes stack) 65536))) (stack_set kernel stack)
    (ap (λ (found : Given SigStack). set_stack kernel None (Some found)) (stack_there stack is))

error_told : (error : Errno) → is_fine (native_step.failure error) ≡ false
error_told EPERM = refl
error_told _ = refl

pub stack_fine : (memory : List ℕ) (came : Came SigStack) → is_fine (reply_of stack_bytes memory came) ≡ is_done came
stack_fine memory (Done found) = refl
stack_fine memory (Refused error) = error_told error
stack_fine memory (Waits wake) = refl

-- What is read is a set, an action with a mask, a stack of numbers.

range_small : (pending : List (List Info)) (first : ℕ) → bits_of (slice_range pending first (first + 32)) < 2 ^ 32
range_small pending first = bits_below 32 (slice_range pending first (first + 32)) (omega (arith, length-take (first + 32 - first) (drop first pending)))

pub pending_is_set : (signals : Signals) → IsSet (pending_set signals)
pending_is_set signals =
    four_words_small _ _ _ _ (range_small signals.pending 0) (range_small signals.pending 32) (range_small signals.pending 64) (range_small signals.pending 96)

-- what holds of each action holds of a signal's
pub of_action : (P : Action → Type 0) (signals : Signals) (signal : Sig) → P no_action → All P signals.actions → P (action_at signals signal)
of_action P signals signal default all = by (nat_lt (place signal) (length signals.actions)) refl where
  by : (b : Bool) → nat_lt (place signal) (length signals.actions) ≡ b → P (action_at signals signal)
  by true e = All-get_or P signals.actions (place signal) no_action (grind (arith, nat_tests)) all
  by false e =
      let out : length signals.actions ≤ place signal = grind (arith, nat_tests) in
      subst P (sym (get_or_past signals.actions (place signal) no_action out)) default

pub action_small : (signals : Signals) (signal : Sig) → All (λ (action : Action). action.handler < 2 ^ 64) signals.actions → (action_at signals signal).handler < 2 ^ 64
action_small signals signal all = of_action (λ action. action.handler < 2 ^ 64) signals signal (lit< tt) all

pub action_mask : (signals : Signals) (signal : Sig) → All (λ (action : Action). IsMask action.mask) signals.actions → IsSet (action_at signals signal).mask
action_mask signals signal all = let mask = of_action (λ action. IsMask action.mask) signals signal zeros all in mask.0
