-- An action in host memory, and the native call that sets it.
use Rattle.std.proofs.Common.{◌≡◌, ℕ, ◌%◌, ◌^◌, ◌<◌, Bool, true, false, ◌&&◌, List, [], ◌∷◌, map, ℤ, pos, Option, Some, Ok, refl, sym, ap, subst, ◌∙◌, if◌then◌else◌}
use Rattle.kernel_core.specs.declared.error.Errno.TheVariants.{EINVAL}
use Rattle.kernel_core.specs.declared.signal.Sig.{Sig}
use Rattle.kernel_model.specs.Always.{IsSet}
use Rattle.kernel_model.specs.Came.{Did, Given, done, refused_if, told_as}
use Rattle.kernel_model.specs.SignalRows.{action_at, is_unblockable, set_action, set_action_to}
use Rattle.kernel_model.specs.State.{Kernel}
use Rattle.kernel_model.specs.declared.signal.Action.{Action}
use Rattle.layouts.specs.Native.{sigaction}
use Rattle.layouts.specs.Shape.{Shape, after_put_record, record_bytes}
use Rattle.native_calls.specs.HostBytes.{given, read_as}
use Rattle.native_calls.specs.SignalBytes as bytes
use Rattle.native_calls.specs.SignalBytes.{action_bytes}
use Rattle.native_calls.specs.Signals.{rt_sigaction_row}
use Rattle.native_calls.specs.Step as native_step
use Rattle.native_calls.specs.Table.{native_call}
use Rattle.bridge_signal_state.proofs.Passed.{action_fits}
use Rattle.number_tables.specs.SaNumbers.{native_sa}
use Rattle.number_tables.specs.Signals.{native_signal, signal_of_native}
use Rattle.signal_sets.proofs.Turned.{IsNativeSet-native_of}
use Rattle.signal_sets.specs.NativeSets.{native_of}
use Rattle.bridge_signal_state.proofs.Rooms.{action_back, length-action_bytes, own_bytes}
use Rattle.bridge_signal_state.proofs.StateLooks.{named}
use Rattle.bridge_signal_state.specs.Acting.{IsAct}
use Rattle.bridge_signal.specs.inside.Asked.{action_set_to}

-- what is put there
pub action_written : (shape : Shape) (old written : List ℕ) (values : List ℤ) (action : Action) → shape ≡ sigaction → values ≡ map pos (native_sa action.flags ∷ action.handler ∷ native_of action.mask) → action.handler < 2 ^ 64
    → written ≡ after_put_record shape values old → written ≡ action_bytes action
action_written shape old written values action same are small put =
    let list = map pos (native_sa action.flags ∷ action.handler ∷ native_of action.mask) in
    put ∙ ap (λ (s : Shape). after_put_record s values old) same ∙ ap (λ (v : List ℤ). after_put_record sigaction v old) are
    ∙ ap (λ (b : Bool). if b then record_bytes sigaction list else old) (action_fits action.flags action.handler (native_of action.mask) small (IsNativeSet-native_of action.mask))

action_there : (action : Action) → action.handler < 2 ^ 64 → IsSet action.mask → bytes.action_at (action_bytes action) 65536 ≡ Ok action
action_there action small is =
    ap (λ (found : Option (List ℕ)). read_as bytes.action_in (given found)) (own_bytes 32 (action_bytes action) (length-action_bytes action))
    ∙ ap (λ (a : Action). Ok a) (action_back action small is)

sets : (kernel : Kernel) (signal : Sig) (action : Action) (found : Option Sig) (read : Given Action) → found ≡ Some signal → read ≡ Ok action → is_unblockable signal ≡ false
    → set_action kernel 16 found (Some read) ≡ done (action_set_to kernel signal action) (action_at kernel.signals signal)
unfolding set_action
sets kernel signal action found read is there blockable =
    ap (λ (f : Option Sig). set_action kernel 16 f (Some read)) is
    ∙ ap (λ (g : Given Action). set_action kernel 16 (Some signal) (Some g)) there
    ∙ ap (λ (b : Bool). refused_if (true && b) EINVAL kernel (set_action_to kernel signal (Some action))) blockable

pub set_act : (kernel : Kernel) (left : List ℕ) (signal : Sig) (number : ℕ) (action : Action) → number ≡ native_signal signal → is_unblockable signal ≡ false → action.handler < 2 ^ 64 → IsSet action.mask
    → IsAct (action_set_to kernel signal action) (native_step.value 0) (action_bytes action) left (native_call 134 (number ∷ 65536 ∷ 0 ∷ 16 ∷ 0 ∷ 0 ∷ []) kernel (action_bytes action) left)
unfolding rt_sigaction_row
set_act kernel left signal number action same blockable small is =
    let memory = action_bytes action in
    subst (λ (d : Did Kernel Action). IsAct (action_set_to kernel signal action) (native_step.value 0) memory left (native_step.stores_unless_null memory 0 (told_as action_bytes d) left))
    (sym (sets kernel signal action (signal_of_native (number % 2 ^ 32)) (bytes.action_at memory 65536) (named signal number same) (action_there action small is) blockable))
    (record { kernel_stays = refl; left_stays = refl; sends = refl; replied = refl; stored = refl })
