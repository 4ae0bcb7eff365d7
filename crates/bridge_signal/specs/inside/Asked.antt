-- What a call asks for, when its arguments are fine. (The form is this project's own.)
use Rattle.std.specs.Prelude.{◌≡◌, ⊤, ℕ, false, not, ◌==◌, Option, Some, None, Ok, Err, if◌then◌else◌}
use Rattle.kernel_core.specs.declared.error.Errno.TheVariants.{EINVAL}
use Rattle.kernel_core.specs.declared.mask.MaskChange.{MaskChange}
use Rattle.kernel_core.specs.declared.signal.Sig.{Sig}
use Rattle.kernel_model.specs.Came.{Did, Given, done, refused}
use Rattle.kernel_model.specs.SignalRows.{action_at, after_action, changed_mask, is_unblockable, set_size, with_mask, with_signals}
use Rattle.kernel_model.specs.SignalSets.{SignalSet}
use Rattle.kernel_model.specs.State.{Kernel}
use Rattle.kernel_model.specs.declared.signal.Action.{Action}
use Rattle.bridge_signal.specs.declared.asked.ActionSetting.{ActionSetting}
use Rattle.bridge_signal.specs.declared.asked.MaskSetting.{MaskSetting}

-- whose arguments have a size of a set
abbrev pub if_sized : {A : Type 0} → ℕ → Given A → Given A
if_sized size asked = if not (size == set_size) then Err EINVAL else asked

-- A change of the mask, where there is one

abbrev pub asked_change : MaskChange → Given SignalSet → Given (Option MaskSetting)
asked_change how (Err error) = Err error
asked_change how (Ok set) = Ok (Some (record { how = how; set = set }))

abbrev pub asked_set : Option MaskChange → Option (Given SignalSet) → Given (Option MaskSetting)
asked_set how None = Ok None
asked_set None (Some set) = Err EINVAL
asked_set (Some how) (Some set) = asked_change how set

-- what becomes of a mask that was `before`
abbrev pub mask_from : Kernel → SignalSet → Option MaskSetting → Kernel
mask_from kernel before None = kernel
mask_from kernel before (Some change) = with_mask kernel (changed_mask change.how before change.set)

abbrev pub mask_set : Kernel → Option MaskSetting → Kernel
mask_set kernel change = mask_from kernel kernel.signals.mask change

-- what the row does by it
abbrev pub mask_changed : Kernel → Given (Option MaskSetting) → Did Kernel SignalSet
mask_changed kernel (Err error) = refused kernel error
mask_changed kernel (Ok change) = done (mask_set kernel change) kernel.signals.mask

-- A signal, and its new action, where there is one. KILL and STOP get none.

abbrev pub setting : Sig → Option Action → ActionSetting
setting signal action = record { sig = signal; action = action }

abbrev pub asked_action : Sig → Given Action → Given ActionSetting
asked_action signal (Err error) = Err error
asked_action signal (Ok action) = Ok (setting signal (Some action))

abbrev pub asked_new : Sig → Option (Given Action) → Given ActionSetting
asked_new signal None = Ok (setting signal None)
asked_new signal (Some action) = if is_unblockable signal then Err EINVAL else asked_action signal action

abbrev pub asked_of : Option Sig → Option (Given Action) → Given ActionSetting
asked_of None action = Err EINVAL
asked_of (Some signal) action = asked_new signal action

abbrev pub IsAllowed : Sig → Option Action → Type 0
IsAllowed signal None = ⊤
IsAllowed signal (Some action) = is_unblockable signal ≡ false

abbrev pub action_set_to : Kernel → Sig → Action → Kernel
action_set_to kernel signal action = with_signals kernel (after_action kernel.signals signal action)

abbrev pub action_set : Kernel → Sig → Option Action → Kernel
action_set kernel signal None = kernel
action_set kernel signal (Some action) = action_set_to kernel signal action

-- what the row does by it
abbrev pub action_changed : Kernel → Given ActionSetting → Did Kernel Action
action_changed kernel (Err error) = refused kernel error
action_changed kernel (Ok asked) = done (action_set kernel asked.sig asked.action) (action_at kernel.signals asked.sig)
