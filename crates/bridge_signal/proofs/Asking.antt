-- What rows do by what is asked for, and how they end by what was told.
use Rattle.std.proofs.Common.{◌≡◌, ℕ, Bool, true, false, List, Option, Some, None, Ok, Err, refl, sym, ap, ◌∙◌, if◌then◌else◌}
use Rattle.std.specs.Prelude.{◌==◌, ◌&&◌, is_some, not, nat_lt}
use Rattle.kernel_core.specs.declared.error.Errno.TheVariants.{EINVAL, ENOMEM}
use Rattle.kernel_core.specs.declared.mask.MaskChange.{MaskChange}
use Rattle.kernel_core.specs.declared.signal.Sig.{Sig}
use Rattle.kernel_model.specs.Came.{Did, Given, done, given_or_none, refused, refused_if, told_as, with_given, with_some}
use Rattle.kernel_model.specs.SignalRows.{action_at, change_mask, changed_mask, is_unblockable, least_stack, pending, pending_set, set_action, set_action_to, set_stack, set_stack_to, ss_disable, with_mask, with_stack}
use Rattle.kernel_model.specs.SignalSets.{SignalSet}
use Rattle.kernel_model.specs.State.{Kernel}
use Rattle.kernel_model.specs.declared.signal.Action.{Action}
use Rattle.kernel_model.specs.declared.signal.SigStack.{SigStack}
use Rattle.mips_exec.specs.Processor.{register}
use Rattle.number_tables.specs.MaskChanges.{mask_change_of_o32}
use Rattle.number_tables.specs.Signals.{signal_of_o32}
use Rattle.o32_model.specs.Actions as o32
use Rattle.o32_model.specs.GuestBytes.{unless_null}
use Rattle.o32_model.specs.Masks.{set_at, set_bytes}
use Rattle.o32_model.specs.Small as small
use Rattle.o32_model.specs.Step as o32_step
use Rattle.o32_model.specs.Step.{Guest, value}
use Rattle.bridge_signal_state.specs.Setting.{SetsStack, is_done}
use Rattle.bridge_signal.specs.declared.asked.ActionSetting.{ActionSetting}
use Rattle.bridge_signal.specs.declared.asked.MaskSetting.{MaskSetting}
use Rattle.bridge_signal.specs.inside.Asked.{action_changed, action_set, asked_action, asked_of, asked_set, if_sized, mask_changed, mask_set}
use Rattle.bridge_signal_state.specs.Passed.{ended, ending, fails, stores}
use Rattle.bridge_signal.specs.inside.Endings.{stores_told, stores_told_unless_null}
use Rattle.bridge_signal.specs.inside.Stacks.{changed_stack, set_from, set_taken, told_if}
use Rattle.bridge_signal.specs.inside.Told.{did}

-- What rows do

change_law : (kernel : Kernel) (size : ℕ) (how : Option MaskChange) (set : Option (Given SignalSet)) → change_mask kernel size how set ≡ mask_changed kernel (if_sized size (asked_set how set))
unfolding change_mask
change_law kernel size how None = by (size == 16) where
  by : (b : Bool) → refused_if (not b) EINVAL kernel (done kernel kernel.signals.mask) ≡ mask_changed kernel (if not b then Err EINVAL else Ok None)
  by true = refl
  by false = refl
change_law kernel size how (Some set) = by (size == 16) how set where
  by : (b : Bool) (how : Option MaskChange) (set : Given SignalSet)
      → refused_if (not b) EINVAL kernel (with_some kernel EINVAL how (λ how. with_given kernel set (λ set. done (with_mask kernel (changed_mask how kernel.signals.mask set)) kernel.signals.mask)))
      ≡ mask_changed kernel (if not b then Err EINVAL else asked_set how (Some set))
  by false how set = refl
  by true None set = refl
  by true (Some how) (Err error) = refl
  by true (Some how) (Ok set) = refl

action_law : (kernel : Kernel) (size : ℕ) (signal : Option Sig) (action : Option (Given Action)) → set_action kernel size signal action ≡ action_changed kernel (if_sized size (asked_of signal action))
unfolding set_action
action_law kernel size signal action = by (size == 16) signal action where
  new : (signal : Sig) (b : Bool) (given : Given Action)
      → refused_if b EINVAL kernel (with_given kernel (given_or_none (Some given)) (λ action. set_action_to kernel signal action)) ≡ action_changed kernel (if b then Err EINVAL else asked_action signal given)
  new signal true given = refl
  new signal false (Err error) = refl
  new signal false (Ok action) = refl

  by : (b : Bool) (signal : Option Sig) (action : Option (Given Action))
      → refused_if (not b) EINVAL kernel (with_some kernel EINVAL signal (λ signal. refused_if (is_some action && is_unblockable signal) EINVAL kernel (with_given kernel (given_or_none action) (λ action. set_action_to kernel signal action)))) ≡ action_changed kernel (if not b then Err EINVAL else asked_of signal action)
  by false signal action = refl
  by true None action = refl
  by true (Some signal) None = refl
  by true (Some signal) (Some given) = new signal (is_unblockable signal) given

pending_law : (kernel : Kernel) (size : ℕ) → pending kernel size ≡ did kernel (if_sized size (Ok (pending_set kernel.signals)))
unfolding pending
pending_law kernel size = by (size == 16) where
  by : (b : Bool) → refused_if (not b) EINVAL kernel (done kernel (pending_set kernel.signals)) ≡ did kernel (if not b then Err EINVAL else Ok (pending_set kernel.signals))
  by true = refl
  by false = refl

pub pending_refused : (kernel : Kernel) (size : ℕ) → (size == 16) ≡ false → pending kernel size ≡ did kernel (Err EINVAL)
pending_refused kernel size other = pending_law kernel size ∙ ap (λ (b : Bool). did kernel (if not b then Err EINVAL else Ok (pending_set kernel.signals))) other

pub pending_told : (kernel became : Kernel) (size : ℕ) (set : SignalSet) → (size == 16) ≡ true → set ≡ pending_set kernel.signals → became ≡ kernel → pending kernel size ≡ did became (Ok set)
pending_told kernel became size set whole is same =
    pending_law kernel size ∙ ap (λ (b : Bool). did kernel (if not b then Err EINVAL else Ok (pending_set kernel.signals))) whole ∙ (λ i. done ((sym same) i) ((sym is) i))

-- The mask and an action, told and set

pub mask_done : (kernel became : Kernel) (change : Option MaskSetting) (before : SignalSet) → before ≡ kernel.signals.mask → became ≡ mask_set kernel change → mask_changed kernel (Ok change) ≡ did became (Ok before)
mask_done kernel became change before same is = λ i. done ((sym is) i) ((sym same) i)

pub action_done : (kernel became : Kernel) (asked : ActionSetting) (before : Action) → before ≡ action_at kernel.signals asked.sig → became ≡ action_set kernel asked.sig asked.action → action_changed kernel (Ok asked) ≡ did became (Ok before)
action_done kernel became asked before same is = λ i. done ((sym is) i) ((sym same) i)

-- The alternate stack

pub stack_from : (kernel : Kernel) (sp : ℕ) (new : Option SigStack) → set_from kernel kernel.signals.stack sp new ≡ set_stack_to kernel (Some sp) new
stack_from kernel sp None = refl
stack_from kernel sp (Some new) = refl

pub stack_taken : (kernel became : Kernel) (shown new : SigStack) (taken : Bool) → SetsStack kernel new taken became → set_taken kernel shown new ≡ did became (told_if taken shown new)
unfolding set_stack
stack_taken kernel became shown new taken sets =
    by (nat_lt ss_disable new.flags) (not (new.flags == ss_disable) && nat_lt new.size least_stack) sets.told sets.state where
      by : (high small : Bool) → taken ≡ is_done (refused_if high EINVAL kernel (refused_if small ENOMEM kernel (done (with_stack kernel new) kernel.signals.stack))).came
          → became ≡ (refused_if high EINVAL kernel (refused_if small ENOMEM kernel (done (with_stack kernel new) kernel.signals.stack))).state
          → refused_if high EINVAL kernel (refused_if small ENOMEM kernel (done (with_stack kernel new) shown)) ≡ did became (if taken then Ok shown else Err (if high then EINVAL else ENOMEM))
      by true small t b = ap (λ (k : Kernel). refused k EINVAL) (sym b) ∙ ap (λ (x : Bool). did became (if x then Ok shown else Err EINVAL)) (sym t)
      by false true t b = ap (λ (k : Kernel). refused k ENOMEM) (sym b) ∙ ap (λ (x : Bool). did became (if x then Ok shown else Err ENOMEM)) (sym t)
      by false false t b = ap (λ (k : Kernel). done k shown) (sym b) ∙ ap (λ (x : Bool). did became (if x then Ok shown else Err ENOMEM)) (sym t)

pub did_state : {V : Type 0} (kernel : Kernel) (told : Given V) → (did kernel told).state ≡ kernel
did_state kernel (Ok found) = refl
did_state kernel (Err error) = refl

-- How they end

told_ended : {V : Type 0} (bytes_of : V → List ℕ) (guest : Guest) (became : Kernel) (address : ℕ) (told : Given V) (left : List ℕ)
    → small.stores_unless_null guest address (told_as bytes_of (did became told)) left ≡ ended became guest.processor left (stores_told_unless_null bytes_of guest.memory address told)
told_ended bytes_of guest became address (Err error) left = by (address == 0) where
  by : (null : Bool)
      → (if null then o32_step.gives guest (told_as (λ _. 0) (told_as bytes_of (did became (Err error)))) left else o32_step.stores guest address (told_as bytes_of (did became (Err error))) left)
      ≡ ended became guest.processor left (fails guest.memory error)
  by true = refl
  by false = refl
told_ended bytes_of guest became address (Ok found) left = by (address == 0) where
  by : (null : Bool)
      → (if null then o32_step.gives guest (told_as (λ _. 0) (told_as bytes_of (did became (Ok found)))) left else o32_step.stores guest address (told_as bytes_of (did became (Ok found))) left)
      ≡ ended became guest.processor left (if null then ending (value 0) guest.memory else stores guest.memory address (bytes_of found) 0)
  by true = refl
  by false = refl

stored_ended : {V : Type 0} (bytes_of : V → List ℕ) (guest : Guest) (became : Kernel) (address : ℕ) (told : Given V) (left : List ℕ)
    → o32_step.stores guest address (told_as bytes_of (did became told)) left ≡ ended became guest.processor left (stores_told bytes_of guest.memory address told)
stored_ended bytes_of guest became address (Err error) left = refl
stored_ended bytes_of guest became address (Ok found) left = refl

pub action_ended : (kernel became : Kernel) (guest : Guest) (number new old size : ℕ) (left : List ℕ) (asked : Given ActionSetting) (told : Given Action) → asked ≡ if_sized size (asked_of (signal_of_o32 number) (o32.action_at guest.memory new)) → action_changed kernel asked ≡ did became told
    → o32.rt_sigaction_row kernel guest number new old size left ≡ ended became guest.processor left (stores_told_unless_null o32.action_bytes guest.memory old told)
unfolding o32.rt_sigaction_row
action_ended kernel became guest number new old size left asked told is does =
    ap (λ (d : Did Kernel Action). small.stores_unless_null guest old (told_as o32.action_bytes d) left)
    (action_law kernel size (signal_of_o32 number) (o32.action_at guest.memory new) ∙ ap (action_changed kernel) (sym is) ∙ does)
    ∙ told_ended o32.action_bytes guest became old told left

pub mask_ended : (kernel became : Kernel) (guest : Guest) (how new old size : ℕ) (left : List ℕ) (asked : Given (Option MaskSetting)) (told : Given SignalSet) → asked ≡ if_sized size (asked_set (mask_change_of_o32 how) (unless_null new (set_at guest.memory new))) → mask_changed kernel asked ≡ did became told
    → o32.rt_sigprocmask_row kernel guest how new old size left ≡ ended became guest.processor left (stores_told_unless_null set_bytes guest.memory old told)
unfolding o32.rt_sigprocmask_row
mask_ended kernel became guest how new old size left asked told is does =
    ap (λ (d : Did Kernel SignalSet). small.stores_unless_null guest old (told_as set_bytes d) left)
    (change_law kernel size (mask_change_of_o32 how) (unless_null new (set_at guest.memory new)) ∙ ap (mask_changed kernel) (sym is) ∙ does)
    ∙ told_ended set_bytes guest became old told left

pub pending_ended : (kernel became : Kernel) (guest : Guest) (address size : ℕ) (left : List ℕ) (told : Given SignalSet) → pending kernel size ≡ did became told
    → o32.rt_sigpending_row kernel guest address size left ≡ ended became guest.processor left (stores_told set_bytes guest.memory address told)
unfolding o32.rt_sigpending_row
pending_ended kernel became guest address size left told does =
    ap (λ (d : Did Kernel SignalSet). o32_step.stores guest address (told_as set_bytes d) left) does ∙ stored_ended set_bytes guest became address told left

pub stack_ended : (kernel became : Kernel) (guest : Guest) (sp new old : ℕ) (left : List ℕ) (asked : Given (Option SigStack)) (told : Given SigStack) → register guest.processor 29 ≡ sp → asked ≡ given_or_none (o32.stack_at guest.memory new) → changed_stack kernel sp asked ≡ did became told
    → o32.sigaltstack_row kernel guest new old left ≡ ended became guest.processor left (stores_told_unless_null o32.stack_bytes guest.memory old told)
unfolding o32.sigaltstack_row set_stack
stack_ended kernel became guest sp new old left asked told at is does =
    ap (λ (n : ℕ). small.stores_unless_null guest old (told_as o32.stack_bytes (changed_stack kernel n (given_or_none (o32.stack_at guest.memory new)))) left) at
    ∙ ap (λ (d : Did Kernel SigStack). small.stores_unless_null guest old (told_as o32.stack_bytes d) left) (ap (changed_stack kernel sp) (sym is) ∙ does)
    ∙ told_ended o32.stack_bytes guest became old told left
