-- Waits for signals.
use Rattle.std.proofs.Common.{◌≡◌, ℕ, Bool, true, false, List, [], ◌∷◌, length, take, drop, Some, None, Ok, Err, refl, sym, ap, subst, ◌∙◌, arith, if◌then◌else◌}
use Rattle.std.specs.Prelude.{◌==◌, not}
use Rattle.std.proofs.lemmas.Bool.Decides.{nat_tests}
use Rattle.host_mem.specs.Memory.{is_inside}
use Rattle.kernel_core.specs.declared.error.Errno.{Errno}
use Rattle.kernel_core.specs.declared.error.Errno.TheVariants.{EINVAL}
use Rattle.kernel_core.specs.declared.reply.Reply.TheVariants as replies
use Rattle.kernel_model.specs.Came.{Given, refused_if, told_zero, waits, with_given}
use Rattle.kernel_model.specs.SignalRows.{pause, suspend, with_mask}
use Rattle.kernel_model.specs.SignalSets.{SignalSet}
use Rattle.kernel_model.specs.State.{Kernel}
use Rattle.native_calls.specs.HostBytes.{given, read_as}
use Rattle.native_calls.specs.SignalBytes as native_bytes
use Rattle.native_calls.specs.Signals as native
use Rattle.native_calls.specs.Step as native_step
use Rattle.native_calls.specs.Table.{native_call}
use Rattle.o32_model.specs.Masks.{set_at, with_own_mask}
use Rattle.o32_model.specs.Step as o32_step
use Rattle.o32_model.specs.Step.{Guest, O32Step}
use Rattle.o32_model.specs.Suspending as o32
use Rattle.signal_sets.specs.NativeSets.{native_of}
use Rattle.bridge_signal_state.specs.Passed.{IsLook}
use Rattle.bridge_signal.specs.inside.Asked.{if_sized}
use Rattle.bridge_signal_state.specs.Passed.{ended, ending, fails}
use Rattle.bridge_signal.specs.inside.Waiting.{asleep, endless, masked}

-- The native call that waits changes nothing.

inside : (room : List ℕ) → length room ≡ 16 → is_inside room 65536 16 ≡ true
inside room whole = grind (arith, nat_tests)

there : (room : List ℕ) → length room ≡ 16 → native_bytes.set_at room 65536 ≡ Ok (native_bytes.set_in (take 16 (drop 0 room)))
there room whole = ap (λ (b : Bool). read_as native_bytes.set_in (given (if b then Some (take 16 (drop 0 room)) else None))) (inside room whole)

whole : (set : SignalSet) → length (native_bytes.set_bytes set) ≡ 16
unfolding native_of
whole set = refl

waits_in : (kernel : Kernel) (room left : List ℕ) → length room ≡ 16 → IsLook kernel (replies.Sleep endless) room left (native_call 133 (65536 ∷ 16 ∷ 0 ∷ 0 ∷ 0 ∷ 0 ∷ []) kernel room left)
unfolding native.rt_sigsuspend_row suspend
waits_in kernel room left sized =
    subst (λ (set : Given SignalSet). IsLook kernel (replies.Sleep endless) room left (native_step.gives room (told_zero (with_given kernel set (λ _. waits kernel None))) left)) (sym (there room sized))
    (record { kernel_stays = refl; left_stays = refl; sends = refl; replied = refl; stored = refl })

pub sleep_looks : (kernel : Kernel) (room left : List ℕ) (set : SignalSet) → room ≡ native_bytes.set_bytes set
    → IsLook kernel (replies.Sleep endless) room left (native_call 133 (65536 ∷ 16 ∷ 0 ∷ 0 ∷ 0 ∷ 0 ∷ []) kernel room left)
sleep_looks kernel room left set is = waits_in kernel room left (ap (λ (r : List ℕ). length r) is ∙ whole set)

-- The rows

pub pause_ended : (kernel became : Kernel) (guest : Guest) (left : List ℕ) → became ≡ kernel → o32.pause_row kernel guest left ≡ ended became guest.processor left (ending (asleep guest.words) guest.memory)
unfolding o32.pause_row pause
pause_ended kernel became guest left same = ap (λ (k : Kernel). ended k guest.processor left (ending (asleep guest.words) guest.memory)) (sym same)

abbrev suspended : Kernel → Guest → List ℕ → Given SignalSet → O32Step
suspended kernel guest left (Err error) = ended kernel guest.processor left (fails guest.memory error)
suspended kernel guest left (Ok set) = ended (with_mask kernel set) guest.processor left (ending (masked (asleep guest.words) kernel.signals.mask) guest.memory)

suspend_law : (kernel : Kernel) (guest : Guest) (address size : ℕ) (left : List ℕ) → o32.rt_sigsuspend_row kernel guest address size left ≡ suspended kernel guest left (if_sized size (set_at guest.memory address))
unfolding o32.rt_sigsuspend_row suspend
suspend_law kernel guest address size left = by (size == 16) (set_at guest.memory address) where
  by : (b : Bool) (set : Given SignalSet) → with_own_mask kernel (Some set) (o32_step.gives guest (told_zero (refused_if (not b) EINVAL kernel (with_given kernel set (λ _. waits kernel None)))) left)
      ≡ suspended kernel guest left (if not b then Err EINVAL else set)
  by false (Err error) = refl
  by false (Ok set) = refl
  by true (Err error) = refl
  by true (Ok set) = refl

pub suspend_fails : (kernel : Kernel) (guest : Guest) (address size : ℕ) (left : List ℕ) (error : Errno) → Err error ≡ if_sized size (set_at guest.memory address) → o32.rt_sigsuspend_row kernel guest address size left ≡ ended kernel guest.processor left (fails guest.memory error)
suspend_fails kernel guest address size left error is = suspend_law kernel guest address size left ∙ ap (suspended kernel guest left) (sym is)

pub suspend_ended : (kernel became : Kernel) (guest : Guest) (address size : ℕ) (left : List ℕ) (set : SignalSet) → Ok set ≡ if_sized size (set_at guest.memory address) → became ≡ with_mask kernel set
    → o32.rt_sigsuspend_row kernel guest address size left ≡ ended became guest.processor left (ending (masked (asleep guest.words) kernel.signals.mask) guest.memory)
suspend_ended kernel became guest address size left set is same =
    suspend_law kernel guest address size left ∙ ap (suspended kernel guest left) (sym is)
    ∙ ap (λ (k : Kernel). ended k guest.processor left (ending (masked (asleep guest.words) kernel.signals.mask) guest.memory)) (sym same)
