-- Returning by a frame.
use Rattle.std.proofs.Common.{◌≡◌, ℕ, List, Option, Some, None, Result, Ok, Err, refl, sym, ap, ◌∙◌}
use Rattle.guest_space.specs.Access.{first_denied, unless_denied}
use Rattle.guest_space.specs.Memory.{Memory}
use Rattle.guest_space.specs.declared.access.Access.TheVariants.{Load}
use Rattle.guest_space.specs.declared.access.Denied.{Denied}
use Rattle.kernel_model.specs.SignalRows.{set_stack, with_mask}
use Rattle.kernel_model.specs.SignalSets.{SignalSet}
use Rattle.kernel_model.specs.State.{Kernel}
use Rattle.layouts.specs.Frames.{frame_context, frame_mask, rt_frame_context}
use Rattle.layouts.specs.O32.{frame, rt_frame_of, siginfo}
use Rattle.mips_exec.specs.Processor.{Processor, register}
use Rattle.o32_model.specs.GuestBytes.{given}
use Rattle.o32_model.specs.Returns as o32
use Rattle.o32_model.specs.Step.{Guest}
use Rattle.o32_model.specs.declared.outcome.Outcome.TheVariants as outcomes
use Rattle.signal_frames.specs.Returning.{frame_at, return_of, returned, rt_frame_at}
use Rattle.signal_frames.specs.declared.Return.{Return}
use Rattle.bridge_signal_state.specs.Passed.{ended, ending}
use Rattle.bridge_signal.specs.inside.Returns.{restored}

-- what was read of a frame of this size
abbrev Read : {A : Type 0} → Result A Denied → ℕ → (Memory → Processor → A) → Memory → Processor → Type 0
Read found size meaning memory processor = found ≡ unless_denied (first_denied Load memory.pages (register processor 29) size) (meaning memory processor)

read_there : {A : Type 0} (found : Result A Denied) (size : ℕ) (meaning : Memory → Processor → A) (memory there : Memory) (processor set : Processor) → memory ≡ there → processor ≡ set → Read found size meaning there set → Read found size meaning memory processor
read_there found size meaning memory there processor set same is read =
    read ∙ ap (λ (m : Memory). unless_denied (first_denied Load m.pages (register set 29) size) (meaning m set)) (sym same)
    ∙ ap (λ (p : Processor). unless_denied (first_denied Load memory.pages (register p 29) size) (meaning memory p)) (sym is)

abbrev value_or : {A : Type 0} → Result A Denied → A → A
value_or (Ok value) other = value
value_or (Err denied) other = other

abbrev mask_read : Memory → Processor → SignalSet
mask_read memory processor = frame_mask (frame_at memory processor)

abbrev back_read : Memory → Processor → Return
back_read memory processor = return_of (rt_frame_at memory processor)

-- sigreturn

pub frame_fails : (kernel : Kernel) (guest : Guest) (left : List ℕ) (memory : Memory) (processor set : Processor) (denied : Denied) → guest.memory ≡ memory → guest.processor ≡ processor → set ≡ processor → Read (Err denied) frame.size mask_read memory processor
    → o32.sigreturn_row kernel guest left ≡ ended kernel set left (ending outcomes.BadFrame guest.memory)
unfolding o32.sigreturn_row
frame_fails kernel guest left memory processor set denied same is stays read =
    by (first_denied Load guest.memory.pages (register guest.processor 29) frame.size) (read_there (Err denied) frame.size mask_read guest.memory memory guest.processor processor same is read)
    ∙ ap (λ (p : Processor). ended kernel p left (ending outcomes.BadFrame guest.memory)) (is ∙ sym stays) where
      by : (d : Option Denied) → Err denied ≡ unless_denied d (mask_read guest.memory guest.processor)
          → o32.after_frame kernel guest (given d (frame_at guest.memory guest.processor)) left ≡ ended kernel guest.processor left (ending outcomes.BadFrame guest.memory)
      by None never = absurd cc
      by (Some why) never = refl

pub frame_ended : (kernel became : Kernel) (guest : Guest) (left : List ℕ) (memory : Memory) (processor set : Processor) (mask : SignalSet) → guest.memory ≡ memory → guest.processor ≡ processor → Read (Ok mask) frame.size mask_read memory processor
    → set ≡ returned processor (frame_context (frame_at memory processor)) → became ≡ with_mask kernel mask
    → o32.sigreturn_row kernel guest left ≡ ended became set left (ending outcomes.Frame guest.memory)
unfolding o32.sigreturn_row
frame_ended kernel became guest left memory processor set mask same is read sets masks =
    by (first_denied Load guest.memory.pages (register guest.processor 29) frame.size) (read_there (Ok mask) frame.size mask_read guest.memory memory guest.processor processor same is read) where
      goes : returned guest.processor (frame_context (frame_at guest.memory guest.processor)) ≡ set
      goes = ap (λ (m : Memory). returned guest.processor (frame_context (frame_at m guest.processor))) same ∙ ap (λ (p : Processor). returned p (frame_context (frame_at memory p))) is ∙ sym sets

      by : (d : Option Denied) → Ok mask ≡ unless_denied d (mask_read guest.memory guest.processor)
          → o32.after_frame kernel guest (given d (frame_at guest.memory guest.processor)) left ≡ ended became set left (ending outcomes.Frame guest.memory)
      by (Some why) never = absurd cc
      by None there =
          ap (λ (m : SignalSet). ended (with_mask kernel m) (returned guest.processor (frame_context (frame_at guest.memory guest.processor))) left (ending outcomes.Frame guest.memory)) (sym (ap (λ (r : Result SignalSet Denied). value_or r mask) there))
          ∙ ap (λ (k : Kernel). ended k (returned guest.processor (frame_context (frame_at guest.memory guest.processor))) left (ending outcomes.Frame guest.memory)) (sym masks)
          ∙ ap (λ (p : Processor). ended became p left (ending outcomes.Frame guest.memory)) goes

-- rt_sigreturn

abbrev rt_size : ℕ
rt_size = (rt_frame_of siginfo).size

pub rt_frame_fails : (kernel : Kernel) (guest : Guest) (left : List ℕ) (memory : Memory) (processor set : Processor) (denied : Denied) → guest.memory ≡ memory → guest.processor ≡ processor → set ≡ processor → Read (Err denied) rt_size back_read memory processor
    → o32.rt_sigreturn_row kernel guest left ≡ ended kernel set left (ending outcomes.BadFrame guest.memory)
unfolding o32.rt_sigreturn_row
rt_frame_fails kernel guest left memory processor set denied same is stays read =
    by (first_denied Load guest.memory.pages (register guest.processor 29) rt_size) (read_there (Err denied) rt_size back_read guest.memory memory guest.processor processor same is read)
    ∙ ap (λ (p : Processor). ended kernel p left (ending outcomes.BadFrame guest.memory)) (is ∙ sym stays) where
      by : (d : Option Denied) → Err denied ≡ unless_denied d (back_read guest.memory guest.processor)
          → o32.after_rt_frame kernel guest (given d (rt_frame_at guest.memory guest.processor)) left ≡ ended kernel guest.processor left (ending outcomes.BadFrame guest.memory)
      by None never = absurd cc
      by (Some why) never = refl

pub rt_frame_ended : (kernel became : Kernel) (guest : Guest) (left : List ℕ) (memory : Memory) (processor set : Processor) (back : Return) (sp : ℕ) → guest.memory ≡ memory → guest.processor ≡ processor → Read (Ok back) rt_size back_read memory processor
    → set ≡ returned processor (rt_frame_context (rt_frame_at memory processor)) → sp ≡ register set 29 → became ≡ restored kernel back sp
    → o32.rt_sigreturn_row kernel guest left ≡ ended became set left (ending outcomes.Frame guest.memory)
unfolding o32.rt_sigreturn_row set_stack
rt_frame_ended kernel became guest left memory processor set back sp same is read sets at restores =
    by (first_denied Load guest.memory.pages (register guest.processor 29) rt_size) (read_there (Ok back) rt_size back_read guest.memory memory guest.processor processor same is read) where
      goes : returned guest.processor (rt_frame_context (rt_frame_at guest.memory guest.processor)) ≡ set
      goes = ap (λ (m : Memory). returned guest.processor (rt_frame_context (rt_frame_at m guest.processor))) same ∙ ap (λ (p : Processor). returned p (rt_frame_context (rt_frame_at memory p))) is ∙ sym sets

      by : (d : Option Denied) → Ok back ≡ unless_denied d (back_read guest.memory guest.processor)
          → o32.after_rt_frame kernel guest (given d (rt_frame_at guest.memory guest.processor)) left ≡ ended became set left (ending outcomes.Frame guest.memory)
      by (Some why) never = absurd cc
      by None there =
          ap (λ (p : Processor). ended (restored kernel (back_read guest.memory guest.processor) (register p 29)) p left (ending outcomes.Frame guest.memory)) goes
          ∙ ap (λ (b : Return). ended (restored kernel b (register set 29)) set left (ending outcomes.Frame guest.memory)) (sym (ap (λ (r : Result Return Denied). value_or r back) there))
          ∙ ap (λ (n : ℕ). ended (restored kernel back n) set left (ending outcomes.Frame guest.memory)) (sym at)
          ∙ ap (λ (k : Kernel). ended k set left (ending outcomes.Frame guest.memory)) (sym restores)
