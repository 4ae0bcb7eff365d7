-- A frame that was written is read back, and kept as one effect.
use Rattle.std.proofs.Common.{◌≡◌, ℕ, ◌≤◌, ◌<◌, ◌^◌, Bool, true, false, List, length, Option, None, Some, refl, sym, ap, subst, ◌∙◌, arith}
use Rattle.std.specs.Prelude.{if◌then◌else◌, is_none}
use Rattle.bridge_ends.proofs.Passed.{effected_stored}
use Rattle.bridge_ends.specs.Passed.{reached}
use Rattle.bridge_ends.specs.Passed.{written}
use Rattle.guest_space.proofs.Uses.{first_denied-with_bytes}
use Rattle.guest_space.specs.Access.{first_denied}
use Rattle.guest_space.specs.Bytes.{bytes_at, copied_out, with_bytes}
use Rattle.guest_space.specs.Memory.{IsValid, Memory}
use Rattle.guest_space.specs.declared.access.Access.TheVariants.{Load, Store}
use Rattle.guest_space.specs.declared.access.Denied.{Denied}
use Rattle.kernel_core.specs.declared.record.Effect.{Effect}
use Rattle.kernel_model.specs.Pipes.{Sent}
use Rattle.kernel_model.specs.Shared.{Info}
use Rattle.kernel_model.specs.SignalSets.{SignalSet}
use Rattle.kernel_model.specs.declared.signal.Action.{Action}
use Rattle.kernel_model.specs.declared.signal.SigStack.{SigStack}
use Rattle.mips_exec.specs.Processor.{Processor}
use Rattle.o32_model.specs.Effects.{Effected}
use Rattle.o32_model.specs.GuestBytes.{is_storable}
use Rattle.o32_model.specs.Logs.{with_more}
use Rattle.o32_turns.specs.Handling.{Framed, stack_kept}
use Rattle.signal_frames.specs.Entering.{context_of_processor, frame_address, information}
use Rattle.bridge_delivery.proofs.FrameSizes.{length-frame_bytes, length-rt_frame_bytes}
use Rattle.bridge_delivery.proofs.ReadBack.{loads_all, read_back, valid_whole}
use Rattle.bridge_delivery.specs.inside.Frames.{frame_size, framed_below, has_room, plain, with_info}

-- where a frame lies, and how many bytes it has

pub record IsPlaced (framed : Framed) (place size : ℕ) : Type 0 where
  pub begins : framed.entry.frame ≡ place
  pub whole : length framed.bytes ≡ size

pub placed : (top : ℕ) (shown : SigStack) (processor : Processor) (info : Info) (action : Action) (mask : SignalSet)
    → IsPlaced (framed_below top shown processor info action mask) (frame_address top (frame_size action)) (frame_size action)
unfolding plain with_info
placed top shown processor info action mask = by action.flags.siginfo where
  by : (siginfo : Bool) → IsPlaced (if siginfo then with_info processor info action mask shown top else plain processor info action mask top)
      (frame_address top (if siginfo then 784 else 632)) (if siginfo then 784 else 632)
  by true = record { begins = refl; whole = length-rt_frame_bytes (information info) (stack_kept shown) (context_of_processor processor) mask }
  by false = record { begins = refl; whole = length-frame_bytes (context_of_processor processor) mask }

few : (siginfo : Bool) → (if siginfo then 784 else 632) ≤ 784
few true = omega arith
few false = omega arith

pub size_few : (action : Action) → frame_size action ≤ 784
size_few action = few action.flags.siginfo

pub place_fits : (top size : ℕ) → frame_address top size < 2 ^ 32
place_fits top size = omega arith

none_of : (o : Option Denied) → is_none o ≡ true → o ≡ None
none_of None is = refl
none_of (Some denied) is = absurd cc

if_true : (test : Bool) (one other : Memory) → test ≡ true → one ≡ (if test then one else other)
if_true true one other is = refl
if_true false one other is = absurd cc

module _ (framed : Framed) (place size : ℕ) (is : IsPlaced framed place size) (memory stored : Memory) (room : has_room framed memory ≡ true)
    (became : stored ≡ copied_out memory framed.entry.frame framed.bytes) where
  free : first_denied Store memory.pages place size ≡ None
  free = (λ i. first_denied Store memory.pages (sym is.begins i) (sym is.whole i)) ∙ none_of _ room

  stored_is : stored.pages ≡ with_bytes memory.pages place framed.bytes
  unfolding copied_out
  stored_is = ap (λ (m : Memory). m.pages) became ∙ ap (λ (n : ℕ). with_bytes memory.pages n framed.bytes) is.begins

  pub readable : first_denied Load stored.pages place size ≡ None
  readable =
      (λ i. first_denied Load (stored_is i) place size) ∙ first_denied-with_bytes Load framed.bytes memory.pages place size place
      ∙ loads_all size memory.pages place free

  read : IsValid memory.pages → bytes_at stored.pages place size ≡ framed.bytes
  read valid =
      (λ i. bytes_at (stored_is i) place (sym is.whole i))
      ∙ read_back framed.bytes memory.pages place (valid_whole memory.pages valid) (ap (first_denied Store memory.pages place) is.whole ∙ free)

  pub frame_effected : (old new : Option (List Effect)) (processor : Processor) (sent : Sent) → IsValid memory.pages → place < 2 ^ 32
      → new ≡ with_more old (written place (bytes_at stored.pages place size))
      → Effected old new (reached processor memory.pages sent) (reached processor stored.pages sent)
  frame_effected old new processor sent valid fits kept =
      effected_stored old new processor sent memory stored framed.entry.frame framed.bytes (subst (λ (n : ℕ). n < 2 ^ 32) (sym is.begins) fits) room
      (became ∙ if_true (is_storable memory framed.entry.frame (length framed.bytes)) (copied_out memory framed.entry.frame framed.bytes) memory room)
      (kept ∙ (λ i. with_more old (written (sym is.begins i) (read valid i))))
