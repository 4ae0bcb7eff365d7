-- What the write of a frame comes to.
use Rattle.std.proofs.Common.{◌≡◌, ℕ, Bool, true, false, length, sym, ap, subst, ◌∙◌, Option, Some, None, Result, Ok, Err, IsErr}
use Rattle.std.specs.Prelude.{is_none}
use Rattle.guest_space.specs.Access.{first_denied}
use Rattle.guest_space.specs.declared.access.Denied.{Denied}
use Rattle.guest_space.specs.Answers.{IsStoreAnswer}
use Rattle.guest_space.specs.Memory.{Memory}
use Rattle.guest_space.specs.declared.access.Access.TheVariants.{Store}
use Rattle.guest_space.specs.declared.access.StoreError.{StoreError}
use Rattle.guest_space.specs.declared.access.StoreError.TheVariants as errors
use Rattle.kernel_core.specs.declared.core_error.NoMemory.{NoMemory}
use Rattle.mips_exec.specs.Processor.{Processor}
use Rattle.o32_model.specs.GuestBytes.{is_storable}
use Rattle.o32_turns.specs.Handling.{Framed}
use Rattle.signal_frames.specs.Entering as frames
use Rattle.bridge_delivery.specs.inside.Frames.{Enters, IsWritten, has_room}

-- of a frame that was asked for, by the answer for its bytes
module _ (framed : Framed) (size : ℕ) (whole : length framed.bytes ≡ size) (processor became : Processor) (memory stored : Memory) where
  room_by : (denied : Option Denied) → first_denied Store memory.pages framed.entry.frame size ≡ denied → has_room framed memory ≡ is_none denied
  room_by denied is = ap (λ (n : ℕ). is_storable memory framed.entry.frame n) whole ∙ ap (λ (d : Option Denied). is_none d) is

  came_true : (came : Result Bool NoMemory) → came ≡ Ok true → Enters framed (Ok true) processor became memory stored → Enters framed came processor became memory stored
  came_true came is enters = subst (λ (r : Result Bool NoMemory). Enters framed r processor became memory stored) (sym is) enters

  came_false : (came : Result Bool NoMemory) → came ≡ Ok false → Enters framed (Ok false) processor became memory stored → Enters framed came processor became memory stored
  came_false came is enters = subst (λ (r : Result Bool NoMemory). Enters framed r processor became memory stored) (sym is) enters

  came_error : (came : Result Bool NoMemory) → IsErr came → Enters framed came processor became memory stored
  came_error (Ok written) failed = absurd cc
  came_error (Err error) failed = tt

  pub wrote : (answer : Result Unit StoreError) (came : Result Bool NoMemory) (ready : Bool)
      → frames.Enters answer memory stored processor became framed.bytes framed.entry
      → IsStoreAnswer (first_denied Store memory.pages framed.entry.frame size) ready answer
      → IsWritten answer came → Enters framed came processor became memory stored
  wrote (Ok done) came ready enters none is = came_true came is (sym (room_by None none), enters.1, enters.0)
  wrote (Err (errors.Denied denied)) came ready enters there is = came_false came is (sym (room_by (Some denied) there), enters.1, enters.0)
  wrote (Err errors.NoMemory) came ready enters there is = came_error came is
