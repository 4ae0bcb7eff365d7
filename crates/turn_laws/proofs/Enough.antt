-- So many rounds as a delivery has are enough.
use Rattle.std.proofs.Common.{◌≡◌, ◌⊎◌, inl, inr, ℕ, zero, suc, ◌+◌, ◌*◌, ◌<◌, ◌≤◌, Bool, true, false, refl, sym, ap, ◌∙◌, arith, Option, Some, None}
use Rattle.std.specs.Prelude.{◌==◌, ◌&&◌, not, is_some, length, List, if◌then◌else◌}
use Rattle.guest_space.specs.Memory.{Memory}
use Rattle.kernel_model.specs.Always.{AreSignals}
use Rattle.kernel_model.specs.Shared.{Info}
use Rattle.kernel_model.specs.State.{Kernel}
use Rattle.kernel_model.specs.Clock.{left_until}
use Rattle.o32_model.specs.GuestBytes.{is_storable}
use Rattle.o32_model.specs.SignalWaitEnds.{signal_wait_ended}
use Rattle.o32_model.specs.TimeLeft.{LeftForm}
use Rattle.o32_model.specs.Times.{spec_bytes, val_bytes}
use Rattle.o32_model.specs.WaitEnds.{Sleeping, WaitEnd, has_room, has_time, interrupted, interrupted_storing, sleep_interrupted, wait_ended, wait_word, with_left}
use Rattle.o32_model.specs.declared.wait.Cause.TheVariants.{Handler}
use Rattle.o32_model.specs.declared.wait.Wait.{Wait}
use Rattle.mips_exec.specs.declared.cpu.Slot.{Slot}
use Rattle.o32_turns.specs.Closing.{is_one_of, signal_waits, transfer_waits, whole_end}
use Rattle.o32_turns.specs.Handling.{is_segv}
use Rattle.o32_turns.specs.Delivering.{deliver, is_delivered, most_rounds, round_by, rounds}
use Rattle.o32_turns.specs.Machine.{Ends, Within}
use Rattle.turn_laws.proofs.Ending.{KeepsFew, Less, round_less, some_to_come, some_weight, to_come, weight}
use Rattle.turn_laws.proofs.Sums.{total, total_few}

module _ (ended : Ends) (keeps : KeepsFew ended) where
  stays : (n : ℕ) (within : Within) → is_delivered within ≡ true → rounds ended n within ≡ within
  unfolding rounds
  stays zero within done = refl
  stays (suc n) within done = ap (λ (b : Bool). if b then within else rounds ended n (round_by ended within within.machine.fault)) done

  behind : (n : ℕ) (within : Within) → Less (suc n) within → (to_come within ≤ n → is_delivered (rounds ended n within) ≡ true) → is_delivered (rounds ended n within) ≡ true
  behind n within (inl done) rest = ap is_delivered (stays n within done) ∙ done
  behind n within (inr less) rest = rest (omega (arith, less))

  one_more : (n : ℕ) (within : Within) (done : Bool) → is_delivered within ≡ done → to_come within ≤ suc n
      → (to_come (round_by ended within within.machine.fault) ≤ n → is_delivered (rounds ended n (round_by ended within within.machine.fault)) ≡ true)
      → is_delivered (if done then within else rounds ended n (round_by ended within within.machine.fault)) ≡ true
  one_more n within true is few rest = is
  one_more n within false is few rest = behind n (round_by ended within within.machine.fault) (wider (round_less ended keeps within is)) rest where
    wider : Less (to_come within) (round_by ended within within.machine.fault) → Less (suc n) (round_by ended within within.machine.fault)
    wider (inl done) = inl done
    wider (inr less) = inr (omega (arith, less, few))

  pub enough : (n : ℕ) (within : Within) → to_come within ≤ n → is_delivered (rounds ended n within) ≡ true
  unfolding rounds
  enough zero within few = none (is_delivered within) refl where
    none : (done : Bool) → is_delivered within ≡ done → is_delivered within ≡ true
    none true is = is
    none false is = absurd (omega (arith, some_to_come ended keeps within is, few))
  enough (suc n) within few =
      one_more n within (is_delivered within) refl few (enough n (round_by ended within within.machine.fault))

-- How waits end by a handler lets the kernel be, but for its mask.

either : (kernel : Kernel) (b : Bool) (one other : WaitEnd) → one.kernel ≡ kernel → other.kernel ≡ kernel → (if b then one else other).kernel ≡ kernel
either kernel true one other first second = first
either kernel false one other first second = second

module _ (wait : Wait) (clock : ℕ) (kernel : Kernel) (memory : Memory) where
  storing : (address : ℕ) (bytes : List ℕ) → (interrupted_storing address bytes kernel memory).kernel ≡ kernel
  storing address bytes = either kernel (is_storable memory address (length bytes)) _ _ refl refl

  sleeps : (sleeping : Sleeping) → (sleep_interrupted sleeping wait clock kernel memory).kernel ≡ kernel
  sleeps sleeping =
      either kernel (sleeping.relative && not (sleeping.address == 0)) _ _ (storing sleeping.address (spec_bytes (left_until clock wait.deadline))) refl

  limited : (form : LeftForm) → (with_left form wait clock memory (interrupted kernel memory)).kernel ≡ kernel
  limited form = either kernel (has_time form && has_room form wait clock memory) _ _ refl refl

  by_time : (wait_ended wait Handler clock kernel memory).kernel ≡ kernel
  by_time =
      either kernel (wait.nr == 4166) _ _ (sleeps (record { relative = true; address = wait_word wait 1 }))
      (either kernel (wait.nr == 4265) _ _ (sleeps (record { relative = wait_word wait 1 == 0; address = wait_word wait 3 }))
      (either kernel (wait.nr == 4188) _ _ refl
      (either kernel (wait.nr == 4302) _ _ (limited (record { address = wait_word wait 2; bytes = spec_bytes }))
      (either kernel (wait.nr == 4142) _ _ (limited (record { address = wait_word wait 4; bytes = val_bytes }))
      (limited (record { address = wait_word wait 4; bytes = spec_bytes }))))))

  by_signal : (signal_wait_ended wait Handler kernel memory).kernel ≡ kernel
  by_signal = either kernel (wait.nr == 4197) _ _ refl refl

whole_stays : (restarts : Bool) (wait : Wait) (kernel : Kernel) (memory : Memory) → (whole_end restarts wait Handler kernel memory).kernel ≡ kernel
whole_stays restarts wait kernel memory =
    either kernel (is_one_of transfer_waits wait) _ _ refl
    (either kernel (is_one_of signal_waits wait) _ _ (by_signal wait 0 kernel memory) (by_time wait kernel.clock kernel memory))

-- What a delivery comes to

weight_few : (fault : Option Info) → weight fault ≤ 2
weight_few None = omega arith
weight_few (Some info) = (some_weight (is_segv info.sig)).1

delivery_ends : (ended : Ends) → KeepsFew ended → (within : Within) → AreSignals within.machine.kernel.signals → within.machine.processor.slot ≡ None
    → is_delivered (deliver ended within) ≡ true
delivery_ends ended keeps within are free =
    ap (λ (slot : Option Slot). is_delivered (if is_some slot then within else rounds ended most_rounds within)) free
    ∙ enough ended keeps most_rounds within (omega (arith, total_few within.machine.kernel.signals are, weight_few within.machine.fault))

pub whole_ends : (within : Within) → AreSignals within.machine.kernel.signals → within.machine.processor.slot ≡ None → is_delivered (deliver whole_end within) ≡ true
whole_ends =
    delivery_ends whole_end (λ restarts wait kernel memory. let same = ap (λ (k : Kernel). total k.signals) (whole_stays restarts wait kernel memory) in omega (arith, same))
