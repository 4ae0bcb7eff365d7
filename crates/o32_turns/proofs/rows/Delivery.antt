-- Worked rows on what ends of waits, posts, frames and stops make of a machine.
use Rattle.std.specs.Prelude.{◌≡◌, ℕ, true, false, [], ◌∷◌, ◌++◌, replicate, Option, Some, None, refl}
use Rattle.guest_space.specs.Memory.{Memory}
use Rattle.kernel_core.specs.declared.error.Errno.TheVariants.{EINTR}
use Rattle.kernel_core.specs.declared.event.Event.TheVariants as events
use Rattle.kernel_core.specs.declared.finish.Finish.TheVariants.{Blocked}
use Rattle.kernel_core.specs.declared.signal.Sig.TheVariants.{Cont, Kill, Segv, Usr1}
use Rattle.kernel_model.specs.Clock.{unarmed}
use Rattle.kernel_model.specs.SignalRows.{no_action, no_stack}
use Rattle.kernel_model.specs.SignalSets.{no_signals}
use Rattle.kernel_model.specs.State.{Kernel, Signals}
use Rattle.kernel_model.specs.declared.signal.Action.{Action}
use Rattle.mips_exec.specs.Processor.{Processor, fresh}
use Rattle.o32_turns.specs.Closing.{closed, put_back}
use Rattle.o32_turns.specs.Delivering.{is_delivered, stops}
use Rattle.o32_turns.specs.Handling.{frame_fault, frame_top, not_entered, saved_or, sooner_saved}
use Rattle.o32_turns.specs.Instruction.{after_outcome, restart_after}
use Rattle.o32_turns.specs.Machine.{Machine, begin}
use Rattle.o32_turns.specs.Posting.{awaited, let_go}
use Rattle.o32_turns.specs.Turn.{jumped, next_for}
use Rattle.o32_model.specs.declared.call_words.CallWords.{CallWords}
use Rattle.o32_model.specs.declared.outcome.Outcome.TheVariants as outcomes
use Rattle.o32_model.specs.declared.wait.Close.TheVariants as closes
use Rattle.o32_model.specs.declared.wait.Wait.{Wait}

-- what the registers hold: $v0, $v1, $a0, $a1, $a2, $a3
abbrev with : ℕ → ℕ → ℕ → ℕ → ℕ → ℕ → ℕ → Processor
with pc first second a b c d = record (fresh pc) { registers = 0 ∷ 0 ∷ first ∷ second ∷ a ∷ b ∷ c ∷ d ∷ replicate 24 0 }

-- a poll that waits, whose fourth word is 9
abbrev polling : Option ℕ → Wait
polling deadline = record { nr = 4188; words = 65792 ∷ 1 ∷ 5 ∷ 9 ∷ 0 ∷ 0 ∷ []; deadline = deadline; done = 0; mask = None }

module _ (whole : Kernel) (memory : Memory) where
  abbrev kernel : Kernel
  kernel = record whole { clock = 7000; timer = unarmed }

  abbrev machine : Machine
  machine = record {
    processor = with 65540 4188 5 65792 1 5 0;
    memory = memory;
    kernel = kernel;
    wait = None;
    interrupted = false;
    restart = None;
    stopped = false;
    fault = None;
    coming = [];
    idle = 0;
  }

  -- Ends of waits

  -- the SYSCALL comes again, with the number of the call, or of restart_syscall, which then has its wait; $a3 is what it was
  comes_again : closed (polling (Some 9000)) closes.Again machine
      ≡ record { machine = record machine { processor = with 65536 4188 5 65792 1 5 9 }; events = events.Restart 4188 ∷ [] }
  comes_again = refl

  goes_on_later : closed (polling (Some 9000)) closes.Restart machine
      ≡ record {
        machine = record machine { processor = with 65536 4253 5 65792 1 5 9; restart = Some (polling (Some 9000)) };
        events = events.Restart 4253 ∷ [];
      }
  goes_on_later = refl

  is_interrupted : closed (polling (Some 9000)) (closes.Error EINTR) machine
      ≡ record { machine = record machine { processor = with 65540 4 5 65792 1 5 1 }; events = events.Done 4 1 ∷ [] }
  is_interrupted = refl

  first_address : put_back 4188 (polling None) (with 0 4188 5 65792 1 5 0) ≡ with 0xFFFF_FFFC 4188 5 65792 1 5 9
  first_address = refl

  -- only restart_syscall uses up the wait that it goes on with
  used_up : restart_after 4253 (Some (polling None)) ≡ None
  used_up = refl

  kept : restart_after 4020 (Some (polling None)) ≡ Some (polling None)
  kept = refl

  -- Stops

  abbrev stopped : Machine
  stopped = record machine { wait = Some (polling (Some 9000)); interrupted = true; stopped = true }

  stops_a_wait : stops Usr1 (begin (record machine { wait = Some (polling (Some 9000)) })) ≡ record (stops Usr1 (begin machine)) { machine = stopped }
  stops_a_wait = refl

  ends_delivery : is_delivered (begin stopped) ≡ true
  ends_delivery = refl

  continues : let_go Cont (begin stopped) ≡ record (begin (record stopped { stopped = false })) { events = events.Cont ∷ [] }
  continues = refl

  continues_to_be_killed : let_go Kill (begin stopped) ≡ record (begin (record stopped { stopped = false })) { events = events.Cont ∷ [] }
  continues_to_be_killed = refl

  stays_stopped : let_go Usr1 (begin stopped) ≡ begin stopped
  stays_stopped = refl

  -- it waits for no signal meanwhile
  waits_for_none : awaited stopped ≡ []
  waits_for_none = refl

  -- What comes next: a stopped process doesn't look at its deadline

  to_the_deadline : next_for (record stopped { stopped = false }) ≡ Some 9000
  to_the_deadline = refl

  nothing_comes : next_for stopped ≡ None
  nothing_comes = refl

  to_the_event : next_for (record stopped { coming = record { time = 8000; sig = 25; value = None } ∷ record { time = 8500; sig = 16; value = None } ∷ [] }) ≡ Some 8000
  to_the_event = refl

  -- the clock never goes back
  late : jumped (Some 6000) (begin machine) ≡ begin machine
  late = refl

  blocked : jumped None (begin machine) ≡ record (begin machine) { over = Some Blocked }
  blocked = refl

  -- Returns and frames

  -- a return that fails meets a fault in its turn
  fails_to_return : (words : CallWords) → after_outcome words machine outcomes.BadFrame
      ≡ record (begin (record machine { fault = Some frame_fault })) { events = events.Fault Segv 0x80 0 ∷ [] }
  fails_to_return words = refl

  -- so does a handler without room for its frame, but for that of SIGSEGV
  no_room : not_entered (record frame_fault { sig = Usr1 }) (begin machine)
      ≡ record (begin (record machine { fault = Some frame_fault })) { events = events.Fault Segv 0x80 0 ∷ [] }
  no_room = refl

  no_room_for_the_last : (not_entered frame_fault (begin machine)).machine ≡ machine
  no_room_for_the_last = refl

  -- of two masks that are to be kept the later one's is
  later_mask : sooner_saved (Some (1 ∷ 0 ∷ 0 ∷ 0 ∷ [])) (Some no_signals) ≡ Some (1 ∷ 0 ∷ 0 ∷ 0 ∷ [])
  later_mask = refl

  its_own_mask : saved_or None no_signals ≡ no_signals
  its_own_mask = refl

-- Where a frame lies

module _ (some : Signals) where
  abbrev on_its_stack : Action
  on_its_stack = record no_action { flags = record no_action.flags { onstack = true } }

  abbrev at_pointer : ℕ → Processor
  at_pointer pointer = record (fresh 0) { registers = replicate 29 0 ++ pointer ∷ 0 ∷ 0 ∷ [] }

  abbrev with_stack : Signals
  with_stack = record some { stack = record { sp = 0x20000; size = 4096; flags = 0 } }

  below_the_pointer : frame_top with_stack (at_pointer 0x8000) no_action ≡ 0x7FE0
  below_the_pointer = refl

  on_the_stack : frame_top with_stack (at_pointer 0x8000) on_its_stack ≡ 0x21000
  on_the_stack = refl

  there_already : frame_top with_stack (at_pointer 0x20800) on_its_stack ≡ 0x207E0
  there_already = refl

  without_a_stack : frame_top (record some { stack = no_stack }) (at_pointer 0x8000) on_its_stack ≡ 0x7FE0
  without_a_stack = refl
