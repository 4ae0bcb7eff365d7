-- Worked rows on turns and whole runs, of a machine that stands at 65536, has no timer armed, and to which no signal is to be delivered at first.
-- A turn with an instruction takes 1000 nanoseconds.
use Rattle.std.proofs.Common.{arith, ap, sym, ◌∙◌}
use Rattle.std.specs.Prelude.{true, ◌≡◌, ℕ, zero, suc, ◌+◌, ◌^◌, ◌<◌, false, List, [], ◌∷◌, replicate, Option, Some, None, Ok, Err, refl, is_none, not, Bool, ◌&&◌, if◌then◌else◌}
use Rattle.guest_space.specs.Access.{writable_prefix}
use Rattle.guest_space.specs.Bytes.{read as loaded}
use Rattle.guest_space.specs.Memory.{Memory}
use Rattle.guest_space.specs.declared.access.Why.TheVariants.{Absent}
use Rattle.kernel_core.specs.Nodes.{Nodes}
use Rattle.kernel_core.specs.declared.finish.Finish.TheVariants.{Exited, Killed, Budget, Blocked}
use Rattle.kernel_core.specs.declared.event.Event.{Event}
use Rattle.kernel_core.specs.declared.event.Event.TheVariants as events
use Rattle.kernel_core.specs.declared.finish.Finish.{Finish}
use Rattle.kernel_core.specs.declared.signal.Sig.TheVariants.{Alrm, Segv}
use Rattle.kernel_model.specs.Clock.{unarmed}
use Rattle.kernel_model.specs.DescriptorRows.{make_pipe}
use Rattle.kernel_model.specs.Pipes.{nothing}
use Rattle.kernel_model.specs.SignalRows.{advance, post, timer_info, Posted, action_at, no_action}
use Rattle.kernel_model.specs.State.{Kernel, Signals}
use Rattle.kernel_model.specs.declared.signal.Post.TheVariants.{Queued}
use Rattle.kernel_model.specs.Transfers.{read}
use Rattle.kernel_model.specs.Whole.{with_files, kernel_read}
use Rattle.mips_code.specs.Instructions.{plain_rows, memory_rows, special_rows, immediate_form, signed_immediate}
use Rattle.mips_exec.specs.Processor.{Processor, fresh}
use Rattle.mips_exec.specs.Step.{Step, step_of, effect_at}
use Rattle.mips_exec.specs.declared.execution.Stepped.TheVariants.{Syscall}
use Rattle.o32_model.proofs.rows.Small.{at_first, with_pipe_of}
use Rattle.o32_model.specs.Descriptors.{pipe_row}
use Rattle.o32_turns.specs.Runs.{Reached, after_attempt, reached, is_blocked, unless_over, IsRunningAt, IsOverAt}
use Rattle.o32_model.specs.Small.{exit_row}
use Rattle.o32_model.specs.Transfers.{read_row}
use Rattle.o32_turns.specs.Closing.{whole_end}
use Rattle.o32_turns.specs.Instruction.{after_step, at_time, called, fault_info, stepped}
use Rattle.o32_turns.specs.Machine.{Machine, Turn, Within, with_machine}
use Rattle.o32_turns.specs.Turn.{turn_of, unless_killed, whole}
use Rattle.o32_model.specs.WaitEnds.{ends_with, wait_ended}
use Rattle.o32_model.specs.Words.{call_words, six_words}
use Rattle.o32_model.specs.declared.wait.Cause.TheVariants.{Due}
use Rattle.o32_model.specs.declared.wait.Close.TheVariants as closes
use Rattle.o32_model.specs.declared.wait.Wait.{Wait}
use Rattle.kernel_model.specs.SignalSets.{has}
use Rattle.o32_turns.specs.Delivering.{fault_delivered, fault_taken, next_signal, rounds}
use Rattle.o32_turns.specs.Handling as handling
use Rattle.o32_turns.specs.Handling.{handled}
use Rattle.o32_turns.proofs.Still.{before_delivery, nothing_delivered, still}

-- what the registers hold: $v0, $v1, $a0, $a1, $a2, $a3
abbrev registers : ℕ → ℕ → ℕ → ℕ → ℕ → ℕ → List ℕ
registers first second a b c failed = 0 ∷ 0 ∷ first ∷ second ∷ a ∷ b ∷ c ∷ failed ∷ replicate 24 0

neither : {A : Type 0} (test : Bool) (one other : A) → (if test && false then one else other) ≡ other
neither true one other = refl
neither false one other = refl

module _ (any : Kernel) (nodes : Nodes) (memory : Memory) (left : List ℕ) (none : next_signal any.signals ≡ None) where
  -- so nothing is delivered
  abbrev is_still : is_none (next_signal any.signals) ≡ true
  is_still = ap is_none none

  abbrev at : Kernel → ℕ → List ℕ → Machine
  at kernel pc registers = record {
    processor = record (fresh pc) { registers = registers };
    memory = memory;
    kernel = kernel;
    wait = None;
    interrupted = false;
    restart = None;
    stopped = false;
    fault = None;
    coming = [];
    idle = 0;
  }

  -- what a turn leaves, where nothing is taken and nothing is sent

  abbrev goes_on : Machine → List Event → Turn
  goes_on machine events = record { machine = machine; left = left; sent = nothing; over = None; events = events }

  abbrev ends : Machine → List Event → Finish → Turn
  ends machine events finish = record { machine = machine; left = left; sent = nothing; over = Some finish; events = events }

  -- what stands after turns in which nothing is taken and nothing is sent
  abbrev so_far : Machine → Reached
  so_far machine = record { machine = machine; left = left; sent = nothing; over = None }

  -- no timer is armed
  abbrev quiet : Kernel
  quiet = record any { timer = unarmed }

  -- the kernel at first, and with an empty pipe whose read end is 3
  abbrev first : Kernel
  first = with_files quiet (at_first nodes)

  abbrev with_pipe : Kernel
  with_pipe = with_files quiet (with_pipe_of nodes [])

  abbrev a_turn_later : Kernel → Kernel
  a_turn_later kernel = record kernel { clock = kernel.clock + 1000 }

  -- SYSCALL stands at 65536
  module _ (syscall : loaded memory 65536 4 ≡ Ok 12) where
    -- $v0 becomes the error's number, and $a3 says that it is one
    no_such_call : turn_of 1000 (at first 65536 (registers 4999 5 6 7 8 9)) left ≡ goes_on (at (a_turn_later first) 65540 (registers 89 5 6 7 8 1)) (events.Call 4999 (6 ∷ 7 ∷ 8 ∷ 9 ∷ []) 89 1 ∷ [])
    unfolding advance step_of effect_at special_rows call_words
    no_such_call = nothing_delivered 1000 (at first 65536 (registers 4999 5 6 7 8 9)) left is_still ∙ simp syscall refl

    -- both ends are told, in $v0 and $v1
    two_results : turn_of 1000 (at first 65536 (registers 4042 5 6 7 8 9)) left ≡ goes_on (at (a_turn_later with_pipe) 65540 (registers 3 4 6 7 8 0)) (events.Call 4042 (6 ∷ 7 ∷ 8 ∷ 9 ∷ []) 3 0 ∷ [])
    unfolding advance step_of effect_at special_rows call_words pipe_row make_pipe
    two_results = nothing_delivered 1000 (at first 65536 (registers 4042 5 6 7 8 9)) left is_still ∙ simp syscall refl

    -- the turn that ends the process takes its time and counts

    exits : turn_of 1000 (at first 65536 (registers 4001 5 7 0 0 9)) left ≡ ends (at (a_turn_later first) 65540 (registers 4001 5 7 0 0 9)) (events.Exit 7 ∷ []) (Exited 7)
    unfolding advance step_of effect_at special_rows call_words exit_row
    exits = nothing_delivered 1000 (at first 65536 (registers 4001 5 7 0 0 9)) left is_still ∙ simp syscall refl

    before_exit : (j : ℕ) → j < 1 → IsRunningAt 1000 (at first 65536 (registers 4001 5 7 0 0 9)) left j
    unfolding reached
    before_exit zero below = record { alive = refl; awake = ap is_blocked exits }
    before_exit (suc j) below = absurd (omega arith)

    exited : IsOverAt 1000 (at first 65536 (registers 4001 5 7 0 0 9)) left 1 1 (Exited 7)
    unfolding reached
    exited = (
      omega arith,
      record { ended = ap (λ (t : Turn). (after_attempt (so_far (at first 65536 (registers 4001 5 7 0 0 9))) t).over) exits; first = before_exit },
    )

    -- a read of the empty pipe waits, and no turn follows
    module _ (room : writable_prefix memory.pages 65792 1 ≡ 1) where
      abbrev reading : Machine
      reading = at with_pipe 65536 (registers 4003 5 3 65792 1 9)

      abbrev called_from : Processor
      called_from = record (fresh 65540) { registers = registers 4003 5 3 65792 1 9 }

      abbrev waiting_at : Kernel → Machine
      waiting_at kernel = record (at kernel 65540 (registers 4003 5 3 65792 1 9)) {
        wait = Some (record { nr = 4003; words = six_words (call_words called_from memory); deadline = None; done = 0; mask = None });
      }

      abbrev waiting : Machine
      waiting = waiting_at (a_turn_later with_pipe)

      takes : step_of (record (fresh 65536) { registers = registers 4003 5 3 65792 1 9 }) memory ≡ record { processor = called_from; memory = memory; came = Syscall }
      unfolding step_of effect_at special_rows
      takes = simp syscall refl

      sleeps : called whole (at with_pipe 65540 (registers 4003 5 3 65792 1 9)) left ≡ goes_on (waiting_at with_pipe) (events.Wait 4003 (3 ∷ 65792 ∷ 1 ∷ 9 ∷ []) ∷ [])
      unfolding call_words read_row kernel_read read
      sleeps = simp room refl

      waits : turn_of 1000 reading left ≡ goes_on waiting (events.Wait 4003 (3 ∷ 65792 ∷ 1 ∷ 9 ∷ []) ∷ [])
      unfolding advance
      waits =
          nothing_delivered 1000 reading left is_still
          ∙ ap (λ (s : Step). at_time (with_pipe.clock + 1000) (after_step still (stepped reading s.processor s.memory) s.came left)) takes
          ∙ ap (at_time (with_pipe.clock + 1000)) sleeps

      finds_blocked : turn_of 1000 waiting left ≡ ends waiting [] Blocked
      unfolding advance
      finds_blocked = nothing_delivered 1000 waiting left is_still

      after_one : reached 1000 reading left 1 ≡ so_far waiting
      unfolding reached
      after_one = ap (after_attempt (so_far reading)) waits

      before_read : (j : ℕ) → j < 1 → IsRunningAt 1000 reading left j
      unfolding reached
      before_read zero below = record { alive = refl; awake = ap is_blocked waits }
      before_read (suc j) below = absurd (omega arith)

      blocked : IsOverAt 1000 reading left 2 1 Blocked
      blocked = (
        omega arith,
        record {
          alive = ap (λ (r : Reached). r.over) after_one;
          waits = ap (λ (r : Reached). is_blocked (turn_of 1000 r.machine r.left)) after_one ∙ ap is_blocked finds_blocked;
          first = before_read;
        },
      )

      -- the budget's one turn is done, and none is tried that would find it blocked
      blocked_at_the_budget : IsOverAt 1000 reading left 1 1 Budget
      blocked_at_the_budget = (refl, before_read, ap (λ (r : Reached). r.over) after_one)

      stays_blocked : reached 1000 reading left 2 ≡ reached 1000 reading left 1
      unfolding reached
      stays_blocked =
          ap (λ (r : Reached). unless_over 1000 r r.over) after_one ∙ ap (after_attempt (so_far waiting)) finds_blocked ∙ sym after_one

    -- Sleeping: a second from 65792 on, whose call began at 5000

    abbrev sleeping : ℕ → Option ℕ → ℕ → Machine
    sleeping clock deadline idle = record (at (record first { clock = clock }) 65540 (registers 4166 5 65792 0 8 9)) {
      wait = Some (record { nr = 4166; words = 65792 ∷ 0 ∷ 8 ∷ 9 ∷ 0 ∷ 0 ∷ []; deadline = deadline; done = 0; mask = None });
      idle = idle;
    }

    -- the clock jumps to the deadline in a turn of its own, and no clock of CPU time counts that
    jumps : turn_of 1000 (sleeping 6000 (Some 1_000_005_000) 300) left ≡ goes_on (sleeping 1_000_005_000 (Some 1_000_005_000) 999_999_300) []
    unfolding advance
    jumps = nothing_delivered 1000 (sleeping 6000 (Some 1_000_005_000) 300) left is_still

    -- a deadline that never comes is none: the process is blocked, and so it is without one
    never_comes : turn_of 1000 (sleeping 6000 (Some (2 ^ 61 + 1)) 0) left ≡ ends (sleeping 6000 (Some (2 ^ 61 + 1)) 0) [] Blocked
    unfolding advance
    never_comes = nothing_delivered 1000 (sleeping 6000 (Some (2 ^ 61 + 1)) 0) left is_still

    without_end : turn_of 1000 (sleeping 6000 None 0) left ≡ ends (sleeping 6000 None 0) [] Blocked
    unfolding advance
    without_end = nothing_delivered 1000 (sleeping 6000 None 0) left is_still

    comes_at_last : is_blocked (turn_of 1000 (sleeping 6000 (Some (2 ^ 61)) 0) left) ≡ false
    unfolding advance
    comes_at_last = ap is_blocked (nothing_delivered 1000 (sleeping 6000 (Some (2 ^ 61)) 0) left is_still)

    -- The attempt lets a timer go off that is due, and finds the process blocked all the same, where that signal is blocked.
    blocked_behind_a_timer : (signals : Signals) → post first.signals timer_info false ≡ record { signals = signals; post = Queued } → next_signal signals ≡ None
        → turn_of 1000 (record (sleeping 6000 None 0) { kernel = record first { clock = 6000; timer = record { due = Some 5500; period = 0 } } }) left
        ≡ ends (record (sleeping 6000 None 0) { kernel = record first { clock = 6000; timer = unarmed; signals = signals } }) (events.Post Alrm ∷ []) Blocked
    unfolding advance
    blocked_behind_a_timer signals posted blocked =
        nothing_delivered 1000 (record (sleeping 6000 None 0) { kernel = record first { clock = 6000; timer = record { due = Some 5500; period = 0 } } }) left
        (ap (λ (p : Posted). is_none (next_signal p.signals)) posted ∙ ap is_none blocked)
        ∙ simp posted refl

    -- at its deadline the call ends with 0, and the turn goes on with the next instruction, an SLL of nothing
    wakes : loaded memory 65540 4 ≡ Ok 0
        → turn_of 1000 (sleeping 1_000_005_000 (Some 1_000_005_000) 300) left
        ≡ goes_on (record (at (record first { clock = 1_000_006_000 }) 65544 (registers 0 5 65792 0 8 0)) { idle = 300 }) (events.Done 0 0 ∷ [])
    unfolding advance step_of effect_at plain_rows special_rows
    wakes next = nothing_delivered 1000 (sleeping 1_000_005_000 (Some 1_000_005_000) 300) left is_still ∙ simp next refl

    -- so do both calls that sleep, by how waits end
    ends_so : (wait : Wait) (clock : ℕ) (kernel : Kernel) → wait_ended (record wait { nr = 4166 }) Due clock kernel memory ≡ ends_with (closes.Value 0) kernel memory
    ends_so wait clock kernel = refl

    ends_by_its_clock : (wait : Wait) (clock : ℕ) (kernel : Kernel) → wait_ended (record wait { nr = 4265 }) Due clock kernel memory ≡ ends_with (closes.Value 0) kernel memory
    ends_by_its_clock wait clock kernel = refl

    -- a timer that is set for an earlier time is where the clock jumps to
    to_the_timer : turn_of 1000 (record (sleeping 6000 (Some 1_000_005_000) 300) { kernel = record first { clock = 6000; timer = record { due = Some 7000; period = 0 } } }) left
        ≡ goes_on (record (sleeping 7000 (Some 1_000_005_000) 1300) { kernel = record first { clock = 7000; timer = record { due = Some 7000; period = 0 } } }) []
    unfolding advance
    to_the_timer =
        nothing_delivered 1000 (record (sleeping 6000 (Some 1_000_005_000) 300) { kernel = record first { clock = 6000; timer = record { due = Some 7000; period = 0 } } }) left is_still

  -- A fault whose signal has no action: the turn after its own takes no time, kills, and uses the fault up.

  abbrev faulted : Kernel → Machine
  faulted kernel = record (at kernel 65536 (registers 5 5 6 7 8 9)) { fault = Some (fault_info Segv 1 0) }

  module _ (plain : action_at any.signals Segv ≡ no_action) where
    kills_by : (within : Within) → action_at within.machine.kernel.signals Segv ≡ no_action
        → fault_taken whole_end within (fault_info Segv 1 0) ≡ handling.killed Segv (with_machine within (record within.machine { fault = None }))
    kills_by within without =
        let used = with_machine within (record within.machine { fault = None }) in
        ap (fault_delivered whole_end used (fault_info Segv 1 0)) without
        ∙ neither (not (has within.machine.kernel.signals.mask Segv)) (handled whole_end used (fault_info Segv 1 0) no_action) (handling.killed Segv used)

    kills : (clock : ℕ) → turn_of 1000 (faulted (record first { clock = clock })) left ≡ ends (at (record first { clock = clock }) 65536 (registers 5 5 6 7 8 9)) (events.Killed Segv ∷ []) (Killed 11)
    unfolding turn_of advance rounds
    kills clock =
        ap (λ (w : Within). unless_killed whole 1000 w left)
        (ap (λ (w : Within). rounds whole_end 2111 w) (kills_by (before_delivery (faulted (record first { clock = clock }))) plain))

  -- LW $v0, 0($zero) stands there, and the page at 0 is absent
  module _ (load : loaded memory 65536 4 ≡ Ok 0x8C02_0000) (absent : loaded memory 0 4 ≡ Err (record { addr = 0; why = Absent })) (plain : action_at any.signals Segv ≡ no_action) where
    abbrev loading : Machine
    loading = at first 65536 (registers 5 5 6 7 8 9)

    -- the fault is found in a turn that takes its time
    faults : turn_of 1000 loading left ≡ goes_on (record (at (a_turn_later first) 65536 (registers 5 5 6 7 8 9)) { fault = Some (fault_info Segv 1 0) }) (events.Fault Segv 1 0 ∷ [])
    unfolding advance step_of effect_at memory_rows immediate_form signed_immediate
    faults = nothing_delivered 1000 loading left is_still ∙ simp (load, absent) refl

    after_fault : reached 1000 loading left 1 ≡ so_far (faulted (a_turn_later first))
    unfolding reached
    after_fault = ap (after_attempt (so_far loading)) faults

    before_kill : (j : ℕ) → j < 2 → IsRunningAt 1000 loading left j
    unfolding reached
    before_kill zero below = record { alive = refl; awake = ap is_blocked faults }
    before_kill (suc zero) below = record {
      alive = ap (λ (r : Reached). r.over) after_fault;
      awake = ap (λ (r : Reached). is_blocked (turn_of 1000 r.machine r.left)) after_fault ∙ ap is_blocked (kills plain (first.clock + 1000));
    }
    before_kill (suc (suc j)) below = absurd (omega arith)

    killed : IsOverAt 1000 loading left 2 2 (Killed 11)
    unfolding reached
    killed = (
      omega arith,
      record {
        ended = ap (λ (r : Reached). (unless_over 1000 r r.over).over) after_fault
            ∙ ap (λ (t : Turn). (after_attempt (so_far (faulted (a_turn_later first))) t).over) (kills plain (first.clock + 1000));
        first = before_kill;
      },
    )

    killed_past_the_budget : IsOverAt 1000 loading left 1 1 Budget
    killed_past_the_budget = (refl, λ j below. before_kill j (omega arith), ap (λ (r : Reached). r.over) after_fault)

  -- a branch to itself stands there, with an SLL of nothing in its slot: the budget's turns are done, and nothing is sent
  module _ (branch : loaded memory 65536 4 ≡ Ok 0x1000_FFFF) (slot : loaded memory 65540 4 ≡ Ok 0) where
    abbrev looping : ℕ → Machine
    looping clock = at (record first { clock = clock }) 65536 (registers 5 5 6 7 8 9)

    abbrev in_slot : ℕ → Machine
    in_slot clock = record (at (record first { clock = clock }) 65540 (registers 5 5 6 7 8 9)) {
      processor = record (fresh 65540) { registers = registers 5 5 6 7 8 9; slot = Some (record { branch = 65536; target = 65536 }) };
    }

    branches : (clock : ℕ) → turn_of 1000 (looping clock) left ≡ goes_on (in_slot (clock + 1000)) []
    unfolding advance step_of effect_at plain_rows special_rows immediate_form signed_immediate
    branches clock = nothing_delivered 1000 (looping clock) left is_still ∙ simp branch refl

    comes_back : (clock : ℕ) → turn_of 1000 (in_slot clock) left ≡ goes_on (looping (clock + 1000)) []
    unfolding advance step_of effect_at plain_rows special_rows
    comes_back clock = nothing_delivered 1000 (in_slot clock) left is_still ∙ simp slot refl

    after_first : reached 1000 (looping 0) left 1 ≡ so_far (in_slot 1000)
    unfolding reached
    after_first = ap (after_attempt (so_far (looping 0))) (branches 0)

    after_second : reached 1000 (looping 0) left 2 ≡ so_far (looping 2000)
    unfolding reached
    after_second =
        ap (λ (r : Reached). unless_over 1000 r r.over) after_first
        ∙ ap (after_attempt (so_far (in_slot 1000))) (comes_back 1000)

    after_third : reached 1000 (looping 0) left 3 ≡ so_far (in_slot 3000)
    unfolding reached
    after_third =
        ap (λ (r : Reached). unless_over 1000 r r.over) after_second
        ∙ ap (after_attempt (so_far (looping 2000))) (branches 2000)

    running : (j : ℕ) (now : Machine) → reached 1000 (looping 0) left j ≡ so_far now → is_blocked (turn_of 1000 now left) ≡ false
        → IsRunningAt 1000 (looping 0) left j
    running j now there awake =
        record { alive = ap (λ (r : Reached). r.over) there; awake = ap (λ (r : Reached). is_blocked (turn_of 1000 r.machine r.left)) there ∙ awake }

    in_the_loop : (j : ℕ) → j < 3 → IsRunningAt 1000 (looping 0) left j
    unfolding reached
    in_the_loop zero below = running 0 (looping 0) refl (ap is_blocked (branches 0))
    in_the_loop (suc zero) below = running 1 (in_slot 1000) after_first (ap is_blocked (comes_back 1000))
    in_the_loop (suc (suc zero)) below =
        running 2 (looping 2000) after_second (ap is_blocked (branches 2000))
    in_the_loop (suc (suc (suc j))) below = absurd (omega arith)

    budget_done : IsOverAt 1000 (looping 0) left 3 3 Budget
    budget_done = (refl, in_the_loop, ap (λ (r : Reached). r.over) after_third)

    nothing_sent : (reached 1000 (looping 0) left 3).sent ≡ nothing
    nothing_sent = ap (λ (r : Reached). r.sent) after_third
