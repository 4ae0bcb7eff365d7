-- What it is that a replay repeats a run. (The journal and its replay are this project's own.)
use Rattle.std.specs.Prelude.{◌≡◌, ℕ, List, Some, None}
use Rattle.elf_image.specs.declared.load_plan.Plan.{Plan}
use Rattle.kernel_core.specs.declared.finish.Finish.{Finish}
use Rattle.kernel_core.specs.declared.record.Record.{Record}
use Rattle.kernel_model.specs.Always.{AreSignals}
use Rattle.kernel_model.specs.Pipes.{nothing}
use Rattle.o32_turns.specs.Machine.{Machine}
use Rattle.o32_turns.specs.Runs.{Reached}
use Rattle.replay_core.specs.Replay.{Replay}
use Rattle.replay_core.specs.Whole.{last_of}
use Rattle.start_stack.specs.Start.{start_memory, start_processor}

-- the replay of these records, which starts as the machine does
abbrev pub replay_from : Machine → List Record → Replay
replay_from machine records = record {
  processor = machine.processor;
  memory = machine.memory;
  sent = nothing;
  left = records;
  turns = 0;
  difference = None;
}

-- The replay took so many turns, met no difference and sent what the run sent.
pub record IsRepeated (reached : Reached) (turns : ℕ) (replay : Replay) : Type 0 where
  pub taken : replay.turns ≡ turns
  pub none : replay.difference ≡ None
  pub sent : replay.sent ≡ reached.sent

-- the last record is the end, with so many turns and this finish
pub record EndsWith (records : List Record) (k : ℕ) (how : Finish) : Type 0 where
  pub turns : (last_of records).turn ≡ k
  pub finish : (last_of records).finish ≡ Some how

-- The machine stands where a program starts with these arguments, environment and random bytes; no call waits, and no more signals pend than the
-- kernel lets pend.
pub record IsStartOf (plan : Plan) (args env : List (List ℕ)) (random : List ℕ) (machine : Machine) : Type 0 where
  pub processor : machine.processor ≡ start_processor plan args env
  pub memory : machine.memory ≡ start_memory plan args env random
  pub awake : machine.wait ≡ None
  pub signals : AreSignals machine.kernel.signals
