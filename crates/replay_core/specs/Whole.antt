-- What the whole replay of a journal is, from the executable's load plan and the journal alone. (This project's own.)
use Rattle.std.specs.Prelude.{ℕ, List, [], ◌∷◌, Option, None}
use Rattle.elf_image.specs.declared.load_plan.Plan.{Plan}
use Rattle.journal.specs.Text.{Kept}
use Rattle.kernel_core.specs.declared.record.Record.{Record}
use Rattle.kernel_model.specs.Pipes.{nothing}
use Rattle.replay_core.specs.Replay.{Replay, replayed}
use Rattle.replay_core.specs.declared.last.Last.{Last}
use Rattle.start_stack.specs.Start.{start_memory, start_processor}

-- the program starts as the run did
abbrev pub start_of : Plan → Kept → Replay
start_of plan j = record {
  processor = start_processor plan j.args j.env;
  memory = start_memory plan j.args j.env j.random;
  sent = nothing;
  left = j.records;
  turns = 0;
  difference = None;
}

-- the turn and the finish of the last of these records, behind another
abbrev pub last_behind : Last → List Record → Last
last_behind last [] = last
last_behind last (entry ∷ left) = last_behind (record { turn = entry.turn; finish = entry.finish }) left

-- those of the last record, which is the end; zero and none where there is no record
abbrev pub last_of : List Record → Last
last_of records = last_behind (record { turn = 0; finish = None }) records

-- what stands at the end of the replay, which takes turns up to that of the journal's end
abbrev pub replay_of : Plan → Kept → Replay
replay_of plan j = replayed (start_of plan j) (last_of j.records).turn
