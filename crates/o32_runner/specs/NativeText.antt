-- The native log of a run: what the native kernel was told and asked turn by turn, the history that this is, and its text. This project's own.
use Rattle.std.specs.Prelude.{ℕ, zero, suc, ◌≡◌, ◌+◌, ◌<◌, ◌≤◌, ◌⊎◌, List, [], ◌++◌, Option, Some, Result, Ok, Err}
use Rattle.std.specs.List.{flat_map}
use Rattle.kernel_core.specs.declared.core_error.Stop.{Stop}
use Rattle.kernel_core.specs.declared.finish.Finish.{Finish}
use Rattle.kernel_core.specs.declared.finish.Finish.TheVariants.{Exited, Killed, Budget, Blocked}
use Rattle.kernel_core.specs.declared.log_entry.LogEntry.{LogEntry}
use Rattle.kernel_model.specs.Pipes.{Sent}
use Rattle.kernel_model.specs.State.{Kernel}
use Rattle.native_calls.specs.History.{Leads, moment, opening}
use Rattle.o32_machine.specs.Passed.{at_time}
use Rattle.o32_turns.specs.Machine.{Machine}
use Rattle.o32_turns.specs.Runs.{attempt, more_sent, reached}
use Rattle.stored_files.specs.Stored.{IsPartly, Stored, WritesText}
use Rattle.trace_text.specs.NativeLog.{native_line}

-- Entries turn by turn are a function: at k it gives those of the attempt at the turn after k turns.

-- what the first k turns have, one after the other
unfoldable pub up_to : {A : Type 0} → (ℕ → List A) → ℕ → List A
up_to turns zero = []
up_to turns (suc k) = up_to turns k ++ turns k

-- The text

-- the lines of the entries of a turn
abbrev pub entry_lines : ℕ → List LogEntry → List ℕ
entry_lines turn entries = flat_map (λ entry. native_line turn entry) entries

-- the native log of the first k turns
abbrev pub logged : (ℕ → List LogEntry) → ℕ → List ℕ
logged entries k = up_to (λ j. entry_lines (j + 1) (entries j)) k

-- what stands behind it where a run is over so after k turns: the lines of the attempt that found the process blocked
abbrev pub last_entries : (ℕ → List LogEntry) → ℕ → Finish → List ℕ
last_entries entries k (Exited status) = []
last_entries entries k (Killed signal) = []
last_entries entries k Budget = []
last_entries entries k Blocked = entry_lines (k + 1) (entries k)

-- The history

-- The entries lead from the kernel of a machine at time 0, with this input and nothing sent, to another kernel at the time that was told last, which
-- is not ahead of its clock, to what is left of the input there, and to all that was sent until then, byte for byte.
pub record IsHistory (machine : Machine) (left : List ℕ) (entries : List LogEntry) (became : Kernel) (rest : List ℕ) (sent : Sent) : Type 0 where
  pub told : ℕ
  pub leads : Leads (opening (at_time 0 machine.kernel) left) entries (moment (at_time told became) rest sent)
  pub behind : told ≤ became.clock

-- those of the first k turns lead to the machine that stands after them, and send what these turns send
abbrev pub LeadsTo : ℕ → Machine → List ℕ → (ℕ → List LogEntry) → ℕ → Type 0
LeadsTo quantum machine left entries k =
    let there = reached quantum machine left k in IsHistory machine left (up_to entries k) there.machine.kernel there.left there.sent

-- with those of the attempt at the next turn they lead to the machine that it leaves, and send what it sends too, also where it found the process
-- blocked
abbrev pub LeadsOver : ℕ → Machine → List ℕ → (ℕ → List LogEntry) → ℕ → Type 0
LeadsOver quantum machine left entries k =
    let before = reached quantum machine left k in
    let tried = attempt quantum machine left k in
    IsHistory machine left (up_to entries (k + 1)) tried.machine.kernel tried.left (more_sent before.sent tried.sent)

-- The log of a run that is over so after these turns
pub record HasLog (quantum : ℕ) (machine : Machine) (left : List ℕ) (turns : ℕ) (finish : Finish) (text : List ℕ) : Type 0 where
  pub entries : ℕ → List LogEntry
  pub leads : (k : ℕ) → k ≤ turns → LeadsTo quantum machine left entries k
  pub last : finish ≡ Blocked → LeadsOver quantum machine left entries turns
  pub written : text ≡ logged entries turns ++ last_entries entries turns finish

-- The log of a run for a budget that stopped after these turns: their lines, and a first part of those of the next turn, where that was finished
pub record HasCutLog (quantum : ℕ) (machine : Machine) (left : List ℕ) (budget turns : ℕ) (text : List ℕ) : Type 0 where
  pub entries : ℕ → List LogEntry
  pub leads : (k : ℕ) → k ≤ turns → LeadsTo quantum machine left entries k
  pub next : (entries turns ≡ []) ⊎ ((turns < budget) × LeadsOver quantum machine left entries turns)
  pub written : IsPartly (logged entries turns) (entry_lines (turns + 1) (entries turns)) text

-- The file

-- Its text is said where the input tells what is left of it.

abbrev pub IsWholeLog : ℕ → Machine → ℕ → Finish → Option (List ℕ) → List ℕ → Type 0
IsWholeLog quantum machine turns finish told text = (left : List ℕ) → told ≡ Some left → HasLog quantum machine left turns finish text

abbrev pub IsCutLog : ℕ → Machine → ℕ → ℕ → Option (List ℕ) → List ℕ → Type 0
IsCutLog quantum machine budget turns told text = (left : List ℕ) → told ≡ Some left → HasCutLog quantum machine left budget turns text

-- A run that is over wrote its log whole, and one that stopped wrote a part.

abbrev pub LogsWhole : List ℕ → ℕ → Machine → ℕ → Finish → Option (List ℕ) → Stored → Stored → Type 0
LogsWhole name quantum machine turns finish told old new = WritesText name (IsWholeLog quantum machine turns finish told) old new

abbrev pub LogsPart : List ℕ → ℕ → Machine → ℕ → ℕ → Option (List ℕ) → Stored → Stored → Type 0
LogsPart name quantum machine budget turns told old new =
    WritesText name (IsCutLog quantum machine budget turns told) old new

abbrev pub LogsAs : List ℕ → ℕ → Machine → ℕ → ℕ → Result Finish Stop → Option (List ℕ) → Stored → Stored → Type 0
LogsAs name quantum machine budget turns (Ok finish) told old new = LogsWhole name quantum machine turns finish told old new
LogsAs name quantum machine budget turns (Err stop) told old new = LogsPart name quantum machine budget turns told old new
