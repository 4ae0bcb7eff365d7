-- What an emulator is like behind turns: a native log and the records of a journal are kept exactly where they were before, and whether a turn
-- follows.
use Rattle.std.proofs.Common.{◌≡◌, ◌∙◌, ◌+◌, ℕ, Bool, true, List, [], Option, Some, None, IfOk, Ok, Err, Result, ap, refl, sym}
use Rattle.std.specs.Prelude.{is_some}
use Rattle.o32_machine.specs.Passed.{Logged, emptied as emptied_log}
use Rattle.kernel_core.specs.declared.core_error.Stop.{Stop}
use Rattle.kernel_core.specs.declared.event.Event.{Event}
use Rattle.kernel_core.specs.declared.finish.Finish.{Finish}
use Rattle.kernel_core.specs.declared.finish.Finish.TheVariants.{Exited, Killed, Budget, Blocked}
use Rattle.kernel_core.specs.declared.log_entry.LogEntry.{LogEntry}
use Rattle.kernel_core.specs.declared.record.Record.{Record}
use Rattle.native_calls.specs.History.{Moment}
use Rattle.o32_machine.specs.Answered.{is_end, over_of}
use Rattle.o32_machine.specs.Emulator.{Emulated}
use Rattle.o32_machine.specs.Native.{LogsTurns}
use Rattle.o32_machine.specs.Quiet.{IsTurnAfter}
use Rattle.o32_machine.specs.Records.{RecordsTurns}
use Rattle.o32_machine.specs.declared.turn.Turn as code
use Rattle.o32_machine.specs.declared.turn.Turn.TheVariants.{Ended}
use Rattle.o32_runner.specs.Runs.{KeepsTexts, no_turn_follows}
use Rattle.o32_runner.proofs.TurnEnds.{EndsSo, turn_ends}
use Rattle.o32_turns.specs.Machine.{Machine, Turn}
use Rattle.o32_turns.specs.Turn.{turn_of}
use Rattle.outside.specs.Streams.{Contents}
use Rattle.turn_records.specs.Keeping.{Gains, Records, emptied}

kept_log : (old new : Option (List LogEntry)) (from to : Moment) → Logged (emptied_log old) new from to → is_some new ≡ is_some old
kept_log None new from to logged = ap is_some logged.kept
kept_log (Some entries) new from to logged = ap is_some logged.kept

kept_records : (old new : Records) (IsMore : List Record → Type 0) → Gains (emptied old) new IsMore → is_some new ≡ is_some old
kept_records None new IsMore gains = ap is_some (gains.absent refl)
kept_records (Some records) new IsMore gains = ap is_some (gains.kept [] refl).whole

pub keeps_first : (first : Emulated) → KeepsTexts first first
keeps_first first = record { native = refl; records = refl }

pub keeps_behind : (first old new : Emulated) (turn : code.Turn) (left : List ℕ) (before : Contents) → before.left ≡ Some left → KeepsTexts first old
    → LogsTurns (Ok turn) old.quantum old.machine old.turns new.turns new.machine.kernel old.native new.native before
    → RecordsTurns (Ok turn) old.quantum old.machine old.turns new.turns old.records new.records before → KeepsTexts first new
keeps_behind first old new turn left before told keeps log records = record {
  native = kept_log old.native.entries new.native.entries _ _ (log left told).last.leads ∙ keeps.native;
  records = kept_records old.records new.records _ (records left told).gains ∙ keeps.records;
}

pub keeps_however : (first final : Emulated) → KeepsTexts first final → (end : Result Finish Stop) → IfOk end (λ finish. KeepsTexts first final)
keeps_however first final keeps (Ok finish) = keeps
keeps_however first final keeps (Err stop) = tt

no_turn : (left : List ℕ) (turn : Turn) (finish : Finish) → EndsSo left turn finish → no_turn_follows finish ≡ true
no_turn left turn (Exited status) ends = refl
no_turn left turn (Killed signal) ends = refl
no_turn left turn Budget ends = absurd ends
no_turn left turn Blocked ends = refl

pub over_behind : (quantum limit turns then : ℕ) (machine became : Machine) (events : List Event) (before after : Contents) (turn : code.Turn) (finish : Finish) (left : List ℕ) (over : Bool) → before.left ≡ Some left
    → turn ≡ Ended finish → over ≡ is_end turn → IsTurnAfter quantum limit machine turns (Ok turn) became then events before after → over ≡ no_turn_follows finish
over_behind quantum limit turns then machine became events before after turn finish left over told is ended turned =
    let defined = turn_of quantum turned.middle left in
    let came : defined.over ≡ Some finish = sym (turned.last left told).came ∙ ap over_of is in
    ended ∙ ap is_end is ∙ sym (no_turn left defined finish (turn_ends quantum turned.middle left finish came))

pub over_however : (over : Bool) (end : Result Finish Stop) → ((finish : Finish) → end ≡ Ok finish → over ≡ no_turn_follows finish) → IfOk end (λ finish. over ≡ no_turn_follows finish)
over_however over (Ok finish) follows = follows finish refl
over_however over (Err stop) follows = tt
