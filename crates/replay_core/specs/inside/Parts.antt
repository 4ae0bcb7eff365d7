-- What the code of a part of a turn does, beside what the part means.
use Rattle.std.specs.Prelude.{ℕ, ◌≡◌, ◌+◌, Bool, ◌&&◌, not, ◌==◌, List, [], Option, Some, None, Result, Ok, Err, if◌then◌else◌}
use Rattle.guest_space.specs.Memory.{Memory, Pages}
use Rattle.kernel_core.specs.declared.record.Record.{Record}
use Rattle.kernel_model.specs.Pipes.{Sent, nothing}
use Rattle.mips_exec.specs.Processor.{Processor}
use Rattle.o32_model.specs.Effects.{Difference, Target}
use Rattle.outside.specs.declared.errors.DevError.{DevError}
use Rattle.outside.specs.declared.errors.DevError.TheVariants as dev
use Rattle.replay_core.specs.Answered.{CountRose, CountsStay, Gains, GainsPart, Written}
use Rattle.replay_core.specs.Replay.{Carried, Replay, call_kind, comes, differs, idle, is_excused, taken, words_of}
use Rattle.replay_core.specs.declared.answer.ReplayEnd.{ReplayEnd}
use Rattle.replay_core.specs.declared.answer.ReplayEnd.TheVariants as replay_end
use Rattle.replay_core.specs.declared.difference.Difference as code
use Rattle.replay_core.specs.declared.difference.Halt.{Halt}
use Rattle.replay_core.specs.declared.difference.Halt.TheVariants.{Differs, WriteFault, NoMemory}
use Rattle.replay_core.specs.declared.machine.Machine.{Machine}

abbrev pub met : code.Difference → Difference
met difference = record { wanted = difference.wanted; found = difference.found }

-- a test for a difference
abbrev pub Meets : Option Difference → Result Unit Halt → Type 0
Meets difference (Ok done) = difference ≡ None
Meets difference (Err (Differs found)) = difference ≡ Some (met found)
Meets difference (Err WriteFault) = ⊥
Meets difference (Err NoMemory) = ⊥

-- What was carried out is as it is meant, and that was sent since `first`, or a difference was met; or it stopped early, and what was sent lies
-- between what was sent before, `low`, and all that it sends.
abbrev pub Leaves : Type 0 → Option Difference → Sent → Written → Sent → Written → Result Unit Halt → Type 0
Leaves same difference sent first low now (Ok done) = same × Gains first now sent
Leaves same difference sent first low now (Err (Differs found)) = (difference ≡ Some (met found)) × Gains first now sent
Leaves same difference sent first low now (Err WriteFault) = GainsPart first now low sent
Leaves same difference sent first low now (Err NoMemory) = GainsPart first now low sent

-- Effects

abbrev pub target_at : Processor → Memory → Sent → Target
target_at processor memory sent = record { processor = processor; pages = memory.pages; sent = sent }

abbrev pub Carries : Carried → Processor → Memory → Written → Sent → Written → Result Unit Halt → Type 0
Carries carried processor memory first low now result =
    Leaves (carried ≡ record { target = target_at processor memory carried.target.sent; difference = None }) carried.difference carried.target.sent first low now result

-- an effect on pages
abbrev pub ChangesPages : Result Pages Difference → Memory → Memory → Result Unit Halt → Type 0
ChangesPages meant before after (Ok done) = (meant ≡ Ok after.pages) × (after ≡ record before { pages = after.pages })
ChangesPages meant before after (Err (Differs found)) = meant ≡ Err (met found)
ChangesPages meant before after (Err WriteFault) = ⊥
ChangesPages meant before after (Err NoMemory) = Unit {0}

-- an output
abbrev pub halt_of : DevError → Halt
halt_of dev.Failed = WriteFault
halt_of dev.NoMemory = NoMemory

abbrev pub sent_to : ℕ → List ℕ → Sent
sent_to stream bytes = if stream == 1 then record { out = bytes; err = [] } else record { out = []; err = bytes }

abbrev pub Sends : ℕ → List ℕ → Written → Written → Result Unit Halt → Type 0
Sends stream bytes before now (Ok done) = Gains before now (sent_to stream bytes)
Sends stream bytes before now (Err (Differs found)) = ⊥
Sends stream bytes before now (Err WriteFault) = GainsPart before now nothing (sent_to stream bytes)
Sends stream bytes before now (Err NoMemory) = GainsPart before now nothing (sent_to stream bytes)

-- Parts of a turn

-- the machine after so many turns, which sent so much
abbrev pub replay_at : Machine → ℕ → Sent → Replay
replay_at machine turns sent = record { processor = machine.cpu; memory = machine.space; sent = sent; left = machine.coming; turns = turns; difference = None }

abbrev pub Comes : Replay → Machine → ℕ → Written → Sent → Written → Result Unit Halt → Type 0
Comes replay machine turns first low now result =
    Leaves (replay ≡ replay_at machine turns replay.sent) replay.difference replay.sent first low now result

-- a part of a turn, whatever was sent before
abbrev pub Does : (Replay → Replay) → Machine → Machine → Written → Written → Result Unit Halt → Type 0
Does part old new before now result =
    (turns : ℕ) (first : Written) (sent : Sent) → Gains first before sent → Comes (part (replay_at old turns sent)) new turns first sent now result

-- the next record is used up by the machine
abbrev pub take_words : List ℕ → Replay → Replay
take_words words replay = taken words replay.left replay

abbrev pub idle_turn : Replay → Replay
idle_turn replay = idle (words_of replay.processor) replay.left replay

-- the instruction made a call
abbrev pub call_or_differs : ℕ → List ℕ → Replay → Replay
call_or_differs turn words replay = if comes turn call_kind replay.left then taken words replay.left replay else differs 0 1 replay

-- Where the instruction made no call: a record of a call, or a fault that nothing follows.
abbrev pub without_call : ℕ → Bool → List Record → Option Difference
without_call turn faulted left =
    if comes turn call_kind left then Some (record { wanted = 1; found = 0 })
    else (if faulted && not (is_excused turn left) then Some (record { wanted = 0; found = 2 }) else None)

-- When it may stop early by an output: the counts of the faults of both, before and after.
abbrev pub HaltsOnlyIfRose : Result Unit Halt → ℕ → ℕ → ℕ → ℕ → Type 0
HaltsOnlyIfRose (Ok done) out out_then err err_then = CountsStay out out_then err err_then
HaltsOnlyIfRose (Err (Differs found)) out out_then err err_then = CountsStay out out_then err err_then
HaltsOnlyIfRose (Err WriteFault) out out_then err err_then = CountRose out out_then err err_then
HaltsOnlyIfRose (Err NoMemory) out out_then err err_then = CountsStay out out_then err err_then

-- Answers

abbrev pub end_by : ℕ → Halt → ReplayEnd
end_by turns (Differs found) = replay_end.Diverged (turns + 1) found.wanted found.found
end_by turns WriteFault = replay_end.WriteFault
end_by turns NoMemory = replay_end.NoMemory

-- it is not that there was no start
abbrev pub IsGoing : ReplayEnd → Type 0
IsGoing end = ¬ (end ≡ replay_end.Start)
