-- What a part of a turn sends comes behind what was sent, and no part counts a turn.
use Rattle.std.proofs.Common.{◌≡◌, ℕ, ◌==◌, Bool, true, false, List, [], ◌∷◌, ◌++◌, Option, Some, None, Result, Ok, Err, refl, if◌then◌else◌}
use Rattle.guest_space.specs.Memory.{Pages}
use Rattle.kernel_core.specs.declared.record.Effect.{Effect}
use Rattle.kernel_core.specs.declared.record.Effect.TheVariants.{Register, Write, Map, Unmap, Protect, Output}
use Rattle.kernel_core.specs.declared.record.Record.{Record}
use Rattle.kernel_model.specs.Pipes.{Sent}
use Rattle.mips_exec.specs.Processor.{Processor}
use Rattle.mips_exec.specs.Step.{step_of}
use Rattle.mips_exec.specs.declared.execution.Stepped.{Stepped}
use Rattle.mips_exec.specs.declared.execution.Stepped.TheVariants.{Next, Syscall, Fault}
use Rattle.o32_model.specs.Effects.{Difference, Target, carried, after_register, after_write, after_map, after_protect, after_output, on_processor, on_pages, on_sent}
use Rattle.o32_model.specs.Effects.{differs as differs_by}
use Rattle.outside.specs.Output.{IsPrefix}
use Rattle.outside.proofs.OutputLemmas.{IsPrefix-refl, IsPrefix-trans, IsPrefix-longer}
use Rattle.replay_core.specs.Replay.{Replay, after_step, before_instruction, before_kind, call_kind, carried_on, carried_unless, comes, differs, ends_killed, first_difference, idle, idle_kind, instruction, instruction_or_none, is_excused, meets, taken, target_of, unless_met, words_of}

pub record Extends (less more : Sent) : Type 0 where
  pub to_out : IsPrefix less.out more.out
  pub to_err : IsPrefix less.err more.err

pub extends_same : (sent : Sent) → Extends sent sent
extends_same sent = record { to_out = IsPrefix-refl sent.out; to_err = IsPrefix-refl sent.err }

pub extends_then : {first second third : Sent} → Extends first second → Extends second third → Extends first third
extends_then p q = record { to_out = IsPrefix-trans p.to_out q.to_out; to_err = IsPrefix-trans p.to_err q.to_err }

-- Effects

abbrev pub ExtendsSent : Sent → Result Sent Difference → Type 0
ExtendsSent sent (Ok later) = Extends sent later
ExtendsSent sent (Err difference) = Unit {0}

output_by : (sent : Sent) (stream : ℕ) (bytes : List ℕ) (is_out is_err : Bool) → ExtendsSent sent
    (if is_out then Ok (record sent { out = sent.out ++ bytes }) else (if is_err then Ok (record sent { err = sent.err ++ bytes }) else differs_by stream 0))
output_by sent stream bytes true is_err = record { to_out = IsPrefix-longer bytes (IsPrefix-refl sent.out); to_err = IsPrefix-refl sent.err }
output_by sent stream bytes false true = record { to_out = IsPrefix-refl sent.out; to_err = IsPrefix-longer bytes (IsPrefix-refl sent.err) }
output_by sent stream bytes false false = tt

abbrev pub ExtendsTarget : Target → Result Target Difference → Type 0
ExtendsTarget target (Ok later) = Extends target.sent later.sent
ExtendsTarget target (Err difference) = Unit {0}

on_processor_extends : (target : Target) (result : Result Processor Difference) → ExtendsTarget target (on_processor target result)
on_processor_extends target (Ok processor) = extends_same target.sent
on_processor_extends target (Err difference) = tt

pub on_pages_extends : (target : Target) (result : Result Pages Difference) → ExtendsTarget target (on_pages target result)
on_pages_extends target (Ok pages) = extends_same target.sent
on_pages_extends target (Err difference) = tt

on_sent_extends : (target : Target) (result : Result Sent Difference) → ExtendsSent target.sent result → ExtendsTarget target (on_sent target result)
on_sent_extends target (Ok sent) extends = extends
on_sent_extends target (Err difference) extends = tt

pub carried_extends : (target : Target) (effect : Effect) → ExtendsTarget target (carried target effect)
carried_extends target (Register number value) = on_processor_extends target (after_register target.processor number value)
carried_extends target (Write address bytes) = on_pages_extends target (after_write target.pages address bytes)
carried_extends target (Map first count protection) = on_pages_extends target (after_map target.pages first count protection)
carried_extends target (Unmap first count) = extends_same target.sent
carried_extends target (Protect first count protection) = on_pages_extends target (after_protect target.pages first count protection)
carried_extends target (Output stream bytes) =
    on_sent_extends target (after_output target.sent stream bytes) (output_by target.sent stream bytes (stream == 1) (stream == 2))

pub carried_on_extends : (effects : List Effect) (target : Target) (result : Result Target Difference) → ExtendsTarget target result
    → Extends target.sent (carried_on effects target result).target.sent
carried_on_extends [] target (Err difference) extends = extends_same target.sent
carried_on_extends (effect ∷ effects) target (Err difference) extends = extends_same target.sent
carried_on_extends [] target (Ok later) extends = extends
carried_on_extends (effect ∷ effects) target (Ok later) extends =
    extends_then extends (carried_on_extends effects later (carried later effect) (carried_extends later effect))

-- Parts of a turn

pub record Further (before after : Replay) : Type 0 where
  pub turns : after.turns ≡ before.turns
  pub more : Extends before.sent after.sent

pub further_meets : (replay : Replay) (difference : Option Difference) → Further replay (meets replay difference)
further_meets replay difference = record { turns = refl; more = extends_same replay.sent }

pub further_same : (replay : Replay) → Further replay replay
further_same replay = record { turns = refl; more = extends_same replay.sent }

further_if : (test : Bool) (replay first second : Replay) → Further replay first → Further replay second → Further replay (if test then first else second)
further_if true replay first second one other = one
further_if false replay first second one other = other

pub carried_unless_further : (difference : Option Difference) (effects : List Effect) (replay : Replay) → Further replay (carried_unless difference effects replay)
carried_unless_further (Some difference) effects replay = further_meets replay (Some difference)
carried_unless_further None effects replay =
    record { turns = refl; more = carried_on_extends effects (target_of replay) (Ok (target_of replay)) (extends_same replay.sent) }

taken_further : (words : List ℕ) (left : List Record) (replay : Replay) → Further replay (taken words left replay)
taken_further words [] replay = further_same replay
taken_further words (entry ∷ left) replay =
    let rest = carried_unless_further (first_difference entry.words words) entry.effects (record replay { left = left }) in
    record { turns = rest.turns; more = rest.more }

idle_further : (words : List ℕ) (left : List Record) (replay : Replay) → Further replay (idle words left replay)
idle_further words [] replay = further_same replay
idle_further words (entry ∷ left) replay = record { turns = refl; more = extends_same replay.sent }

pub before_further : (turn : ℕ) (replay : Replay) → Further replay (before_instruction turn replay)
before_further turn replay =
    let words = words_of replay.processor in
    further_if (comes turn before_kind replay.left) replay (taken words replay.left replay) replay (taken_further words replay.left replay) (further_same replay)

pub after_step_further : (turn : ℕ) (words : List ℕ) (came : Stepped) (replay : Replay) → Further replay (after_step turn words came replay)
after_step_further turn words Next replay =
    further_if (comes turn call_kind replay.left) replay (differs 1 0 replay) replay (further_meets replay (Some (record { wanted = 1; found = 0 }))) (further_same replay)
after_step_further turn words Syscall replay =
    further_if (comes turn call_kind replay.left) replay (taken words replay.left replay) (differs 0 1 replay)
    (taken_further words replay.left replay) (further_meets replay (Some (record { wanted = 0; found = 1 })))
after_step_further turn words (Fault signal code address) replay =
    further_if (comes turn call_kind replay.left) replay (differs 1 0 replay) (if is_excused turn replay.left then replay else differs 0 2 replay)
    (further_meets replay (Some (record { wanted = 1; found = 0 })))
    (further_if (is_excused turn replay.left) replay replay (differs 0 2 replay) (further_same replay) (further_meets replay (Some (record { wanted = 0; found = 2 }))))

instruction_further : (turn : ℕ) (replay : Replay) → Further replay (instruction turn replay)
instruction_further turn replay =
    let step = step_of replay.processor replay.memory in
    let rest = after_step_further turn (words_of replay.processor) step.came (record replay { processor = step.processor; memory = step.memory }) in
    record { turns = rest.turns; more = rest.more }

pub instruction_or_none_further : (turn : ℕ) (replay : Replay) → Further replay (instruction_or_none turn replay)
instruction_or_none_further turn replay =
    let words = words_of replay.processor in
    further_if (ends_killed turn replay.left) replay replay (if comes turn idle_kind replay.left then idle words replay.left replay else instruction turn replay)
    (further_same replay)
    (further_if (comes turn idle_kind replay.left) replay (idle words replay.left replay) (instruction turn replay)
    (idle_further words replay.left replay) (instruction_further turn replay))

pub instruction_extends : (turn : ℕ) (replay : Replay) → Extends replay.sent (instruction turn replay).sent
instruction_extends turn replay = (instruction_further turn replay).more

pub unless_met_further : (difference : Option Difference) (first second : Replay) → Further first second → Further first (unless_met difference first second)
unless_met_further (Some difference) first second further = further_same first
unless_met_further None first second further = further
