-- What the records of a turn are kept in. (The journal is this project's own.)
use Rattle.std.specs.Prelude.{◌≡◌, ◌++◌, Bool, List, [], Option, Some, None, option_map, if◌then◌else◌}
use Rattle.guest_space.specs.Memory.{Memory}
use Rattle.kernel_core.specs.declared.record.Effect.{Effect}
use Rattle.kernel_core.specs.declared.record.Record.{Record}
use Rattle.kernel_model.specs.Pipes.{Sent, nothing}
use Rattle.mips_exec.specs.Processor.{Processor}
use Rattle.o32_model.specs.Effects.{Effected}

-- the records so far; none where no journal is kept
abbrev pub Records : Type 0
Records = Option (List Record)

abbrev pub first_records : Bool → Records
first_records kept = if kept then Some [] else None

-- no record, where a journal is kept
abbrev pub emptied : Records → Records
emptied records = option_map (λ _. []) records

-- no effect, where a journal is kept
abbrev pub no_effects : Records → Option (List Effect)
no_effects records = option_map (λ _. []) records

pub record Gained (records : List Record) (new : Records) (IsMore : List Record → Type 0) : Type 0 where
  pub more : List Record
  pub whole : new ≡ Some (records ++ more)
  pub are : IsMore more

-- Where a journal is kept, more records have come, of which this is said; and none is kept where none was.
pub record Gains (old new : Records) (IsMore : List Record → Type 0) : Type 0 where
  pub kept : (records : List Record) → old ≡ Some records → Gained records new IsMore
  pub absent : old ≡ None → new ≡ None

-- The effects that calls kept, none of which sets a register, lead from these pages to those over what was sent, whatever the registers are.
abbrev pub AreKept : Records → Option (List Effect) → Processor → Memory → Memory → Sent → Type 0
AreKept records effects processor memory became sent =
    Effected (no_effects records) effects
    (record { processor = processor; pages = memory.pages; sent = nothing })
    (record { processor = processor; pages = became.pages; sent = sent })
