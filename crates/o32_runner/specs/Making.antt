-- The files of a run's texts, made one after the other before its first turn: that of the trace, that of the native log, and that of the journal. This
-- project's own.
use Rattle.std.specs.Prelude.{ℕ, ◌≡◌, ◌⊎◌, ⊤, List, [], Option, None, Some, Result, Ok, Err}
use Rattle.outside.specs.Count.{Rose}
use Rattle.outside.specs.Streams.{Contents}
use Rattle.kernel_core.specs.declared.core_error.Stop.{Stop}
use Rattle.kernel_core.specs.declared.core_error.Stop.TheVariants.{NoMemory, ReadFault, WriteFault}
use Rattle.kernel_core.specs.declared.finish.Finish.{Finish}
use Rattle.stored_files.specs.Stored.{IfNamed, IsUnmade, SavesText, Stored}

-- the file was made and is empty, where one is named
abbrev pub Makes : Option (List ℕ) → Stored → Stored → Type 0
Makes name old new = IfNamed name (λ made. SavesText made []) old new

-- a file is named that could not be made: it stands as it was or is empty, and every other stands
abbrev pub MakesNone : Option (List ℕ) → Stored → Stored → Type 0
MakesNone None old new = ⊥
MakesNone (Some name) old new = IsUnmade name old new

-- the first two were made
pub record MakesBoth (trace native : Option (List ℕ)) (old new : Stored) : Type 0 where
  pub middle : Stored
  pub first : Makes trace old middle
  pub second : Makes native middle new

-- the first could not be, or the second behind it
abbrev pub MakesNotBoth : Option (List ℕ) → Option (List ℕ) → Stored → Stored → Type 0
MakesNotBoth trace native old new = MakesNone trace old new ⊎ ((middle : Stored) × Makes trace old middle × MakesNone native middle new)

-- all three were made
pub record MakesAll (trace native journal : Option (List ℕ)) (old new : Stored) : Type 0 where
  pub middle : Stored
  pub both : MakesBoth trace native old middle
  pub third : Makes journal middle new

-- One of them could not be: those before it were made and are empty, and those behind it stand as they were.
abbrev pub MakesNotAll : Option (List ℕ) → Option (List ℕ) → Option (List ℕ) → Stored → Stored → Type 0
MakesNotAll trace native journal old new =
    MakesNotBoth trace native old new ⊎ ((middle : Stored) × MakesBoth trace native old middle × MakesNone journal middle new)

-- the store is the cause of a stop: its count of faulty writes rose in a write fault, and in no other
abbrev pub IsByStore : Stop → ℕ → ℕ → Type 0
IsByStore WriteFault before now = Rose before now
IsByStore NoMemory before now = now ≡ before
IsByStore ReadFault before now = ⊥

-- and always where the budget's turns are done
abbrev pub StopsBehind : Result Finish Stop → ℕ → ℕ → ℕ → ℕ → Type 0
StopsBehind (Ok finish) turns budget before now = ⊤
StopsBehind (Err stop) turns budget before now = turns ≡ budget → IsByStore stop before now

-- A run stopped before its first turn, since one of its files could not be made: the devices have what they had.
pub record IsUnbegun (trace native journal : Option (List ℕ)) (turns : ℕ) (stop : Stop) (before after : Contents) (old new : Stored) : Type 0 where
  pub none : turns ≡ 0
  pub untouched : after ≡ before
  pub unmade : MakesNotAll trace native journal old new
  pub cause : IsByStore stop old.write_faults new.write_faults
