-- What an instruction that may store nothing comes to.
use Rattle.std.specs.Prelude.{◌≡◌, ◌<◌, ℕ, ⊤, None}
use Rattle.guest_space.specs.Memory.{Memory}
use Rattle.mips_exec.specs.Processor.{Processor}
use Rattle.mips_exec.specs.Step.{step_of, effect_at}
use Rattle.mips_exec.specs.declared.effect.Effect.TheVariants as Effect
use Rattle.mips_exec.specs.declared.running.Behind.{Behind}
use Rattle.mips_exec.specs.declared.running.Behind.TheVariants as behind
use Rattle.mips_exec.specs.declared.running.Ended.{Ended}
use Rattle.mips_exec.specs.declared.running.Ended.TheVariants as ended
use Rattle.mips_exec.specs.declared.running.Quiet.{Quiet}
use Rattle.mips_exec.specs.declared.running.Quiet.TheVariants.{Went, Stores, Calls, Stays}
use Rattle.mips_exec.specs.declared.execution.Stepped.TheVariants.{Next}

-- the next instruction is a SYSCALL that stands in no slot
abbrev pub IsAtCall : Processor → Memory → Type 0
IsAtCall processor memory = (processor.slot ≡ None) × (effect_at processor memory ≡ Effect.SystemCall)

-- it was carried out, or is this store, or makes a call, or stays
abbrev pub IsQuiet : Processor → Memory → Quiet → Processor → Type 0
IsQuiet processor memory Went next = step_of processor memory ≡ record { processor = next; memory = memory; came = Next }
IsQuiet processor memory (Stores store) next = (next ≡ processor) × (effect_at processor memory ≡ Effect.Store store.span store.address store.value)
IsQuiet processor memory Calls next = (next ≡ processor) × IsAtCall processor memory
IsQuiet processor memory Stays next = next ≡ processor

-- what comes behind instructions, where so many are left: this store, or a call
abbrev pub IsNext : ℕ → Processor → Memory → Behind → Type 0
IsNext left processor memory (behind.Store store) = (0 < left) × (effect_at processor memory ≡ Effect.Store store.span store.address store.value)
IsNext left processor memory behind.Call = IsAtCall processor memory
IsNext left processor memory behind.Other = ⊤

-- how a stretch of instructions ended, of which so many were to be and so many are left: with a store, or before a call
abbrev pub IsEnded : ℕ → ℕ → Processor → Memory → Ended → Type 0
IsEnded most left processor memory ended.Stored = left < most
IsEnded most left processor memory ended.AtCall = IsAtCall processor memory
IsEnded most left processor memory ended.AtOther = ⊤
