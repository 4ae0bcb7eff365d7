-- One record of the journal. (The journal is this project's own.)
use Rattle.std.specs.Prelude.{◌≡◌, ◌<◌, ◌^◌, ℕ, All, List, [], ◌∷◌, length, None, Ok}
use Rattle.journal.specs.Form.{AreSixWords, IsEffect}
use Rattle.kernel_core.specs.declared.record.Record.{Record}
use Rattle.kernel_model.specs.Pipes.{Sent}
use Rattle.guest_space.specs.Memory.{Memory}
use Rattle.mips_exec.specs.Processor.{Processor, register}
use Rattle.o32_model.specs.Effects.{Target, carried_all}
use Rattle.o32_model.specs.Words.{v0, a0, a1, a2, a3}

-- The six words that a record keeps: the program counter, $v0, and $a0 to $a3. Those of a call are of before its SYSCALL, from whose address on the
-- program counter is given by itself.

abbrev pub words_at : ℕ → Processor → List ℕ
words_at pc p = pc ∷ register p v0 ∷ register p a0 ∷ register p a1 ∷ register p a2 ∷ register p a3 ∷ []

abbrev pub words_of : Processor → List ℕ
words_of p = words_at p.pc p

-- What effects act on, with the registers that they can set: a delay slot, and the address that LL linked, are none of them.

abbrev pub registers_of : Processor → Processor
registers_of processor = record processor { slot = None; link = None }

abbrev pub target_of : Processor → Memory → Sent → Target
target_of processor memory sent = record { processor = registers_of processor; pages = memory.pages; sent = sent }

-- The record of a turn, of a kind, with these words: it has the form that a journal asks for, and its effects, carried out in order, meet no
-- difference and lead from what stood before it to what stands after it. How a change is cut into effects is free.
pub record IsEntry (of_turn of_kind : ℕ) (of_words : List ℕ) (from to : Target) (entry : Record) : Type 0 where
  pub turn : entry.turn ≡ of_turn
  pub kind : entry.kind ≡ of_kind
  pub words : entry.words ≡ of_words
  pub six : AreSixWords of_words
  pub effects : All IsEffect entry.effects
  pub few : length entry.effects < 2 ^ 32
  pub unfinished : entry.finish ≡ None
  pub leads : carried_all from entry.effects ≡ Ok to

-- there is one record, of which this is said
abbrev pub IsOne : (Record → Type 0) → List Record → Type 0
IsOne IsEntry [] = ⊥
IsOne IsEntry (entry ∷ []) = IsEntry entry
IsOne IsEntry (entry ∷ other ∷ more) = ⊥
