-- The end of the records of a journal.
use Rattle.std.proofs.Common.{◌≡◌, ◌<◌, ◌≤◌, ℕ, true, List, [], ◌∷◌, All, Option, Some, None, is_some, length, refl, sym, ap, subst, arith}
use Rattle.std.proofs.lemmas.List.Elements.{All-nil, All-cons}
use Rattle.journal.specs.Form.{AreRecords, IsBody, IsEffect, IsRecord, end_kind, front_of, greatest_turn}
use Rattle.journal.specs.declared.turns.Front.{Front}
use Rattle.kernel_core.specs.declared.finish.Finish.{Finish}
use Rattle.kernel_core.specs.declared.record.Effect.{Effect}
use Rattle.kernel_core.specs.declared.record.Record.{Record}
use Rattle.replay_core.specs.Whole.{last_behind}
use Rattle.replay_core.specs.declared.last.Last.{Last}

-- each record is of its form
pub all_formed : (before : Front) (records : List Record) → AreRecords before records → All IsRecord records
all_formed before [] are = absurd are
all_formed before (entry ∷ []) are = All-cons IsRecord entry [] are.0 (All-nil IsRecord)
all_formed before (entry ∷ next ∷ left) are = All-cons IsRecord entry (next ∷ left) are.0 (all_formed (front_of entry) (next ∷ left) are.3)

effects_by : (kind : ℕ) (finish : Option Finish) (words : List ℕ) (effects : List Effect) → IsBody kind finish words effects → All IsEffect effects
effects_by kind (Some finish) words effects is = subst (λ (l : List Effect). All IsEffect l) (sym is.3) (All-nil IsEffect)
effects_by kind None words effects is = is.4

pub effects_formed : (entry : Record) → IsRecord entry → All IsEffect entry.effects
effects_formed entry is = effects_by entry.kind entry.finish entry.words entry.effects is.body

words_by : (kind : ℕ) (finish : Option Finish) (words : List ℕ) (effects : List Effect) → IsBody kind finish words effects → length words ≡ 6
words_by kind (Some finish) words effects is = ap length is.2
words_by kind None words effects is = is.2.0

finish_by : (kind : ℕ) (finish : Option Finish) (words : List ℕ) (effects : List Effect) → IsBody kind finish words effects → kind ≡ end_kind → is_some finish ≡ true
finish_by kind (Some finish) words effects is end = refl
finish_by kind None words effects is end = let below : kind < end_kind = is.1 in absurd (omega (arith, below, end))

-- the end has a finish, and its turn is one of a run
pub record IsEnd (last : Last) : Type 0 where
  pub finished : is_some last.finish ≡ true
  pub few : last.turn ≤ greatest_turn

pub ends : (last : Last) (before : Front) (records : List Record) → AreRecords before records → IsEnd (last_behind last records)
ends last before [] are = absurd are
ends last before (entry ∷ []) are = record { finished = finish_by entry.kind entry.finish entry.words entry.effects are.0.body are.2; few = are.0.turn }
ends last before (entry ∷ next ∷ left) are = ends (record { turn = entry.turn; finish = entry.finish }) (front_of entry) (next ∷ left) are.3
