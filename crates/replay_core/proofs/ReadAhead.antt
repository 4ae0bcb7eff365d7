-- The record that is read ahead, and those behind it.
use Rattle.std.proofs.Common.{◌≡◌, List, [], ◌∷◌, All, MatchOption, Option, Some, None, subst, sym}
use Rattle.std.proofs.lemmas.List.Elements.{All-head, All-tail}
use Rattle.journal.specs.Form.{IsRecord}
use Rattle.journal.specs.Seen.{record_seen}
use Rattle.journal.specs.declared.records.ReadRecord.{ReadRecord}
use Rattle.kernel_core.specs.declared.record.Record.{Record}
use Rattle.replay_core.specs.inside.Left.{with_next}

next_is : (next : Option ReadRecord) (old new : List Record) → MatchOption next ((old ≡ []) × (new ≡ [])) (λ entry. old ≡ record_seen entry ∷ new) → with_next next new ≡ old
next_is None old new is = sym is.0
next_is (Some entry) old new is = sym is

module _ (entry : ReadRecord) (first : Option ReadRecord) (left : List Record) (is : Some entry ≡ first) (formed : All IsRecord (with_next first left)) where
  both : All IsRecord (record_seen entry ∷ left)
  both = subst (λ (o : Option ReadRecord). All IsRecord (with_next o left)) (sym is) formed

  pub entry_formed : IsRecord (record_seen entry)
  entry_formed = All-head IsRecord (record_seen entry) left both

  pub rest_formed : (next : Option ReadRecord) (new : List Record) → MatchOption next ((left ≡ []) × (new ≡ [])) (λ other. left ≡ record_seen other ∷ new) → All IsRecord (with_next next new)
  rest_formed next new read =
      subst (λ (l : List Record). All IsRecord l) (sym (next_is next left new read)) (All-tail IsRecord (record_seen entry) left both)
