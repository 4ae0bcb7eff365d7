-- The next record of a journal, and how a replay uses it up.
use Rattle.std.proofs.Common.{◌≡◌, ℕ, suc, ◌≤◌, ◌==◌, Bool, true, false, List, [], ◌∷◌, ◌++◌, Option, Some, None, Ok, refl, sym, ap, subst, ◌∙◌, append-nil, arith}
use Rattle.std.specs.Prelude.{⊤, if◌then◌else◌}
use Rattle.std.proofs.lemmas.Bool.{and_from, and_left, and_parts, and_right, eq-eqb, eqb-true, ne_eqb}
use Rattle.guest_space.specs.Memory.{Memory, Pages}
use Rattle.kernel_core.specs.declared.record.Record.{Record}
use Rattle.kernel_model.specs.Pipes.{Sent, nothing}
use Rattle.mips_exec.specs.Processor.{Processor}
use Rattle.o32_model.specs.Effects.{Difference, Target}
use Rattle.o32_model.specs.Effects.{carried_all as effects_carried}
use Rattle.o32_turns.specs.Runs.{more_sent}
use Rattle.replay_core.specs.Replay.{Carried, Replay, carried_all, carried_unless, comes, end_kind, ends_killed, first_difference, is_killing, taken, target_of, with_carried}
use Rattle.journal_laws.proofs.Carrying.{behind, carries_behind}

-- a replay that met no difference
abbrev pub standing : Processor → Memory → Sent → List Record → ℕ → Replay
standing processor memory sent left turns =
    record { processor = processor; memory = memory; sent = sent; left = left; turns = turns; difference = None }

-- Which record comes

pub comes_here : (turn kind : ℕ) (entry : Record) (left : List Record) → entry.turn ≡ turn → entry.kind ≡ kind → comes turn kind (entry ∷ left) ≡ true
comes_here turn kind entry left of_turn of_kind =
    and_from (entry.turn == turn) (entry.kind == kind) (eq-eqb entry.turn turn of_turn) (eq-eqb entry.kind kind of_kind)

pub other_kind : (turn kind other : ℕ) (entry : Record) (left : List Record) → entry.kind ≡ other → (other == kind) ≡ false → comes turn kind (entry ∷ left) ≡ false
other_kind turn kind other entry left of_kind differ =
    and_right (entry.turn == turn) (entry.kind == kind) (ap (λ (n : ℕ). n == kind) of_kind ∙ differ)

pub other_turn : (turn kind : ℕ) (entry : Record) (left : List Record) → (entry.turn ≡ turn → ⊥) → comes turn kind (entry ∷ left) ≡ false
other_turn turn kind entry left differ = and_left (entry.turn == turn) (entry.kind == kind) (ne_eqb entry.turn turn differ)

-- The records that are left are of later turns, or the first is the end with this one.
abbrev pub ComesLater : ℕ → List Record → Type 0
ComesLater turn [] = ⊤
ComesLater turn (entry ∷ left) = (turn ≤ entry.turn) × (entry.turn ≡ turn → entry.kind ≡ end_kind)

pub none_comes : (turn kind : ℕ) (left : List Record) → ComesLater turn left → (end_kind == kind) ≡ false → comes turn kind left ≡ false
none_comes turn kind [] later differ = refl
none_comes turn kind (entry ∷ left) later differ = by (entry.turn == turn) refl where
  by : (same : Bool) → (entry.turn == turn) ≡ same → comes turn kind (entry ∷ left) ≡ false
  by true is = other_kind turn kind end_kind entry left (later.1 (eqb-true entry.turn turn is)) differ
  by false is = and_left (entry.turn == turn) (entry.kind == kind) is

-- no record of an earlier turn comes
pub none_earlier : (turn kind : ℕ) (left : List Record) → ComesLater (suc turn) left → comes turn kind left ≡ false
none_earlier turn kind [] later = refl
none_earlier turn kind (entry ∷ left) later = other_turn turn kind entry left (λ same. omega (arith, later.0, same))

pub not_killed : (turn : ℕ) (left : List Record) → comes turn end_kind left ≡ false → ends_killed turn left ≡ false
not_killed turn [] none = refl
not_killed turn (entry ∷ left) none = and_left (comes turn end_kind (entry ∷ left)) (is_killing entry.finish) none

pub killed_comes : (turn : ℕ) (left : List Record) → ends_killed turn left ≡ true → comes turn end_kind left ≡ true
killed_comes turn [] is = absurd cc
killed_comes turn (entry ∷ left) is = (and_parts (comes turn end_kind (entry ∷ left)) (is_killing entry.finish) is).0

-- Words

pub same_words : (words : List ℕ) → first_difference words words ≡ None
same_words [] = refl
same_words (word ∷ words) =
    ap (λ (b : Bool). if b then first_difference words words else Some (record { wanted = word; found = word })) (eq-eqb word word refl) ∙ same_words words

pub equal_words : (wanted found : List ℕ) → wanted ≡ found → first_difference wanted found ≡ None
equal_words wanted found same = subst (λ (words : List ℕ). first_difference wanted words ≡ None) same (same_words wanted)

-- What was sent

pub nothing_sent : (sent : Sent) → more_sent sent nothing ≡ sent
nothing_sent sent =
    ap (λ (o : List ℕ). let s : Sent = record { out = o; err = sent.err ++ [] } in s) (append-nil sent.out)
    ∙ ap (λ (e : List ℕ). let s : Sent = record { out = sent.out; err = e } in s) (append-nil sent.err)

-- A record is used up.

-- the registers that effects can set
abbrev pub bare : Processor → Processor
bare processor = record processor { slot = None; link = None }

abbrev pub bare_target : Processor → Pages → Sent → Target
bare_target processor pages sent = record { processor = bare processor; pages = pages; sent = sent }

module _ (processor : Processor) (memory : Memory) (sent : Sent) (pages : Pages) (same : memory.pages ≡ pages) where
  target_is : (left : List Record) (turns : ℕ) → target_of (standing processor memory sent left turns) ≡ behind processor.slot sent (bare_target processor pages nothing)
  target_is left turns =
      ap (λ (p : Pages). let t : Target = record { processor = record processor { link = None }; pages = p; sent = sent } in t) same
      ∙ ap (λ (s : Sent). let t : Target = record { processor = record processor { link = None }; pages = pages; sent = s } in t) (sym (nothing_sent sent))

  pub taken_so : (words : List ℕ) (entry : Record) (left : List Record) (turns : ℕ) (to : Target) → entry.words ≡ words
      → effects_carried (bare_target processor pages nothing) entry.effects ≡ Ok to
      → taken words (entry ∷ left) (standing processor memory sent (entry ∷ left) turns)
      ≡ standing (record to.processor { slot = processor.slot }) (record memory { pages = to.pages }) (more_sent sent to.sent) left turns
  taken_so words entry left turns to same_word leads =
      let before = standing processor memory sent left turns in
      let carried : carried_all (target_of before) entry.effects ≡ record { target = behind processor.slot sent to; difference = None } =
      ap (λ (t : Target). carried_all t entry.effects) (target_is left turns) ∙ carries_behind processor.slot sent (bare_target processor pages nothing) to entry.effects leads in
      ap (λ (d : Option Difference). carried_unless d entry.effects before) (equal_words entry.words words same_word) ∙ ap (λ (c : Carried). with_carried before c) carried
