-- The records that come: of a call, before an instruction, and of a turn without one.
use Rattle.std.proofs.Common.{◌≡◌, ◌⊎◌, ◌<◌, ◌^◌, ◌||◌, ℕ, Bool, true, false, List, [], ◌∷◌, All, length, Option, Some, None, Result, Ok, refl, sym, ap, subst, ◌∙◌, append-nil, arith}
use Rattle.std.proofs.lemmas.Bool.Decides.{nat_tests}
use Rattle.std.proofs.lemmas.List.{nil_from_length}
use Rattle.std.proofs.lemmas.List.Elements.{All-append}
use Rattle.std.specs.Prelude.{◌==◌, ◌&&◌, IfSome, is_none}
use Rattle.std.specs.List.{list_any}
use Rattle.guest_space.specs.Memory.{Memory, Pages}
use Rattle.journal.specs.Form.{AreSixWords, IsEffect, before_kind, call_kind}
use Rattle.kernel_core.specs.declared.event.Event.{Event}
use Rattle.kernel_core.specs.declared.event.Event.TheVariants as events
use Rattle.kernel_core.specs.declared.record.Effect.{Effect}
use Rattle.kernel_core.specs.declared.record.Record.{Record}
use Rattle.kernel_model.specs.Pipes.{Sent, nothing}
use Rattle.mips_exec.specs.Processor.{Processor}
use Rattle.o32_model.specs.Effects.{Difference, IsFormed, Target, carried_all, carried_on}
use Rattle.o32_model.specs.Logs.{with_more}
use Rattle.o32_turns.specs.Machine.{Machine, Within}
use Rattle.turn_records.proofs.Carrying.{are_effects, carried_on-append, lead_alike}
use Rattle.turn_records.specs.Entry.{IsEntry, IsOne, registers_of, target_of, words_of}
use Rattle.turn_records.specs.Keeping.{AreKept, Gains, Records, no_effects}
use Rattle.turn_records.specs.Turn.{IsBefore, begins_handler, is_entered, is_touched, touches}
use Rattle.turn_records.specs.inside.Setting.{Sets, target_at}

-- What is kept of records

pub gains_one : (old new : Records) (entry : Record) (IsMore : List Record → Type 0) → new ≡ with_more old (entry ∷ []) → IsMore (entry ∷ []) → Gains old new IsMore
gains_one old new entry IsMore is more = record {
  kept = λ records there. record { more = entry ∷ []; whole = is ∙ ap (λ (r : Records). with_more r (entry ∷ [])) there; are = more };
  absent = λ none. is ∙ ap (λ (r : Records). with_more r (entry ∷ [])) none;
}

pub gains_none : (records : Records) (IsMore : List Record → Type 0) → IsMore [] → Gains records records IsMore
gains_none records IsMore none = record {
  kept = λ list there. record { more = []; whole = there ∙ ap Some (sym (append-nil list)); are = none };
  absent = λ absent. absent;
}

-- What is kept of effects

those : (records : Records) (list more : List Effect) → Some list ≡ with_more (no_effects records) more → more ≡ list
those None list more is = absurd cc
those (Some records) list more is = cc

-- what is said of registers where a journal is kept holds where effects are kept
pub so_kept : (records : Records) (list more : List Effect) (Same : Type 0) → IfSome records (λ (kept : List Record). Same) → Some list ≡ with_more (no_effects records) more → Same
so_kept None list more Same is kept = absurd cc
so_kept (Some records) list more Same is kept = is

-- The effects of calls, and behind them those that set registers

pub record Leads (from to : Target) (list : List Effect) : Type 0 where
  pub formed : All IsEffect list
  pub leads : carried_all from list ≡ Ok to

module _ (was now : Processor) (pages became : Pages) (sent : Sent) where
  both_lead : (p : Processor) (kept list : List Effect) → All IsFormed kept → carried_all (target_at p pages nothing) kept ≡ Ok (target_at p became sent) → Sets kept list was now
      → Leads (target_at was pages nothing) (target_at now became sent) list
  both_lead p kept list formed leads sets = record {
    formed = subst (All IsEffect) (sym sets.whole) (All-append IsEffect kept sets.more (are_effects kept formed) sets.formed);
    leads =
        ap (carried_all (target_at was pages nothing)) sets.whole
        ∙ carried_on-append kept sets.more (Ok (target_at was pages nothing))
        ∙ ap (carried_on sets.more) (lead_alike was p kept pages became nothing sent formed leads)
        ∙ sets.leads became sent;
  }

pub kept_lead : (records : Records) (effects : Option (List Effect)) (was now p processor : Processor) (memory became : Memory) (sent : Sent) (kept list : List Effect)
    → effects ≡ Some kept → registers_of processor ≡ was → AreKept records effects p memory became sent → Sets kept list was now
    → Leads (target_of processor memory nothing) (target_at now became.pages sent) list
kept_lead records effects was now p processor memory became sent kept list some is are sets =
    let same : are.more ≡ kept = those records kept are.more (sym some ∙ are.kept) in
    subst (λ (q : Processor). Leads (target_at q memory.pages nothing) (target_at now became.pages sent) list) (sym is)
    (both_lead was now memory.pages became.pages sent p kept list
    (subst (All IsFormed) same are.formed)
    (subst (λ (l : List Effect). carried_all (target_at p memory.pages nothing) l ≡ Ok (target_at p became.pages sent)) same are.leads) sets)

abbrev pub made : ℕ → ℕ → List ℕ → List Effect → Record
made turn kind words effects = record { turn = turn; kind = kind; words = words; effects = effects; finish = None }

pub is_entry : (turn kind : ℕ) (words : List ℕ) (from to : Target) (list : List Effect) → AreSixWords words → length list < 2 ^ 32 → Leads from to list → IsEntry turn kind words from to (made turn kind words list)
is_entry turn kind words from to list six few leads = record {
  turn = refl;
  kind = refl;
  words = refl;
  six = six;
  effects = leads.formed;
  few = few;
  unfinished = refl;
  leads = leads.leads;
}

-- what was kept is the record that was made
pub kept_as : (turn kind : ℕ) (found words : List ℕ) (list : List Effect) (old new : Records) (entry : Record) → new ≡ with_more old (entry ∷ []) → entry ≡ made turn kind found list → found ≡ words
    → new ≡ with_more old (made turn kind words list ∷ [])
kept_as turn kind found words list old new entry is same words_are =
    is ∙ ap (λ (e : Record). with_more old (e ∷ [])) (same ∙ ap (λ (w : List ℕ). made turn kind w list) words_are)

pub call_gained : (turn : ℕ) (words : List ℕ) (from to : Target) (list : List Effect) (old new : Records) → AreSixWords words → length list < 2 ^ 32 → Leads from to list
    → new ≡ with_more old (made turn call_kind words list ∷ []) → Gains old new (IsOne (IsEntry turn call_kind words from to))
call_gained turn words from to list old new six few leads is =
    gains_one old new (made turn call_kind words list) (IsOne (IsEntry turn call_kind words from to)) is (is_entry turn call_kind words from to list six few leads)

-- Before an instruction

pub is_nil : (list : List Effect) (count : ℕ) → count ≡ length list → true ≡ (count == 0) → list ≡ []
is_nil list count counted none =
    let zero : length list ≡ 0 = grind (arith, nat_tests) in
    nil_from_length list zero

pub not_nil : (list : List Effect) (count : ℕ) → count ≡ length list → false ≡ (count == 0) → (list ≡ []) → ⊥
not_nil list count counted some none =
    let zero : length list ≡ 0 = ap length none in
    let is : (count == 0) ≡ true = grind (arith, nat_tests) in
    false_true (some ∙ is) where
      false_true : false ≡ true → ⊥
      false_true same = cc

one_quiet : (event : Event) → touches event ≡ false → begins_handler event ≡ false
one_quiet (events.Signal signal delivery) untouched = untouched
one_quiet event untouched = refl

or_false : (first second : Bool) → (first || second) ≡ false → (first ≡ false) × (second ≡ false)
or_false true second is = absurd cc
or_false false second is = (refl, is)

pub all_quiet : (list : List Event) → list_any touches list ≡ false → list_any begins_handler list ≡ false
all_quiet [] untouched = refl
all_quiet (event ∷ list) untouched =
    let parts = or_false (touches event) (list_any touches list) untouched in
    ap (λ (b : Bool). b || list_any begins_handler list) (one_quiet event parts.0) ∙ all_quiet list parts.1

abbrev came : Target → Result Target Difference
came target = Ok target

ok_same : (from to : Target) → came from ≡ came to → from ≡ to
ok_same from to is = cc

module _ (turn : ℕ) (machine : Machine) (within : Within) where
  abbrev before : Target
  before = target_of machine.processor machine.memory nothing

  abbrev after : Target
  after = target_of within.machine.processor within.machine.memory nothing

  pub before_lead : (records : Records) (effects : Option (List Effect)) (was cpu p : Processor) (kept list : List Effect)
      → effects ≡ Some kept → registers_of machine.processor ≡ was → within.machine.processor ≡ cpu → AreKept records effects p machine.memory within.machine.memory nothing → Sets kept list was (registers_of cpu)
      → Leads before after list
  before_lead records effects was cpu p kept list some is became are sets =
      kept_lead records effects was (registers_of within.machine.processor) p machine.processor machine.memory within.machine.memory nothing kept list some is are
      (subst (λ (q : Processor). Sets kept list was (registers_of q)) (sym became) sets)

  pub nothing_touched : (records : Records) → is_touched within ≡ false → (is_touched within ≡ false → before ≡ after) → Gains records records (IsBefore turn machine within)
  nothing_touched records untouched same =
      gains_none records (IsBefore turn machine within) (record { none = ap (λ (b : Bool). b && is_none within.over) (all_quiet within.events untouched); same = same untouched })

  pub nothing_done : (records : Records) (list : List Effect) → is_entered within ≡ false → list ≡ [] → Leads before after list → Gains records records (IsBefore turn machine within)
  nothing_done records list quiet none leads =
      gains_none records (IsBefore turn machine within)
      (record { none = quiet; same = ok_same before after (sym (ap (carried_all before) none) ∙ leads.leads) })

  pub something_done : (old new : Records) (list : List Effect) → is_touched within ≡ true → (is_entered within ≡ true) ⊎ ((list ≡ []) → ⊥) → AreSixWords (words_of machine.processor) → length list < 2 ^ 32
      → Leads before after list → new ≡ with_more old (made turn before_kind (words_of machine.processor) list ∷ []) → Gains old new (IsBefore turn machine within)
  something_done old new list touched some six few leads is =
      gains_one old new (made turn before_kind (words_of machine.processor) list) (IsBefore turn machine within) is
      (record { touched = touched; some = some; recorded = is_entry turn before_kind (words_of machine.processor) before after list six few leads })
