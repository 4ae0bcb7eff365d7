use Rattle.std.proofs.Common.{◌≡◌, ◌∙◌, Bool, List, Option, Vec, Global, ap, inl, inr, subst, sym}
use Rattle.std.specs.Prelude.{◌&&◌, is_none, option_map}
use Rattle.std.specs.List.{list_any}
use Rattle.journal.specs.Form.{AreSixWords, before_kind}
use Rattle.kernel_core.specs.declared.event.Event.{Event}
use Rattle.kernel_core.specs.declared.record.Effect.{Effect}
use Rattle.o32_turns.specs.Machine.{Within}
use Rattle.turn_records.proofs.Entries.{before_lead, is_nil, kept_as, not_nil, nothing_done, nothing_touched, so_kept, something_done}
use Rattle.turn_records.proofs.Stepwise.{sets_to}
use Rattle.turn_records.specs.Entry.{registers_of, words_of}
use Rattle.turn_records.specs.Turn.{begins_handler, is_entered, touches}
use Rattle.turn_records.proofs.turn_records.TurnRecords.add_before.Goals as goal
use Rattle.turn_records.proofs.turn_records.TurnRecords.add_before.Goals.{else-is_empty-via-then-is_empty+else-not-is_entered, else-is_empty-via-else-is_empty}

abbrev items : Option (Vec Effect Global) → Option (List Effect)
items list = option_map (λ (v : Vec Effect Global). v.items) list

entered_so : (within : Within) (events : List Event) (alive : Bool) → within.events ≡ events → is_none within.over ≡ alive → is_entered within ≡ (list_any begins_handler events && alive)
entered_so within events alive happened living =
    ap (λ (list : List Event). list_any begins_handler list && is_none within.over) happened ∙ ap (λ (b : Bool). list_any begins_handler events && b) living

pub returns-then-not-is_touched : goal.returns-then-not-is_touched
returns-then-not-is_touched c = λ machine within p is became happened living kept same.
    nothing_touched c.args.turn machine within c.args.self.now
    (ap (list_any touches) happened ∙ sym c.is_touched.ensures ∙ c.if-not-is_touched.true) same

pub returns-then-not-is_entered : goal.returns-then-not-is_entered
returns-then-not-is_entered c = λ machine within p is became happened living kept same.
    let same_registers = so_kept c.args.self.now c.in-Some.effects.items kept.more (registers_of machine.processor ≡ c.args.was.now) is (sym (ap items c.in-Some.is) ∙ kept.kept) in
    let list = c.add_changes.new.effects.items in
    nothing_done c.args.turn machine within c.args.self.now list
    (entered_so within _ _ happened living ∙ sym c.is_entered.ensures ∙ c.if-not-is_entered.true)
    (is_nil list c.add_changes.new.effects.len c.add_changes.new.effects.ok.0 c.if-is_empty.ensures)
    (before_lead c.args.turn machine within c.args.self.now (items c.args.effects) c.args.was.now c.args.cpu.now p c.in-Some.effects.items list
    (ap items c.in-Some.is) same_registers became kept (sets_to c.of.ensures c.in_ok-add_changes.ensures))

pub returns : goal.returns
returns c = λ machine within p is became happened living kept same.
    let same_registers = so_kept c.args.self.now c.in-Some.effects.items kept.more (registers_of machine.processor ≡ c.args.was.now) is (sym (ap items c.in-Some.is) ∙ kept.kept) in
    let old = c.args.self.now in
    let list = c.add_changes.new.effects.items in
    let entry = c.in_ok-entry.ensures in
    let words : c.words.result ≡ words_of machine.processor = c.words.ensures ∙ ap words_of (sym same_registers) in
    something_done c.args.turn machine within old c.keep.new.self list
    (ap (list_any touches) happened ∙ sym c.is_touched.ensures ∙ c.if-not-is_touched.false)
    (elim c.else-is_empty.branch [
      | else-is_empty-via-then-is_empty+else-not-is_entered w ↦ inl (entered_so within _ _ happened living ∙ sym w.is_entered.ensures ∙ w.if-not-is_entered.false)
      | else-is_empty-via-else-is_empty w ↦ inr (not_nil list c.add_changes.new.effects.len c.add_changes.new.effects.ok.0 w.if-is_empty.ensures)
    ])
    (subst AreSixWords words entry.six) entry.few
    (before_lead c.args.turn machine within c.args.self.now (items c.args.effects) c.args.was.now c.args.cpu.now p c.in-Some.effects.items list
    (ap items c.in-Some.is) same_registers became kept (sets_to c.of.ensures c.in_ok-add_changes.ensures))
    (kept_as c.args.turn before_kind c.words.result (words_of machine.processor) list old c.keep.new.self c.in_ok-entry.field-0 c.in_ok-keep.ensures entry.entry words)
