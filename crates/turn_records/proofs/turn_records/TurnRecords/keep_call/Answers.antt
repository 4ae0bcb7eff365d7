use Rattle.std.proofs.Common.{◌≡◌, ◌∙◌, ◌+◌, ◌-◌, ◌%◌, ◌^◌, List, ℕ, ap, refl, subst, sym, Some}
use Rattle.journal.specs.Form.{AreSixWords, call_kind}
use Rattle.kernel_core.specs.declared.record.Effect.{Effect}
use Rattle.kernel_model.specs.Pipes.{nothing}
use Rattle.mips_exec.specs.Processor.{Processor}
use Rattle.turn_records.proofs.Entries.{call_gained, kept_as, kept_lead}
use Rattle.turn_records.proofs.Stepwise.{sets_to}
use Rattle.turn_records.specs.Entry.{registers_of, target_of, words_at}
use Rattle.turn_records.proofs.turn_records.TurnRecords.keep_call.Goals as goal

pub returns : goal.returns
returns c = λ p processor memory became sent is kept.
    let old = c.args.self.now in
    let now = c.args.cpu.now in
    let words = words_at ((processor.pc + (2 ^ 32 - 4)) % 2 ^ 32) processor in
    let list = c.add_changes.new.effects.items in
    let entry = c.in_ok-entry.ensures in
    let found : c.words_of_call.result ≡ words =
    c.words_of_call.ensures ∙ ap (λ (q : Processor). words_at ((q.pc + (2 ^ 32 - 4)) % 2 ^ 32) q) (sym is) in
    call_gained c.args.turn words (target_of processor memory nothing) (target_of now became sent) list old c.keep.new.self
    (subst AreSixWords found entry.six) entry.few
    (kept_lead old (Some c.args.effects.items) c.args.was.now (registers_of now) p processor memory became sent c.args.effects.items list
    refl is kept (sets_to c.of.ensures c.in_ok-add_changes.ensures))
    (kept_as c.args.turn call_kind c.words_of_call.result words list old c.keep.new.self c.in_ok-entry.field-0 c.in_ok-keep.ensures entry.entry found)
