use Rattle.std.proofs.Common.{◌≡◌, ℕ, List, Option, ap, sym, ◌∙◌, false}
use Rattle.std.specs.Prelude.{◌==◌}
use Rattle.std.proofs.lemmas.Bool.{eq-eqb, eqb-true, false_from_ne_true}
use Rattle.std.proofs.lemmas.Result.{err_from_is_err_and}
use Rattle.journal.specs.declared.turns.Front.{Front}
use Rattle.journal.specs.Form.{end_kind}
use Rattle.journal.specs.Seen.{record_seen}
use Rattle.journal.proofs.Loops.{fault-next, fault-end, fault-stop, fault-done}
use Rattle.journal.proofs.records.check_records.Goals as goal

pub returns-in_err-entry : goal.returns-in_err-entry
returns-in_err-entry c =
    let p = err_from_is_err_and c.from_residual.result c.from_residual.ensures.1 in
    rw (p.1, p.2) (fault-stop c.args.file c.loop.counter c.loop.before c.args.file c.loop.left.now c.in_err-entry.field-0.0.at _ c.loop-test.true c.in_err-entry.ensures c.loop.invariant)

pub returns-then-before-eq-END : goal.returns-then-before-eq-END
returns-then-before-eq-END c =
    let entry = record_seen c.in_ok-entry.entry in
    let kind : entry.kind ≡ end_kind = sym (ap (λ (f : Front). f.kind) c.front_of-before.ensures) ∙ c.if-before-eq-END.true in
    c.check_end.ensures entry ∙ fault-end c.args.file c.loop.counter c.loop.before c.args.file c.loop.left.now entry c.in_ok-entry.after.now _ c.loop-test.true c.in_ok-entry.ensures (eq-eqb _ _ kind) c.loop.invariant

pub loop-preserved : goal.loop-preserved
loop-preserved c =
    let entry = record_seen c.in_ok-entry.entry in
    let other : (entry.kind == end_kind) ≡ false = false_from_ne_true _ (λ e. c.if-before-eq-END.false (ap (λ (f : Front). f.kind) c.front_of-before.ensures ∙ eqb-true _ _ e)) in
    rw c.front_of-before.ensures (fault-next c.args.file c.loop.counter c.loop.before c.args.file c.loop.left.now entry c.in_ok-entry.after.now _ c.loop-test.true c.in_ok-entry.ensures other c.loop.invariant)

pub returns : goal.returns
returns c = fault-done c.args.file c.loop.counter c.loop.before c.args.file c.loop.left.now _ c.loop-test.false c.loop.invariant
