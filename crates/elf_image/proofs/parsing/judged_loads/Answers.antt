use Rattle.std.proofs.Common.{◌<◌, List, ◌==◌, refl, sym, subst, ap, ◌∙◌, All}
use Rattle.std.specs.List.{list_any}
use Rattle.std.proofs.lemmas.Result.{err_from_is_err_and}
use Rattle.elf_image.specs.declared.program_header.ProgramHeader.{ProgramHeader}
use Rattle.elf_image.proofs.Judging.{cause-along}
use Rattle.elf_image.proofs.Whole.{failure-header, failure-interp, failure-is, loads-some}
use Rattle.elf_image.proofs.parsing.judged_loads.Goals as goal

pub returns-in-Some-clause-judged : goal.returns-in-Some-clause-judged
returns-in-Some-clause-judged c = failure-header c.args.bytes.now c.in-Some.rule (sym c.broken_header_rule.ensures.first ∙ c.in-Some.is)

pub returns-then-asks_interpreter-clause-judged : goal.returns-then-asks_interpreter-clause-judged
returns-then-asks_interpreter-clause-judged c =
    let table = c.as_slice.ensures.value ∙ c.in_ok-headers.ensures in
    let asks = ap (list_any (λ (h : ProgramHeader). h.kind == 3)) (sym table) ∙ sym c.asks_interpreter.ensures ∙ c.if-asks_interpreter.true in
    failure-interp c.args.bytes.now (sym c.broken_header_rule.ensures.first ∙ c.in_default.is) asks

pub judge_loads-requires : goal.judge_loads-requires
judge_loads-requires c =
    let kept = c.as_slice-3.ensures.value ∙ c.in_ok-loads.ensures in
    subst (λ (hs : List ProgramHeader). All (λ (h : ProgramHeader). 0 < h.memsz) hs) (sym kept) (loads-some c.as_slice-2.result.now)

pub returns-in_err-judge_loads-clause-judged : goal.returns-in_err-judge_loads-clause-judged
returns-in_err-judge_loads-clause-judged c =
    let table = c.as_slice-2.ensures.value ∙ c.in_ok-headers.ensures in
    let again = c.as_slice-2.ensures.value ∙ sym c.as_slice.ensures.value in
    let kept = c.as_slice-3.ensures.value ∙ c.in_ok-loads.ensures in
    let asks = ap (list_any (λ (h : ProgramHeader). h.kind == 3)) again ∙ sym c.asks_interpreter.ensures ∙ c.if-asks_interpreter.false in
    let is = failure-is c.args.bytes.now _ c.as_slice-2.result.now c.as_slice-3.result.now (sym c.broken_header_rule.ensures.first ∙ c.in_default.is) table asks kept refl in
    let p = err_from_is_err_and c.from_residual-in_err-judge_loads.result c.from_residual-in_err-judge_loads.ensures.1 in
    rw (p.1, p.2) (cause-along _ _ _ is c.in_err-judge_loads.ensures)

pub returns-clause-judged : goal.returns-clause-judged
returns-clause-judged c =
    let table = c.as_slice-2.ensures.value ∙ c.in_ok-headers.ensures in
    let again = c.as_slice-2.ensures.value ∙ sym c.as_slice.ensures.value in
    let kept = c.as_slice-3.ensures.value ∙ c.in_ok-loads.ensures in
    let asks = ap (list_any (λ (h : ProgramHeader). h.kind == 3)) again ∙ sym c.asks_interpreter.ensures ∙ c.if-asks_interpreter.false in
    sym (failure-is c.args.bytes.now _ c.as_slice-2.result.now c.as_slice-3.result.now (sym c.broken_header_rule.ensures.first ∙ c.in_default.is) table asks kept refl) ∙ c.in_ok-judge_loads.ensures
