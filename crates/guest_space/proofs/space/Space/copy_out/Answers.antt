use Rattle.std.proofs.Common.{IfErr, Err, sym, ap, subst, take, ◌∙◌}
use Rattle.std.proofs.lemmas.Result.{err_from_is_err_and}
use Rattle.guest_space.specs.Memory.{Memory, Pages}
use Rattle.guest_space.specs.Bytes.{copied_out}
use Rattle.guest_space.specs.Answers.{LeavesPrefix}
use Rattle.guest_space.proofs.space.Space.copy_out.Goals as goal

pub returns-clause-ok : goal.returns-clause-ok
unfolding copied_out
returns-clause-ok c =
    let memory : Pages → Memory = λ pages. record { pages = pages; program_break = c.self.inside.program_break; break_start = c.self.inside.break_start } in
    ap memory c.in_ok-write_bytes.ensures.ok ∙ ap (λ (m : Memory). copied_out m c.args.address c.args.bytes.now) c.self.view_is

pub returns-in_err-write_bytes-clause-err : goal.returns-in_err-write_bytes-clause-err
unfolding copied_out
returns-in_err-write_bytes-clause-err c =
    let memory : Pages → Memory = λ pages. record { pages = pages; program_break = c.self.inside.program_break; break_start = c.self.inside.break_start } in
    let part = c.in_err-write_bytes.ensures.part in
    let p = err_from_is_err_and c.from_residual.result c.from_residual.ensures.1 in
    subst (λ r. IfErr r (λ e. LeavesPrefix e c.args.self.now (memory c.write_bytes.new.pages) c.args.address c.args.bytes.now)) (sym (p.1 ∙ ap Err p.2)) (
      part.0,
      part.1,
      ap memory part.2 ∙ ap (λ (m : Memory). copied_out m c.args.address (take part.0 c.args.bytes.now)) c.self.view_is,
    )
