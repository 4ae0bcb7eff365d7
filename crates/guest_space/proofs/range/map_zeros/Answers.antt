use Rattle.std.proofs.Common.{◌≡◌, ◌<◌, ℕ, Err, OnErr, sym, ap, subst, ◌∙◌, arith}
use Rattle.std.proofs.lemmas.Result.{err_from_is_err_and}
use Rattle.guest_space.specs.Mapping.{with_zeros}
use Rattle.guest_space.specs.Memory.{IsValid}
use Rattle.guest_space.proofs.Validity.{valid-with_zeros}
use Rattle.guest_space.proofs.MappingLemmas.{same-zeros}
use Rattle.guest_space.proofs.range.map_zeros.Goals as goal

pub returns-in_err-map_run-clause-err : goal.returns-in_err-map_run-clause-err
returns-in_err-map_run-clause-err c =
    let part = c.in_err-map_run.ensures.err in
    let p = err_from_is_err_and c.from_residual.result c.from_residual.ensures.1 in
    subst (λ r. OnErr r ((k : ℕ) × (k < c.args.count) × (c.map_run.new.self ≡ with_zeros c.args.pages.now c.args.first k c.args.protection))) (sym (p.1 ∙ ap Err p.2))
    (part.0, part.1, part.2 ∙ same-zeros _ _ _ _)

pub returns-in_err-map_run-clause-valid : goal.returns-in_err-map_run-clause-valid
returns-in_err-map_run-clause-valid c =
    let part = c.in_err-map_run.ensures.err in
    λ valid. subst IsValid (sym (part.2 ∙ same-zeros _ _ _ _)) (valid-with_zeros _ _ _ _ valid (omega (arith, part.1)) c.requires.protection)

pub returns-clause-ok : goal.returns-clause-ok
returns-clause-ok c = c.in_ok-map_run.ensures.ok ∙ same-zeros _ _ _ _

pub returns-clause-valid : goal.returns-clause-valid
returns-clause-valid c =
    λ valid. subst IsValid (sym (c.in_ok-map_run.ensures.ok ∙ same-zeros _ _ _ _)) (valid-with_zeros _ _ _ _ valid c.requires.end c.requires.protection)
