use Rattle.std.proofs.Common.{subst, sym, ap, ◌∙◌, arith, refl, Err}
use Rattle.std.proofs.lemmas.Result.{err_from_is_err_and}
use Rattle.std.specs.FinMap.{len}
use Rattle.guest_space.specs.Mapping.{with_zeros}
use Rattle.guest_space.specs.Memory.{Memory}
use Rattle.guest_space.proofs.MappingLemmas.{len-with_zeros}
use Rattle.guest_space.specs.Memory.{IsValid}
use Rattle.guest_space.proofs.Validity.{valid-with_zeros}
use Rattle.guest_space.proofs.space.Space.map.Goals as goal

pub returns-then-len-absent_pages-gt-PAGE_LIMIT-clause-full : goal.returns-then-len-absent_pages-gt-PAGE_LIMIT-clause-full
returns-then-len-absent_pages-gt-PAGE_LIMIT-clause-full c =
    let same = ap (λ (m : Memory). len (with_zeros m.pages c.args.first c.args.count c.args.protection)) c.self.view_is in
    let grown = len-with_zeros c.self.inside.pages c.args.first c.args.count c.args.protection in
    (λ _. omega (arith, same, grown), λ _. refl)

pub returns-in_err-map_zeros-clause-full : goal.returns-in_err-map_zeros-clause-full
returns-in_err-map_zeros-clause-full c =
    let same = ap (λ (m : Memory). len (with_zeros m.pages c.args.first c.args.count c.args.protection)) c.self.view_is in
    let grown = len-with_zeros c.self.inside.pages c.args.first c.args.count c.args.protection in
    let p = err_from_is_err_and c.from_residual.result c.from_residual.ensures.1 in
    let given = p.1 ∙ ap Err p.2 in
    (λ is. absurd (cc (given, is)), λ more. absurd (omega (arith, same, grown)))

pub returns-clause-full : goal.returns-clause-full
returns-clause-full c =
    let same = ap (λ (m : Memory). len (with_zeros m.pages c.args.first c.args.count c.args.protection)) c.self.view_is in
    let grown = len-with_zeros c.self.inside.pages c.args.first c.args.count c.args.protection in
    (λ is. absurd (cc), λ more. absurd (omega (arith, same, grown)))

pub invariant_of-self : goal.invariant_of-self
invariant_of-self c =
    let part = c.in_err-map_zeros.ensures.err in
    subst IsValid (sym part.2) (valid-with_zeros _ _ _ _ c.self.invariant (omega (arith, part.1)) c.requires.protection)

pub returns-in_err-map_zeros-clause-valid : goal.returns-in_err-map_zeros-clause-valid
returns-in_err-map_zeros-clause-valid c =
    let part = c.in_err-map_zeros.ensures.err in
    subst IsValid (sym part.2) (valid-with_zeros _ _ _ _ c.self.invariant (omega (arith, part.1)) c.requires.protection)

pub invariant_of-self-2 : goal.invariant_of-self-2
invariant_of-self-2 c =
    subst IsValid (sym c.in_ok-map_zeros.ensures.ok) (valid-with_zeros _ _ _ _ c.self.invariant c.requires.end c.requires.protection)

pub returns-clause-valid : goal.returns-clause-valid
returns-clause-valid c =
    subst IsValid (sym c.in_ok-map_zeros.ensures.ok) (valid-with_zeros _ _ _ _ c.self.invariant c.requires.end c.requires.protection)
