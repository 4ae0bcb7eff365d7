use Rattle.std.proofs.Common.{◌≡◌, ap, subst, sym, ◌∙◌, ◌++◌, ◌+◌, vec_len, length, arith}
use Rattle.std.specs.Prelude.{MatchOption}
use Rattle.std.proofs.lemmas.List.{nil_from_length}
use Rattle.kernel_core.specs.PathWalk.{components}
use Rattle.native_vfs.specs.inside.Texts.{texts, stacked, AreTexts}
use Rattle.native_vfs.proofs.walks.TextLemmas.{is-empty, resumed-same, resumed-valid}
use Rattle.native_vfs.proofs.path.resume.Goals as goal

pub returns-clause-same : goal.returns-clause-same
returns-clause-same c =
    let old = c.args.later.now.items in
    let new = c.pop.new.self.items in
    ap (λ t. components t.now ++ stacked (texts new)) c.unwrap_or.ensures
    ∙ resumed-same old new c.pop.result c.args.left
    (is-empty c.is_empty.result c.args.left.now c.is_empty.ensures c.if-not-is_empty.false) c.pop.ensures.items

pub returns-clause-valid : goal.returns-clause-valid
returns-clause-valid c =
    let old = c.args.later.now.items in
    let new = c.pop.new.self.items in
    subst (λ t. AreTexts t.now (texts new)) (sym c.unwrap_or.ensures)
    (resumed-valid old new c.pop.result c.args.left c.requires.left c.requires.later c.pop.ensures.items
    (λ none.
    let cases = subst (λ o. MatchOption o ((vec_len c.args.later.now ≡ 0) × (vec_len c.pop.new.self ≡ 0)) (λ _. vec_len c.pop.new.self + 1 ≡ vec_len c.args.later.now)) none c.pop.ensures.cases in
    let size : length new ≡ 0 = omega (arith, c.pop.new.self.ok.0, cases.1) in
    nil_from_length new size))
