use Rattle.std.proofs.Common.{◌++◌, ◌∷◌, ap, sym, ◌∙◌, subst}
use Rattle.std.specs.Option.{IsSome}
use Rattle.std.specs.FinMap.{get, insert, remove}
use Rattle.file_blocks.specs.inside.Extents.{blocks_from, replaced}
use Rattle.file_blocks.proofs.Growing.{emptied, emptied_there, given-back, grown-joined}
use Rattle.file_blocks.proofs.extent_list.ExtentList.grow.Goals as goal

pub join-requires : goal.join-requires
join-requires c =
    subst (λ m. IsSome (get m c.args.first)) (sym c.taken-behind.ensures.after) (emptied_there c.args.self.now c.args.first c.args.next c.requires.apart c.requires.there)

pub returns-in-Err-clause-err : goal.returns-in-Err-clause-err
returns-in-Err-clause-err c =
    let next = c.args.next in
    let left = c.in-Err.ensures.err ∙ c.taken-behind.ensures.after in
    let behind = c.in-Err.ensures.err_behind ∙ c.taken-behind.ensures.value in
    c.give_back.ensures ∙ (λ i. replaced (left i) next (get (left i) next) (behind i)) ∙ given-back c.args.self.now next

pub returns-clause-ok : goal.returns-clause-ok
returns-clause-ok c =
    let first = c.args.first in
    let left = c.taken-behind.ensures.after in
    let behind = c.taken-behind.ensures.value in
    c.remove.ensures
    ∙ ap (λ m. remove m c.args.next) (c.in_default.ensures.ok ∙ (λ i. insert (left i) first (blocks_from (left i) first ++ c.args.block ∷ behind i)))
    ∙ grown-joined c.args.self.now first c.args.next c.args.block c.requires.apart
