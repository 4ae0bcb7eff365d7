use Rattle.std.proofs.Common.{◌+◌, sym, ap, ◌∙◌, arith}
use Rattle.std.specs.FinMap.{get, insert, len}
use Rattle.file_blocks.proofs.ExtentLaws.{few_blocks}
use Rattle.file_blocks.proofs.StoreLaws.{seen_at, one_more}
use Rattle.file_blocks.proofs.block_store.BlockStore.insert.Goals as goal

pub add-requires-clause-valid : goal.add-requires-clause-valid
add-requires-clause-valid c = c.self.invariant.0

pub add-requires-clause-absent : goal.add-requires-clause-absent
add-requires-clause-absent c = seen_at _ _ c.args.index c.self.invariant.0 c.self.view_is ∙ c.requires

pub overflow_add-self : goal.overflow_add-self
overflow_add-self c = omega (arith, c.self.invariant.1, few_blocks c.self.inside.extents)

pub invariant_of-self-2 : goal.invariant_of-self-2
invariant_of-self-2 c =
    let absent = ap (λ m. get m c.args.index) c.self.view_is ∙ c.requires in
    (c.in_ok-add.ensures.valid, ap (λ n. n + 1) c.self.invariant.1 ∙ sym (ap len c.in_ok-add.ensures.ok ∙ one_more _ c.args.index c.args.block absent))

pub returns-clause-ok : goal.returns-clause-ok
returns-clause-ok c = c.in_ok-add.ensures.ok ∙ ap (λ m. insert m c.args.index c.args.block) c.self.view_is
