use Rattle.std.proofs.Common.{◌≡◌, ◌+◌, [], ap, sym, ◌∙◌, subst, refl}
use Rattle.std.specs.Option.{IsSome}
use Rattle.std.specs.FinMap.{get, insert, remove}
use Rattle.file_blocks.specs.inside.Extents.{blocks_from, joined}
use Rattle.paged_bytes.proofs.Entries.{put-insert}
use Rattle.paged_bytes.proofs.Puts.{get-insert_same}
use Rattle.file_blocks.proofs.ExtentChanges.{remove-insert}
use Rattle.file_blocks.proofs.Growing.{begun-joined}
use Rattle.file_blocks.proofs.extent_list.ExtentList.begin.Goals as goal

pub grow-requires-clause-there : goal.grow-requires-clause-there
grow-requires-clause-there c =
    let begun =
    put-insert _ _ _ _ c.in_ok-insert.ensures.updates.0
    ∙ ap (λ m. insert m c.args.first c.new.result) c.self.view_is
    ∙ ap (insert c.args.self.now c.args.first) c.new.ensures in
    subst (λ m. IsSome (get m c.args.first)) (sym begun) (subst IsSome (sym (get-insert_same c.args.self.now c.args.first [])) refl)

pub returns-in-Err-clause-err : goal.returns-in-Err-clause-err
returns-in-Err-clause-err c =
    let begun =
    put-insert _ _ _ _ c.in_ok-insert.ensures.updates.0
    ∙ ap (λ m. insert m c.args.first c.new.result) c.self.view_is
    ∙ ap (insert c.args.self.now c.args.first) c.new.ensures in
    c.remove.ensures ∙ ap (λ m. remove m c.args.first) (c.in-Err.ensures.err ∙ begun) ∙ remove-insert c.args.self.now c.args.first [] c.requires.absent

pub returns-clause-ok : goal.returns-clause-ok
returns-clause-ok c =
    let begun =
    put-insert _ _ _ _ c.in_ok-insert.ensures.updates.0
    ∙ ap (λ m. insert m c.args.first c.new.result) c.self.view_is
    ∙ ap (insert c.args.self.now c.args.first) c.new.ensures in
    c.in_default.ensures.ok
    ∙ ap (λ m. joined m c.args.first (blocks_from m c.args.first) c.args.block (c.args.first + 1)) begun
    ∙ begun-joined c.args.self.now c.args.first c.args.block
