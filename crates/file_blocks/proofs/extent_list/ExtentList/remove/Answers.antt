use Rattle.std.proofs.Common.{ap, ◌∙◌}
use Rattle.std.specs.FinMap.{remove}
use Rattle.paged_bytes.proofs.Entries.{put-remove}
use Rattle.file_blocks.proofs.extent_list.ExtentList.remove.Goals as goal

pub returns : goal.returns
returns c = put-remove _ _ _ c.remove.ensures.updates.0 ∙ ap (λ m. remove m c.args.first) c.self.view_is
