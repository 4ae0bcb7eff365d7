use Rattle.std.proofs.Common.{◌+◌, Ok, length, sym, ◌∙◌}
use Rattle.kernel_model.specs.Descriptions.{content_at}
use Rattle.kernel_model.specs.Transfers.{moved_to}
use Rattle.native_files.specs.inside.Contents.{number_in}
use Rattle.native_files.proofs.ContentSteps.{content-state}
use Rattle.native_files.proofs.files.Files.read_node.Goals as goal

pub returns-in-Ok-clause-state : goal.returns-in-Ok-clause-state
returns-in-Ok-clause-state c =
    let files = c.args.self.now in
    let description = c.args.description in
    c.move_to.ensures
    ∙ sym (content-state files description.position (length c.args.buffer.now) (λ count. moved_to files c.args.fd description (description.position + count)) (content_at files.nodes (number_in description.object)) (Ok c.in-Ok.count) c.in-Ok.ensures.came)
