use Rattle.std.proofs.Common.{ℕ, Ok, Err, None, length, subst, sym, ap, ◌∙◌}
use Rattle.std.proofs.Math.Facts.{to_z-of_z}
use Rattle.std.specs.Int.{w128}
use Rattle.kernel_core.specs.Nodes.{file_at}
use Rattle.kernel_model.specs.State.{Files}
use Rattle.kernel_model.specs.Transfers.{moved_to, write_node}
use Rattle.native_files.specs.inside.Contents.{WritesNode, number_in}
use Rattle.native_files.proofs.WriteSteps.{content-written, count-err, err-within}
use Rattle.native_files.proofs.files.Files.write_node.Goals as goal

pub returns-in-Err-clause-row : goal.returns-in-Err-clause-row
returns-in-Err-clause-row c =
    let files = c.args.self.now in
    let description = c.args.open.now.description in
    let node = number_in description.object in
    let after : Files → ℕ → Files = λ f position. moved_to f c.args.open.now.fd description position in
    let nodes = c.write_content.new.self.nodes in
    let written = subst (λ time. WritesNode files.nodes time node description.flags.append description.position c.args.bytes.now (file_at files.nodes node) (Err c.in-Err.error) nodes)
    (to_z-of_z {w = w128} {z = c.args.now} c.ranges.now) c.in-Err.ensures.written in
    count-err (write_node files None c.args.now c.args.open.now.fd description node c.args.bytes.now) files c.write_content.new.self nodes after c.write_content.ensures.others c.in-Err.error
    (content-written files c.args.now description node description.position c.args.bytes.now after nodes (file_at files.nodes node) (Err c.in-Err.error) written)

pub returns-in-Err-clause-within : goal.returns-in-Err-clause-within
returns-in-Err-clause-within c = err-within c.in-Err.error (length c.args.bytes.now)

pub returns-in-Ok-clause-row : goal.returns-in-Ok-clause-row
returns-in-Ok-clause-row c =
    let files = c.args.self.now in
    let description = c.args.open.now.description in
    let node = number_in description.object in
    let after : Files → ℕ → Files = λ f position. moved_to f c.args.open.now.fd description position in
    let nodes = c.write_content.new.self.nodes in
    let written = subst (λ time. WritesNode files.nodes time node description.flags.append description.position c.args.bytes.now (file_at files.nodes node) (Ok c.in-Ok.written) nodes)
    (to_z-of_z {w = w128} {z = c.args.now} c.ranges.now) c.in-Ok.ensures.written in
    let wrote = content-written files c.args.now description node description.position c.args.bytes.now after nodes (file_at files.nodes node) (Ok c.in-Ok.written) written in
    (wrote.0, c.move_to.ensures ∙ ap (λ (f : Files). moved_to f c.args.open.now.fd description c.in-Ok.written.end) c.write_content.ensures.others ∙ sym wrote.1)
