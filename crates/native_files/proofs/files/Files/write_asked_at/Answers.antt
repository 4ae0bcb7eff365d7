use Rattle.std.proofs.Common.{ℕ, Err, None, length, take, sym, subst}
use Rattle.std.proofs.Math.Facts.{to_z-of_z}
use Rattle.std.specs.Int.{w128}
use Rattle.kernel_core.specs.Nodes.{file_at}
use Rattle.kernel_model.specs.Came.{Did}
use Rattle.kernel_model.specs.State.{Files}
use Rattle.kernel_model.specs.Transfers.{write_content}
use Rattle.native_files.specs.Answers.{Answers}
use Rattle.native_files.specs.inside.Contents.{WritesNode, number_in}
use Rattle.native_files.proofs.Asked.{transferring-some}
use Rattle.native_files.proofs.WriteSteps.{answers-err, content-written}
use Rattle.native_files.proofs.files.Files.write_asked_at.Goals as goal

pub returns-in-Err-write_content-clause-row : goal.returns-in-Err-write_content-clause-row
returns-in-Err-write_content-clause-row c =
    let files = c.args.self.now in
    let description = c.args.open.now.description in
    let node = number_in description.object in
    let most = c.in-Ok.most in
    let bytes = take most c.args.bytes.now in
    let after : Files → ℕ → Files = λ f _. f in
    let carry : ℕ → Did Files ℕ = λ m. write_content files None c.args.now description node c.args.at (take m c.args.bytes.now) after (file_at files.nodes node) in
    let nodes = c.write_content.new.self.nodes in
    let written = subst (λ time. WritesNode files.nodes time node description.flags.append c.args.at bytes (file_at files.nodes node) (Err c.in-Err-write_content.error) nodes)
    (to_z-of_z {w = w128} {z = c.args.now} c.ranges.now) c.in-Err-write_content.ensures.written in
    subst (λ (step : Did Files ℕ). Answers step (Err c.in-Err-write_content.error) c.write_content.new.self)
    (sym (transferring-some files c.args.asked (length c.args.bytes.now) 0 carry most c.in-Ok.ensures c.if-most-eq0.false))
    (answers-err (carry most) files c.write_content.new.self nodes after c.write_content.ensures.others c.in-Err-write_content.error
    (content-written files c.args.now description node c.args.at bytes after nodes (file_at files.nodes node) (Err c.in-Err-write_content.error) written))
