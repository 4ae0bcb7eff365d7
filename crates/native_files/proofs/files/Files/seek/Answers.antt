use Rattle.std.proofs.Common.{◌≡◌, ℕ, of_z, sym, ap, to_z, ◌∙◌}
use Rattle.std.proofs.Math.Facts.{to_z-of_z}
use Rattle.std.specs.Int.{w64}
use Rattle.kernel_core.specs.declared.error.Errno.TheVariants.{EBADF, ESPIPE}
use Rattle.kernel_model.specs.Came.{Did, with_some}
use Rattle.kernel_model.specs.ContentRows.{seek}
use Rattle.kernel_model.specs.Descriptions.{node_of}
use Rattle.kernel_model.specs.State.{Files}
use Rattle.kernel_model.specs.declared.descriptor.Description.{Description}
use Rattle.native_files.specs.inside.Contents.{number_in}
use Rattle.native_files.specs.inside.Places.{seek_node}
use Rattle.native_files.proofs.files.Files.seek.Goals as goal

row_is : (c : goal.After-seek_node)
    → seek_node c.args.self.now c.args.fd c.in-Some.description (number_in c.in-Some.description.object) (to_z w64 (of_z w64 c.args.offset)) c.args.origin
    ≡ seek c.args.self.now c.args.fd c.args.offset c.args.origin
unfolding seek
row_is c =
    let files = c.args.self.now in
    let d = c.in-Some.description in
    let offset = to_z-of_z {w = w64} {z = c.args.offset} c.ranges.offset in
    let move : Description → ℕ → Did Files ℕ = λ d node. seek_node files c.args.fd d node c.args.offset c.args.origin in
    let rest : Description → Did Files ℕ = λ d. with_some files ESPIPE (node_of d.object) (move d) in
    let opened = ap (λ o. with_some files EBADF o rest) (sym c.in-Some.ensures) in
    let found = ap (λ o. with_some files ESPIPE (node_of o) (move d)) c.in-Node.is in
    (λ i. seek_node files c.args.fd d (number_in (c.in-Node.is i)) (offset i) c.args.origin) ∙ sym (opened ∙ found)

pub returns-in-Node-clause-came : goal.returns-in-Node-clause-came
returns-in-Node-clause-came c = c.seek_node.ensures.came ∙ ap (λ (step : Did Files ℕ). step.came) (row_is c)

pub returns-in-Node-clause-state : goal.returns-in-Node-clause-state
returns-in-Node-clause-state c = c.seek_node.ensures.state ∙ ap (λ (step : Did Files ℕ). step.state) (row_is c)
