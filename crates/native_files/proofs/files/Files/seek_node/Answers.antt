use Rattle.std.proofs.Common.{◌≡◌, ℕ, pos, sym, ap, ◌∙◌}
use Rattle.std.specs.Prelude.{◌+ℤ◌}
use Rattle.std.proofs.Math.Facts.{to_z-of_z}
use Rattle.std.specs.Int.{w64}
use Rattle.kernel_core.specs.declared.error.Errno.TheVariants.{EINVAL}
use Rattle.kernel_model.specs.Came.{Did, done, refused, with_some}
use Rattle.kernel_model.specs.State.{Files}
use Rattle.kernel_model.specs.Transfers.{moved_to}
use Rattle.native_files.specs.inside.Contents.{number_in}
use Rattle.native_files.specs.inside.Places.{position_at, seek_node, seek_to}
use Rattle.native_files.proofs.Places.{seek_to-none, seek_to-some}
use Rattle.native_files.proofs.files.Files.seek_node.Goals as goal

none_is : (c : goal.In-None-position_at)
    → seek_node c.args.self.now c.args.fd c.args.description (number_in c.args.description.object) c.args.offset c.args.origin ≡ refused c.args.self.now EINVAL
none_is c =
    let from = c.in-Some.from in
    let seek : ℕ → Did Files ℕ = λ from. seek_to c.args.self.now c.args.fd c.args.description (pos from +ℤ c.args.offset) in
    ap (λ o. with_some c.args.self.now EINVAL o seek) (sym c.in-Some.ensures)
    ∙ seek_to-none c.args.self.now c.args.fd c.args.description (pos from +ℤ c.args.offset)
    (c.in-None-position_at.ensures.place ∙ ap (λ z. position_at (pos from +ℤ z)) (to_z-of_z {w = w64} {z = c.args.offset} c.ranges.offset))

some_is : (c : goal.After-move_to)
    → seek_node c.args.self.now c.args.fd c.args.description (number_in c.args.description.object) c.args.offset c.args.origin
    ≡ done (moved_to c.args.self.now c.args.fd c.args.description c.in-Some-position_at.place) c.in-Some-position_at.place
some_is c =
    let from = c.in-Some.from in
    let seek : ℕ → Did Files ℕ = λ from. seek_to c.args.self.now c.args.fd c.args.description (pos from +ℤ c.args.offset) in
    ap (λ o. with_some c.args.self.now EINVAL o seek) (sym c.in-Some.ensures)
    ∙ seek_to-some c.args.self.now c.args.fd c.args.description (pos from +ℤ c.args.offset) c.in-Some-position_at.place
    (c.in-Some-position_at.ensures.place ∙ ap (λ z. position_at (pos from +ℤ z)) (to_z-of_z {w = w64} {z = c.args.offset} c.ranges.offset))

pub returns-in-None-position_at-clause-came : goal.returns-in-None-position_at-clause-came
returns-in-None-position_at-clause-came c = sym (ap (λ step. step.came) (none_is c))

pub returns-in-None-position_at-clause-state : goal.returns-in-None-position_at-clause-state
returns-in-None-position_at-clause-state c = sym (ap (λ step. step.state) (none_is c))

pub returns-in-Some-position_at-clause-came : goal.returns-in-Some-position_at-clause-came
returns-in-Some-position_at-clause-came c = sym (ap (λ step. step.came) (some_is c))

pub returns-in-Some-position_at-clause-state : goal.returns-in-Some-position_at-clause-state
returns-in-Some-position_at-clause-state c = c.move_to.ensures ∙ sym (ap (λ step. step.state) (some_is c))
