use Rattle.std.proofs.Common.{◌≡◌, ℕ, pos, false, sym, ap, subst, ◌∙◌}
use Rattle.std.specs.Prelude.{int_lt, nat_abs}
use Rattle.std.proofs.Math.Facts.{to_z-of_z}
use Rattle.std.specs.Int.{w64, w128}
use Rattle.kernel_core.specs.declared.error.Errno.TheVariants.{EBADF, EINVAL, ESPIPE}
use Rattle.kernel_model.specs.Came.{Did, refused_if, with_some}
use Rattle.kernel_model.specs.Descriptions.{node_of}
use Rattle.kernel_model.specs.State.{Files}
use Rattle.kernel_model.specs.Transfers.{at_place, write_at}
use Rattle.kernel_model.specs.declared.descriptor.Description.{Description}
use Rattle.native_files.specs.Answers.{Answers}
use Rattle.native_files.specs.inside.Contents.{number_in, write_asked_at}
use Rattle.native_files.proofs.files.Files.write_at.Goals as goal

pub returns-in-Node-clause-row : goal.returns-in-Node-clause-row
unfolding write_at
returns-in-Node-clause-row c =
    let files = c.args.self.now in
    let d = c.in-Some.description in
    let carry : Description → ℕ → ℕ → Did Files ℕ = λ d at node. write_asked_at files c.args.now d node at c.args.asked c.args.bytes.now in
    let rest : Description → Did Files ℕ = λ d. at_place files c.args.place d.object (carry d) in
    let place = to_z-of_z {w = w64} {z = c.args.place} c.ranges.place in
    let positive : int_lt c.args.place (pos 0) ≡ false = ap (λ z. int_lt z (pos 0)) (sym place) ∙ c.if-place-lt0.false in
    let opened = ap (λ o. with_some files EBADF o rest) (sym c.in-Some.ensures.writable) in
    let placed = ap (λ b. refused_if b EINVAL files (with_some files ESPIPE (node_of d.object) (carry d (nat_abs c.args.place)))) positive in
    let found = ap (λ o. with_some files ESPIPE (node_of o) (carry d (nat_abs c.args.place))) c.in-Node.is in
    let time = to_z-of_z {w = w128} {z = c.args.now} c.ranges.now in
    let number = ap number_in c.in-Node.is in
    let at = c.unsigned_abs.ensures.value ∙ ap nat_abs place in
    subst (λ (step : Did Files ℕ). Answers step c.write_asked_at.result c.write_asked_at.new.self)
    ((λ i. write_asked_at files (time i) d (number i) (at i) c.args.asked c.args.bytes.now) ∙ sym (opened ∙ placed ∙ found)) c.write_asked_at.ensures.row
