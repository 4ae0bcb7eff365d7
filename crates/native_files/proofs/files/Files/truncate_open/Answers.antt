use Rattle.std.proofs.Common.{◌≡◌, pos, false, of_z, sym, ap, to_z, ◌∙◌}
use Rattle.std.specs.Prelude.{int_lt, nat_abs}
use Rattle.std.proofs.Math.Facts.{to_z-of_z}
use Rattle.std.specs.Int.{w64, w128}
use Rattle.kernel_core.specs.declared.error.Errno.TheVariants.{EBADF, EINVAL}
use Rattle.kernel_model.specs.Came.{Did, refused_if, with_some}
use Rattle.kernel_model.specs.NodeRows.{truncate_open}
use Rattle.kernel_model.specs.State.{Files}
use Rattle.kernel_model.specs.declared.descriptor.Description.{Description}
use Rattle.native_files.specs.inside.NodeSteps.{truncate_writable}
use Rattle.native_files.proofs.files.Files.truncate_open.Goals as goal

-- the row at a descriptor that is open, and a size that is not below 0
row_is : (c : goal.After-truncate_writable)
    → truncate_writable c.args.self.now (to_z w128 (of_z w128 c.args.now)) c.args.fd c.unsigned_abs.result ≡ truncate_open c.args.self.now c.args.now c.args.fd c.args.size
unfolding truncate_open
row_is c =
    let files = c.args.self.now in
    let size = to_z-of_z {w = w64} {z = c.args.size} c.ranges.size in
    let positive : int_lt c.args.size (pos 0) ≡ false = ap (λ z. int_lt z (pos 0)) (sym size) ∙ c.if-size-lt0.false in
    let writes : Did Files (Unit {0}) = truncate_writable files c.args.now c.args.fd (nat_abs c.args.size) in
    let rest : Description → Did Files (Unit {0}) = λ _. refused_if (int_lt c.args.size (pos 0)) EINVAL files writes in
    let opened = ap (λ o. with_some files EBADF o rest) (sym c.in-Some.ensures) in
    let sized = ap (λ b. refused_if b EINVAL files writes) positive in
    let time = to_z-of_z {w = w128} {z = c.args.now} c.ranges.now in
    let to = c.unsigned_abs.ensures.value ∙ ap nat_abs size in
    (λ i. truncate_writable files (time i) c.args.fd (to i)) ∙ sym (opened ∙ sized)

pub returns-else-size-lt0-clause-came : goal.returns-else-size-lt0-clause-came
returns-else-size-lt0-clause-came c = c.truncate_writable.ensures.came ∙ ap (λ (step : Did Files (Unit {0})). step.came) (row_is c)

pub returns-else-size-lt0-clause-state : goal.returns-else-size-lt0-clause-state
returns-else-size-lt0-clause-state c = c.truncate_writable.ensures.state ∙ ap (λ (step : Did Files (Unit {0})). step.state) (row_is c)
