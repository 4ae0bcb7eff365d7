use Rattle.std.proofs.Common.{◌≤◌, [], length, drop, ◌++◌, sym, subst, arith}
use Rattle.kernel_model.specs.Transfers.{read_object, reading}
use Rattle.native_files.specs.Answers.{ReadsSo, moved}
use Rattle.native_files.proofs.Asked.{most-within, transferring-some}
use Rattle.native_files.proofs.Filled.{reads-front}
use Rattle.native_files.proofs.files.Files.read_asked.Goals as goal

pub returns-else-most-eq0-clause-row : goal.returns-else-most-eq0-clause-row
returns-else-most-eq0-clause-row g c =
    λ left told.
    let files = c.args.self.now in
    let old = c.args.buffer.now in
    let most = c.in-Ok.most in
    let low = most-within c.args.asked (length old) most c.in-Ok.ensures in
    let small : most ≤ length old = omega (arith, low) in
    subst (λ step. ReadsSo step (moved c.read_object.result) c.read_object.new.self (g.I.Source.left c.args.input.now) (g.I.Source.left c.read_object.new.input) old (c.read_object.new.buffer ++ drop most old))
    (sym (transferring-some (reading left files) c.args.asked (length old) [] (λ n. read_object files left c.args.fd c.args.description n c.args.description.object) most c.in-Ok.ensures c.if-most-eq0.false))
    (reads-front old c.read_object.new.buffer most small c.read_object.auto.buffer (λ n. read_object files left c.args.fd c.args.description n c.args.description.object) (moved c.read_object.result) c.read_object.new.self
    (g.I.Source.left c.args.input.now) (g.I.Source.left c.read_object.new.input) (c.read_object.ensures.row left told))
