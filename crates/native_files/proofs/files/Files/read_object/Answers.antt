use Rattle.std.proofs.Common.{[], Some, length, sym, ap, subst, ◌∙◌}
use Rattle.kernel_model.specs.Came.{came_as}
use Rattle.kernel_model.specs.Pipes.{pipe_at}
use Rattle.kernel_model.specs.Transfers.{read_end, read_node, read_object}
use Rattle.native_files.specs.Answers.{IsUndone, MovesWithin, ReadsSo, moved}
use Rattle.native_files.specs.inside.Contents.{number_in}
use Rattle.native_files.proofs.ContentSteps.{undone-told}
use Rattle.native_files.proofs.EndSteps.{read_end-within}
use Rattle.native_files.proofs.files.Files.read_object.Goals as goal

pub returns-in-Stream-clause-row : goal.returns-in-Stream-clause-row
returns-in-Stream-clause-row g c =
    λ left told.
    subst (λ object. ReadsSo (read_object c.args.self.now left c.args.fd c.args.description (length c.args.buffer.now) object) (moved c.read_stream.result) c.read_stream.new.self (g.I.Source.left c.args.input.now) (g.I.Source.left c.read_stream.new.input) c.args.buffer.now c.read_stream.new.buffer)
    (sym c.in-Stream.is) (c.read_stream.ensures.row left c.args.fd c.args.description told)

pub returns-in-Stream-clause-undone : goal.returns-in-Stream-clause-undone
returns-in-Stream-clause-undone g c =
    subst (λ object. IsUndone (moved c.read_stream.result) (read_object c.args.self.now [] c.args.fd c.args.description (length c.args.buffer.now) object).came)
    (sym c.in-Stream.is) (c.read_stream.ensures.undone c.args.fd c.args.description)

pub returns-in-ReadEnd-clause-within : goal.returns-in-ReadEnd-clause-within
returns-in-ReadEnd-clause-within g c =
    let files = c.args.self.now in
    let most = length c.args.buffer.now in
    subst (λ came. MovesWithin (length c.read_end.new.buffer) came) (sym (c.or_refused.ensures.moved ∙ ap Some c.read_end.ensures.came))
    (subst (λ n. MovesWithin n (Some (came_as length (read_end files c.args.description c.in-ReadEnd.pipe most (pipe_at files.flow c.in-ReadEnd.pipe)).came)))
    (sym c.read_end.auto.buffer) (read_end-within files c.args.description c.in-ReadEnd.pipe most (pipe_at files.flow c.in-ReadEnd.pipe)))

pub returns-in-Node-clause-undone : goal.returns-in-Node-clause-undone
returns-in-Node-clause-undone g c =
    let files = c.args.self.now in
    let most = length c.args.buffer.now in
    subst (λ came. IsUndone came (read_object files [] c.args.fd c.args.description most c.args.description.object).came)
    (sym (c.or_refused-in-Node.ensures.moved ∙ ap Some c.read_node.ensures.came))
    (subst (λ object. IsUndone (Some (came_as length (read_node files c.args.fd c.args.description (number_in object) most).came)) (read_object files [] c.args.fd c.args.description most object).came)
    (sym c.in-Node.is) (undone-told (read_node files c.args.fd c.args.description c.in-Node.field-0 most).came))
