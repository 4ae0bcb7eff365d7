use Rattle.std.proofs.Common.{ℕ, ◌≤◌, [], length, take, min, sym, ap, ◌∙◌, arith, IfOk, drop, ◌++◌, length-append, length-drop}
use Rattle.std.specs.Prelude.{Result, Ok, Err}
use Rattle.std.proofs.lemmas.List.{length-take-le}
use Rattle.kernel_core.specs.declared.error.Errno.{Errno}
use Rattle.kernel_model.specs.Descriptions.{content_at}
use Rattle.kernel_model.specs.Transfers.{read_content}
use Rattle.native_files.specs.Answers.{filled}
use Rattle.native_files.specs.inside.Contents.{content_read, number_in}
use Rattle.native_files.proofs.Asked.{most-within, transferring-some}
use Rattle.native_files.proofs.ContentSteps.{content-came}
use Rattle.native_files.proofs.Filled.{filled-front, within-front}
use Rattle.native_files.proofs.files.Files.read_asked_at.Goals as goal

pub returns-clause-stored : goal.returns-clause-stored
returns-clause-stored c =
    let files = c.args.self.now in
    let old = c.args.buffer.now in
    let most = c.in_ok-most.most in
    let at = c.args.at in
    let o = content_at files.nodes (number_in c.args.description.now.object) in
    let is = c.in_ok-most.ensures in
    let low = most-within c.args.asked (length old) most is in
    let small : most ≤ length old = omega (arith, low) in
    filled-front old c.read_content.new.buffer most small c.read_content.auto.buffer (content_read at (length (take most old)) o) c.read_content.ensures.stored
    ∙ ap (λ n. filled old (content_read at n o)) (length-take-le most old small)
    ∙ ap (filled old) (sym (content-came files at most (λ _. files) o))
    ∙ ap (λ step. filled old step.came) (sym (transferring-some files c.args.asked (length old) [] (λ most. read_content files at most (λ _. files) o) most is c.if-most-eq0.false))

within_both : (result : Result ℕ Errno) (most more : ℕ) → most ≤ more → IfOk result (λ count. count ≤ most) → IfOk result (λ count. count ≤ more)
within_both (Ok count) most more low is = omega (arith, low, is)
within_both (Err error) most more low is = tt

pub returns-clause-within : goal.returns-clause-within
returns-clause-within c =
    let files = c.args.self.now in
    let old = c.args.buffer.now in
    let most = c.in_ok-most.most in
    let o = content_at files.nodes (number_in c.args.description.now.object) in
    let low = most-within c.args.asked (length old) most c.in_ok-most.ensures in
    let small : most ≤ length old = omega (arith, low) in
    let first = within-front old c.read_content.new.buffer most small c.read_content.auto.buffer c.read_content.result (content_read c.args.at (length (take most old)) o) c.read_content.ensures.came c.read_content.ensures.stored in
    within_both c.read_content.result most (min (length (c.read_content.new.buffer ++ drop most old)) 0x7FFFF000) (omega (arith, low, small, length-append c.read_content.new.buffer (drop most old), length-drop most old, c.read_content.auto.buffer, length-take-le most old small)) first
