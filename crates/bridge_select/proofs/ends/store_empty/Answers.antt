use Rattle.std.proofs.Common.{◌≡◌, ◌∙◌, ap, sym, Bool, if◌then◌else◌}
use Rattle.guest_space.specs.Memory.{Memory}
use Rattle.kernel_core.specs.declared.error.Errno.TheVariants.{EFAULT}
use Rattle.o32_model.specs.Results.{all_fit, with_pieces}
use Rattle.o32_model.specs.Selecting as o32
use Rattle.o32_model.specs.WaitEnds.{ends_with, no_sets, sets_told}
use Rattle.o32_model.specs.declared.wait.Close.{Close}
use Rattle.o32_model.specs.declared.wait.Close.TheVariants as closes
use Rattle.bridge_limits.proofs.Storing.{alike_is, alike_pieces, alike_then}
use Rattle.bridge_select.specs.inside.Requests.{asked_of}
use Rattle.bridge_select.specs.inside.Telling.{pieces_of}
use Rattle.bridge_select.proofs.ends.store_empty.Goals as goal

pub returns-clause-ends : goal.returns-clause-ends
returns-clause-ends c = λ kernel.
    let space = c.args.space.now in
    let pieces : pieces_of (asked_of c.of_wait.result) c.empty_sets.result ≡ sets_told c.args.wait.now =
    c.empty_sets.ensures (asked_of c.of_wait.result) ∙ ap (λ (asked : o32.Asked). o32.sets_pieces asked no_sets) c.of_wait.ensures in
    let answer = c.in_ok-stored.ensures.answer ∙ ap (all_fit space) pieces in
    let kept = c.in_ok-stored.ensures.stored ∙ ap (with_pieces space) pieces in
    ap (λ (all : Bool). ends_with (if all then closes.Value 0 else closes.Error EFAULT) kernel (with_pieces space (sets_told c.args.wait.now))) (sym answer)
    ∙ ap (λ (close : Close). ends_with close kernel (with_pieces space (sets_told c.args.wait.now))) (sym c.close_if.ensures)
    ∙ ap (λ (memory : Memory). ends_with c.close_if.result kernel memory) (sym kept)

pub returns-clause-alike : goal.returns-clause-alike
returns-clause-alike c =
    let space = c.args.space.now in
    let pieces = pieces_of (asked_of c.of_wait.result) c.empty_sets.result in
    alike_then space (with_pieces space pieces) c.store_sets.new.space (alike_pieces space pieces) (alike_is (with_pieces space pieces) c.store_sets.new.space (sym c.in_ok-stored.ensures.stored))
