-- Each look tells its part, and what was looked at before is as it was.
use Rattle.std.proofs.Common.{◌≡◌, Some, sym, ap, subst, ◌∙◌}
use Rattle.kernel_core.specs.declared.error.Errno.TheVariants.{ENODEV}
use Rattle.kernel_core.specs.declared.map_flags.MapKind.{MapKind}
use Rattle.kernel_model.specs.Descriptions.{opened}
use Rattle.kernel_model.specs.State.{Kernel}
use Rattle.outside.specs.Streams.{Contents}
use Rattle.bridge_map.proofs.Placing.{judged_access, judged_by, judged_shared, readable_there}
use Rattle.bridge_map.proofs.Quietly.{looked_after, looked_as}
use Rattle.bridge_map.specs.Shown.{Judged, file_error, file_of}
use Rattle.bridge_map.proofs.shown.refusal.Goals as goal

pub returns-in-Some-clause-looked : goal.returns-in-Some-clause-looked
returns-in-Some-clause-looked g c = λ left told.
    let looked = c.in_ok-error.ensures.looked left told in
    (judged_access c.args.below.now.kernel.now.files c.args.kind c.args.fd c.in-Some.error (sym looked.0 ∙ c.in-Some.is), looked.1)

pub returns-in-Shared-clause-looked : goal.returns-in-Shared-clause-looked
returns-in-Shared-clause-looked g c = λ left told.
    let looked = c.in_ok-error.ensures.looked left told in
    let there = readable_there (opened c.args.below.now.kernel.now.files c.args.fd) (sym looked.0 ∙ c.in_default.is) in
    (subst (λ (kind : MapKind). Judged c.args.below.now.kernel.now.files kind c.args.fd (Some ENODEV)) (sym c.in-Shared.is) (judged_shared c.args.below.now.kernel.now.files c.args.fd there.0 there.1 there.2), looked.1)

pub returns-in-Private-clause-looked : goal.returns-in-Private-clause-looked
returns-in-Private-clause-looked g c = λ left told.
    let looked = c.in_ok-error.ensures.looked left told in
    let there = readable_there (opened c.args.below.now.kernel.now.files c.args.fd) (sym looked.0 ∙ c.in_default.is) in
    let stays = looked.1.stays in
    looked_after (λ answer. Judged c.args.below.now.kernel.now.files c.args.kind c.args.fd answer) c.file_refusal.new.below.kernel.now _ _ c.file_refusal.result looked.1
    (looked_as (λ answer. answer ≡ file_error (file_of c.access_refusal.new.below.kernel.now.files there.0)) (λ answer. Judged c.args.below.now.kernel.now.files c.args.kind c.args.fd answer) c.file_refusal.result _ _ _ _ _ _ _
    (λ answer is.
    subst (λ (kind : MapKind). Judged c.args.below.now.kernel.now.files kind c.args.fd answer) (sym c.in-Private.is)
    (judged_by c.args.below.now.kernel.now.files c.args.fd there.0 there.1 there.2 answer (is ∙ ap (λ (k : Kernel). file_error (file_of k.files there.0)) stays)))
    (c.file_refusal.ensures.looked left (ap (λ (at : Contents). at.left) looked.1.same ∙ told) there.0 (ap (λ (k : Kernel). opened k.files c.args.fd) stays ∙ there.1) there.2))
