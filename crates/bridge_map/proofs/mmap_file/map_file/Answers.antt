-- What was found of the file.
use Rattle.std.proofs.Common.{Option, None, Some, ap, subst, sym, ◌∙◌}
use Rattle.kernel_core.specs.declared.error.Errno.{Errno}
use Rattle.kernel_core.specs.declared.map_flags.MapKind.{MapKind}
use Rattle.kernel_model.specs.State.{Kernel}
use Rattle.outside.specs.Streams.{Contents}
use Rattle.bridge_map.proofs.Placing.{file_placed, file_refused, maps_after, maps_as, refused_mapped}
use Rattle.bridge_map.specs.Shown.{Judged, Shows}
use Rattle.bridge_map.proofs.mmap_file.map_file.Goals as goal

pub returns-in-Some-clause-row : goal.returns-in-Some-clause-row
returns-in-Some-clause-row g c = λ left told.
    let asked = c.args.asked.now in
    let files = c.args.below.now.kernel.now.files in
    let looked = c.in_ok-error.ensures.looked left told in
    let judged : Judged files asked.flags.kind asked.fd (Some c.in-Some.error) =
    subst (λ (kind : MapKind). Judged files kind asked.fd (Some c.in-Some.error)) c.kind.ensures
    (subst (λ (o : Option Errno). Judged files c.kind.result asked.fd o) c.in-Some.is looked.0) in
    refused_mapped _ c.args.args.now c.in-Some.error c.args.below.now.kernel.now c.refusal.new.below.kernel.now left _ _ c.args.space.now c.args.below.now.log.now c.refusal.new.below.log.now
    (file_refused files c.args.space.now asked c.requires.file c.in-Some.error judged) looked.1 c.refusal.ensures.effects

pub returns-in-None-clause-row : goal.returns-in-None-clause-row
returns-in-None-clause-row g c = λ left told.
    let asked = c.args.asked.now in
    let files = c.args.below.now.kernel.now.files in
    let looked = c.in_ok-error.ensures.looked left told in
    let judged : Judged files asked.flags.kind asked.fd None =
    subst (λ (kind : MapKind). Judged files kind asked.fd None) c.kind.ensures
    (subst (λ (o : Option Errno). Judged files c.kind.result asked.fd o) c.in-None.is looked.0) in
    let shows = subst (λ (k : Kernel). Shows k.files asked.fd judged.0) (sym looked.1.stays) judged.2 in
    maps_after _ c.args.args.now c.map_shown.result c.args.below.now.kernel.now c.refusal.new.below.kernel.now c.map_shown.new.below.kernel.now left _ _ _ c.args.space.now c.map_shown.new.space c.args.below.now.log.now c.refusal.new.below.log.now c.map_shown.new.below.log.now
    looked.1 c.refusal.ensures.effects
    (maps_as _ _ c.args.args.now c.map_shown.result _ _ _ _ _ _ _ _ _
    (file_placed files c.args.space.now asked c.requires.file judged.0 judged.1)
    (c.map_shown.ensures.row left (ap (λ (at : Contents). at.left) looked.1.same ∙ told) judged.0 shows))
