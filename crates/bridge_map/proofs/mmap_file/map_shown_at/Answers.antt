-- The pages are mapped, filled and protected.
use Rattle.std.proofs.Common.{◌*◌, Bool, subst}
use Rattle.kernel_model.specs.Transfers.{file_bytes}
use Rattle.bridge_map.proofs.Placing.{blank_is, made_mapped, maps_stop, new_storable}
use Rattle.bridge_map.proofs.Quietly.{silent_same}
use Rattle.bridge_map.specs.Rows.{MapsPages}
use Rattle.bridge_map.proofs.mmap_file.map_shown_at.Goals as goal

pub returns-in_err-fill-clause-row : goal.returns-in_err-fill-clause-row
returns-in_err-fill-clause-row g c = λ left told content shows.
    let asked = c.args.asked.now in
    let bytes = file_bytes content asked.offset (asked.count * 4096) in
    let answer = subst (λ (b : Bool). MapsPages b c.args.space.now.pages c.map.new.space.pages c.args.first asked.count 3) c.if-not-branch.false c.in_ok-map.ensures.answer in
    let blank = blank_is c.args.space.now c.map.new.space c.args.first asked.count answer c.in_ok-map.ensures.others in
    maps_stop _ c.args.args.now c.from_residual-in_err-fill.result _ _ _ _ _ _ _ _ _ c.from_residual-in_err-fill.ensures.0
    (c.in_err-fill.ensures.filled left told content shows (new_storable c.args.space.now c.args.first asked.count asked.protection bytes c.requires.ends c.map.new.space blank))

pub returns-in_err-protect-clause-row : goal.returns-in_err-protect-clause-row
returns-in_err-protect-clause-row g c = λ left told content shows.
    let asked = c.args.asked.now in
    let bytes = file_bytes content asked.offset (asked.count * 4096) in
    let answer = subst (λ (b : Bool). MapsPages b c.args.space.now.pages c.map.new.space.pages c.args.first asked.count 3) c.if-not-branch.false c.in_ok-map.ensures.answer in
    let blank = blank_is c.args.space.now c.map.new.space c.args.first asked.count answer c.in_ok-map.ensures.others in
    let filled = (c.in_ok-fill.ensures.filled left told content shows (new_storable c.args.space.now c.args.first asked.count asked.protection bytes c.requires.ends c.map.new.space blank)).1 in
    maps_stop _ c.args.args.now c.from_residual-in_err-protect.result _ _ _ _ _ _ _ _ _ c.from_residual-in_err-protect.ensures.0
    (silent_same _ _ filled.quiet.same)

pub returns-clause-row : goal.returns-clause-row
returns-clause-row g c = λ left told content shows.
    let asked = c.args.asked.now in
    let bytes = file_bytes content asked.offset (asked.count * 4096) in
    let answer = subst (λ (b : Bool). MapsPages b c.args.space.now.pages c.map.new.space.pages c.args.first asked.count 3) c.if-not-branch.false c.in_ok-map.ensures.answer in
    let blank = blank_is c.args.space.now c.map.new.space c.args.first asked.count answer c.in_ok-map.ensures.others in
    let filled = (c.in_ok-fill.ensures.filled left told content shows (new_storable c.args.space.now c.args.first asked.count asked.protection bytes c.requires.ends c.map.new.space blank)).1 in
    made_mapped c.args.space.now c.map.new.space c.fill.new.space c.protect.new.space c.args.first asked.count asked.protection c.in_ok-protect.field-0 bytes c.args.args.now c.args.below.now.kernel.now c.fill.new.below.kernel.now left _ _
    c.args.below.now.log.now c.map.new.log c.fill.new.below.log.now c.protect.new.log c.requires.ends answer c.in_ok-map.ensures.others c.map.ensures.native c.in_ok-map.ensures.effects
    filled c.in_ok-protect.ensures.run c.in_ok-protect.ensures.memory c.protect.ensures.native c.in_ok-protect.ensures.effects
