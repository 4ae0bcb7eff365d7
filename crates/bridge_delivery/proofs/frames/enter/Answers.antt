-- A frame that was written can be read back, and is kept as what was written.
use Rattle.std.proofs.Common.{◌∙◌, ℕ, Bool, ap, subst, sym}
use Rattle.std.specs.Prelude.{if◌then◌else◌}
use Rattle.guest_space.specs.Bytes.{copied_out}
use Rattle.signal_frames.specs.Entering.{frame_address}
use Rattle.bridge_delivery.proofs.FrameEffects.{IsPlaced, frame_effected, place_fits, placed, readable}
use Rattle.bridge_delivery.specs.inside.Frames.{framed_below}
use Rattle.bridge_delivery.proofs.frames.enter.Goals as goal

pub keep_frame-requires-clause-readable : goal.keep_frame-requires-clause-readable
keep_frame-requires-clause-readable c =
    let framed = framed_below c.top_of-top.result c.shown.result c.args.cpu.now c.args.taken.now.info c.args.taken.now.action c.args.mask in
    let memory = c.args.space.now in
    let size = c.frame_size.result in
    let is : IsPlaced framed (frame_address c.top_of-top.result size) size =
    subst (λ (n : ℕ). IsPlaced framed (frame_address c.top_of-top.result n) n) (sym c.frame_size.ensures)
    (placed c.top_of-top.result c.shown.result c.args.cpu.now c.args.taken.now.info c.args.taken.now.action c.args.mask) in
    readable framed (frame_address c.top_of-top.result size) size is memory c.enter_below.new.space
    (sym c.in_ok-written.ensures.0 ∙ c.if-written.true)
    (c.in_ok-written.ensures.2 ∙ ap (λ (b : Bool). if b then copied_out memory framed.entry.frame framed.bytes else memory) c.if-written.true)

pub returns-in_ok-keep_frame-clause-effects : goal.returns-in_ok-keep_frame-clause-effects
returns-in_ok-keep_frame-clause-effects c = λ processor sent.
    let framed = framed_below c.top_of-top.result c.shown.result c.args.cpu.now c.args.taken.now.info c.args.taken.now.action c.args.mask in
    let memory = c.args.space.now in
    let size = c.frame_size.result in
    let is : IsPlaced framed (frame_address c.top_of-top.result size) size =
    subst (λ (n : ℕ). IsPlaced framed (frame_address c.top_of-top.result n) n) (sym c.frame_size.ensures)
    (placed c.top_of-top.result c.shown.result c.args.cpu.now c.args.taken.now.info c.args.taken.now.action c.args.mask) in
    frame_effected framed (frame_address c.top_of-top.result size) size is memory c.enter_below.new.space
    (sym c.in_ok-written.ensures.0 ∙ c.if-written.true)
    (c.in_ok-written.ensures.2 ∙ ap (λ (b : Bool). if b then copied_out memory framed.entry.frame framed.bytes else memory) c.if-written.true)
    c.args.log.now.effects c.keep_frame.new.log.effects processor sent c.whole.ensures (place_fits c.top_of-top.result size)
    c.in_ok-keep_frame.ensures.effects
