-- A frame without what is known of the signal.
use Rattle.std.proofs.Common.{ℕ, subst}
use Rattle.guest_space.specs.Bytes.{are_ready}
use Rattle.layouts.specs.O32.{frame}
use Rattle.number_tables.specs.Signals.{o32_signal}
use Rattle.signal_frames.specs.Entering as frames
use Rattle.signal_frames.specs.Entering.{context_of_processor, frame_address, plain_entry}
use Rattle.layouts.specs.Frames.{frame_bytes}
use Rattle.bridge_delivery.specs.inside.Frames.{plain}
use Rattle.bridge_delivery.proofs.FrameSizes.{length-frame_bytes}
use Rattle.bridge_delivery.proofs.Framing.{wrote}
use Rattle.bridge_delivery.proofs.frames.enter_plain.Goals as goal

pub returns : goal.returns
unfolding plain
returns c =
    let bytes = frame_bytes (context_of_processor c.args.cpu.now) c.args.mask in
    wrote (plain c.args.cpu.now c.args.taken.now.info c.args.taken.now.action c.args.mask c.args.top) 632 (length-frame_bytes (context_of_processor c.args.cpu.now) c.args.mask)
    c.args.cpu.now c.write_frame-written.new.cpu c.args.space.now c.write_frame-written.new.space c.write_frame-written.result c.is_written.result
    (are_ready c.args.space.now.pages (frame_address c.args.top frame.size) frame.size)
    (subst (λ (handler : ℕ). frames.Enters c.write_frame-written.result c.args.space.now c.write_frame-written.new.space c.args.cpu.now c.write_frame-written.new.cpu bytes
    (plain_entry (o32_signal c.args.taken.now.info.sig) handler (frame_address c.args.top frame.size))) c.handler_address-handler.ensures c.write_frame-written.ensures.enters)
    c.write_frame-written.ensures.answer c.is_written.ensures
