-- A frame with what is known of the signal.
use Rattle.std.proofs.Common.{◌≡◌, ◌∙◌, ℕ, List, ap, subst, sym}
use Rattle.guest_space.specs.Bytes.{are_ready}
use Rattle.layouts.specs.Frames.{rt_frame_bytes}
use Rattle.layouts.specs.O32.{rt_frame_of, siginfo}
use Rattle.number_tables.specs.Signals.{o32_signal}
use Rattle.o32_turns.specs.Handling.{handler_address, stack_kept}
use Rattle.signal_frames.specs.Entering as frames
use Rattle.signal_frames.specs.Entering.{alternate_stack, context_of_processor, frame_address, information, rt_entry}
use Rattle.signal_frames.specs.declared.AltStack.{AltStack}
use Rattle.bridge_delivery.specs.inside.Frames.{with_info}
use Rattle.bridge_delivery.proofs.FrameSizes.{length-rt_frame_bytes, low_words}
use Rattle.bridge_delivery.proofs.Framing.{wrote}
use Rattle.bridge_delivery.proofs.frames.enter_with_info.Goals as goal

pub returns : goal.returns
unfolding with_info
returns c =
    let info = c.args.taken.now.info in
    let p = c.args.cpu.now in
    let stack = c.args.stack in
    let written = c.write_rt_frame-written in
    let address = frame_address c.args.top (rt_frame_of siginfo).size in
    let same : rt_frame_bytes (information info) (alternate_stack c.words_of.result) (context_of_processor p) c.args.mask
    ≡ rt_frame_bytes (information info) (stack_kept stack) (context_of_processor p) c.args.mask =
    ap (λ (s : AltStack). rt_frame_bytes (information info) (alternate_stack s) (context_of_processor p) c.args.mask) c.words_of.ensures
    ∙ sym (low_words (information info) stack.sp stack.size stack.flags (context_of_processor p) c.args.mask) in
    wrote (with_info p info c.args.taken.now.action c.args.mask stack c.args.top) 784 (length-rt_frame_bytes (information info) (stack_kept stack) (context_of_processor p) c.args.mask)
    p written.new.cpu c.args.space.now written.new.space written.result c.is_written.result
    (are_ready c.args.space.now.pages address (rt_frame_of siginfo).size)
    (subst (λ (bytes : List ℕ). frames.Enters written.result c.args.space.now written.new.space p written.new.cpu bytes
    (rt_entry (o32_signal info.sig) (handler_address c.args.taken.now.action) address)) same
    (subst (λ (handler : ℕ). frames.Enters written.result c.args.space.now written.new.space p written.new.cpu
    (rt_frame_bytes (information info) (alternate_stack c.words_of.result) (context_of_processor p) c.args.mask)
    (rt_entry (o32_signal info.sig) handler address)) c.handler_address-handler.ensures written.ensures.enters))
    written.ensures.answer c.is_written.ensures
