-- The native call mirrors the row, over the structure that was taken.
use Rattle.std.proofs.Common.{◌∙◌, ap, arith, subst, sym}
use Rattle.std.specs.Int.{w32, cast_signed}
use Rattle.guest_space.specs.Memory.{Memory}
use Rattle.layouts.specs.O32.{siginfo}
use Rattle.o32_model.specs.Answered.{Answers}
use Rattle.o32_model.specs.GuestBytes.{read_as, structure}
use Rattle.o32_model.specs.Sending.{rt_sigqueueinfo_row, sent_in}
use Rattle.o32_model.specs.Words.{argument}
use Rattle.outside.specs.Streams.{contents}
use Rattle.bridge_signal.proofs.SendingMirrors.{queue_mirrors}
use Rattle.bridge_signal.proofs.sending.rt_sigqueueinfo.Goals as goal

pub returns-clause-row : goal.returns-clause-row
returns-clause-row g c = λ guest same memory left told.
    let row = rt_sigqueueinfo_row c.args.below.now.kernel.now guest (cast_signed w32 (argument c.args.words.now 0)) (argument c.args.words.now 1) (argument c.args.words.now 2) in
    let taken = c.in_ok-place.ensures ∙ ap (λ (m : Memory). read_as sent_in (structure m (argument c.args.words.now 2) siginfo.size)) (sym memory) in
    subst (λ (m : Memory). Answers (row left) c.number_call.result c.number_call.new.self.kernel.now m guest.processor (contents g.I.Source.left g.O.Sink.written g.E.Sink.written c.args.dev.now) (contents g.I.Source.left g.O.Sink.written g.E.Sink.written c.number_call.new.dev)) memory
    (c.number_call.ensures.row guest row same (λ left. queue_mirrors guest c.args.below.now.kernel.now c.take_info.new.mem left _ _ c.in_ok-place.place (argument c.args.words.now 0) (argument c.args.words.now 1) (argument c.args.words.now 2) c.from.ensures (omega arith) c.native_number.ensures taken) left told)

pub returns-clause-kept : goal.returns-clause-kept
returns-clause-kept g c = λ guest same memory.
    let row = rt_sigqueueinfo_row c.args.below.now.kernel.now guest (cast_signed w32 (argument c.args.words.now 0)) (argument c.args.words.now 1) (argument c.args.words.now 2) in
    let taken = c.in_ok-place.ensures ∙ ap (λ (m : Memory). read_as sent_in (structure m (argument c.args.words.now 2) siginfo.size)) (sym memory) in
    c.number_call.ensures.kept guest row same (λ left. queue_mirrors guest c.args.below.now.kernel.now c.take_info.new.mem left _ _ c.in_ok-place.place (argument c.args.words.now 0) (argument c.args.words.now 1) (argument c.args.words.now 2) c.from.ensures (omega arith) c.native_number.ensures taken)
