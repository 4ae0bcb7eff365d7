-- The native call sends what the o32 call does.
use Rattle.std.proofs.Common.{◌<◌, ◌^◌, ℕ, length, Option, List, [], ◌∷◌, sym, ap, subst, ◌∙◌}
use Rattle.kernel_core.specs.declared.log_entry.LogEntry.{LogEntry}
use Rattle.kernel_core.specs.declared.record.Effect.{Effect}
use Rattle.kernel_model.specs.Pipes.{nothing}
use Rattle.native_calls.specs.History.{moment, opening}
use Rattle.native_calls.specs.Table.{native_call}
use Rattle.o32_model.specs.Effects.{Effected}
use Rattle.o32_model.specs.declared.call_words.CallWords.{CallWords}
use Rattle.outside.specs.Streams.{contents}
use Rattle.bridge_log.proofs.Ends.{stopped_after, stopped_alike}
use Rattle.bridge_log.specs.Fills.{bytes_back}
use Rattle.bridge_log.specs.Keeping.{Logged, reached}
use Rattle.bridge_log.specs.Outcomes.{outcome_of}
use Rattle.bridge_log.specs.Sending.{sent_by}
use Rattle.bridge_io.proofs.WriteMirrors.{fails_with, output_is, sends_called, sends_keeps, write_sends}
use Rattle.bridge_io.specs.inside.Written.{write_of}
use Rattle.bridge_io.proofs.writing.send_loaded.Goals as goal

pub returns-in_err-reply-clause-row : goal.returns-in_err-reply-clause-row
returns-in_err-reply-clause-row g c = λ guest same to left told.
    let sends = write_sends guest c.args.below.now.kernel.now c.args.below.now.memory.now left c.from.result c.from-2.result c.args.fd c.args.stream c.args.count c.from.ensures c.from-2.ensures c.ranges.fd.fits c.ranges.count.fits to in
    fails_with (write_of c.args.below.now.kernel.now guest c.args.fd c.args.count c.args.below.now.memory.now left) c.from_residual.result _ _ _
    (contents g.I.Source.left g.O.Sink.written g.E.Sink.written c.args.dev.now) (contents g.I.Source.left g.O.Sink.written g.E.Sink.written c.native.new.dev)
    c.from_residual.ensures.0 (stopped_alike sends.alike (c.in_err-reply.ensures.row left told))

pub returns-in_err-sent_back-clause-row : goal.returns-in_err-sent_back-clause-row
returns-in_err-sent_back-clause-row g c = λ guest same to left told.
    let sends = write_sends guest c.args.below.now.kernel.now c.args.below.now.memory.now left c.from.result c.from-2.result c.args.fd c.args.stream c.args.count c.from.ensures c.from-2.ensures c.ranges.fd.fits c.ranges.count.fits to in
    fails_with (write_of c.args.below.now.kernel.now guest c.args.fd c.args.count c.args.below.now.memory.now left) c.from_residual-in_err-sent_back.result _ _ _
    (contents g.I.Source.left g.O.Sink.written g.E.Sink.written c.args.dev.now) (contents g.I.Source.left g.O.Sink.written g.E.Sink.written c.native.new.dev)
    c.from_residual-in_err-sent_back.ensures.0 (stopped_after sends.alike (c.in_ok-reply.ensures.row left told))

pub returns-clause-row : goal.returns-clause-row
returns-clause-row g c = λ guest same to left told.
    let sends = write_sends guest c.args.below.now.kernel.now c.args.below.now.memory.now left c.from.result c.from-2.result c.args.fd c.args.stream c.args.count c.from.ensures c.from-2.ensures c.ranges.fd.fits c.ranges.count.fits to in
    sends_called c.outcome_of.result sends (c.in_ok-reply.ensures.row left told) (c.outcome_of.ensures ∙ ap (λ (w : CallWords). outcome_of w c.in_ok-reply.reply) (sym same))

pub returns-clause-kept : goal.returns-clause-kept
returns-clause-kept g c = λ guest same to short left told.
    let sends = write_sends guest c.args.below.now.kernel.now c.args.below.now.memory.now left c.from.result c.from-2.result c.args.fd c.args.stream c.args.count c.from.ensures c.from-2.ensures c.ranges.fd.fits c.ranges.count.fits to in
    let nstep = native_call 64 (c.from.result ∷ 65536 ∷ c.from-2.result ∷ 0 ∷ 0 ∷ 0 ∷ []) c.args.below.now.kernel.now c.args.below.now.memory.now left in
    let called = c.in_ok-reply.ensures.row left told in
    let shorter : length c.native.new.self.memory.now < 2 ^ 32 = subst (λ (m : List ℕ). length m < 2 ^ 32) (sym (called.stored ∙ sends.stays)) short in
    sends_keeps c.args.below.now.kernel.now left c.args.below.now.log.now c.sent_back.new.log sends called
    (subst (λ (n : Option (List LogEntry)). Logged c.args.below.now.log.now.native n (opening c.args.below.now.kernel.now left) (moment nstep.kernel nstep.left nstep.sent)) (sym c.sent_back.ensures.native) (c.in_ok-reply.ensures.kept left told nothing))
    (subst (λ (o : Option (List Effect)). Effected o c.sent_back.new.log.effects (reached guest.processor guest.memory.pages nothing) (reached guest.processor guest.memory.pages (sent_by c.args.stream (bytes_back c.native.new.self.memory.now c.in_ok-reply.reply)))) c.native.ensures.effects
    (c.in_ok-sent_back.ensures.effects (output_is c.args.below.now.kernel.now.files c.args.fd c.args.stream to) shorter guest.processor guest.memory.pages))
