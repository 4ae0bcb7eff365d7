-- The bytes that the native call put into host memory are those of the vector.
use Rattle.std.proofs.Common.{◌≡◌, ℕ, ◌<◌, ◌^◌, List, Option, length, replicate, sym, ap, subst, ◌∙◌, arith}
use Rattle.std.proofs.lemmas.List.{length-replicate}
use Rattle.kernel_core.specs.declared.log_entry.LogEntry.{LogEntry}
use Rattle.kernel_core.specs.declared.record.Effect.{Effect}
use Rattle.kernel_model.specs.Pipes.{nothing}
use Rattle.native_calls.specs.History.{moment, opening}
use Rattle.o32_model.specs.Effects.{Effected}
use Rattle.o32_model.specs.GuestBytes.{all_accessible}
use Rattle.o32_model.specs.declared.call_words.CallWords.{CallWords}
use Rattle.native_calls.specs.Table.{native_call}
use Rattle.std.specs.Prelude.{[], ◌∷◌}
use Rattle.outside.specs.Streams.{contents}
use Rattle.bridge_log.proofs.Ends.{fails_before, stopped_alike, stopped_after}
use Rattle.bridge_log.specs.Keeping.{Logged, reached}
use Rattle.bridge_log.specs.Outcomes.{outcome_of}
use Rattle.o32_model.specs.Transfers.{readv_row}
use Rattle.bridge_io.proofs.ReadvMirrors.{readv_scatters, scatters_called, scatters_keeps, accessible_within, fails_stopped}
use Rattle.bridge_io.proofs.vectors.fill_buffers.Goals as goal

pub returns-in_err-fresh_room-clause-row : goal.returns-in_err-fresh_room-clause-row
returns-in_err-fresh_room-clause-row g c = λ guest address count same memory right left told.
    fails_before (readv_row c.args.below.now.kernel.now guest c.args.fd address count left) c.from_residual.result _ _ _ _ c.from_residual.ensures.0

pub returns-in_err-reply-clause-row : goal.returns-in_err-reply-clause-row
returns-in_err-reply-clause-row g c = λ guest address count same memory right left told.
    let zeros : c.fresh_room.new.mem ≡ replicate (all_accessible c.args.space.now c.args.buffers.now) 0 = c.in_ok-fresh_room.ensures ∙ ap (λ (n : ℕ). replicate n 0) c.accessible-room.ensures in
    let scatters = readv_scatters guest c.args.below.now.kernel.now left c.from.result c.from-2.result c.args.fd address count c.args.buffers.now c.args.space.now c.fresh_room.new.mem right memory zeros c.from.ensures (c.from-2.ensures ∙ c.total-total.ensures.value) c.ranges.fd.fits in
    fails_stopped (readv_row c.args.below.now.kernel.now guest c.args.fd address count left) c.from_residual-in_err-reply.result c.native.new.self.kernel.now c.args.space.now guest.processor (contents g.I.Source.left g.O.Sink.written g.E.Sink.written c.args.dev.now) (contents g.I.Source.left g.O.Sink.written g.E.Sink.written c.native.new.dev) c.from_residual-in_err-reply.ensures.0
    (stopped_alike scatters.alike (c.in_err-reply.ensures.row left told))

pub returns-in_err-scatter_back-clause-row : goal.returns-in_err-scatter_back-clause-row
returns-in_err-scatter_back-clause-row g c = λ guest address count same memory right left told.
    let zeros : c.fresh_room.new.mem ≡ replicate (all_accessible c.args.space.now c.args.buffers.now) 0 = c.in_ok-fresh_room.ensures ∙ ap (λ (n : ℕ). replicate n 0) c.accessible-room.ensures in
    let scatters = readv_scatters guest c.args.below.now.kernel.now left c.from.result c.from-2.result c.args.fd address count c.args.buffers.now c.args.space.now c.fresh_room.new.mem right memory zeros c.from.ensures (c.from-2.ensures ∙ c.total-total.ensures.value) c.ranges.fd.fits in
    fails_stopped (readv_row c.args.below.now.kernel.now guest c.args.fd address count left) c.from_residual-in_err-scatter_back.result c.native.new.self.kernel.now c.scatter_back.new.space guest.processor (contents g.I.Source.left g.O.Sink.written g.E.Sink.written c.args.dev.now) (contents g.I.Source.left g.O.Sink.written g.E.Sink.written c.native.new.dev) c.from_residual-in_err-scatter_back.ensures.0
    (stopped_after scatters.alike (c.in_ok-reply.ensures.row left told))

pub returns-clause-row : goal.returns-clause-row
returns-clause-row g c = λ guest address count same memory right left told.
    let room = c.fresh_room.new.mem in
    let zeros : room ≡ replicate (all_accessible c.args.space.now c.args.buffers.now) 0 = c.in_ok-fresh_room.ensures ∙ ap (λ (n : ℕ). replicate n 0) c.accessible-room.ensures in
    let long : length room ≡ all_accessible c.args.space.now c.args.buffers.now = ap length zeros ∙ length-replicate {A = ℕ} (all_accessible c.args.space.now c.args.buffers.now) 0 in
    let short : length room < 2 ^ 32 = omega (arith, long, accessible_within c.args.space.now c.args.buffers.now, c.total-total.ensures.value, c.total-total.ensures.bound) in
    scatters_called c.outcome_of.result c.args.space.now c.scatter_back.new.space memory long short
    (readv_scatters guest c.args.below.now.kernel.now left c.from.result c.from-2.result c.args.fd address count c.args.buffers.now c.args.space.now room right memory zeros c.from.ensures (c.from-2.ensures ∙ c.total-total.ensures.value) c.ranges.fd.fits)
    (c.in_ok-reply.ensures.row left told) c.in_ok-scatter_back.ensures.stored
    (c.outcome_of.ensures ∙ ap (λ (w : CallWords). outcome_of w c.in_ok-reply.reply) (sym same))

pub returns-clause-kept : goal.returns-clause-kept
returns-clause-kept g c = λ guest address count same memory right left told.
    let room = c.fresh_room.new.mem in
    let zeros : room ≡ replicate (all_accessible c.args.space.now c.args.buffers.now) 0 = c.in_ok-fresh_room.ensures ∙ ap (λ (n : ℕ). replicate n 0) c.accessible-room.ensures in
    let long : length room ≡ all_accessible c.args.space.now c.args.buffers.now = ap length zeros ∙ length-replicate {A = ℕ} (all_accessible c.args.space.now c.args.buffers.now) 0 in
    let nstep = native_call 63 (c.from.result ∷ 65536 ∷ c.from-2.result ∷ 0 ∷ 0 ∷ 0 ∷ []) c.args.below.now.kernel.now room left in
    scatters_keeps c.args.space.now c.scatter_back.new.space c.args.below.now.kernel.now left c.args.below.now.log.now c.scatter_back.new.log memory long
    (readv_scatters guest c.args.below.now.kernel.now left c.from.result c.from-2.result c.args.fd address count c.args.buffers.now c.args.space.now room right memory zeros c.from.ensures (c.from-2.ensures ∙ c.total-total.ensures.value) c.ranges.fd.fits)
    (c.in_ok-reply.ensures.row left told) c.in_ok-scatter_back.ensures.stored
    (subst (λ (n : Option (List LogEntry)). Logged c.args.below.now.log.now.native n (opening c.args.below.now.kernel.now left) (moment nstep.kernel nstep.left nstep.sent)) (sym c.scatter_back.ensures.native) (c.in_ok-reply.ensures.kept left told nothing))
    (subst (λ (o : Option (List Effect)). Effected o c.scatter_back.new.log.effects (reached guest.processor c.args.space.now.pages nothing) (reached guest.processor c.scatter_back.new.space.pages nothing)) c.native.ensures.effects
    (c.in_ok-scatter_back.ensures.effects guest.processor nothing))
