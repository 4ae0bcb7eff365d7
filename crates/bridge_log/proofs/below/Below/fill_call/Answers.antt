-- The bytes that the native call put into host memory are those of the o32 call.
use Rattle.std.proofs.Common.{◌≡◌, ℕ, ◌<◌, ◌^◌, List, Option, length, replicate, sym, ap, subst, ◌∙◌, arith}
use Rattle.std.proofs.lemmas.List.{length-replicate}
use Rattle.guest_space.specs.Access.{writable_prefix}
use Rattle.kernel_core.specs.declared.log_entry.LogEntry.{LogEntry}
use Rattle.kernel_core.specs.declared.record.Effect.{Effect}
use Rattle.kernel_model.specs.Pipes.{nothing}
use Rattle.native_calls.specs.History.{moment, opening}
use Rattle.native_calls.specs.Table.{native_call}
use Rattle.o32_model.specs.Effects.{Effected}
use Rattle.o32_model.specs.GuestBytes.{with_stored}
use Rattle.o32_model.specs.declared.call_words.CallWords.{CallWords}
use Rattle.bridge_log.proofs.Ends.{fails_before}
use Rattle.bridge_log.proofs.Filling.{fills_called, fills_keeps}
use Rattle.bridge_log.specs.Fills.{Fills}
use Rattle.bridge_log.specs.Keeping.{Logged, reached}
use Rattle.bridge_log.specs.Outcomes.{outcome_of}
use Rattle.bridge_log.proofs.below.Below.fill_call.Goals as goal

pub returns-in_err-fresh_room-clause-row : goal.returns-in_err-fresh_room-clause-row
returns-in_err-fresh_room-clause-row g c = λ guest step same memory fills left told.
    fails_before (step left) c.from_residual.result _ _ _ _ c.from_residual.ensures.0

pub returns-clause-row : goal.returns-clause-row
returns-clause-row g c = λ guest step same memory fills left told.
    let room = c.fresh_room.new.mem in
    let zeros : room ≡ replicate (writable_prefix c.args.space.now.pages c.args.buffer c.args.count) 0 = c.in_ok-fresh_room.ensures ∙ ap (λ (n : ℕ). replicate n 0) c.writable-room.ensures.value in
    let long : length room ≡ c.writable-room.result = ap length c.in_ok-fresh_room.ensures ∙ length-replicate c.writable-room.result 0 in
    let short : length room < 2 ^ 32 = omega (arith, long, c.writable-room.ensures.bound, c.ranges.count.fits) in
    let filled = subst (λ (m : List ℕ). Fills guest c.args.buffer m (native_call c.args.nr c.args.args c.args.self.now.kernel.now m left) (step left)) (sym zeros) (fills left) in
    fills_called c.outcome_of.result c.args.space.now c.put_some.new.space memory short
    (λ k within. c.writable-room.ensures.free k (omega (arith, long, within)))
    filled (c.in_ok-reply.ensures.row left told) (c.in_ok-put_some.ensures.stored ∙ ap (with_stored c.args.space.now c.args.buffer) c.bytes_back.ensures)
    (c.outcome_of.ensures ∙ ap (λ (w : CallWords). outcome_of w c.in_ok-reply.reply) (sym same))

pub returns-clause-kept : goal.returns-clause-kept
returns-clause-kept g c = λ guest step same memory fills left told.
    let room = c.fresh_room.new.mem in
    let zeros : room ≡ replicate (writable_prefix c.args.space.now.pages c.args.buffer c.args.count) 0 = c.in_ok-fresh_room.ensures ∙ ap (λ (n : ℕ). replicate n 0) c.writable-room.ensures.value in
    let long : length room ≡ c.writable-room.result = ap length c.in_ok-fresh_room.ensures ∙ length-replicate c.writable-room.result 0 in
    let filled = subst (λ (m : List ℕ). Fills guest c.args.buffer m (native_call c.args.nr c.args.args c.args.self.now.kernel.now m left) (step left)) (sym zeros) (fills left) in
    let nstep = native_call c.args.nr c.args.args c.args.self.now.kernel.now room left in
    fills_keeps c.args.space.now c.put_some.new.space c.args.self.now.kernel.now left c.args.self.now.log.now c.put_some.new.log memory
    (λ k within. c.writable-room.ensures.free k (omega (arith, long, within)))
    filled (c.in_ok-reply.ensures.row left told) (c.in_ok-put_some.ensures.stored ∙ ap (with_stored c.args.space.now c.args.buffer) c.bytes_back.ensures)
    (subst (λ (n : Option (List LogEntry)). Logged c.args.self.now.log.now.native n (opening c.args.self.now.kernel.now left) (moment nstep.kernel nstep.left nstep.sent)) (sym c.put_some.ensures.native) (c.in_ok-reply.ensures.kept left told nothing))
    (subst (λ (o : Option (List Effect)). Effected o c.put_some.new.log.effects (reached guest.processor c.args.space.now.pages nothing) (reached guest.processor c.put_some.new.space.pages nothing)) c.native.ensures.effects
    (c.in_ok-put_some.ensures.effects guest.processor nothing))
