-- The structure that the native call put into host memory is that of the o32 call.
use Rattle.std.proofs.Common.{◌≡◌, ℕ, List, Option, replicate, sym, ap, subst, ◌∙◌}
use Rattle.kernel_core.specs.declared.log_entry.LogEntry.{LogEntry}
use Rattle.kernel_core.specs.declared.record.Effect.{Effect}
use Rattle.kernel_model.specs.Pipes.{nothing}
use Rattle.native_calls.specs.History.{moment, opening}
use Rattle.native_calls.specs.Table.{native_call}
use Rattle.o32_model.specs.Effects.{Effected}
use Rattle.o32_model.specs.declared.call_words.CallWords.{CallWords}
use Rattle.bridge_log.proofs.Ends.{fails_before}
use Rattle.bridge_log.specs.Keeping.{Logged, reached}
use Rattle.bridge_log.specs.Outcomes.{outcome_of}
use Rattle.bridge_io.proofs.Storing.{stores_called, stores_keeps}
use Rattle.bridge_io.specs.inside.Stores.{Stores, size}
use Rattle.bridge_io.proofs.structures.store_call.Goals as goal

pub returns-in_err-fresh_room-clause-row : goal.returns-in_err-fresh_room-clause-row
returns-in_err-fresh_room-clause-row g c = λ guest step same memory stores left told.
    fails_before (step left) c.from_residual.result _ _ _ _ c.from_residual.ensures.0

pub returns-clause-row : goal.returns-clause-row
returns-clause-row g c = λ guest step same memory stores left told.
    let zeros : c.fresh_room.new.mem ≡ replicate (size c.args.to.structure) 0 = c.in_ok-fresh_room.ensures ∙ ap (λ (n : ℕ). replicate n 0) c.size.ensures in
    let stored = subst (λ (m : List ℕ). Stores guest c.args.to.address c.args.to.structure (native_call c.args.call.nr c.args.call.args c.args.below.now.kernel.now m left) (step left)) (sym zeros) (stores left) in
    stores_called c.outcome_of.result c.args.space.now c.put_structure.new.space memory stored (c.in_ok-reply.ensures.row left told) c.in_ok-put_structure.ensures.stored
    (c.outcome_of.ensures ∙ ap (λ (w : CallWords). outcome_of w c.in_ok-reply.reply) (sym same))

pub returns-clause-kept : goal.returns-clause-kept
returns-clause-kept g c = λ guest step same memory stores left told.
    let zeros : c.fresh_room.new.mem ≡ replicate (size c.args.to.structure) 0 = c.in_ok-fresh_room.ensures ∙ ap (λ (n : ℕ). replicate n 0) c.size.ensures in
    let stored = subst (λ (m : List ℕ). Stores guest c.args.to.address c.args.to.structure (native_call c.args.call.nr c.args.call.args c.args.below.now.kernel.now m left) (step left)) (sym zeros) (stores left) in
    let nstep = native_call c.args.call.nr c.args.call.args c.args.below.now.kernel.now c.fresh_room.new.mem left in
    stores_keeps c.args.space.now c.put_structure.new.space c.args.below.now.kernel.now left c.args.below.now.log.now c.put_structure.new.log memory stored (c.in_ok-reply.ensures.row left told) c.in_ok-put_structure.ensures.stored
    (subst (λ (n : Option (List LogEntry)). Logged c.args.below.now.log.now.native n (opening c.args.below.now.kernel.now left) (moment nstep.kernel nstep.left nstep.sent)) (sym c.put_structure.ensures.native) (c.in_ok-reply.ensures.kept left told nothing))
    (subst (λ (o : Option (List Effect)). Effected o c.put_structure.new.log.effects (reached guest.processor c.args.space.now.pages nothing) (reached guest.processor c.put_structure.new.space.pages nothing)) c.native.ensures.effects
    (c.in_ok-put_structure.ensures.effects guest.processor nothing))
