-- What the native call told is what the o32 call tells.
use Rattle.std.proofs.Common.{Option, List, sym, subst}
use Rattle.kernel_core.specs.declared.log_entry.LogEntry.{LogEntry}
use Rattle.kernel_core.specs.declared.record.Effect.{Effect}
use Rattle.kernel_model.specs.Pipes.{nothing}
use Rattle.native_calls.specs.History.{moment, opening}
use Rattle.native_calls.specs.Table.{native_call}
use Rattle.o32_model.specs.Effects.{Effected}
use Rattle.bridge_paths.specs.Passed.{Logged, reached}
use Rattle.bridge_file.proofs.Tellings.{tells_called, tells_keeps}
use Rattle.bridge_file.proofs.telling.tell_call.Goals as goal

pub returns-clause-row : goal.returns-clause-row
returns-clause-row g c = λ guest step same memory tells left told.
    tells_called c.in_ok-outcome.outcome c.args.words.now c.args.space.now c.tell.new.space same memory (tells left) (c.in_ok-reply.ensures.row left told) c.in_ok-outcome.ensures.stored c.in_ok-outcome.ensures.outcome

pub returns-clause-kept : goal.returns-clause-kept
returns-clause-kept g c = λ guest step same memory tells left told.
    let nstep = native_call c.args.call.nr c.args.call.args c.args.below.now.kernel.now c.args.below.now.memory.now left in
    tells_keeps c.args.space.now c.tell.new.space c.args.below.now.kernel.now left c.args.below.now.log.now c.tell.new.log memory (tells left) (c.in_ok-reply.ensures.row left told) c.in_ok-outcome.ensures.stored
    (subst (λ (n : Option (List LogEntry)). Logged c.args.below.now.log.now.native n (opening c.args.below.now.kernel.now left) (moment nstep.kernel nstep.left nstep.sent)) (sym c.tell.ensures.native) (c.in_ok-reply.ensures.kept left told nothing))
    (subst (λ (o : Option (List Effect)). Effected o c.tell.new.log.effects (reached guest.processor c.args.space.now.pages nothing) (reached guest.processor c.tell.new.space.pages nothing)) c.native.ensures.effects
    (c.in_ok-outcome.ensures.effects guest.processor nothing))
