use Rattle.std.proofs.Common.{◌≡◌, ◌∙◌, Bool, true, false, sym, ap, rules}
use Rattle.kernel_core.specs.declared.error.Errno.TheVariants.{EPERM}
use Rattle.kernel_model.specs.Came.{refused_if}
use Rattle.kernel_model.specs.SignalRows.{is_on, shown_stack}
use Rattle.kernel_model.specs.declared.signal.SigStack.{SigStack}
use Rattle.std.specs.Prelude.{Some}
use Rattle.outside.specs.Streams.{contents}
use Rattle.bridge_signal_state.proofs.Moving.{acted_as, moves_none}
use Rattle.bridge_signal.specs.inside.Stacks.{set_from, set_taken}
use Rattle.bridge_signal.specs.inside.Told.{did}
use Rattle.bridge_signal.proofs.stacks.set_unless_on.Goals as goal

pub returns-then-is_on-clause-acts : goal.returns-then-is_on-clause-acts
returns-then-is_on-clause-acts g c = λ left told.
    let on : is_on c.args.before (Some c.args.sp) ≡ true = search rules in (
      ap (λ (b : Bool). refused_if b EPERM c.args.below.now.kernel.now (set_taken c.args.below.now.kernel.now (shown_stack c.args.before (Some c.args.sp)) c.args.new)) on,
      moves_none c.args.below.now.kernel.now (contents g.I.Source.left g.O.Sink.written g.E.Sink.written c.args.dev.now) left c.args.below.now.log.now,
    )

pub returns-clause-acts : goal.returns-clause-acts
returns-clause-acts g c = λ left told.
    let off : is_on c.args.before (Some c.args.sp) ≡ false = search rules in
    acted_as (λ found became. set_taken c.args.below.now.kernel.now c.shown_stack.result c.args.new ≡ did became found) (λ found became. set_from c.args.below.now.kernel.now c.args.before c.args.sp (Some c.args.new) ≡ did became found) c.take.result c.args.below.now.kernel.now c.take.new.below.kernel.now
    (contents g.I.Source.left g.O.Sink.written g.E.Sink.written c.args.dev.now) (contents g.I.Source.left g.O.Sink.written g.E.Sink.written c.take.new.dev) left c.args.below.now.log.now c.take.new.below.log.now
    (λ found is. ap (λ (b : Bool). refused_if b EPERM c.args.below.now.kernel.now (set_taken c.args.below.now.kernel.now (shown_stack c.args.before (Some c.args.sp)) c.args.new)) off
    ∙ ap (λ (s : SigStack). set_taken c.args.below.now.kernel.now s c.args.new) (sym c.shown_stack.ensures) ∙ is)
    (c.take.ensures.acts left told)
