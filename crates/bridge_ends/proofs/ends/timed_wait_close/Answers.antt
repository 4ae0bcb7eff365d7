-- The end of a sleep, or of a wait for descriptors.
use Rattle.std.proofs.Common.{◌≡◌, ◌∙◌, ap, sym}
use Rattle.std.specs.Prelude.{Result, Ok, Err, IfOk, OnOk}
use Rattle.bridge_poll.specs.Passed.{Keeps}
use Rattle.bridge_ends.proofs.KeptEnds.{sleep_keeps}
use Rattle.bridge_ends.proofs.SameEnds.{by_select, closes_as}
use Rattle.bridge_poll.specs.Passed.{reached}
use Rattle.bridge_select.specs.Ends.{select_ended}
use Rattle.kernel_core.specs.declared.core_error.Stop.{Stop}
use Rattle.kernel_model.specs.Pipes.{Sent}
use Rattle.mips_exec.specs.Processor.{Processor}
use Rattle.o32_model.specs.Effects.{Effected}
use Rattle.o32_model.specs.WaitEnds.{WaitEnd, ends_with, wait_ended}
use Rattle.o32_model.specs.declared.wait.Close.{Close}
use Rattle.outside.specs.Streams.{contents}
use Rattle.bridge_ends.proofs.ends.timed_wait_close.Goals as goal

pub returns-then-is_sleep-clause-kept : goal.returns-then-is_sleep-clause-kept
returns-then-is_sleep-clause-kept g c left told =
    by c.wait_end.result c.wait_end.ensures.ends c.wait_end.ensures.effects where
      by : (result : Result Close Stop)
          → IfOk result (λ close. wait_ended c.args.wait.now c.args.cause c.args.clock c.args.below.now.kernel.now c.args.space.now ≡ ends_with close c.wait_end.new.below.kernel.now c.wait_end.new.space)
          → OnOk result ((processor : Processor) (sent : Sent) → Effected c.args.below.now.log.now.effects c.wait_end.new.below.log.now.effects (reached processor c.args.space.now.pages sent) (reached processor c.wait_end.new.space.pages sent))
          → OnOk result (Keeps c.args.below.now.kernel.now c.wait_end.new.below.kernel.now c.args.space.now.pages c.wait_end.new.space.pages left c.args.below.now.log.now c.wait_end.new.below.log.now)
      by (Ok close) ends effects =
          sleep_keeps c.args.wait.now c.args.cause c.args.clock c.args.below.now.kernel.now c.wait_end.new.below.kernel.now c.args.space.now c.wait_end.new.space.pages left c.args.below.now.log.now c.wait_end.new.below.log.now
          (sym c.is_sleep.ensures ∙ c.if-is_sleep.true) (sym (ap (λ (e : WaitEnd). e.kernel) ends)) c.wait_end.ensures.native effects
      by (Err stop) ends effects = tt

pub returns-clause-ends : goal.returns-clause-ends
returns-clause-ends g c =
    closes_as (select_ended c.args.wait.now c.args.cause c.args.clock c.args.below.now.kernel.now c.args.space.now) (wait_ended c.args.wait.now c.args.cause c.args.clock c.args.below.now.kernel.now c.args.space.now)
    c.select_end.result c.select_end.new.below.kernel.now c.select_end.new.space (contents g.I.Source.left g.O.Sink.written g.E.Sink.written c.args.dev.now) (contents g.I.Source.left g.O.Sink.written g.E.Sink.written c.select_end.new.dev)
    (by_select c.args.wait.now c.args.cause c.args.clock c.args.below.now.kernel.now c.args.space.now (sym c.is_sleep.ensures ∙ c.if-is_sleep.false) (sym c.is_poll_call.ensures ∙ c.if-is_poll_call.false))
    c.select_end.ensures.ends
