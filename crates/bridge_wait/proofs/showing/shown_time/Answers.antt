-- The time that the native clock shows, unless it is late
use Rattle.std.proofs.Common.{◌≡◌, ◌∙◌, Bool, Result, ap, subst, sym}
use Rattle.kernel_core.specs.declared.error.Errno.{Errno}
use Rattle.kernel_model.specs.State.{Kernel}
use Rattle.outside.specs.Streams.{contents}
use Rattle.bridge_wait.proofs.ClockLooks.{late_or, shown_some}
use Rattle.bridge_log.proofs.Looking.{looked_then, still_told}
use Rattle.bridge_wait.specs.declared.clock_times.ClockTime.{ClockTime}
use Rattle.bridge_log.specs.Looks.{Looked}
use Rattle.bridge_wait.specs.inside.Shown.{clock_of}
use Rattle.bridge_wait.proofs.showing.shown_time.Goals as goal

pub returns-in-Some-clause-looks : goal.returns-in-Some-clause-looks
returns-in-Some-clause-looks g c = λ left told.
    let seen = c.in_ok-clock_shown.ensures.looks left told in
    let before = contents g.I.Source.left g.O.Sink.written g.E.Sink.written c.args.dev.now in
    let between = contents g.I.Source.left g.O.Sink.written g.E.Sink.written c.clock_shown.new.dev in
    let after = contents g.I.Source.left g.O.Sink.written g.E.Sink.written c.unless_late.new.dev in
    subst (λ (what : Result ClockTime Errno). Looked (λ shown. shown ≡ what) c.unless_late.result c.args.below.now.kernel.now c.unless_late.new.below.kernel.now before after left c.args.below.now.log.now c.unless_late.new.below.log.now)
    (ap (λ (real : Bool). late_or (clock_of c.args.below.now.kernel.now real) c.in-Some.time) c.is_real_clock.ensures
    ∙ shown_some c.args.below.now.kernel.now c.args.quanta c.args.clock c.in-Some.time (sym c.is_cpu_clock.ensures ∙ c.if-is_cpu_clock.false) (sym seen.0 ∙ c.in-Some.is))
    (looked_then (λ (kernel : Kernel) (shown : Result ClockTime Errno). shown ≡ late_or (clock_of kernel c.is_real_clock.result) c.in-Some.time) c.unless_late.result
    c.args.below.now.kernel.now c.clock_shown.new.below.kernel.now c.unless_late.new.below.kernel.now before between after left c.args.below.now.log.now c.clock_shown.new.below.log.now c.unless_late.new.below.log.now seen.1
    (c.unless_late.ensures.looks left (still_told seen.1 told)))
