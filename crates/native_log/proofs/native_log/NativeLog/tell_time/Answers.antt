-- The time is told, where the timer is not due.
use Rattle.std.proofs.Common.{◌≡◌, ◌∙◌, ℕ, List, sym}
use Rattle.kernel_model.specs.Pipes.{Sent}
use Rattle.kernel_model.specs.State.{Kernel}
use Rattle.native_log.proofs.Telling.{on_ok, time_told, waits}
use Rattle.native_log.specs.inside.Entries.{with_time}
use Rattle.native_log.proofs.native_log.NativeLog.tell_time.Goals as goal

pub returns-clause-leads : goal.returns-clause-leads
returns-clause-leads c =
    on_ok c.keep_time.result _ _ (λ (is : c.keep_time.new.self ≡ with_time c.args.clock c.args.self.now). λ kernel left sent same next.
    time_told c.args.self.now c.keep_time.new.self c.args.clock kernel left sent is c.requires.behind
    (waits c.args.clock kernel.timer c.args.next next (sym c.has_come.ensures ∙ c.if-has_come.false))) c.keep_time.ensures.kept
