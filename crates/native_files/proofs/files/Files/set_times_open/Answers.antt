use Rattle.std.proofs.Common.{◌≡◌, ℤ, None, sym, ap, subst, ◌∙◌}
use Rattle.std.proofs.Math.Facts.{to_z-of_z}
use Rattle.std.specs.Int.{w128}
use Rattle.std.specs.Prelude.{Result}
use Rattle.kernel_core.specs.declared.core_error.CoreError.{CoreError}
use Rattle.kernel_core.specs.declared.error.Errno.{Errno}
use Rattle.kernel_model.specs.Came.{Did, given_or_none, with_given}
use Rattle.kernel_model.specs.NodeRows as rows
use Rattle.kernel_model.specs.State.{Files}
use Rattle.native_files.specs.Answers.{Answers, base_of, times_given}
use Rattle.native_files.specs.declared.node_times.AskedTimes.{AskedTimes}
use Rattle.native_files.specs.inside.NewTimes.{asked_times, times_of_base}
use Rattle.native_files.specs.inside.NodeSteps.{wide}
use Rattle.native_files.proofs.TimesAsked.{refused-answers, sure-answers, times-asked, times_at}
use Rattle.native_files.proofs.files.Files.set_times_open.Goals as goal

pub returns-in-Err : goal.returns-in-Err
returns-in-Err c = record {
  row =
      let files = c.args.self.now in
      let same = to_z-of_z {w = w128} {z = c.args.now} c.ranges.now in
      let base = base_of c.args.base in
      let asked = c.in-Err.ensures.asked ∙ ap (λ (t : ℤ). asked_times t (given_or_none (times_given c.args.times)) c.args.follow) same in
      refused-answers (rows.set_times files c.args.now base None (times_given c.args.times) c.args.follow) files c.in-Err.error
      (times-asked files c.args.now base None (times_given c.args.times) c.args.follow ∙ ap (λ (r : Result AskedTimes Errno). with_given files r (times_at files c.args.now base None)) (sym asked));
}

pub returns-in-Ok : goal.returns-in-Ok
returns-in-Ok c = record {
  row =
      let files = c.args.self.now in
      let same = to_z-of_z {w = w128} {z = c.args.now} c.ranges.now in
      let base = base_of c.args.base in
      let times = c.in-Ok.asked.times in
      let asked = c.in-Ok.ensures.asked ∙ ap (λ (t : ℤ). asked_times t (given_or_none (times_given c.args.times)) c.args.follow) same in
      let is : rows.set_times files c.args.now base None (times_given c.args.times) c.args.follow ≡ times_of_base files c.args.now times base
      = times-asked files c.args.now base None (times_given c.args.times) c.args.follow ∙ ap (λ (r : Result AskedTimes Errno). with_given files r (times_at files c.args.now base None)) (sym asked) in
      let new = c.set_times_at.new.self in
      subst (λ (r : Result (Unit {0}) CoreError). Answers (rows.set_times files c.args.now base None (times_given c.args.times) c.args.follow) r new) (sym c.as_answer.ensures)
      (subst (λ (step : Did Files (Unit {0})). Answers step (wide c.set_times_at.result) new) (sym is)
      (sure-answers (times_of_base files c.args.now times base) c.set_times_at.result new
      (c.set_times_at.ensures.came ∙ ap (λ (t : ℤ). (times_of_base files t times base).came) same)
      (c.set_times_at.ensures.state ∙ ap (λ (t : ℤ). (times_of_base files t times base).state) same)));
}
