use Rattle.std.proofs.Common.{◌≡◌, ℤ, Err, Ok, Some, sym, ap, subst, ◌∙◌}
use Rattle.std.proofs.Math.Facts.{to_z-of_z}
use Rattle.std.specs.Int.{w128}
use Rattle.std.specs.Prelude.{Result}
use Rattle.kernel_core.specs.declared.error.Errno.{Errno}
use Rattle.kernel_model.specs.Came.{Did, given_or_none, with_given}
use Rattle.kernel_model.specs.NodeRows as rows
use Rattle.kernel_model.specs.State.{Files}
use Rattle.native_files.specs.Answers.{Answers, base_of, text_of, times_given}
use Rattle.native_files.specs.declared.node_times.AskedTimes.{AskedTimes}
use Rattle.native_files.specs.inside.NewTimes.{asked_times, times_of_path}
use Rattle.native_files.proofs.TimesAsked.{refused-answers, times-asked, times_at}
use Rattle.native_files.proofs.files.Files.set_times_by_path.Goals as goal

pub returns-in-Err : goal.returns-in-Err
returns-in-Err c = record {
  row =
      let files = c.args.self.now in
      let base = base_of c.args.base in
      refused-answers (rows.set_times files c.args.now base (Some (text_of c.args.path)) (times_given c.args.times) c.args.follow) files c.in-Err.error
      (ap (λ p. rows.set_times files c.args.now base (Some (text_of p)) (times_given c.args.times) c.args.follow) c.in-Err.is
      ∙ times-asked files c.args.now base (Some (text_of (Err c.in-Err.error))) (times_given c.args.times) c.args.follow);
}

pub returns-in-Err-asked_times : goal.returns-in-Err-asked_times
returns-in-Err-asked_times c = record {
  row =
      let files = c.args.self.now in
      let same = to_z-of_z {w = w128} {z = c.args.now} c.ranges.now in
      let base = base_of c.args.base in
      let asked = c.in-Err-asked_times.ensures.asked ∙ ap (λ (t : ℤ). asked_times t (given_or_none (times_given c.args.times)) c.args.follow) same in
      refused-answers (rows.set_times files c.args.now base (Some (text_of c.args.path)) (times_given c.args.times) c.args.follow) files c.in-Err-asked_times.error
      (ap (λ p. rows.set_times files c.args.now base (Some (text_of p)) (times_given c.args.times) c.args.follow) c.in-Ok.is
      ∙ times-asked files c.args.now base (Some (Ok c.in-Ok.path.now)) (times_given c.args.times) c.args.follow
      ∙ ap (λ (r : Result AskedTimes Errno). with_given files r (times_at files c.args.now base (Some c.in-Ok.path.now))) (sym asked));
}

pub returns-in-Ok-asked_times : goal.returns-in-Ok-asked_times
returns-in-Ok-asked_times c = record {
  row =
      let files = c.args.self.now in
      let same = to_z-of_z {w = w128} {z = c.args.now} c.ranges.now in
      let base = base_of c.args.base in
      let path = c.in-Ok.path.now in
      let taken = c.in-Ok-asked_times.asked in
      let asked = c.in-Ok-asked_times.ensures.asked ∙ ap (λ (t : ℤ). asked_times t (given_or_none (times_given c.args.times)) c.args.follow) same in
      let is : rows.set_times files c.args.now base (Some (text_of c.args.path)) (times_given c.args.times) c.args.follow ≡ times_of_path files c.args.now base path taken
      = ap (λ p. rows.set_times files c.args.now base (Some (text_of p)) (times_given c.args.times) c.args.follow) c.in-Ok.is
      ∙ times-asked files c.args.now base (Some (Ok path)) (times_given c.args.times) c.args.follow
      ∙ ap (λ (r : Result AskedTimes Errno). with_given files r (times_at files c.args.now base (Some path))) (sym asked) in
      subst (λ (step : Did Files (Unit {0})). Answers step c.set_times_named.result c.set_times_named.new.self) (sym is)
      (subst (λ (t : ℤ). Answers (times_of_path files t base path taken) c.set_times_named.result c.set_times_named.new.self) same c.set_times_named.ensures.row);
}
