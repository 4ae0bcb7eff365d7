-- utimensat(2), by what becomes of the times once what was asked for is checked.
use Rattle.std.proofs.Common.{◌≡◌, ℕ, ℤ, Bool, List, Option, Some, None, refl, sym, subst}
use Rattle.std.specs.Prelude.{◌||◌, Result, Ok, Err}
use Rattle.kernel_core.specs.declared.core_error.CoreError.TheVariants as errors
use Rattle.kernel_core.specs.declared.error.Errno.{Errno}
use Rattle.kernel_core.specs.declared.error.Errno.TheVariants.{EINVAL}
use Rattle.kernel_model.specs.Came.{Did, Given, given_or_none, refused, refused_if, with_given, with_some}
use Rattle.kernel_model.specs.NodeRows as rows
use Rattle.kernel_model.specs.Paths.{Base, Working, Descriptor}
use Rattle.kernel_model.specs.State.{Files}
use Rattle.native_files.specs.Answers.{Answers, came_of}
use Rattle.native_files.specs.declared.node_times.AskedTimes.{AskedTimes}
use Rattle.native_files.specs.inside.NewTimes.{asked_times, both, then_follow, times_of_base, times_of_path, where_right, with_follow}
use Rattle.native_files.specs.inside.NodeSteps.{wide}

module _ (files : Files) (now : ℤ) (base : Base) where
  abbrev pub times_at : Option (List ℕ) → AskedTimes → Did Files (Unit {0})
  times_at (Some path) asked = times_of_path files now base path asked
  times_at None asked = times_of_base files now asked.times base

  at_base : (changes : rows.TimeChanges) (follow : Bool) (base : Base)
      → rows.times_on files now changes base follow None ≡ times_of_base files now (record { access = rows.new_time changes.access; modified = rows.new_time changes.modified }) base
  at_base changes follow Working = refl
  at_base changes follow (Descriptor fd) = refl

  right : (changes : rows.TimeChanges) (follow : Option Bool) (path : Option (List ℕ))
      → with_some files EINVAL follow (λ follow. rows.times_on files now changes base follow path)
      ≡ with_given files (with_follow (record { access = rows.new_time changes.access; modified = rows.new_time changes.modified }) follow) (times_at path)
  right changes None path = refl
  right changes (Some follow) (Some path) = refl
  right changes (Some follow) None = at_base changes follow base

  abbrev checked : rows.TimeChanges → Option Bool → Option (List ℕ) → Did Files (Unit {0})
  checked changes follow path =
      refused_if (rows.is_wrong changes.access || rows.is_wrong changes.modified) EINVAL files (
      with_some files EINVAL follow (λ follow. rows.times_on files now changes base follow path))

  either_wrong : (access modified : rows.TimeChange) (follow : Option Bool) (path : Option (List ℕ))
      → checked (record { access = access; modified = modified }) follow path ≡ with_given files (then_follow (both (where_right access) (where_right modified)) follow) (times_at path)
  either_wrong rows.Wrong modified follow path = refl
  either_wrong rows.Leave rows.Wrong follow path = refl
  either_wrong (rows.SetTo time) rows.Wrong follow path = refl
  either_wrong rows.Leave rows.Leave follow path = right (record { access = rows.Leave; modified = rows.Leave }) follow path
  either_wrong rows.Leave (rows.SetTo other) follow path = right (record { access = rows.Leave; modified = rows.SetTo other }) follow path
  either_wrong (rows.SetTo time) rows.Leave follow path = right (record { access = rows.SetTo time; modified = rows.Leave }) follow path
  either_wrong (rows.SetTo time) (rows.SetTo other) follow path = right (record { access = rows.SetTo time; modified = rows.SetTo other }) follow path

  by_times : (times : Given (Option rows.Times)) (follow : Option Bool) (path : Option (List ℕ))
      → with_given files times (λ times. checked (rows.time_changes now times) follow path) ≡ with_given files (asked_times now times follow) (times_at path)
  by_times (Err error) follow path = refl
  by_times (Ok None) follow path = right (record { access = rows.SetTo now; modified = rows.SetTo now }) follow path
  by_times (Ok (Some times)) follow path = either_wrong (rows.time_change now times.access) (rows.time_change now times.modified) follow path

  pub times-asked : (path : Option (Given (List ℕ))) (times : Option (Given rows.Times)) (follow : Option Bool)
      → rows.set_times files now base path times follow ≡ with_given files (given_or_none path) (λ path. with_given files (asked_times now (given_or_none times) follow) (times_at path))
  unfolding rows.set_times
  times-asked path times follow = by (given_or_none path)
    where
      by : (given : Given (Option (List ℕ)))
          → with_given files given (λ path. with_given files (given_or_none times) (λ times. checked (rows.time_changes now times) follow path))
          ≡ with_given files given (λ path. with_given files (asked_times now (given_or_none times) follow) (times_at path))
      by (Err error) = refl
      by (Ok path) = by_times (given_or_none times) follow path

-- the answer of a call that takes no memory
pub sure-answers : (step : Did Files (Unit {0})) (result : Result (Unit {0}) Errno) (state : Files) → came_of result ≡ step.came → state ≡ step.state → Answers step (wide result) state
sure-answers step (Ok value) state came became = (sym came, became)
sure-answers step (Err error) state came became = (sym came, became)

-- a row that is refused before anything changes
pub refused-answers : (step : Did Files (Unit {0})) (files : Files) (error : Errno) → step ≡ refused files error → Answers {V = Unit {0}} step (Err (errors.Refused error)) files
refused-answers step files error is = subst (λ (s : Did Files (Unit {0})). Answers s (Err (errors.Refused error)) files) (sym is) (refl, refl)
