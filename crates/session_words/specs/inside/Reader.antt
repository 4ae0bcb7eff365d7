-- How the values of the reader of words stand for the definitions of `Words`.
use Rattle.std.specs.Prelude.{ℕ, ◌≡◌, List, Option, Some, None}
use Rattle.session_words.specs.Words.{role_of, ImageOption, ScheduleOption, BudgetOption, TraceOption, NativeOption, JournalOption, SaveOption, EnvOption, ProgramName, NoOption, Line, Reading, Asks, WrongAt, texts}
use Rattle.session_words.specs.inside.Steps.{Option_or_program, Image_value, Schedule_value, Budget_value, Trace_value, Native_value, Journal_value, Save_value, Env_value, Goes_on, Is_program, Is_wrong}
use Rattle.session_words.specs.Words as Words
use Rattle.session_words.specs.inside.Steps as Steps
use Rattle.session_words.specs.declared.words.Role.{Role}
use Rattle.session_words.specs.declared.words.Role.TheVariants.{Image, Schedule, Budget, Trace, Native, Journal, Save, Environment, Program, Unknown}
use Rattle.session_words.specs.declared.words.Expected.{Expected}
use Rattle.session_words.specs.declared.words.Expected.TheVariants.{OptionOrProgram, ImageValue, ScheduleValue, BudgetValue, TraceValue, NativeValue, JournalValue, SaveValue, EnvironmentValue}
use Rattle.session_words.specs.declared.words.Step.{Step}
use Rattle.session_words.specs.declared.words.Step.TheVariants.{GoesOn, IsProgram, IsWrong}
use Rattle.session_words.specs.declared.words.Options.{Options}

abbrev pub role_seen : Role → Words.Role
role_seen Image = ImageOption
role_seen Schedule = ScheduleOption
role_seen Budget = BudgetOption
role_seen Trace = TraceOption
role_seen Native = NativeOption
role_seen Journal = JournalOption
role_seen Save = SaveOption
role_seen Environment = EnvOption
role_seen Program = ProgramName
role_seen Unknown = NoOption

abbrev pub IsRole : List ℕ → Role → Type 0
IsRole word role = role_seen role ≡ role_of word

abbrev pub expected_seen : Expected → Steps.Expected
expected_seen OptionOrProgram = Option_or_program
expected_seen ImageValue = Image_value
expected_seen ScheduleValue = Schedule_value
expected_seen BudgetValue = Budget_value
expected_seen TraceValue = Trace_value
expected_seen NativeValue = Native_value
expected_seen JournalValue = Journal_value
expected_seen SaveValue = Save_value
expected_seen EnvironmentValue = Env_value

abbrev pub options_seen : Options → Words.Options
options_seen options = record {
  image = options.image;
  schedule = options.schedule;
  budget = options.budget;
  trace = options.trace;
  native = options.native;
  journal = options.journal;
  save = options.save;
  environment = texts options.environment.items;
}

-- the step that the reader takes, from the options before to those after, is the one that is defined
abbrev pub StepIs : Steps.Step → Step → Options → Options → Type 0
StepIs step (GoesOn next) before after = step ≡ Goes_on (expected_seen next) (options_seen after)
StepIs step IsProgram before after = (step ≡ Is_program) × (options_seen after ≡ options_seen before)
StepIs step IsWrong before after = step ≡ Is_wrong

-- the guest's words, of which the first that is wrong is given
abbrev pub guest_reading : Line → Option ℕ → Reading
guest_reading line None = Asks line
guest_reading line (Some wrong) = WrongAt wrong
