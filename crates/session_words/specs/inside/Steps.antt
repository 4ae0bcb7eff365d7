-- How the reader goes over the words one by one. Only the private parts of the crate cite this.
use Rattle.std.specs.Prelude.{ℕ, ◌+◌, List, [], ◌∷◌, ◌++◌, if◌then◌else◌, is_some, Option, Some, None}
use Rattle.session_words.specs.Words.{Role, ImageOption, ScheduleOption, BudgetOption, TraceOption, NativeOption, JournalOption, SaveOption, EnvOption, ProgramName, NoOption, role_of, is_file_name, budget_of, is_setting, Options, line_of, Reading, WrongAt, read_guest}

-- what is looked for next: an option or PROGRAM, or the value of the option before
pub data Expected : Type 0 where
  Option_or_program : Expected
  Image_value : Expected
  Schedule_value : Expected
  Budget_value : Expected
  Trace_value : Expected
  Native_value : Expected
  Journal_value : Expected
  Save_value : Expected
  Env_value : Expected

-- what one word does: the reading goes on, or the word is PROGRAM, or it is wrong
pub data Step : Type 0 where
  Goes_on : Expected → Options → Step
  Is_program : Step
  Is_wrong : Step

-- a word in the place of an option: all but `--env` stand at most once
abbrev pub step_at_option : Options → Role → Step
step_at_option options ImageOption = if is_some options.image then Is_wrong else Goes_on Image_value options
step_at_option options ScheduleOption = if is_some options.schedule then Is_wrong else Goes_on Schedule_value options
step_at_option options BudgetOption = if is_some options.budget then Is_wrong else Goes_on Budget_value options
step_at_option options TraceOption = if is_some options.trace then Is_wrong else Goes_on Trace_value options
step_at_option options NativeOption = if is_some options.native then Is_wrong else Goes_on Native_value options
step_at_option options JournalOption = if is_some options.journal then Is_wrong else Goes_on Journal_value options
step_at_option options SaveOption = if is_some options.save then Is_wrong else Goes_on Save_value options
step_at_option options EnvOption = Goes_on Env_value options
step_at_option options ProgramName = Is_program
step_at_option options NoOption = Is_wrong

abbrev pub step_at_budget : Options → Option ℕ → Step
step_at_budget options None = Is_wrong
step_at_budget options (Some n) = Goes_on Option_or_program (record options { budget = Some n })

-- a value at index `at`, kept where it is one
abbrev pub step_at_image : ℕ → Options → List ℕ → Step
step_at_image at options word =
    if is_file_name word then Goes_on Option_or_program (record options { image = Some at }) else Is_wrong

abbrev pub step_at_schedule : ℕ → Options → List ℕ → Step
step_at_schedule at options word =
    if is_file_name word then Goes_on Option_or_program (record options { schedule = Some at }) else Is_wrong

abbrev pub step_at_trace : ℕ → Options → List ℕ → Step
step_at_trace at options word =
    if is_file_name word then Goes_on Option_or_program (record options { trace = Some at }) else Is_wrong

abbrev pub step_at_native : ℕ → Options → List ℕ → Step
step_at_native at options word =
    if is_file_name word then Goes_on Option_or_program (record options { native = Some at }) else Is_wrong

abbrev pub step_at_journal : ℕ → Options → List ℕ → Step
step_at_journal at options word =
    if is_file_name word then Goes_on Option_or_program (record options { journal = Some at }) else Is_wrong

abbrev pub step_at_save : ℕ → Options → List ℕ → Step
step_at_save at options word =
    if is_file_name word then Goes_on Option_or_program (record options { save = Some at }) else Is_wrong

abbrev pub step_at_setting : Options → List ℕ → Step
step_at_setting options word =
    if is_setting word
    then Goes_on Option_or_program (record options { environment = options.environment ++ word ∷ [] })
    else Is_wrong

-- the word of index `at`
abbrev pub step_of : ℕ → Expected → Options → List ℕ → Step
step_of at Option_or_program options word = step_at_option options (role_of word)
step_of at Image_value options word = step_at_image at options word
step_of at Schedule_value options word = step_at_schedule at options word
step_of at Budget_value options word = step_at_budget options (budget_of word)
step_of at Trace_value options word = step_at_trace at options word
step_of at Native_value options word = step_at_native at options word
step_of at Journal_value options word = step_at_journal at options word
step_of at Save_value options word = step_at_save at options word
step_of at Env_value options word = step_at_setting options word

-- what a step leads to: the reading goes on, the guest's words follow, or the word is wrong
abbrev pub after_step : ℕ → Reading → (Expected → Options → Reading) → Step → Reading
after_step at guest go_on (Goes_on next read) = go_on next read
after_step at guest go_on Is_program = guest
after_step at guest go_on Is_wrong = WrongAt at

-- the words from index `at` on
abbrev pub read_from : ℕ → Expected → Options → List (List ℕ) → Reading
read_from at expected options [] = WrongAt at
read_from at expected options (word ∷ rest) =
    after_step at (read_guest (line_of options at) (at + 1) rest) (λ next read. read_from (at + 1) next read rest)
    (step_of at expected options word)
