-- The words after the emulator's own name, as this project defines them:
--
--     run [--image F] [--schedule F] [--budget N] [--trace F] [--native F] [--journal F] [--save F]
--         [--env K=V].. PROGRAM [WORD..]
--     replay PROGRAM JOURNAL
--     soak N
--
-- Square brackets hold what may be absent, and `..` follows what may stand any number of times. Options stand before
-- PROGRAM in any order, each at most once but `--env`; a value is the next word, whatever it is. A word is given by its
-- bytes. What is wrong is named by the index, from 0, of the first word at which a reading from the left fails, or by
-- the number of words where one is missing. The names of files are compared last.
use Rattle.std.specs.Prelude.{◌≡◌, ℕ, ◌+◌, List, [], ◌∷◌, ◌++◌, length, map, Bool, false, ◌&&◌, not, if◌then◌else◌, nat_lt, nat_le, max, min, ◌==◌, slice_index, slice_index_or, drop, is_some, option_and_then, Option, Some, None, codes}
use Rattle.std.specs.List.{list_any, list_all}
use Rattle.std.specs.Option.{unwrap_or}
use Rattle.std.specs.Str.{bytes_eq}
use Rattle.std.specs.Char.{is_ascii_digit}
use Rattle.std.specs.Str.Parse.{digits_value}
use Rattle.std.specs.Prelude.{String}
use Rattle.std.specs.String.{string_bytes}

-- the bytes of each word
abbrev pub texts : {A : Type 0} → List (String A) → List (List ℕ)
texts words = map string_bytes words

-- no word holds a NUL
abbrev pub has_nul : List ℕ → Bool
has_nul word = list_any (λ byte. byte == 0) word

abbrev pub IsPlain : List ℕ → Type 0
IsPlain word = has_nul word ≡ false

-- decimal digits without a sign or a leading zero
abbrev pub is_plain_number : List ℕ → Bool
is_plain_number text = nat_lt 48 (slice_index text 0) && list_all is_ascii_digit text

abbrev pub greatest_budget : ℕ
greatest_budget = 1_000_000_000_000

abbrev pub up_to_greatest : ℕ → Option ℕ
up_to_greatest n = if nat_le n greatest_budget then Some n else None

-- N of `--budget N`: from 1 to 10^12 in decimal, without a sign or a leading zero
abbrev pub budget_of : List ℕ → Option ℕ
budget_of text = if is_plain_number text then up_to_greatest (digits_value 10 text) else None

-- K=V of `--env K=V`: a `=` stands after its first byte
abbrev pub is_setting : List ℕ → Bool
is_setting text = not (has_nul text) && list_any (λ byte. byte == 61) (drop 1 text)

-- the name of a file: F of `--image F`, of `--schedule F`, of `--trace F`, of `--native F`, of `--journal F` and of
-- `--save F`
abbrev pub is_file_name : List ℕ → Bool
is_file_name [] = false
is_file_name (first ∷ rest) = not (has_nul (first ∷ rest))

-- the role of a word in the place of an option
pub data Role : Type 0 where
  ImageOption : Role
  ScheduleOption : Role
  BudgetOption : Role
  TraceOption : Role
  NativeOption : Role
  JournalOption : Role
  SaveOption : Role
  EnvOption : Role
  ProgramName : Role
  NoOption : Role

-- PROGRAM isn't empty and doesn't start with `-`
abbrev pub is_program : List ℕ → Bool
is_program [] = false
is_program (first ∷ rest) = not (first == 45) && not (has_nul (first ∷ rest))

abbrev pub role_of : List ℕ → Role
role_of word =
    if bytes_eq word (codes "--image") then ImageOption
    else (if bytes_eq word (codes "--schedule") then ScheduleOption
    else (if bytes_eq word (codes "--budget") then BudgetOption
    else (if bytes_eq word (codes "--trace") then TraceOption
    else (if bytes_eq word (codes "--native") then NativeOption
    else (if bytes_eq word (codes "--journal") then JournalOption
    else (if bytes_eq word (codes "--save") then SaveOption
    else (if bytes_eq word (codes "--env") then EnvOption
    else (if is_program word then ProgramName else NoOption))))))))

-- the options that were read: N of `--budget`, each K=V in their order, and the indices of the names of `--image`,
-- `--schedule`, `--trace`, `--native`, `--journal` and `--save`
pub record Options : Type 0 where
  pub image : Option ℕ
  pub schedule : Option ℕ
  pub budget : Option ℕ
  pub trace : Option ℕ
  pub native : Option ℕ
  pub journal : Option ℕ
  pub save : Option ℕ
  pub environment : List (List ℕ)

abbrev pub no_options : Options
no_options = record { image = None; schedule = None; budget = None; trace = None; native = None; journal = None; save = None; environment = [] }

-- what the words ask for: the budget, the environment, the index of PROGRAM, the first of the guest's arguments, and the
-- indices of the names of the image, of the schedule, of the files of the trace, of the native log and of the journal and
-- of the one that is saved, where there are
pub record Line : Type 0 where
  pub budget : ℕ
  pub environment : List (List ℕ)
  pub program : ℕ
  pub image : Option ℕ
  pub schedule : Option ℕ
  pub trace : Option ℕ
  pub native : Option ℕ
  pub journal : Option ℕ
  pub save : Option ℕ

-- the budget of a run whose words give none
abbrev pub default_budget : ℕ
default_budget = 1_000_000_000

pub data Reading : Type 0 where
  Asks : Line → Reading
  WrongAt : ℕ → Reading

-- the words after PROGRAM, which is at `program`: each is the guest's
abbrev pub read_guest : Line → ℕ → List (List ℕ) → Reading
read_guest line at [] = Asks line
read_guest line at (word ∷ rest) = if has_nul word then WrongAt at else read_guest line (at + 1) rest

abbrev pub line_of : Options → ℕ → Line
line_of options program = record {
  budget = unwrap_or options.budget default_budget;
  environment = options.environment;
  program = program;
  image = options.image;
  schedule = options.schedule;
  trace = options.trace;
  native = options.native;
  journal = options.journal;
  save = options.save;
}

-- the last word of all
abbrev pub read_last : ℕ → Options → Role → Reading
read_last at options ImageOption = if is_some options.image then WrongAt at else WrongAt (at + 1)
read_last at options ScheduleOption = if is_some options.schedule then WrongAt at else WrongAt (at + 1)
read_last at options BudgetOption = if is_some options.budget then WrongAt at else WrongAt (at + 1)
read_last at options TraceOption = if is_some options.trace then WrongAt at else WrongAt (at + 1)
read_last at options NativeOption = if is_some options.native then WrongAt at else WrongAt (at + 1)
read_last at options JournalOption = if is_some options.journal then WrongAt at else WrongAt (at + 1)
read_last at options SaveOption = if is_some options.save then WrongAt at else WrongAt (at + 1)
read_last at options EnvOption = WrongAt (at + 1)
read_last at options ProgramName = Asks (line_of options at)
read_last at options NoOption = WrongAt at

abbrev pub with_budget : ℕ → Options → Option ℕ → (Options → Reading) → Reading
with_budget at options None go_on = WrongAt (at + 1)
with_budget at options (Some n) go_on = go_on (record options { budget = Some n })

-- A word with another after it, one case for each form of the line: `--image`, `--schedule`, `--budget`, `--trace`, `--native`,
-- `--journal` or `--save` and its value, each at most once; `--env` and its value; PROGRAM with the guest's words. Any other word is wrong, and so
-- is a value that is none, at its own index. After a value the reading goes on.
abbrev pub read_pair : ℕ → Options → Role → List ℕ → Reading → (Options → Reading) → Reading
read_pair at options ImageOption value guest go_on =
    if is_some options.image then WrongAt at
    else (if is_file_name value then go_on (record options { image = Some (at + 1) }) else WrongAt (at + 1))
read_pair at options ScheduleOption value guest go_on =
    if is_some options.schedule then WrongAt at
    else (if is_file_name value then go_on (record options { schedule = Some (at + 1) }) else WrongAt (at + 1))
read_pair at options BudgetOption value guest go_on =
    if is_some options.budget then WrongAt at else with_budget at options (budget_of value) go_on
read_pair at options TraceOption value guest go_on =
    if is_some options.trace then WrongAt at
    else (if is_file_name value then go_on (record options { trace = Some (at + 1) }) else WrongAt (at + 1))
read_pair at options NativeOption value guest go_on =
    if is_some options.native then WrongAt at
    else (if is_file_name value then go_on (record options { native = Some (at + 1) }) else WrongAt (at + 1))
read_pair at options JournalOption value guest go_on =
    if is_some options.journal then WrongAt at
    else (if is_file_name value then go_on (record options { journal = Some (at + 1) }) else WrongAt (at + 1))
read_pair at options SaveOption value guest go_on =
    if is_some options.save then WrongAt at
    else (if is_file_name value then go_on (record options { save = Some (at + 1) }) else WrongAt (at + 1))
read_pair at options EnvOption value guest go_on =
    if is_setting value
    then go_on (record options { environment = options.environment ++ value ∷ [] })
    else WrongAt (at + 1)
read_pair at options ProgramName value guest go_on = guest
read_pair at options NoOption value guest go_on = WrongAt at

-- the words from index `at` on, where an option or PROGRAM stands
abbrev pub read_options : ℕ → Options → List (List ℕ) → Reading
read_options at options [] = WrongAt at
read_options at options (word ∷ []) = read_last at options (role_of word)
read_options at options (word ∷ value ∷ rest) =
    read_pair at options (role_of word) value (read_guest (line_of options at) (at + 1) (value ∷ rest))
    (λ next. read_options (at + 1 + 1) next rest)

-- `run`, and the rest of the line
abbrev pub read_line : List (List ℕ) → Reading
read_line [] = WrongAt 0
read_line (word ∷ rest) = if bytes_eq word (codes "run") then read_options 1 no_options rest else WrongAt 0

-- the word at an index
abbrev pub word_at : List (List ℕ) → ℕ → List ℕ
word_at words at = slice_index_or words at []

-- the later of two words, where they are equal
abbrev pub later_of_equal : List (List ℕ) → ℕ → ℕ → Option ℕ
later_of_equal words one other =
    if bytes_eq (word_at words one) (word_at words other) then Some (max one other) else None

-- the lesser of two indices, where there are
abbrev pub first_of : Option ℕ → Option ℕ → Option ℕ
first_of None other = other
first_of (Some one) None = Some one
first_of (Some one) (Some other) = Some (min one other)

-- The first name of a file that equals an earlier one, where at least one of the two is written. The files of `--trace`, of
-- `--native`, of `--journal` and of `--save` are written; the others are the image, the schedule and PROGRAM.

abbrev pub equal_to_written : List (List ℕ) → Line → ℕ → Option ℕ
equal_to_written words line written =
    first_of (option_and_then (later_of_equal words written) line.image)
    (first_of (option_and_then (later_of_equal words written) line.schedule) (later_of_equal words written line.program))

-- the same with that of `--trace` among the others
abbrev pub equal_to_native : List (List ℕ) → Line → ℕ → Option ℕ
equal_to_native words line native =
    first_of (equal_to_written words line native) (option_and_then (later_of_equal words native) line.trace)

-- and with that of `--native`
abbrev pub equal_to_journal : List (List ℕ) → Line → ℕ → Option ℕ
equal_to_journal words line journal =
    first_of (equal_to_native words line journal) (option_and_then (later_of_equal words journal) line.native)

-- and with that of `--journal`
abbrev pub equal_to_saved : List (List ℕ) → Line → ℕ → Option ℕ
equal_to_saved words line saved =
    first_of (equal_to_journal words line saved) (option_and_then (later_of_equal words saved) line.journal)

abbrev pub equal_name : List (List ℕ) → Line → Option ℕ
equal_name words line =
    first_of (option_and_then (equal_to_written words line) line.trace)
    (first_of (option_and_then (equal_to_native words line) line.native)
    (first_of (option_and_then (equal_to_journal words line) line.journal) (option_and_then (equal_to_saved words line) line.save)))

-- a line without such a name
abbrev pub with_names : Line → Option ℕ → Reading
with_names line None = Asks line
with_names line (Some at) = WrongAt at

-- the names are compared where all else is in order
abbrev pub compare_names : List (List ℕ) → Reading → Reading
compare_names words (WrongAt at) = WrongAt at
compare_names words (Asks line) = with_names line (equal_name words line)

-- all words
abbrev pub read_words : List (List ℕ) → Reading
read_words words = compare_names words (read_line words)

-- The command that the words begin with. Words that begin with none are those of a run that are wrong.

pub data Command : Type 0 where
  RunCommand : Command
  ReplayCommand : Command
  SoakCommand : Command

abbrev pub command_of : List (List ℕ) → Command
command_of words =
    if bytes_eq (word_at words 0) (codes "replay") then ReplayCommand
    else (if bytes_eq (word_at words 0) (codes "soak") then SoakCommand else RunCommand)

-- what `replay PROGRAM JOURNAL` asks for: the names of both files, which may be one, since none is written
pub record ReplayLine : Type 0 where
  pub program : List ℕ
  pub journal : List ℕ

pub data ReplayReading : Type 0 where
  AsksReplay : ReplayLine → ReplayReading
  WrongReplayAt : ℕ → ReplayReading

-- Two names of files and no more; none of these words is an option. A word that is missing is no name.
abbrev pub read_replay : List (List ℕ) → ReplayReading
read_replay words =
    if not (is_file_name (word_at words 1)) then WrongReplayAt 1
    else (if not (is_file_name (word_at words 2)) then WrongReplayAt 2
    else (if nat_lt 3 (length words) then WrongReplayAt 3
    else AsksReplay (record { program = word_at words 1; journal = word_at words 2 })))

-- What `soak N` asks for: a count of numbers

abbrev pub greatest_count : ℕ
greatest_count = 65536

abbrev pub up_to_greatest_count : ℕ → Option ℕ
up_to_greatest_count n = if nat_le n greatest_count then Some n else None

-- N of `soak N`: from 1 to 65,536 in decimal, without a sign or a leading zero
abbrev pub count_of : List ℕ → Option ℕ
count_of text = if is_plain_number text then up_to_greatest_count (digits_value 10 text) else None

pub data SoakReading : Type 0 where
  AsksSoak : ℕ → SoakReading
  WrongSoakAt : ℕ → SoakReading

-- One number and no more.

abbrev pub read_count : List (List ℕ) → Option ℕ → SoakReading
read_count words None = WrongSoakAt 1
read_count words (Some count) = if nat_lt 2 (length words) then WrongSoakAt 2 else AsksSoak count

-- A word that is missing is no number.
abbrev pub read_soak : List (List ℕ) → SoakReading
read_soak words = read_count words (count_of (word_at words 1))
