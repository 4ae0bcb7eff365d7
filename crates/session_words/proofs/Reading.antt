-- Going over the words one by one reads what the grammar says.
use Rattle.std.proofs.Common.{◌≡◌, ℕ, ◌+◌, ◌<◌, List, [], ◌∷◌, ◌++◌, length, get_or, drop, Bool, true, false, cond, Option, Some, None, is_some, String, string_bytes, codes, arith, refl, sym, ap, ◌∙◌}
use Rattle.std.specs.Str.{bytes_eq}
use Rattle.session_words.specs.Words.{Role, ImageOption, ScheduleOption, BudgetOption, TraceOption, NativeOption, JournalOption, SaveOption, EnvOption, ProgramName, NoOption, role_of, is_file_name, budget_of, is_setting, Options, line_of, Reading, WrongAt, read_guest, read_last, with_budget, read_pair, read_options, read_line, no_options, texts}
use Rattle.session_words.specs.inside.Steps.{Expected, Option_or_program, Image_value, Schedule_value, Budget_value, Trace_value, Native_value, Journal_value, Save_value, Goes_on, Is_wrong, step_at_option, step_at_budget, after_step, read_from}

-- an option whose value is missing
value_last : (at : ℕ) (options : Options) (guest : Reading) (value : Expected) (twice : Bool) →
    after_step at guest (λ next read. read_from (at + 1) next read []) (cond twice Is_wrong (Goes_on value options))
    ≡ cond twice (WrongAt at) (WrongAt (at + 1))
value_last at options guest value true = refl
value_last at options guest value false = refl

last : (at : ℕ) (options : Options) (role : Role) →
    after_step at (read_guest (line_of options at) (at + 1) []) (λ next read. read_from (at + 1) next read []) (step_at_option options role)
    ≡ read_last at options role
last at options ImageOption = value_last at options (read_guest (line_of options at) (at + 1) []) Image_value (is_some options.image)
last at options ScheduleOption = value_last at options (read_guest (line_of options at) (at + 1) []) Schedule_value (is_some options.schedule)
last at options BudgetOption = value_last at options (read_guest (line_of options at) (at + 1) []) Budget_value (is_some options.budget)
last at options TraceOption = value_last at options (read_guest (line_of options at) (at + 1) []) Trace_value (is_some options.trace)
last at options NativeOption = value_last at options (read_guest (line_of options at) (at + 1) []) Native_value (is_some options.native)
last at options JournalOption = value_last at options (read_guest (line_of options at) (at + 1) []) Journal_value (is_some options.journal)
last at options SaveOption = value_last at options (read_guest (line_of options at) (at + 1) []) Save_value (is_some options.save)
last at options EnvOption = refl
last at options ProgramName = refl
last at options NoOption = refl

-- what is known of the words after a value
record GoesOn (at : ℕ) (rest : List (List ℕ)) : Type 0 where
  same : (next : Options) → read_from (at + 1 + 1) Option_or_program next rest ≡ read_options (at + 1 + 1) next rest

budget_value : (at : ℕ) (options : Options) (rest : List (List ℕ)) (value : Option ℕ) (guest : Reading) → GoesOn at rest →
    after_step (at + 1) guest (λ next read. read_from (at + 1 + 1) next read rest) (step_at_budget options value)
    ≡ with_budget at options value (λ next. read_options (at + 1 + 1) next rest)
budget_value at options rest None guest after = refl
budget_value at options rest (Some n) guest after = after.same (record options { budget = Some n })

budget_pair : (at : ℕ) (options : Options) (value : List ℕ) (rest : List (List ℕ)) (guest : Reading) (twice : Bool) → GoesOn at rest →
    after_step at guest (λ next read. read_from (at + 1) next read (value ∷ rest)) (cond twice Is_wrong (Goes_on Budget_value options))
    ≡ cond twice (WrongAt at) (with_budget at options (budget_of value) (λ next. read_options (at + 1 + 1) next rest))
budget_pair at options value rest guest true after = refl
budget_pair at options value rest guest false after =
    budget_value at options rest (budget_of value) (read_guest (line_of options (at + 1)) (at + 1 + 1) rest) after

-- a value that is kept where it fits, in these options
kept_value : (at : ℕ) (kept : Options) (rest : List (List ℕ)) (guest : Reading) (fits : Bool) → GoesOn at rest →
    after_step (at + 1) guest (λ next read. read_from (at + 1 + 1) next read rest) (cond fits (Goes_on Option_or_program kept) Is_wrong)
    ≡ cond fits (read_options (at + 1 + 1) kept rest) (WrongAt (at + 1))
kept_value at kept rest guest true after = after.same kept
kept_value at kept rest guest false after = refl

image_pair : (at : ℕ) (options : Options) (value : List ℕ) (rest : List (List ℕ)) (guest : Reading) (twice : Bool) → GoesOn at rest →
    after_step at guest (λ next read. read_from (at + 1) next read (value ∷ rest)) (cond twice Is_wrong (Goes_on Image_value options))
    ≡ cond twice (WrongAt at)
    (cond (is_file_name value) (read_options (at + 1 + 1) (record options { image = Some (at + 1) }) rest) (WrongAt (at + 1)))
image_pair at options value rest guest true after = refl
image_pair at options value rest guest false after =
    kept_value at (record options { image = Some (at + 1) }) rest (read_guest (line_of options (at + 1)) (at + 1 + 1) rest)
    (is_file_name value) after

schedule_pair : (at : ℕ) (options : Options) (value : List ℕ) (rest : List (List ℕ)) (guest : Reading) (twice : Bool) → GoesOn at rest →
    after_step at guest (λ next read. read_from (at + 1) next read (value ∷ rest)) (cond twice Is_wrong (Goes_on Schedule_value options))
    ≡ cond twice (WrongAt at)
    (cond (is_file_name value) (read_options (at + 1 + 1) (record options { schedule = Some (at + 1) }) rest) (WrongAt (at + 1)))
schedule_pair at options value rest guest true after = refl
schedule_pair at options value rest guest false after =
    kept_value at (record options { schedule = Some (at + 1) }) rest (read_guest (line_of options (at + 1)) (at + 1 + 1) rest)
    (is_file_name value) after

trace_pair : (at : ℕ) (options : Options) (value : List ℕ) (rest : List (List ℕ)) (guest : Reading) (twice : Bool) → GoesOn at rest →
    after_step at guest (λ next read. read_from (at + 1) next read (value ∷ rest)) (cond twice Is_wrong (Goes_on Trace_value options))
    ≡ cond twice (WrongAt at)
    (cond (is_file_name value) (read_options (at + 1 + 1) (record options { trace = Some (at + 1) }) rest) (WrongAt (at + 1)))
trace_pair at options value rest guest true after = refl
trace_pair at options value rest guest false after =
    kept_value at (record options { trace = Some (at + 1) }) rest (read_guest (line_of options (at + 1)) (at + 1 + 1) rest)
    (is_file_name value) after

native_pair : (at : ℕ) (options : Options) (value : List ℕ) (rest : List (List ℕ)) (guest : Reading) (twice : Bool) → GoesOn at rest →
    after_step at guest (λ next read. read_from (at + 1) next read (value ∷ rest)) (cond twice Is_wrong (Goes_on Native_value options))
    ≡ cond twice (WrongAt at)
    (cond (is_file_name value) (read_options (at + 1 + 1) (record options { native = Some (at + 1) }) rest) (WrongAt (at + 1)))
native_pair at options value rest guest true after = refl
native_pair at options value rest guest false after =
    kept_value at (record options { native = Some (at + 1) }) rest (read_guest (line_of options (at + 1)) (at + 1 + 1) rest)
    (is_file_name value) after

journal_pair : (at : ℕ) (options : Options) (value : List ℕ) (rest : List (List ℕ)) (guest : Reading) (twice : Bool) → GoesOn at rest →
    after_step at guest (λ next read. read_from (at + 1) next read (value ∷ rest)) (cond twice Is_wrong (Goes_on Journal_value options))
    ≡ cond twice (WrongAt at)
    (cond (is_file_name value) (read_options (at + 1 + 1) (record options { journal = Some (at + 1) }) rest) (WrongAt (at + 1)))
journal_pair at options value rest guest true after = refl
journal_pair at options value rest guest false after =
    kept_value at (record options { journal = Some (at + 1) }) rest (read_guest (line_of options (at + 1)) (at + 1 + 1) rest)
    (is_file_name value) after

save_pair : (at : ℕ) (options : Options) (value : List ℕ) (rest : List (List ℕ)) (guest : Reading) (twice : Bool) → GoesOn at rest →
    after_step at guest (λ next read. read_from (at + 1) next read (value ∷ rest)) (cond twice Is_wrong (Goes_on Save_value options))
    ≡ cond twice (WrongAt at)
    (cond (is_file_name value) (read_options (at + 1 + 1) (record options { save = Some (at + 1) }) rest) (WrongAt (at + 1)))
save_pair at options value rest guest true after = refl
save_pair at options value rest guest false after =
    kept_value at (record options { save = Some (at + 1) }) rest (read_guest (line_of options (at + 1)) (at + 1 + 1) rest)
    (is_file_name value) after

pair : (at : ℕ) (options : Options) (role : Role) (value : List ℕ) (rest : List (List ℕ)) → GoesOn at rest →
    after_step at (read_guest (line_of options at) (at + 1) (value ∷ rest)) (λ next read. read_from (at + 1) next read (value ∷ rest))
    (step_at_option options role)
    ≡ read_pair at options role value (read_guest (line_of options at) (at + 1) (value ∷ rest)) (λ next. read_options (at + 1 + 1) next rest)
pair at options ImageOption value rest after =
    image_pair at options value rest (read_guest (line_of options at) (at + 1) (value ∷ rest)) (is_some options.image) after
pair at options ScheduleOption value rest after =
    schedule_pair at options value rest (read_guest (line_of options at) (at + 1) (value ∷ rest)) (is_some options.schedule) after
pair at options BudgetOption value rest after =
    budget_pair at options value rest (read_guest (line_of options at) (at + 1) (value ∷ rest)) (is_some options.budget) after
pair at options TraceOption value rest after =
    trace_pair at options value rest (read_guest (line_of options at) (at + 1) (value ∷ rest)) (is_some options.trace) after
pair at options NativeOption value rest after =
    native_pair at options value rest (read_guest (line_of options at) (at + 1) (value ∷ rest)) (is_some options.native) after
pair at options JournalOption value rest after =
    journal_pair at options value rest (read_guest (line_of options at) (at + 1) (value ∷ rest)) (is_some options.journal) after
pair at options SaveOption value rest after =
    save_pair at options value rest (read_guest (line_of options at) (at + 1) (value ∷ rest)) (is_some options.save) after
pair at options EnvOption value rest after =
    kept_value at (record options { environment = options.environment ++ value ∷ [] }) rest
    (read_guest (line_of options (at + 1)) (at + 1 + 1) rest) (is_setting value) after
pair at options ProgramName value rest after = refl
pair at options NoOption value rest after = refl

pub same_reading : (words : List (List ℕ)) (at : ℕ) (options : Options) →
    read_from at Option_or_program options words ≡ read_options at options words
same_reading [] at options = refl
same_reading (word ∷ []) at options = last at options (role_of word)
same_reading (word ∷ value ∷ rest) at options =
    pair at options (role_of word) value rest (record { same = λ next. same_reading rest (at + 1 + 1) next })

-- a line that begins with `run` is read from its second word on
pub run_words : {A : Type 0} (words : List (String A)) (first : String A) → 0 < length words → first ≡ get_or words 0 first →
    bytes_eq (string_bytes first) (codes "run") ≡ true →
    read_line (texts words) ≡ read_from 1 Option_or_program no_options (texts (drop 1 words))
run_words [] first some is run = absurd (omega arith)
run_words (word ∷ rest) first some is run =
    ap (λ (b : Bool). cond b (read_options 1 no_options (texts rest)) (WrongAt 0))
    (ap (λ w. bytes_eq (string_bytes w) (codes "run")) (sym is) ∙ run)
    ∙ sym (same_reading (texts rest) 1 no_options)
