-- What holds of all words holds of the environment of a line, and a line has at least one argument.
use Rattle.std.proofs.Common.{◌≡◌, ℕ, ◌+◌, ◌<◌, Bool, true, false, List, [], ◌∷◌, ◌++◌, length, drop, Option, Some, None, refl, subst, sym, ap, ◌∙◌, arith, drop-drop}
use Rattle.std.proofs.lemmas.List.Elements.{All-drop, All-map, All-nil, All-push}
use Rattle.std.proofs.lemmas.Str.{IsUtf8-string_bytes, is_utf8-from_IsUtf8}
use Rattle.std.specs.Prelude.{⊤, All, String, is_some, if◌then◌else◌, codes, slice_index_or}
use Rattle.std.specs.Str.{bytes_eq, is_utf8}
use Rattle.std.specs.String.{string_bytes}
use Rattle.session_words.specs.Words.{Line, Options, Reading, Asks, WrongAt, Role, ImageOption, ScheduleOption, BudgetOption, TraceOption, NativeOption, JournalOption, SaveOption, EnvOption, ProgramName, NoOption, budget_of, compare_names, equal_name, has_nul, is_file_name, is_setting, line_of, no_options, read_guest, read_last, read_line, read_options, read_pair, read_words, role_of, texts, with_budget, with_names}

-- Words are UTF-8.

abbrev pub IsUtf8Word : List ℕ → Type 0
IsUtf8Word word = is_utf8 word ≡ true

pub words_utf8 : {A : Type 0} (words : List (String A)) → All IsUtf8Word (texts words)
words_utf8 words =
    All-map IsUtf8Word string_bytes words (λ k d below. is_utf8-from_IsUtf8 (string_bytes (slice_index_or words k d)) (IsUtf8-string_bytes (slice_index_or words k d)))

-- A line of words of which all have a property

pub record IsOfWords (P : List ℕ → Type 0) (words : List (List ℕ)) (line : Line) : Type 0 where
  pub env : All P line.environment
  pub some : 0 < length (drop line.program words)

module _ (P : List ℕ → Type 0) (words : List (List ℕ)) where
  abbrev AsksOfWords : Reading → Type 0
  AsksOfWords (Asks line) = IsOfWords P words line
  AsksOfWords (WrongAt at) = ⊤

  either : (test : Bool) (one other : Reading) → AsksOfWords one → AsksOfWords other → AsksOfWords (if test then one else other)
  either true one other first second = first
  either false one other first second = second

  guest_of_words : (line : Line) (at : ℕ) (rest : List (List ℕ)) → IsOfWords P words line → AsksOfWords (read_guest line at rest)
  guest_of_words line at [] is = is
  guest_of_words line at (word ∷ rest) is = either (has_nul word) (WrongAt at) (read_guest line (at + 1) rest) tt (guest_of_words line (at + 1) rest is)

  last_of_words : (at : ℕ) (options : Options) (role : Role) → All P options.environment → 0 < length (drop at words) → AsksOfWords (read_last at options role)
  last_of_words at options ImageOption env some = either (is_some options.image) (WrongAt at) (WrongAt (at + 1)) tt tt
  last_of_words at options ScheduleOption env some = either (is_some options.schedule) (WrongAt at) (WrongAt (at + 1)) tt tt
  last_of_words at options BudgetOption env some = either (is_some options.budget) (WrongAt at) (WrongAt (at + 1)) tt tt
  last_of_words at options TraceOption env some = either (is_some options.trace) (WrongAt at) (WrongAt (at + 1)) tt tt
  last_of_words at options NativeOption env some = either (is_some options.native) (WrongAt at) (WrongAt (at + 1)) tt tt
  last_of_words at options JournalOption env some = either (is_some options.journal) (WrongAt at) (WrongAt (at + 1)) tt tt
  last_of_words at options SaveOption env some = either (is_some options.save) (WrongAt at) (WrongAt (at + 1)) tt tt
  last_of_words at options EnvOption env some = tt
  last_of_words at options ProgramName env some = record { env = env; some = some }
  last_of_words at options NoOption env some = tt

  module _ (at : ℕ) (options : Options) (value : List ℕ) (go_on : Options → Reading) (env : All P options.environment) (is : P value)
      (each : (next : Options) → All P next.environment → AsksOfWords (go_on next)) where
    -- a value that leaves the environment
    kept : (twice fits : Bool) (next : Options) → All P next.environment → AsksOfWords (if twice then WrongAt at else (if fits then go_on next else WrongAt (at + 1)))
    kept twice fits next of = either twice (WrongAt at) _ tt (either fits (go_on next) (WrongAt (at + 1)) (each next of) tt)

    budgeted : (budget : Option ℕ) → AsksOfWords (with_budget at options budget go_on)
    budgeted None = tt
    budgeted (Some n) = each (record options { budget = Some n }) env

    pair_of_words : (role : Role) (guest : Reading) → AsksOfWords guest → AsksOfWords (read_pair at options role value guest go_on)
    pair_of_words ImageOption guest program = kept (is_some options.image) (is_file_name value) (record options { image = Some (at + 1) }) env
    pair_of_words ScheduleOption guest program = kept (is_some options.schedule) (is_file_name value) (record options { schedule = Some (at + 1) }) env
    pair_of_words BudgetOption guest program = either (is_some options.budget) (WrongAt at) _ tt (budgeted (budget_of value))
    pair_of_words TraceOption guest program = kept (is_some options.trace) (is_file_name value) (record options { trace = Some (at + 1) }) env
    pair_of_words NativeOption guest program = kept (is_some options.native) (is_file_name value) (record options { native = Some (at + 1) }) env
    pair_of_words JournalOption guest program = kept (is_some options.journal) (is_file_name value) (record options { journal = Some (at + 1) }) env
    pair_of_words SaveOption guest program = kept (is_some options.save) (is_file_name value) (record options { save = Some (at + 1) }) env
    pair_of_words EnvOption guest program =
        either (is_setting value) (go_on (record options { environment = options.environment ++ value ∷ [] })) (WrongAt (at + 1))
        (each (record options { environment = options.environment ++ value ∷ [] }) (All-push P options.environment value env is)) tt
    pair_of_words ProgramName guest program = program
    pair_of_words NoOption guest program = tt

  -- the words behind the first of those from an index on
  behind_first : (at : ℕ) (word : List ℕ) (rest : List (List ℕ)) → drop at words ≡ word ∷ rest → drop (at + 1) words ≡ rest
  behind_first at word rest is = sym (drop-drop 1 at words) ∙ ap (drop 1) is

  not_empty : (at : ℕ) (word : List ℕ) (rest : List (List ℕ)) → drop at words ≡ word ∷ rest → 0 < length (drop at words)
  not_empty at word rest is = subst (λ (list : List (List ℕ)). 0 < length list) (sym is) (omega arith)

  options_of_words : (at : ℕ) (options : Options) (rest : List (List ℕ)) → drop at words ≡ rest → All P rest → All P options.environment → AsksOfWords (read_options at options rest)
  options_of_words at options [] is all env = tt
  options_of_words at options (word ∷ []) is all env = last_of_words at options (role_of word) env (not_empty at word [] is)
  options_of_words at options (word ∷ value ∷ rest) is all env =
      pair_of_words at options value (λ next. read_options (at + 1 + 1) next rest) env (all 1 value (omega arith))
      (λ next of. options_of_words (at + 1 + 1) next rest (behind_first (at + 1) value rest (behind_first at word (value ∷ rest) is)) (All-drop P 2 (word ∷ value ∷ rest) all) of)
      (role_of word) (read_guest (line_of options at) (at + 1) (value ∷ rest))
      (guest_of_words (line_of options at) (at + 1) (value ∷ rest) (record { env = env; some = not_empty at word (value ∷ rest) is }))

line_of_words : (P : List ℕ → Type 0) (words : List (List ℕ)) → All P words → AsksOfWords P words (read_line words)
line_of_words P [] all = tt
line_of_words P (word ∷ rest) all =
    either P (word ∷ rest) (bytes_eq word (codes "run")) (read_options 1 no_options rest) (WrongAt 0)
    (options_of_words P (word ∷ rest) 1 no_options rest refl (All-drop P 1 (word ∷ rest) all) (All-nil P)) tt

unequal_of_words : (P : List ℕ → Type 0) (words : List (List ℕ)) (line : Line) (at : Option ℕ) → IsOfWords P words line → AsksOfWords P words (with_names line at)
unequal_of_words P words line None is = is
unequal_of_words P words line (Some at) is = tt

compared_of_words : (P : List ℕ → Type 0) (words : List (List ℕ)) (reading : Reading) → AsksOfWords P words reading → AsksOfWords P words (compare_names words reading)
compared_of_words P words (WrongAt at) is = tt
compared_of_words P words (Asks line) is = unequal_of_words P words line (equal_name words line) is

pub asked_of_words : (P : List ℕ → Type 0) (words : List (List ℕ)) (line : Line) → All P words → read_words words ≡ Asks line → IsOfWords P words line
asked_of_words P words line all is = subst (AsksOfWords P words) is (compared_of_words P words (read_line words) (line_of_words P words all))
