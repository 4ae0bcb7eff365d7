-- The words that a run gets hold no NUL, and those that fit on its first stack are texts of a journal.
use Rattle.std.proofs.Common.{◌≡◌, ℕ, ◌+◌, ◌<◌, ◌≤◌, Bool, true, false, not, List, [], ◌∷◌, ◌++◌, length, drop, take, Option, Some, None, refl, subst, sym, ap, ◌∙◌, arith, drop-drop, length-append}
use Rattle.std.proofs.lemmas.Bool.{and_parts}
use Rattle.std.proofs.lemmas.Grind.{flat_map-append}
use Rattle.std.proofs.lemmas.List.Elements.{All-cons, All-nil, All-push}
use Rattle.std.specs.Prelude.{⊤, All, is_some, if◌then◌else◌, codes, slice_index_or}
use Rattle.std.specs.Str.{bytes_eq}
use Rattle.journal.specs.Form.{AreTexts, IsText}
use Rattle.start_stack.specs.Stack.{start_limit, start_size, strings}
use Rattle.session_words.specs.Words.{IsPlain, Line, Options, Reading, Asks, WrongAt, Role, ImageOption, ScheduleOption, BudgetOption, TraceOption, NativeOption, JournalOption, SaveOption, EnvOption, ProgramName, NoOption, budget_of, compare_names, equal_name, has_nul, is_file_name, is_program, is_setting, line_of, no_options, read_guest, read_last, read_line, read_options, read_pair, read_words, role_of, with_budget, with_names}

not_so : (b : Bool) → not b ≡ true → b ≡ false
not_so true is = absurd cc
not_so false is = refl

-- PROGRAM and settings

named_last : (b0 b1 b2 b3 b4 b5 b6 b7 b8 : Bool)
    → (if b0 then ImageOption else (if b1 then ScheduleOption else (if b2 then BudgetOption else (if b3 then TraceOption else (if b4 then NativeOption else (if b5 then JournalOption else (if b6 then SaveOption else (if b7 then EnvOption else (if b8 then ProgramName else NoOption))))))))) ≡ ProgramName
    → b8 ≡ true
named_last true b1 b2 b3 b4 b5 b6 b7 b8 is = absurd cc
named_last false true b2 b3 b4 b5 b6 b7 b8 is = absurd cc
named_last false false true b3 b4 b5 b6 b7 b8 is = absurd cc
named_last false false false true b4 b5 b6 b7 b8 is = absurd cc
named_last false false false false true b5 b6 b7 b8 is = absurd cc
named_last false false false false false true b6 b7 b8 is = absurd cc
named_last false false false false false false true b7 b8 is = absurd cc
named_last false false false false false false false true b8 is = absurd cc
named_last false false false false false false false false true is = refl
named_last false false false false false false false false false is = absurd cc

program_plain : (word : List ℕ) → is_program word ≡ true → IsPlain word
program_plain [] is = absurd cc
program_plain (first ∷ rest) is = not_so (has_nul (first ∷ rest)) (and_parts _ _ is).1

named_plain : (word : List ℕ) → role_of word ≡ ProgramName → IsPlain word
named_plain word is =
    program_plain word
    (named_last (bytes_eq word (codes "--image")) (bytes_eq word (codes "--schedule")) (bytes_eq word (codes "--budget")) (bytes_eq word (codes "--trace")) (bytes_eq word (codes "--native"))
    (bytes_eq word (codes "--journal")) (bytes_eq word (codes "--save")) (bytes_eq word (codes "--env")) (is_program word) is)

setting_plain : (text : List ℕ) → is_setting text ≡ true → IsPlain text
setting_plain text is = not_so (has_nul text) (and_parts _ _ is).0

-- The line that is asked for

-- the arguments and the environment of a line of these words
pub record ArePlain (words : List (List ℕ)) (line : Line) : Type 0 where
  pub args : All IsPlain (drop line.program words)
  pub env : All IsPlain line.environment

abbrev AsksPlain : List (List ℕ) → Reading → Type 0
AsksPlain words (Asks line) = ArePlain words line
AsksPlain words (WrongAt at) = ⊤

either_plain : (words : List (List ℕ)) (test : Bool) (one other : Reading) → AsksPlain words one → AsksPlain words other → AsksPlain words (if test then one else other)
either_plain words true one other first second = first
either_plain words false one other first second = second

guest_by : (words : List (List ℕ)) (line : Line) (at : ℕ) (word : List ℕ) (rest : List (List ℕ)) (nul : Bool) → has_nul word ≡ nul → (has_nul word ≡ false → AsksPlain words (read_guest line (at + 1) rest))
    → AsksPlain words (if nul then WrongAt at else read_guest line (at + 1) rest)
guest_by words line at word rest true is so = tt
guest_by words line at word rest false is so = so is

guest_plain : (words : List (List ℕ)) (line : Line) (at : ℕ) (rest : List (List ℕ)) → (All IsPlain rest → ArePlain words line) → AsksPlain words (read_guest line at rest)
guest_plain words line at [] so = so (All-nil IsPlain)
guest_plain words line at (word ∷ rest) so =
    guest_by words line at word rest (has_nul word) refl (λ is. guest_plain words line (at + 1) rest (λ plain. so (All-cons IsPlain word rest is plain)))

last_plain : (words : List (List ℕ)) (at : ℕ) (options : Options) (word : List ℕ) (role : Role) → role_of word ≡ role → drop at words ≡ word ∷ [] → All IsPlain options.environment → AsksPlain words (read_last at options role)
last_plain words at options word ImageOption role_is is env = either_plain words (is_some options.image) (WrongAt at) (WrongAt (at + 1)) tt tt
last_plain words at options word ScheduleOption role_is is env = either_plain words (is_some options.schedule) (WrongAt at) (WrongAt (at + 1)) tt tt
last_plain words at options word BudgetOption role_is is env = either_plain words (is_some options.budget) (WrongAt at) (WrongAt (at + 1)) tt tt
last_plain words at options word TraceOption role_is is env = either_plain words (is_some options.trace) (WrongAt at) (WrongAt (at + 1)) tt tt
last_plain words at options word NativeOption role_is is env = either_plain words (is_some options.native) (WrongAt at) (WrongAt (at + 1)) tt tt
last_plain words at options word JournalOption role_is is env = either_plain words (is_some options.journal) (WrongAt at) (WrongAt (at + 1)) tt tt
last_plain words at options word SaveOption role_is is env = either_plain words (is_some options.save) (WrongAt at) (WrongAt (at + 1)) tt tt
last_plain words at options word EnvOption role_is is env = tt
last_plain words at options word ProgramName role_is is env =
    record { args = subst (λ (list : List (List ℕ)). All IsPlain list) (sym is) (All-cons IsPlain word [] (named_plain word role_is) (All-nil IsPlain)); env = env }
last_plain words at options word NoOption role_is is env = tt

module _ (words : List (List ℕ)) (at : ℕ) (options : Options) (value : List ℕ) (go_on : Options → Reading) (env : All IsPlain options.environment)
    (each : (next : Options) → All IsPlain next.environment → AsksPlain words (go_on next)) where
  -- a value that leaves the environment
  kept_plain : (twice fits : Bool) (next : Options) → All IsPlain next.environment → AsksPlain words (if twice then WrongAt at else (if fits then go_on next else WrongAt (at + 1)))
  kept_plain twice fits next plain = either_plain words twice (WrongAt at) _ tt (either_plain words fits (go_on next) (WrongAt (at + 1)) (each next plain) tt)

  with_plain : (budget : Option ℕ) → AsksPlain words (with_budget at options budget go_on)
  with_plain None = tt
  with_plain (Some n) = each (record options { budget = Some n }) env

  set_plain : (fits : Bool) → is_setting value ≡ fits → AsksPlain words (if fits then go_on (record options { environment = options.environment ++ value ∷ [] }) else WrongAt (at + 1))
  set_plain true is = each (record options { environment = options.environment ++ value ∷ [] }) (All-push IsPlain options.environment value env (setting_plain value is))
  set_plain false is = tt

  pair_plain : (role : Role) (guest : Reading) → (role ≡ ProgramName → AsksPlain words guest) → AsksPlain words (read_pair at options role value guest go_on)
  pair_plain ImageOption guest program = kept_plain (is_some options.image) (is_file_name value) (record options { image = Some (at + 1) }) env
  pair_plain ScheduleOption guest program = kept_plain (is_some options.schedule) (is_file_name value) (record options { schedule = Some (at + 1) }) env
  pair_plain BudgetOption guest program = either_plain words (is_some options.budget) (WrongAt at) _ tt (with_plain (budget_of value))
  pair_plain TraceOption guest program = kept_plain (is_some options.trace) (is_file_name value) (record options { trace = Some (at + 1) }) env
  pair_plain NativeOption guest program = kept_plain (is_some options.native) (is_file_name value) (record options { native = Some (at + 1) }) env
  pair_plain JournalOption guest program = kept_plain (is_some options.journal) (is_file_name value) (record options { journal = Some (at + 1) }) env
  pair_plain SaveOption guest program = kept_plain (is_some options.save) (is_file_name value) (record options { save = Some (at + 1) }) env
  pair_plain EnvOption guest program = set_plain (is_setting value) refl
  pair_plain ProgramName guest program = program refl
  pair_plain NoOption guest program = tt

-- the words behind the first of those from an index on
behind_first : (words : List (List ℕ)) (at : ℕ) (word : List ℕ) (rest : List (List ℕ)) → drop at words ≡ word ∷ rest → drop (at + 1) words ≡ rest
behind_first words at word rest is = sym (drop-drop 1 at words) ∙ ap (drop 1) is

options_plain : (words : List (List ℕ)) (at : ℕ) (options : Options) (rest : List (List ℕ)) → drop at words ≡ rest → All IsPlain options.environment → AsksPlain words (read_options at options rest)
options_plain words at options [] is env = tt
options_plain words at options (word ∷ []) is env = last_plain words at options word (role_of word) refl is env
options_plain words at options (word ∷ value ∷ rest) is env =
    pair_plain words at options value (λ next. read_options (at + 1 + 1) next rest) env
    (λ next plain. options_plain words (at + 1 + 1) next rest (behind_first words (at + 1) value rest (behind_first words at word (value ∷ rest) is)) plain)
    (role_of word) (read_guest (line_of options at) (at + 1) (value ∷ rest))
    (λ role_is.
    guest_plain words (line_of options at) (at + 1) (value ∷ rest)
    (λ plain. record { args = subst (λ (list : List (List ℕ)). All IsPlain list) (sym is) (All-cons IsPlain word (value ∷ rest) (named_plain word role_is) plain); env = env }))

line_plain : (words : List (List ℕ)) → AsksPlain words (read_line words)
line_plain [] = tt
line_plain (word ∷ rest) =
    either_plain (word ∷ rest) (bytes_eq word (codes "run")) (read_options 1 no_options rest) (WrongAt 0) (options_plain (word ∷ rest) 1 no_options rest refl (All-nil IsPlain)) tt

unequal_plain : (words : List (List ℕ)) (line : Line) (at : Option ℕ) → ArePlain words line → AsksPlain words (with_names line at)
unequal_plain words line None plain = plain
unequal_plain words line (Some at) plain = tt

compared_plain : (words : List (List ℕ)) (reading : Reading) → AsksPlain words reading → AsksPlain words (compare_names words reading)
compared_plain words (WrongAt at) plain = tt
compared_plain words (Asks line) plain = unequal_plain words line (equal_name words line) plain

pub asked_plain : (words : List (List ℕ)) (line : Line) → read_words words ≡ Asks line → ArePlain words line
asked_plain words line is = subst (AsksPlain words) is (compared_plain words (read_line words) (line_plain words))

-- Texts that fit

-- each is shorter than all together
shorter : (n : ℕ) (ts : List (List ℕ)) → length (strings ts) ≤ n → All (λ (text : List ℕ). length text ≤ n) ts
shorter n [] fits = All-nil (λ (text : List ℕ). length text ≤ n)
shorter n (text ∷ rest) fits =
    let whole : length (strings (text ∷ rest)) ≡ length (text ++ 0 ∷ []) + length (strings rest) = length-append (text ++ 0 ∷ []) (strings rest) in
    let first : length (text ++ 0 ∷ []) ≡ length text + 1 = length-append text (0 ∷ []) in
    All-cons (λ (text : List ℕ). length text ≤ n) text rest (omega (arith, fits, whole, first)) (shorter n rest (omega (arith, fits, whole, first)))

both_long : (one other : List (List ℕ)) → length (strings (one ++ other)) ≡ length (strings one) + length (strings other)
both_long one other =
    ap (λ (bytes : List ℕ). length bytes) (flat_map-append (λ (text : List ℕ). text ++ 0 ∷ []) one other)
    ∙ length-append (strings one) (strings other)

-- those that are plain and fit are texts
short_texts : (ts : List (List ℕ)) → length (strings ts) ≤ start_limit → All IsPlain ts → All IsText ts
short_texts ts fits plain = λ k d below.
    let short : length (slice_index_or ts k d) ≤ start_limit = shorter start_limit ts fits k d below in
    record { short = omega (arith, short); no_nul = plain k d below }

pub are_texts : (args env : List (List ℕ)) → start_size args env ≤ start_limit → 0 < length args → All IsPlain args → All IsPlain env → AreTexts args env
are_texts args env fits some plain_args plain_env =
    let whole = both_long (args ++ env) (take 1 args) in
    let front = both_long args env in
    record {
      some = some;
      few_args = omega (arith, fits);
      few_env = omega (arith, fits);
      args_texts = short_texts args (omega (arith, fits, whole, front)) plain_args;
      env_texts = short_texts env (omega (arith, fits, whole, front)) plain_env;
    }
