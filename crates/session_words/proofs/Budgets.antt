-- The budget that the words give is not 0 and at most the greatest.
use Rattle.std.proofs.Common.{◌≡◌, ℕ, ◌+◌, ◌*◌, ◌<◌, ◌≤◌, Bool, true, false, List, [], ◌∷◌, ◌++◌, Option, Some, None, refl, subst, sym, arith, lit≤}
use Rattle.std.proofs.lemmas.Bool.{and_parts, ltb-true}
use Rattle.std.proofs.lemmas.Bool.Decides.{nat_tests}
use Rattle.std.proofs.lemmas.Grind.{common_steps}
use Rattle.std.specs.Prelude.{⊤, is_some, nat_le, if◌then◌else◌, codes}
use Rattle.std.specs.Option.{unwrap_or}
use Rattle.std.specs.Str.{bytes_eq}
use Rattle.std.specs.Char.{digit_value, is_ascii_digit}
use Rattle.std.specs.Str.Parse.{digits_value, digits_value_after}
use Rattle.session_words.specs.Words.{Line, Options, Reading, Asks, WrongAt, Role, ImageOption, ScheduleOption, BudgetOption, TraceOption, NativeOption, JournalOption, SaveOption, EnvOption, ProgramName, NoOption, budget_of, up_to_greatest, default_budget, greatest_budget, is_plain_number, is_file_name, is_setting, has_nul, line_of, no_options, read_guest, read_last, read_pair, read_options, read_line, with_budget, with_names, compare_names, equal_name, read_words, role_of}

abbrev Fits : Option ℕ → Type 0
Fits None = ⊤
Fits (Some n) = (0 < n) × (n ≤ greatest_budget)

up_fits : (n : ℕ) (test : Bool) → 0 < n → nat_le n greatest_budget ≡ test → Fits (if test then Some n else None)
up_fits n true some is = (some, grind (arith, nat_tests))
up_fits n false some is = tt

-- further digits leave a number that is not 0 so
grown : (n : ℕ) (digits : List ℕ) → 0 < n → 0 < digits_value_after 10 n digits
grown n [] some = some
grown n (digit ∷ rest) some = grown (n * 10 + digit_value digit) rest (omega arith)

-- a plain number has no leading zero
pub not_zero : (text : List ℕ) → is_plain_number text ≡ true → 0 < digits_value 10 text
not_zero [] plain = absurd cc
not_zero (first ∷ rest) plain =
    let parts = and_parts _ _ plain in
    let above : 48 < first = ltb-true _ _ parts.0 in
    let digit : is_ascii_digit first ≡ true = (and_parts _ _ parts.1).0 in
    let some : 0 < 0 * 10 + digit_value first = grind (arith, common_steps) in
    grown (0 * 10 + digit_value first) rest some

number_fits : (text : List ℕ) (test : Bool) → is_plain_number text ≡ test → Fits (if test then up_to_greatest (digits_value 10 text) else None)
number_fits text true plain = up_fits (digits_value 10 text) (nat_le (digits_value 10 text) greatest_budget) (not_zero text plain) refl
number_fits text false plain = tt

budget_fits : (text : List ℕ) → Fits (budget_of text)
budget_fits text = number_fits text (is_plain_number text) refl

abbrev IsWithin : ℕ → Type 0
IsWithin budget = (0 < budget) × (budget ≤ greatest_budget)

-- a reading that asks for a line asks for one whose budget is so
abbrev AsksWithin : Reading → Type 0
AsksWithin (Asks line) = IsWithin line.budget
AsksWithin (WrongAt at) = ⊤

either_within : (test : Bool) (one other : Reading) → AsksWithin one → AsksWithin other → AsksWithin (if test then one else other)
either_within true one other first second = first
either_within false one other first second = second

line_within : (options : Options) (program : ℕ) (budget : Option ℕ) → options.budget ≡ budget → Fits budget → IsWithin (line_of options program).budget
line_within options program None is fits = subst (λ (b : Option ℕ). IsWithin (unwrap_or b default_budget)) (sym is) (lit≤ tt, lit≤ tt)
line_within options program (Some n) is fits = subst (λ (b : Option ℕ). IsWithin (unwrap_or b default_budget)) (sym is) fits

guest_within : (line : Line) (at : ℕ) (words : List (List ℕ)) → IsWithin line.budget → AsksWithin (read_guest line at words)
guest_within line at [] within = within
guest_within line at (word ∷ rest) within = either_within (has_nul word) (WrongAt at) (read_guest line (at + 1) rest) tt (guest_within line (at + 1) rest within)

last_within : (at : ℕ) (options : Options) (role : Role) → Fits options.budget → AsksWithin (read_last at options role)
last_within at options ImageOption fits = either_within (is_some options.image) (WrongAt at) (WrongAt (at + 1)) tt tt
last_within at options ScheduleOption fits = either_within (is_some options.schedule) (WrongAt at) (WrongAt (at + 1)) tt tt
last_within at options BudgetOption fits = either_within (is_some options.budget) (WrongAt at) (WrongAt (at + 1)) tt tt
last_within at options TraceOption fits = either_within (is_some options.trace) (WrongAt at) (WrongAt (at + 1)) tt tt
last_within at options NativeOption fits = either_within (is_some options.native) (WrongAt at) (WrongAt (at + 1)) tt tt
last_within at options JournalOption fits = either_within (is_some options.journal) (WrongAt at) (WrongAt (at + 1)) tt tt
last_within at options SaveOption fits = either_within (is_some options.save) (WrongAt at) (WrongAt (at + 1)) tt tt
last_within at options EnvOption fits = tt
last_within at options ProgramName fits = line_within options at options.budget refl fits
last_within at options NoOption fits = tt

with_within : (at : ℕ) (options : Options) (budget : Option ℕ) (go_on : Options → Reading) → Fits budget → ((next : Options) → Fits next.budget → AsksWithin (go_on next)) → AsksWithin (with_budget at options budget go_on)
with_within at options None go_on fits each = tt
with_within at options (Some n) go_on fits each = each (record options { budget = Some n }) fits

pair_within : (at : ℕ) (options : Options) (role : Role) (value : List ℕ) (guest : Reading) (go_on : Options → Reading) → Fits options.budget → AsksWithin guest → ((next : Options) → Fits next.budget → AsksWithin (go_on next))
    → AsksWithin (read_pair at options role value guest go_on)
pair_within at options ImageOption value guest go_on fits within each =
    either_within (is_some options.image) (WrongAt at) _ tt (either_within (is_file_name value) (go_on (record options { image = Some (at + 1) })) (WrongAt (at + 1)) (each (record options { image = Some (at + 1) }) fits) tt)
pair_within at options ScheduleOption value guest go_on fits within each =
    either_within (is_some options.schedule) (WrongAt at) _ tt (either_within (is_file_name value) (go_on (record options { schedule = Some (at + 1) })) (WrongAt (at + 1)) (each (record options { schedule = Some (at + 1) }) fits) tt)
pair_within at options BudgetOption value guest go_on fits within each =
    either_within (is_some options.budget) (WrongAt at) _ tt (with_within at options (budget_of value) go_on (budget_fits value) each)
pair_within at options TraceOption value guest go_on fits within each =
    either_within (is_some options.trace) (WrongAt at) _ tt (either_within (is_file_name value) (go_on (record options { trace = Some (at + 1) })) (WrongAt (at + 1)) (each (record options { trace = Some (at + 1) }) fits) tt)
pair_within at options NativeOption value guest go_on fits within each =
    either_within (is_some options.native) (WrongAt at) _ tt (either_within (is_file_name value) (go_on (record options { native = Some (at + 1) })) (WrongAt (at + 1)) (each (record options { native = Some (at + 1) }) fits) tt)
pair_within at options JournalOption value guest go_on fits within each =
    either_within (is_some options.journal) (WrongAt at) _ tt (either_within (is_file_name value) (go_on (record options { journal = Some (at + 1) })) (WrongAt (at + 1)) (each (record options { journal = Some (at + 1) }) fits) tt)
pair_within at options SaveOption value guest go_on fits within each =
    either_within (is_some options.save) (WrongAt at) _ tt (either_within (is_file_name value) (go_on (record options { save = Some (at + 1) })) (WrongAt (at + 1)) (each (record options { save = Some (at + 1) }) fits) tt)
pair_within at options EnvOption value guest go_on fits within each =
    either_within (is_setting value) (go_on (record options { environment = options.environment ++ value ∷ [] })) (WrongAt (at + 1)) (each (record options { environment = options.environment ++ value ∷ [] }) fits) tt
pair_within at options ProgramName value guest go_on fits within each = within
pair_within at options NoOption value guest go_on fits within each = tt

options_within : (at : ℕ) (options : Options) (words : List (List ℕ)) → Fits options.budget → AsksWithin (read_options at options words)
options_within at options [] fits = tt
options_within at options (word ∷ []) fits = last_within at options (role_of word) fits
options_within at options (word ∷ value ∷ rest) fits =
    pair_within at options (role_of word) value (read_guest (line_of options at) (at + 1) (value ∷ rest)) (λ next. read_options (at + 1 + 1) next rest) fits
    (guest_within (line_of options at) (at + 1) (value ∷ rest) (line_within options at options.budget refl fits))
    (λ next fits. options_within (at + 1 + 1) next rest fits)

words_within : (words : List (List ℕ)) → AsksWithin (read_line words)
words_within [] = tt
words_within (word ∷ rest) = either_within (bytes_eq word (codes "run")) (read_options 1 no_options rest) (WrongAt 0) (options_within 1 no_options rest tt) tt

named_within : (line : Line) (at : Option ℕ) → IsWithin line.budget → AsksWithin (with_names line at)
named_within line None within = within
named_within line (Some at) within = tt

compared_within : (words : List (List ℕ)) (reading : Reading) → AsksWithin reading → AsksWithin (compare_names words reading)
compared_within words (WrongAt at) within = tt
compared_within words (Asks line) within = named_within line (equal_name words line) within

pub budget_within : (words : List (List ℕ)) (line : Line) → read_words words ≡ Asks line → (0 < line.budget) × (line.budget ≤ greatest_budget)
budget_within words line is = subst AsksWithin is (compared_within words (read_line words) (words_within words))
