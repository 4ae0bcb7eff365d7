-- The text of a schedule, cut into lines and words, and the words that are numbers. The format is this
-- project's own: lines of words with one space between them, each line ended by a newline.
use Rattle.std.specs.Prelude.{ℕ, ◌-◌, ◌*◌, ◌+◌, ◌%◌, Bool, false, not, ◌&&◌, ◌||◌, ◌==◌, nat_lt, nat_le, List, [], ◌∷◌, length, if◌then◌else◌, Result, Ok, Err}
use Rattle.std.specs.List.{list_all, slice_split}
use Rattle.schedule.specs.declared.refusal.ScheduleRule.{ScheduleRule}
use Rattle.schedule.specs.declared.refusal.ScheduleRule.TheVariants as rule
use Rattle.schedule.specs.declared.text.Bounds.{Bounds}

-- the pieces of bytes between separators: one more than there are separators
abbrev pub pieces : ℕ → List ℕ → List (List ℕ)
pieces separator bytes = slice_split (λ b. b == separator) bytes

-- the lines of a text, and after them what stands behind the last newline
abbrev pub lines_of : List ℕ → List (List ℕ)
lines_of text = pieces 10 text

-- the words of a line: a word is empty where two spaces meet or one stands at an end
abbrev pub words_of : List ℕ → List (List ℕ)
words_of line = pieces 32 line

-- a space or another printed character of ASCII
abbrev pub is_printed : ℕ → Bool
is_printed b = nat_le 32 b && nat_le b 126

-- `0` to `9`
abbrev pub is_decimal : ℕ → Bool
is_decimal b = nat_le 48 b && nat_le b 57

-- `0` to `9`, `a` to `f`
abbrev pub is_hexadecimal : ℕ → Bool
is_hexadecimal b = is_decimal b || (nat_le 97 b && nat_le b 102)

-- a number without sign and leading zero: one digit, or some of which the first is not `0`
abbrev pub is_number : List ℕ → Bool
is_number [] = false
is_number (digit ∷ []) = is_decimal digit
is_number (first ∷ second ∷ more) = not (first == 48) && list_all is_decimal (first ∷ second ∷ more)

-- the number that decimal digits say, behind others that say n
abbrev pub number_after : ℕ → List ℕ → ℕ
number_after n [] = n
number_after n (digit ∷ digits) = number_after (n * 10 + (digit - 48)) digits

-- the number that a word of decimal digits says
abbrev pub number_of : List ℕ → ℕ
number_of word = number_after 0 word

-- an even count of hexadecimal digits, and at least two
abbrev pub are_bytes : List ℕ → Bool
are_bytes word = nat_lt 0 (length word) && (length word % 2 == 0) && list_all is_hexadecimal word

-- what one hexadecimal digit says
abbrev pub hexadecimal : ℕ → ℕ
hexadecimal digit = if nat_le digit 57 then digit - 48 else digit - 87

-- the bytes that hexadecimal digits say, the higher digit first
abbrev pub bytes_of : List ℕ → List ℕ
bytes_of [] = []
bytes_of (digit ∷ []) = []
bytes_of (high ∷ low ∷ more) = (16 * hexadecimal high + hexadecimal low) ∷ bytes_of more

-- a number, if it is in its range
abbrev pub within : Bounds → ℕ → Result ℕ ScheduleRule
within bounds n = if nat_le bounds.least n && nat_le n bounds.most then Ok n else Err rule.Range

-- two values, if both are there
abbrev pub both : Result ℕ ScheduleRule → Result ℕ ScheduleRule → Result (ℕ × ℕ) ScheduleRule
both (Err broken) b = Err broken
both (Ok a) (Err broken) = Err broken
both (Ok a) (Ok b) = Ok (a, b)

-- three values, if all are there
abbrev pub all_three : Result ℕ ScheduleRule → Result ℕ ScheduleRule → Result ℕ ScheduleRule → Result (ℕ × ℕ × ℕ) ScheduleRule
all_three (Err broken) b c = Err broken
all_three (Ok a) (Err broken) c = Err broken
all_three (Ok a) (Ok b) (Err broken) = Err broken
all_three (Ok a) (Ok b) (Ok c) = Ok (a, b, c)

-- one word that is a number in its range
abbrev pub number_said : Bounds → List ℕ → Result ℕ ScheduleRule
number_said bounds word = if is_number word then within bounds (number_of word) else Err rule.Form

-- two words: both are numbers before either has to be in its range
abbrev pub pair_said : Bounds → Bounds → List ℕ → List ℕ → Result (ℕ × ℕ) ScheduleRule
pair_said first second a b =
    if is_number a && is_number b then both (within first (number_of a)) (within second (number_of b)) else Err rule.Form

-- three words, in the same way
abbrev pub triple_said : Bounds → Bounds → Bounds → List ℕ → List ℕ → List ℕ → Result (ℕ × ℕ × ℕ) ScheduleRule
triple_said first second third a b c =
    if is_number a && is_number b && is_number c
    then all_three (within first (number_of a)) (within second (number_of b)) (within third (number_of c))
    else Err rule.Form
