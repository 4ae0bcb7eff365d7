-- How many entries the program's getdents(2) gives, by what the native call gave with enough room.
use Rattle.std.proofs.Common.{◌≡◌, ◌⊎◌, ℕ, ◌+◌, ◌-◌, ◌*◌, ◌/◌, ◌<◌, ◌≤◌, Bool, true, false, List, [], ◌∷◌, length, Option, Some, None, refl, sym, ap, subst, ◌∙◌, inl, inr, arith}
use Rattle.std.specs.Prelude.{◌||◌, nat_lt, sum_by, if◌then◌else◌}
use Rattle.std.proofs.lemmas.Bool.Decides.{nat_tests}
use Rattle.std.proofs.lemmas.List.Sums.{sum_by-cons}
use Rattle.kernel_core.specs.declared.error.Errno.{Errno}
use Rattle.kernel_core.specs.declared.error.Errno.TheVariants.{EFAULT, EINVAL, EOVERFLOW}
use Rattle.kernel_model.specs.Came.{Done, Refused}
use Rattle.kernel_model.specs.ContentRows.{Entry, entries_refusal, fitting, is_above, record_length}
use Rattle.native_calls.specs.Status.{entry_records}
use Rattle.bridge_entries.specs.inside.Given.{AreListed, IsListed}
use Rattle.bridge_entries.specs.inside.Answers.{came_by, came_of, if_room, narrow}

-- A native record has at most twice the bytes of the program's.

twice_of : (n : ℕ) → (20 + n + 7) / 8 * 8 ≤ 2 * ((12 + n + 3) / 4 * 4)
twice_of n = omega arith

twice : (entry : Entry) → record_length entry_records entry ≤ 2 * record_length narrow entry
twice entry = twice_of (length entry.name)

short_of : (n : ℕ) → n ≤ 255 → (12 + n + 3) / 4 * 4 ≤ 268
short_of n short = omega arith

short_record : (position : ℕ) (entry : Entry) → IsListed position entry → record_length narrow entry ≤ 268
short_record position entry listed = short_of (length entry.name) listed.short

-- those that fit, by two tests

fitting_if : Bool → Bool → Entry → List Entry → List Entry
fitting_if long above entry rest = if long || above then [] else entry ∷ rest

refusal_if : Bool → Bool → Option Errno
refusal_if long above = if long then Some EINVAL else (if above then Some EOVERFLOW else None)

not_long : (size first : ℕ) → first ≤ size → nat_lt size first ≡ false
not_long size first fits = grind (arith, nat_tests)

is_long : (size first : ℕ) → size < first → nat_lt size first ≡ true
is_long size first long = grind (arith, nat_tests)

or_less : (size first : ℕ) → (first ≤ size) ⊎ (size < first)
or_less size first = by (nat_lt size first) refl where
  by : (b : Bool) → nat_lt size first ≡ b → (first ≤ size) ⊎ (size < first)
  by true is = inr (grind (arith, nat_tests))
  by false is = inl (grind (arith, nat_tests))

-- the entry fits: so does its native record, and the rest has room
native_fits : (size room : ℕ) (entry : Entry) (rest : List Entry) → record_length entry_records entry ≤ room → fitting entry_records room (entry ∷ rest) ≡ entry ∷ fitting entry_records (room - record_length entry_records entry) rest
native_fits size room entry rest fits =
    ap (λ (b : Bool). if b || false then [] else entry ∷ fitting entry_records (room - record_length entry_records entry) rest) (not_long room (record_length entry_records entry) fits)

narrow_long : (size : ℕ) (entry : Entry) (rest : List Entry) → size < record_length narrow entry → fitting narrow size (entry ∷ rest) ≡ []
narrow_long size entry rest long =
    ap (λ (b : Bool). if b || is_above narrow.greatest entry.node then [] else entry ∷ fitting narrow (size - record_length narrow entry) rest) (is_long size (record_length narrow entry) long)

native_either : (room : ℕ) (entry : Entry) (rest : List Entry) → (fitting entry_records room (entry ∷ rest) ≡ []) ⊎ (fitting entry_records room (entry ∷ rest) ≡ entry ∷ fitting entry_records (room - record_length entry_records entry) rest)
native_either room entry rest = by (nat_lt room (record_length entry_records entry)) where
  by : (b : Bool) → ((if b || false then [] else entry ∷ fitting entry_records (room - record_length entry_records entry) rest) ≡ []) ⊎ ((if b || false then [] else entry ∷ fitting entry_records (room - record_length entry_records entry) rest) ≡ entry ∷ fitting entry_records (room - record_length entry_records entry) rest)
  by true = inl refl
  by false = inr refl

room_left : (size room first native : ℕ) → first ≤ size → 2 * size ≤ room → native ≤ 2 * first → 2 * (size - first) ≤ room - native
room_left size room first native fits enough less = omega arith

-- With twice the room the native call gives at least as many.
pub fitting_again : (size room : ℕ) (found : List Entry) → 2 * size ≤ room → fitting narrow size (fitting entry_records room found) ≡ fitting narrow size found
unfolding fitting_if
fitting_again size room [] enough = refl
fitting_again size room (entry ∷ rest) enough =
    by (or_less size (record_length narrow entry)) (native_either room entry rest)
    (λ fits. fitting_again (size - record_length narrow entry) (room - record_length entry_records entry) rest (room_left size room (record_length narrow entry) (record_length entry_records entry) fits enough (twice entry))) where
      by : (record_length narrow entry ≤ size) ⊎ (size < record_length narrow entry)
          → (fitting entry_records room (entry ∷ rest) ≡ []) ⊎ (fitting entry_records room (entry ∷ rest) ≡ entry ∷ fitting entry_records (room - record_length entry_records entry) rest)
          → (record_length narrow entry ≤ size → fitting narrow (size - record_length narrow entry) (fitting entry_records (room - record_length entry_records entry) rest) ≡ fitting narrow (size - record_length narrow entry) rest)
          → fitting narrow size (fitting entry_records room (entry ∷ rest)) ≡ fitting narrow size (entry ∷ rest)
      by (inl fits) either later =
          let native_less : record_length entry_records entry ≤ room = let t = twice entry in omega arith in
          ap (fitting narrow size) (native_fits size room entry rest native_less)
          ∙ ap (λ (l : List Entry). fitting_if (nat_lt size (record_length narrow entry)) (is_above narrow.greatest entry.node) entry l) (later fits)
      by (inr long) (inl none) later = ap (fitting narrow size) none ∙ sym (narrow_long size entry rest long)
      by (inr long) (inr some) later = ap (fitting narrow size) some ∙ narrow_long size entry _ long ∙ sym (narrow_long size entry rest long)

refusal_if_is : (size : ℕ) (entry : Entry) (rest : List Entry) → entries_refusal narrow size (entry ∷ rest) ≡ refusal_if (nat_lt size (record_length narrow entry)) (is_above narrow.greatest entry.node)
unfolding refusal_if
refusal_if_is size entry rest = refl

-- What comes of the entries that the native call gave is what comes of all, where it gave one.
pub came_again : (size enough room : ℕ) (found : List Entry) (first : Entry) (rest : List Entry) → 2 * size ≤ enough → fitting entry_records enough found ≡ first ∷ rest
    → came_by size room (fitting entry_records enough found) ≡ came_by size room found
came_again size enough room [] first rest twice' is = refl
came_again size enough room (entry ∷ found) first rest twice' is =
    let more = fitting_again size enough (entry ∷ found) twice' in
    ap (came_of room (entries_refusal narrow size (fitting entry_records enough (entry ∷ found)))) more
    ∙ ap (λ (o : Option Errno). came_of room o (fitting narrow size (entry ∷ found))) (by (native_either enough entry found)) where
      by : (fitting entry_records enough (entry ∷ found) ≡ []) ⊎ (fitting entry_records enough (entry ∷ found) ≡ entry ∷ fitting entry_records (enough - record_length entry_records entry) found)
          → entries_refusal narrow size (fitting entry_records enough (entry ∷ found)) ≡ entries_refusal narrow size (entry ∷ found)
      by (inl none) = absurd (let bad : first ∷ rest ≡ [] = sym is ∙ none in cc)
      by (inr some) = ap (entries_refusal narrow size) some

-- Where it gave none of them, the first is too long for the program too.
pub came_refused : (size enough room : ℕ) (entry : Entry) (found : List Entry) → 2 * size ≤ enough → fitting entry_records enough (entry ∷ found) ≡ [] → came_by size room (entry ∷ found) ≡ Refused EINVAL
came_refused size enough room entry found twice' none =
    let long : nat_lt size (record_length narrow entry) ≡ true = by (or_less size (record_length narrow entry)) in
    ap (λ (b : Bool). came_of room (if b then Some EINVAL else (if is_above narrow.greatest entry.node then Some EOVERFLOW else None)) (fitting narrow size (entry ∷ found))) long where
      by : (record_length narrow entry ≤ size) ⊎ (size < record_length narrow entry) → nat_lt size (record_length narrow entry) ≡ true
      by (inl fits) = absurd (
          let t = twice entry in
          let native_less : record_length entry_records entry ≤ enough = omega arith in
          let bad : entry ∷ fitting entry_records (enough - record_length entry_records entry) found ≡ [] = sym (native_fits size enough entry found native_less) ∙ none in cc)
      by (inr long) = is_long size (record_length narrow entry) long

-- No more bytes have to be asked for than can be stored, and one record.

sum_of : (entry : Entry) (rest : List Entry) → sum_by (record_length narrow) (entry ∷ rest) ≡ record_length narrow entry + sum_by (record_length narrow) rest
sum_of entry rest = sum_by-cons (record_length narrow) entry rest

-- the same entries, or neither have room
data SameFit (room : ℕ) (some all : List Entry) : Type 0 where
  Same : some ≡ all → SameFit room some all
  NoRoom : room < sum_by (record_length narrow) some → room < sum_by (record_length narrow) all → SameFit room some all

both_fit : (size : ℕ) (entry : Entry) (rest : List Entry) → record_length narrow entry ≤ size
    → fitting narrow size (entry ∷ rest) ≡ fitting_if false (is_above narrow.greatest entry.node) entry (fitting narrow (size - record_length narrow entry) rest)
unfolding fitting_if
both_fit size entry rest fits =
    ap (λ (b : Bool). if b || is_above narrow.greatest entry.node then [] else entry ∷ fitting narrow (size - record_length narrow entry) rest) (not_long size (record_length narrow entry) fits)

past_by : (room first more sum : ℕ) → first ≤ room → room - first < more → sum ≡ first + more → room < sum
past_by room first more sum fits less is = omega arith

past_first : (room first more sum : ℕ) → room < first → sum ≡ first + more → room < sum
past_first room first more sum past is = omega arith

later_fit : (room : ℕ) (entry : Entry) (some all : List Entry) → record_length narrow entry ≤ room → SameFit (room - record_length narrow entry) some all → SameFit room (entry ∷ some) (entry ∷ all)
later_fit room entry some all fits (Same is) = Same (ap (λ (l : List Entry). entry ∷ l) is)
later_fit room entry some all fits (NoRoom one other) =
    NoRoom (past_by room (record_length narrow entry) _ _ fits one (sum_of entry some)) (past_by room (record_length narrow entry) _ _ fits other (sum_of entry all))

either_fit : (room : ℕ) (entry : Entry) (some all : List Entry) → (record_length narrow entry ≤ room) ⊎ (room < record_length narrow entry)
    → (record_length narrow entry ≤ room → SameFit (room - record_length narrow entry) some all) → SameFit room (entry ∷ some) (entry ∷ all)
either_fit room entry some all (inl fits) later = later_fit room entry some all fits (later fits)
either_fit room entry some all (inr past) later =
    NoRoom (past_first room (record_length narrow entry) _ _ past (sum_of entry some)) (past_first room (record_length narrow entry) _ _ past (sum_of entry all))

if_fit : (room : ℕ) (above : Bool) (entry : Entry) (some all : List Entry) → SameFit room (entry ∷ some) (entry ∷ all) → SameFit room (fitting_if false above entry some) (fitting_if false above entry all)
unfolding fitting_if
if_fit room true entry some all same = Same refl
if_fit room false entry some all same = same

same_fit : (position size asked room : ℕ) (found : List Entry) → asked ≤ size → room + 268 ≤ asked → AreListed position found → SameFit room (fitting narrow asked found) (fitting narrow size found)
same_fit position size asked room [] less enough listed = Same refl
same_fit position size asked room (entry ∷ rest) less enough listed =
    let first : ℕ = record_length narrow entry in
    let short = short_record position entry listed.0 in
    let fits : first ≤ asked = omega (arith, short, enough) in
    let fits_all : first ≤ size = omega (arith, fits, less) in
    let some : List Entry = fitting narrow (asked - first) rest in
    let all : List Entry = fitting narrow (size - first) rest in
    let above : Bool = is_above narrow.greatest entry.node in
    subst (λ (l : List Entry). SameFit room l (fitting narrow size (entry ∷ rest))) (sym (both_fit asked entry rest fits))
    (subst (λ (l : List Entry). SameFit room (fitting_if false above entry some) l) (sym (both_fit size entry rest fits_all))
    (if_fit room above entry some all (either_fit room entry some all (or_less room first)
    (λ here. same_fit position (size - first) (asked - first) (room - first) rest (omega (arith, less)) (omega (arith, enough, here)) listed.1))))

same_refusal : (position size asked room : ℕ) (found : List Entry) → asked ≤ size → room + 268 ≤ asked → AreListed position found → entries_refusal narrow asked found ≡ entries_refusal narrow size found
same_refusal position size asked room [] less enough listed = refl
same_refusal position size asked room (entry ∷ rest) less enough listed =
    let short = short_record position entry listed.0 in
    let fits : record_length narrow entry ≤ asked = omega (arith, short, enough) in
    let fits_all : record_length narrow entry ≤ size = omega (arith, fits, less) in
    ap (λ (b : Bool). if b then Some EINVAL else (if is_above narrow.greatest entry.node then Some EOVERFLOW else None)) (not_long asked (record_length narrow entry) fits ∙ sym (not_long size (record_length narrow entry) fits_all))

if_room_same : (room : ℕ) (some all : List Entry) → SameFit room some all → if_room room some ≡ if_room room all
if_room_same room some all (Same is) = ap (if_room room) is
if_room_same room some all (NoRoom one other) =
    ap (λ (b : Bool). if b then Refused EFAULT else Done some) (is_long room (sum_by (record_length narrow) some) one)
    ∙ sym (ap (λ (b : Bool). if b then Refused EFAULT else Done all) (is_long room (sum_by (record_length narrow) all) other))

came_of_same : (room : ℕ) (o : Option Errno) (some all : List Entry) → SameFit room some all → came_of room o some ≡ came_of room o all
came_of_same room (Some error) some all same = refl
came_of_same room None some all same = if_room_same room some all same

-- asking for as many bytes as can be stored, and one record more, comes to the same as asking for all
pub came_asked : (position size asked room : ℕ) (found : List Entry) → (asked ≡ size) ⊎ ((asked ≤ size) × (room + 268 ≤ asked)) → AreListed position found → came_by asked room found ≡ came_by size room found
came_asked position size asked room found (inl is) listed = ap (λ (n : ℕ). came_by n room found) is
came_asked position size asked room found (inr both) listed =
    let less = both.0 in
    let enough = both.1 in
    ap (λ (o : Option Errno). came_of room o (fitting narrow asked found)) (same_refusal position size asked room found less enough listed)
    ∙ came_of_same room (entries_refusal narrow size found) (fitting narrow asked found) (fitting narrow size found) (same_fit position size asked room found less enough listed)
