-- The program's records of entries, one after the other.
use Rattle.std.proofs.Common.{◌≡◌, ℕ, ◌+◌, ◌-◌, ◌||◌, Bool, true, false, List, [], ◌∷◌, ◌++◌, length, take, drop, Option, Some, None, refl, sym, ap, ◌∙◌, arith, append_assoc, append-nil}
use Rattle.std.specs.List.{flat_map}
use Rattle.std.specs.Prelude.{nat_lt, nat_le, not, if◌then◌else◌}
use Rattle.std.proofs.lemmas.Bool.Decides.{nat_tests}
use Rattle.std.proofs.lemmas.Grind.{flat_map-append}
use Rattle.std.proofs.lemmas.List.{drop_at, drop-drop}
use Rattle.kernel_core.specs.Queries.{NodeKind, FileKind, DirectoryKind, LinkKind}
use Rattle.kernel_core.specs.declared.error.Errno.TheVariants.{EINVAL, EOVERFLOW}
use Rattle.kernel_model.specs.ContentRows.{Entry, entries_refusal, fitting, is_above, position_after}
use Rattle.layouts.specs.Dirents.{dirent_bytes, dirent64_bytes, dirent64_length, type_number}
use Rattle.native_calls.specs.Status as native
use Rattle.native_calls.specs.Status.{entry_bytes}
use Rattle.o32_model.specs.Entries as o32
use Rattle.bridge_entries.proofs.RecordLemmas.{read_entry, length-entry, name_there}
use Rattle.bridge_entries.specs.declared.records.Form.{Form}
use Rattle.bridge_entries.specs.declared.records.Form.TheVariants.{Narrow, Wide}
use Rattle.bridge_entries.specs.declared.records.Record.{Record}
use Rattle.bridge_entries.specs.declared.showing.Shown.{Shown}
use Rattle.bridge_entries.specs.inside.Given.{AreListed, IsListed, record_of}
use Rattle.bridge_entries.specs.inside.Records.{can_hold, if_fits, length_for, next_fitting, record_bytes, refusal, refusal_of}
use Rattle.bridge_entries.specs.inside.Showing.{IsShown, form_of, fitting_in}

-- One record

kind_is : (kind : NodeKind) → type_number (native.entry_type kind) ≡ type_number (o32.entry_type kind)
kind_is FileKind = refl
kind_is DirectoryKind = refl
kind_is LinkKind = refl

pub bytes_are : (form : Form) (entry : Entry) → record_bytes form (record_of entry) entry.name ≡ (form_of form).bytes entry
bytes_are Narrow entry = ap (λ (kind : ℕ). dirent_bytes entry.node entry.cookie kind entry.name) (kind_is entry.kind)
bytes_are Wide entry = ap (λ (kind : ℕ). dirent64_bytes true entry.node entry.cookie kind entry.name) (kind_is entry.kind)

too_long : (form : Form) → Entry → ℕ → Bool
too_long form entry left = nat_lt left (length_for form (length entry.name)) || not (can_hold form entry.node)

above_is : (node : ℕ) → nat_lt 4294967295 node ≡ not (nat_le node 4294967295)
above_is node = grind (arith, nat_tests)

test_is : (form : Form) (entry : Entry) (left : ℕ)
    → (nat_lt left ((form_of form).records.length_for (length entry.name)) || is_above (form_of form).records.greatest entry.node) ≡ too_long form entry left
unfolding too_long
test_is Narrow entry left = ap (λ (b : Bool). nat_lt left (length_for Narrow (length entry.name)) || b) (above_is entry.node)
test_is Wide entry left = refl

-- what comes of the first entry, by that test

fitting_by : Form → ℕ → Entry → List Entry → Bool → List Entry
fitting_by form left entry entries long = if long then [] else entry ∷ fitting_in form (left - length_for form (length entry.name)) entries

length_is : (form : Form) (n : ℕ) → (form_of form).records.length_for n ≡ length_for form n
length_is Narrow n = refl
length_is Wide n = refl

fitting_is : (form : Form) (left : ℕ) (entry : Entry) (entries : List Entry) → fitting_in form left (entry ∷ entries) ≡ fitting_by form left entry entries (too_long form entry left)
unfolding fitting_by
fitting_is form left entry entries =
    ap (λ (b : Bool). if b then [] else entry ∷ fitting (form_of form).records (left - (form_of form).records.length_for (length entry.name)) entries) (test_is form entry left)
    ∙ ap (λ (n : ℕ). if too_long form entry left then [] else entry ∷ fitting (form_of form).records (left - n) entries) (length_is form (length entry.name))

next_by : Entry → Bool → Option Record
next_by entry long = if long then None else Some (record_of entry)

next_is : (form : Form) (left position : ℕ) (entry : Entry) (rest : List ℕ) → IsListed position entry → next_fitting form left (entry_bytes entry ++ rest) ≡ next_by entry (too_long form entry left)
unfolding next_by too_long
next_is form left position entry rest listed = ap (if_fits form left) (read_entry position entry rest listed)

-- All so far

pub record Shows (form : Form) (size position place : ℕ) (given : List ℕ) (shown : Shown) (entries : List Entry) : Type 0 where
  pub before : List Entry
  pub rest : List Entry
  pub listed : AreListed position rest
  pub stands : drop place given ≡ flat_map entry_bytes rest
  pub bytes : shown.bytes.items ≡ flat_map (form_of form).bytes before
  pub cookie : shown.cookie ≡ position_after position before
  pub fit : fitting_in form size entries ≡ before ++ fitting_in form shown.left rest

abbrev pub ShowsAll : Form → ℕ → ℕ → ℕ → List ℕ → Shown → Type 0
ShowsAll form size position place given shown =
    (entries : List Entry) → AreListed position entries → given ≡ flat_map entry_bytes entries → Shows form size position place given shown entries

pub shows_none : (form : Form) (size position : ℕ) (given : List ℕ) (shown : Shown) → shown.bytes.items ≡ [] → shown.cookie ≡ position → shown.left ≡ size → ShowsAll form size position 0 given shown
shows_none form size position given shown none at all entries listed is = record {
  before = [];
  rest = entries;
  listed = listed;
  stands = is;
  bytes = none;
  cookie = at;
  fit = ap (λ (n : ℕ). fitting_in form n entries) (sym all);
}

-- one more

pub record IsMore (form : Form) (old new : Shown) (found : Record) (bytes : List ℕ) : Type 0 where
  pub bytes_more : new.bytes.items ≡ old.bytes.items ++ record_bytes form found (take found.name (drop 19 bytes))
  pub cookie : new.cookie ≡ found.cookie
  pub left : new.left + length_for form found.name ≡ old.left

position_more : (position : ℕ) (entries : List Entry) (entry : Entry) → position_after position (entries ++ entry ∷ []) ≡ entry.cookie
position_more position [] entry = refl
position_more position (first ∷ entries) entry = position_more first.cookie entries entry

some_is : {A : Type 0} {a b : A} → Some a ≡ Some b → a ≡ b
some_is same = cc

no_record : (form : Form) (left : ℕ) → next_fitting form left [] ≡ None
no_record form left = refl

fits_not : (entry : Entry) (long : Bool) (found : Record) → Some found ≡ next_by entry long → (long ≡ false) × (found ≡ record_of entry)
unfolding next_by
fits_not entry true found is = absurd (cc)
fits_not entry false found is = (refl, some_is is)

module _ (form : Form) (size position place : ℕ) (given : List ℕ) (old new : Shown) (found : Record) where
  one_more : (entries before : List Entry) (entry : Entry) (rest : List Entry) → IsListed position entry → AreListed position rest → drop place given ≡ entry_bytes entry ++ flat_map entry_bytes rest
      → old.bytes.items ≡ flat_map (form_of form).bytes before
      → fitting_in form size entries ≡ before ++ fitting_in form old.left (entry ∷ rest)
      → Some found ≡ next_fitting form old.left (drop place given) → IsMore form old new found (drop place given)
      → Shows form size position (place + found.length) given new entries
  unfolding fitting_by
  one_more entries before entry rest here listed stands bytes fit next more =
      let by_test = fits_not entry (too_long form entry old.left) found (next ∙ ap (next_fitting form old.left) stands ∙ next_is form old.left position entry (flat_map entry_bytes rest) here) in
      let is : found ≡ record_of entry = by_test.1 in
      let name_is : take found.name (drop 19 (drop place given)) ≡ entry.name
      = ap (λ (r : Record). take r.name (drop 19 (drop place given))) is ∙ ap (λ (l : List ℕ). take (length entry.name) (drop 19 l)) stands ∙ name_there entry (flat_map entry_bytes rest) in
      let made : record_bytes form found (take found.name (drop 19 (drop place given))) ≡ (form_of form).bytes entry
      = ap (record_bytes form found) name_is ∙ ap (λ (r : Record). record_bytes form r entry.name) is ∙ bytes_are form entry in
      let long : found.length ≡ dirent64_length (length entry.name) = ap (λ (r : Record). r.length) is in
      let left_is : old.left - length_for form (length entry.name) ≡ new.left
      = let e = more.left in let n : found.name ≡ length entry.name = ap (λ (r : Record). r.name) is in let f : length_for form found.name ≡ length_for form (length entry.name) = ap (length_for form) n in omega (arith, e, f) in
      record {
        before = before ++ entry ∷ [];
        rest = rest;
        listed = listed;
        stands =
            sym (drop-drop found.length place given) ∙ ap (drop found.length) stands
            ∙ drop_at (entry_bytes entry) (flat_map entry_bytes rest) found.length (length-entry entry ∙ sym long);
        bytes =
            more.bytes_more ∙ ap (λ (l : List ℕ). l ++ record_bytes form found (take found.name (drop 19 (drop place given)))) bytes
            ∙ ap (λ (l : List ℕ). flat_map (form_of form).bytes before ++ l) (made ∙ sym (append-nil ((form_of form).bytes entry)))
            ∙ sym (flat_map-append (form_of form).bytes before (entry ∷ []));
        cookie = more.cookie ∙ ap (λ (r : Record). r.cookie) is ∙ sym (position_more position before entry);
        fit =
            fit ∙ ap (λ (l : List Entry). before ++ l) (fitting_is form old.left entry rest ∙ ap (fitting_by form old.left entry rest) by_test.0)
            ∙ ap (λ (n : ℕ). before ++ (entry ∷ fitting_in form n rest)) left_is
            ∙ sym (append_assoc before (entry ∷ []) (fitting_in form new.left rest));
      }

  pub shows_more : ShowsAll form size position place given old → Some found ≡ next_fitting form old.left (drop place given) → IsMore form old new found (drop place given) → ShowsAll form size position (place + found.length) given new
  shows_more so_far next more entries listed is = by (so_far entries listed is) where
    of : (before rest : List Entry) → AreListed position rest → drop place given ≡ flat_map entry_bytes rest → old.bytes.items ≡ flat_map (form_of form).bytes before → fitting_in form size entries ≡ before ++ fitting_in form old.left rest → Shows form size position (place + found.length) given new entries
    of before [] listed stands bytes fit = absurd (let none = next ∙ ap (next_fitting form old.left) stands ∙ no_record form old.left in cc)
    of before (entry ∷ rest) listed stands bytes fit = one_more entries before entry rest listed.0 listed.1 stands bytes fit next more

    by : Shows form size position place given old entries → Shows form size position (place + found.length) given new entries
    by s = of s.before s.rest s.listed s.stands s.bytes s.fit

-- none further fits

none_by : (form : Form) (left : ℕ) (entry : Entry) (entries : List Entry) (long : Bool) → None ≡ next_by entry long → fitting_by form left entry entries long ≡ []
unfolding next_by fitting_by
none_by form left entry entries true is = refl
none_by form left entry entries false is = absurd (cc)

module _ (form : Form) (size position place : ℕ) (given : List ℕ) (shown : Shown) (entries : List Entry) where
  ends : (rest : List Entry) → AreListed position rest → drop place given ≡ flat_map entry_bytes rest → None ≡ next_fitting form shown.left (drop place given) → fitting_in form shown.left rest ≡ []
  ends [] listed stands none = refl
  ends (entry ∷ rest) listed stands none =
      fitting_is form shown.left entry rest
      ∙ none_by form shown.left entry rest (too_long form entry shown.left) (none ∙ ap (next_fitting form shown.left) stands ∙ next_is form shown.left position entry (flat_map entry_bytes rest) listed.0)

  pub shown_all : Shows form size position place given shown entries → None ≡ next_fitting form shown.left (drop place given) → IsShown form size position entries shown
  shown_all s none =
      let all : fitting_in form size entries ≡ s.before = s.fit ∙ ap (λ (l : List Entry). s.before ++ l) (ends s.rest s.listed s.stands none) ∙ append-nil s.before in
      record { bytes = s.bytes ∙ ap (flat_map (form_of form).bytes) (sym all); cookie = s.cookie ∙ ap (position_after position) (sym all) }

-- What is wrong with the first

wrong_by : (long above : Bool) → (if long then Some EINVAL else (if not above then None else Some EOVERFLOW)) ≡ (if long then Some EINVAL else (if above then Some EOVERFLOW else None))
wrong_by true above = refl
wrong_by false true = refl
wrong_by false false = refl

holds_is : (form : Form) (node : ℕ) → can_hold form node ≡ not (is_above (form_of form).records.greatest node)
holds_is Narrow node = grind (arith, nat_tests)
holds_is Wide node = refl

pub refusal_is : (form : Form) (size position : ℕ) (entries : List Entry) → AreListed position entries → refusal form size (flat_map entry_bytes entries) ≡ entries_refusal (form_of form).records size entries
refusal_is form size position [] listed = refl
refusal_is form size position (entry ∷ entries) listed =
    let above : Bool = is_above (form_of form).records.greatest entry.node in
    ap (refusal_of form size) (read_entry position entry (flat_map entry_bytes entries) listed.0)
    ∙ ap (λ (n : ℕ). if nat_lt size n then Some EINVAL else (if can_hold form entry.node then None else Some EOVERFLOW)) (sym (length_is form (length entry.name)))
    ∙ ap (λ (b : Bool). if nat_lt size ((form_of form).records.length_for (length entry.name)) then Some EINVAL else (if b then None else Some EOVERFLOW)) (holds_is form entry.node)
    ∙ wrong_by (nat_lt size ((form_of form).records.length_for (length entry.name))) above
