-- What is added to files that were made.
use Rattle.std.proofs.Common.{◌≡◌, ◌≢◌, ℕ, Bool, true, false, List, [], ◌++◌, Option, Some, None, Result, Ok, Err, OnErr, inl, inr, refl, sym, ap, ◌∙◌, subst, append-nil}
use Rattle.std.specs.Prelude.{if◌then◌else◌}
use Rattle.std.specs.Str.{bytes_eq}
use Rattle.std.proofs.lemmas.Slice.Eq.{bytes_eq-Decides}
use Rattle.outside.specs.Files.{ChangesFile, Files, Gains, GainsPart}
use Rattle.outside.specs.Output.{IsPrefix, with_text}
use Rattle.outside.proofs.FileLemmas.{bytes_eq-differ, bytes_eq-same}
use Rattle.outside.proofs.OutputLemmas.{IsPrefix-empty, IsPrefix-refl}
use Rattle.o32_runner.specs.Making.{Makes, MakesBoth, MakesNone, MakesNotAll, MakesNotBoth}
use Rattle.stored_files.specs.Stored.{HasText, IfNamed, SavesText, Stored}
use Rattle.o32_runner.specs.Texts.{Differ}
use Rattle.o32_runner.specs.inside.Told.{Adds, AddsBoth, AddsPart, AddsPartOfAll, AddsPartOfBoth, AddsText}

-- One file

abbrev IsGain : List ℕ → Option (List ℕ) → Option (List ℕ) → Type 0
IsGain text before after = after ≡ with_text before text

changes : (old new : Option Files) (name : List ℕ) (P Q : Option (List ℕ) → Option (List ℕ) → Type 0) → ((before after : Option (List ℕ)) → P before after → Q before after)
    → ChangesFile old new name P → ChangesFile old new name Q
changes None new name P Q so change = change
changes (Some old) None name P Q so change = absurd change
changes (Some old) (Some new) name P Q so change = (so (old name) (new name) change.0, change.1)

unchanged : (files : Option Files) (name : List ℕ) (P : Option (List ℕ) → Option (List ℕ) → Type 0) → ((content : Option (List ℕ)) → P content content) → ChangesFile files files name P
unchanged None name P same = refl
unchanged (Some files) name P same = (same (files name), λ other differs. refl)

-- a text was added to a file that was there
gained : (text : List ℕ) (before after : Option (List ℕ)) → Gains text before after → IsGain text before after
gained text before after gains = gains.2 ∙ sym (ap (λ (o : Option (List ℕ)). with_text o text) gains.1)

-- a part of a text is the whole of another
part_of : (old new : Option Files) (name text : List ℕ) → ChangesFile old new name (GainsPart text) → (part : List ℕ) × IsPrefix part text × ChangesFile old new name (IsGain part)
part_of None new name text change = ([], IsPrefix-empty text, change)
part_of (Some old) None name text change = absurd change
part_of (Some old) (Some new) name text change =
    (change.0.0, change.0.1, (gained change.0.0 (old name) (new name) change.0.2, change.1))

nothing : (content : Option (List ℕ)) → IsGain [] content content
nothing None = refl
nothing (Some text) = ap Some (sym (append-nil text))

-- it has more than it had
more : (start old new : Option Files) (name first text : List ℕ) → ChangesFile start old name (HasText first) → ChangesFile old new name (IsGain text) → ChangesFile start new name (HasText (first ++ text))
more None None new name first text made adds = adds
more None (Some old) new name first text made adds = absurd cc
more (Some start) None new name first text made adds = absurd made
more (Some start) (Some old) None name first text made adds = absurd adds
more (Some start) (Some old) (Some new) name first text made adds =
    (adds.0 ∙ ap (λ (o : Option (List ℕ)). with_text o text) made.0, λ other differs. adds.1 other differs ∙ made.1 other differs)

-- The store

module _ (name text : List ℕ) (old new : Stored) (created : new.created ≡ old.created) (loads : new.loads ≡ old.loads) (turned : new.turned ≡ old.turned) where
  pub appended : ChangesFile old.files new.files name (Gains text) → AddsText name text old new
  appended gains = record { files = changes old.files new.files name (Gains text) (IsGain text) (gained text) gains; created = created; loads = loads; turned = turned }

  pub appended_part : ChangesFile old.files new.files name (GainsPart text) → AddsPart (Some name) text old new
  appended_part gains =
      let some = part_of old.files new.files name text gains in
      (some.0, some.1, record { files = some.2; created = created; loads = loads; turned = turned })

adds_nothing : (name : List ℕ) (store : Stored) → AddsText name [] store store
adds_nothing name store = record { files = unchanged store.files name (IsGain []) nothing; created = refl; loads = refl; turned = refl }

-- nothing was added
pub added_none : (name : Option (List ℕ)) (store : Stored) → Adds name [] store store
added_none None store = refl
added_none (Some name) store = adds_nothing name store

pub added_nothing : (name : Option (List ℕ)) (text : List ℕ) (store : Stored) → text ≡ [] → Adds name text store store
added_nothing name text store none = subst (λ (t : List ℕ). Adds name t store store) (sym none) (added_none name store)

pub added_no_part : (name : Option (List ℕ)) (text : List ℕ) (store : Stored) → AddsPart name text store store
added_no_part name text store = ([], IsPrefix-empty text, added_none name store)

-- What a file has, where one is named
abbrev pub Saves : Option (List ℕ) → List ℕ → Stored → Stored → Type 0
Saves name text old new = IfNamed name (λ there. SavesText there text) old new

saves_more : (name first text : List ℕ) (start old new : Stored) → SavesText name first start old → AddsText name text old new → SavesText name (first ++ text) start new
saves_more name first text start old new saved adds = record {
  files = more start.files old.files new.files name first text saved.files adds.files;
  created = adds.created ∙ saved.created;
  loads = adds.loads ∙ saved.loads;
  turned = adds.turned ∙ saved.turned;
}

-- What was added to one file behind another that was made was added before it.

module _ (name other text saved : List ℕ) (differ : name ≢ other) where
  -- the files with that text
  abbrev with_more : Files → Files
  with_more files which = if bytes_eq which name then with_text (files name) text else files which

  at_name : (files : Files) → with_more files name ≡ with_text (files name) text
  at_name files = ap (λ (b : Bool). if b then with_text (files name) text else files name) (bytes_eq-same name)

  at_other : (files : Files) (which : List ℕ) → which ≢ name → with_more files which ≡ files which
  at_other files which differs = ap (λ (b : Bool). if b then with_text (files name) text else files which) (bytes_eq-differ which name differs)

  module _ (first old new : Files) (made : (old other ≡ Some saved) × ((which : List ℕ) → which ≢ other → old which ≡ first which))
      (adds : (new name ≡ with_text (old name) text) × ((which : List ℕ) → which ≢ name → new which ≡ old which)) where
    rest_by : (which : List ℕ) (test : Bool) → bytes_eq which name ≡ test → which ≢ other → new which ≡ with_more first which
    rest_by which true is differs =
        let same : which ≡ name = (bytes_eq-Decides which name).0 is in
        subst (λ (n : List ℕ). new n ≡ with_more first n) (sym same)
        (adds.0 ∙ ap (λ (o : Option (List ℕ)). with_text o text) (made.1 name differ) ∙ sym (at_name first))
    rest_by which false is differs =
        let apart : which ≢ name = λ same. absurd (let yes : bytes_eq which name ≡ true = (bytes_eq-Decides which name).1 same in cc) in
        adds.1 which apart ∙ made.1 which differs ∙ sym (at_other first which apart)

    at_saved : new other ≡ Some saved
    at_saved = adds.1 other (λ same. differ (sym same)) ∙ made.0

  swapped : (first old new : Option Files) → ChangesFile first old other (HasText saved) → ChangesFile old new name (IsGain text)
      → (there : Option Files) × ChangesFile first there name (IsGain text) × ChangesFile there new other (HasText saved)
  swapped None None new made adds = (None, refl, adds)
  swapped None (Some old) new made adds = absurd cc
  swapped (Some first) None new made adds = absurd made
  swapped (Some first) (Some old) None made adds = absurd adds
  swapped (Some first) (Some old) (Some new) made adds = (
    Some (with_more first),
    (at_name first, λ which differs. at_other first which differs),
    (at_saved first old new made adds, λ which differs. rest_by first old new made adds which (bytes_eq which name) refl differs),
  )

  swap : (first old new : Stored) → SavesText other saved first old → AddsText name text old new → (there : Stored) × AddsText name text first there × SavesText other saved there new
  swap first old new made adds =
      let files = swapped first.files old.files new.files made.files adds.files in (
        record first { files = files.0 },
        record { files = files.1; created = refl; loads = refl; turned = refl },
        record { files = files.2; created = adds.created ∙ made.created; loads = adds.loads ∙ made.loads; turned = adds.turned ∙ made.turned },
      )

-- Both files

-- what they have: the first, and then the second
pub record SavesBoth (trace native : Option (List ℕ)) (traced logged : List ℕ) (old new : Stored) : Type 0 where
  pub middle : Stored
  pub first : Saves trace traced old middle
  pub second : Saves native logged middle new

first_more : (trace native : Option (List ℕ)) → Differ trace native → (traced logged text : List ℕ) (start old new : Stored) → SavesBoth trace native traced logged start old → Adds trace text old new
    → SavesBoth trace native (traced ++ text) logged start new
first_more None native differ traced logged text start old new saved adds =
    record { middle = saved.middle; first = saved.first; second = subst (λ (s : Stored). Saves native logged saved.middle s) (sym adds) saved.second }
first_more (Some trace) None differ traced logged text start old new saved adds = record {
  middle = new;
  first =
      saves_more trace traced text start saved.middle new saved.first
      (subst (λ (s : Stored). AddsText trace text s new) saved.second adds);
  second = refl;
}
first_more (Some trace) (Some native) differ traced logged text start old new saved adds =
    let there = swap trace native text logged differ saved.middle old new saved.second adds in
    record { middle = there.0; first = saves_more trace traced text start saved.middle there.0 saved.first there.1; second = there.2 }

second_more : (trace native : Option (List ℕ)) (traced logged text : List ℕ) (start old new : Stored) → SavesBoth trace native traced logged start old → Adds native text old new
    → SavesBoth trace native traced (logged ++ text) start new
second_more trace None traced logged text start old new saved adds =
    record { middle = saved.middle; first = saved.first; second = adds ∙ saved.second }
second_more trace (Some native) traced logged text start old new saved adds =
    record { middle = saved.middle; first = saved.first; second = saves_more native logged text saved.middle old new saved.second adds }

pub both_more : (trace native : Option (List ℕ)) → Differ trace native → (traced logged first second : List ℕ) (start old new : Stored) → SavesBoth trace native traced logged start old
    → AddsBoth trace native first second old new → SavesBoth trace native (traced ++ first) (logged ++ second) start new
both_more trace native differ traced logged first second start old new saved adds =
    second_more trace native (traced ++ first) logged second start adds.middle new
    (first_more trace native differ traced logged first start old adds.middle saved adds.first) adds.second

-- to the first alone
pub adds_first : (trace native : Option (List ℕ)) (text : List ℕ) (old new : Stored) → Adds trace text old new → AddsBoth trace native text [] old new
adds_first trace native text old new adds = record { middle = new; first = adds; second = added_none native new }

-- to none
pub adds_neither : (trace native : Option (List ℕ)) (store : Stored) → AddsBoth trace native [] [] store store
adds_neither trace native store = record { middle = store; first = added_none trace store; second = added_none native store }

-- A part of both where a part of the first was added, or the first and a part of the second

on_err : {A E : Type 0} (result : Result A E) (P Q : Type 0) → (P → Q) → OnErr result P → OnErr result Q
on_err (Ok value) P Q so p = p
on_err (Err error) P Q so p = so p

always_on_err : {A E : Type 0} (result : Result A E) (P : Type 0) → P → OnErr result P
always_on_err (Ok value) P p = tt
always_on_err (Err error) P p = p

part_of_first : (trace native : Option (List ℕ)) (first second : List ℕ) (old new : Stored) → AddsPart trace first old new → AddsPartOfBoth trace native first second old new
part_of_first trace native first second old new adds = record {
  trace_part = adds.0;
  native_part = [];
  trace_begins = adds.1;
  native_begins = IsPrefix-empty second;
  adds = adds_first trace native adds.0 old new adds.2;
}

pub first_in_part : {A E : Type 0} (result : Result A E) (trace native : Option (List ℕ)) (given first second : List ℕ) (old new : Stored) → given ≡ first → AddsPart trace given old new
    → OnErr result (AddsPartOfBoth trace native first second old new)
first_in_part result trace native given first second old new same adds =
    always_on_err result (AddsPartOfBoth trace native first second old new)
    (part_of_first trace native first second old new (subst (λ (t : List ℕ). AddsPart trace t old new) same adds))

part_of_second : (trace native : Option (List ℕ)) (first second : List ℕ) (old middle new : Stored) → Adds trace first old middle → AddsPart native second middle new
    → AddsPartOfBoth trace native first second old new
part_of_second trace native first second old middle new done adds = record {
  trace_part = first;
  native_part = adds.0;
  trace_begins = IsPrefix-refl first;
  native_begins = adds.1;
  adds = record { middle = middle; first = done; second = adds.2 };
}

pub second_in_part : {A E : Type 0} (result : Result A E) (trace native : Option (List ℕ)) (given first other second : List ℕ) (old middle new : Stored) → given ≡ first → other ≡ second → Adds trace given old middle
    → OnErr result (AddsPart native other middle new) → OnErr result (AddsPartOfBoth trace native first second old new)
second_in_part result trace native given first other second old middle new same equal done adds =
    on_err result (AddsPart native other middle new) (AddsPartOfBoth trace native first second old new)
    (λ part.
    part_of_second trace native first second old middle new (subst (λ (t : List ℕ). Adds trace t old middle) same done)
    (subst (λ (t : List ℕ). AddsPart native t middle new) equal part))
    adds

-- The files are made

pub first_unmade : {A E : Type 0} (result : Result A E) (trace native : Option (List ℕ)) (old new : Stored) → MakesNone trace old new → OnErr result (MakesNotBoth trace native old new)
first_unmade result trace native old new none = always_on_err result (MakesNotBoth trace native old new) (inl none)

pub second_unmade : {A E : Type 0} (result : Result A E) (trace native : Option (List ℕ)) (old middle new : Stored) → Makes trace old middle → OnErr result (MakesNone native middle new)
    → OnErr result (MakesNotBoth trace native old new)
second_unmade result trace native old middle new made none =
    on_err result (MakesNone native middle new) (MakesNotBoth trace native old new) (λ unmade_there. inr (middle, made, unmade_there)) none

pub saves_made : (trace native : Option (List ℕ)) (old new : Stored) → MakesBoth trace native old new → SavesBoth trace native [] [] old new
saves_made trace native old new made = record { middle = made.middle; first = made.first; second = made.second }

-- A third file

pub past : (name third : Option (List ℕ)) → Differ name third → (text saved : List ℕ) (first old new : Stored) → Saves third saved first old → Adds name text old new
    → (there : Stored) × Adds name text first there × Saves third saved there new
past None third differ text saved first old new made adds = (first, refl, subst (λ (s : Stored). Saves third saved first s) (sym adds) made)
past (Some name) None differ text saved first old new made adds = (new, subst (λ (s : Stored). AddsText name text s new) made adds, refl)
past (Some name) (Some third) differ text saved first old new made adds = swap name third text saved differ first old new made adds

-- What was added to both behind the third was added before it.
pub both_past : (trace native third : Option (List ℕ)) → Differ trace third → Differ native third → (traced logged saved : List ℕ) (first old new : Stored) → Saves third saved first old
    → AddsBoth trace native traced logged old new → (there : Stored) × AddsBoth trace native traced logged first there × Saves third saved there new
both_past trace native third apart_first apart_second traced logged saved first old new made adds =
    let one = past trace third apart_first traced saved first old adds.middle made adds.first in
    let two = past native third apart_second logged saved one.0 adds.middle new one.2 adds.second in
    (two.0, record { middle = one.0; first = one.1; second = two.1 }, two.2)

pub third_more : (third : Option (List ℕ)) (saved text : List ℕ) (start old new : Stored) → Saves third saved start old → Adds third text old new → Saves third (saved ++ text) start new
third_more None saved text start old new made adds = adds ∙ made
third_more (Some name) saved text start old new made adds = saves_more name saved text start old new made adds

-- A part of all where a part of the first two was added, or these whole and a part of the third

part_of_lines : (trace native journal : Option (List ℕ)) (first second third : List ℕ) (old new : Stored) → AddsPartOfBoth trace native first second old new → AddsPartOfAll trace native journal first second third old new
part_of_lines trace native journal first second third old new adds = record { middle = new; lines = adds; records = added_no_part journal third new }

pub lines_in_part : {A E : Type 0} (result : Result A E) (trace native journal : Option (List ℕ)) (first second third : List ℕ) (old new : Stored) → AddsPartOfBoth trace native first second old new
    → OnErr result (AddsPartOfAll trace native journal first second third old new)
lines_in_part result trace native journal first second third old new adds =
    always_on_err result (AddsPartOfAll trace native journal first second third old new) (part_of_lines trace native journal first second third old new adds)

part_of_records : (trace native journal : Option (List ℕ)) (first second third : List ℕ) (old middle new : Stored) → AddsBoth trace native first second old middle → AddsPart journal third middle new
    → AddsPartOfAll trace native journal first second third old new
part_of_records trace native journal first second third old middle new done adds = record {
  middle = middle;
  lines = record {
    trace_part = first;
    native_part = second;
    trace_begins = IsPrefix-refl first;
    native_begins = IsPrefix-refl second;
    adds = done;
  };
  records = adds;
}

pub records_in_part : {A E : Type 0} (result : Result A E) (trace native journal : Option (List ℕ)) (first second given third : List ℕ) (old middle new : Stored) → given ≡ third → AddsBoth trace native first second old middle
    → OnErr result (AddsPart journal given middle new) → OnErr result (AddsPartOfAll trace native journal first second third old new)
records_in_part result trace native journal first second given third old middle new same done adds =
    on_err result (AddsPart journal given middle new) (AddsPartOfAll trace native journal first second third old new)
    (λ part. part_of_records trace native journal first second third old middle new done (subst (λ (t : List ℕ). AddsPart journal t middle new) same part))
    adds

-- The third file could not be made
pub third_unmade : {A E : Type 0} (result : Result A E) (trace native journal : Option (List ℕ)) (old middle new : Stored) → MakesBoth trace native old middle → OnErr result (MakesNone journal middle new)
    → OnErr result (MakesNotAll trace native journal old new)
third_unmade result trace native journal old middle new made none =
    on_err result (MakesNone journal middle new) (MakesNotAll trace native journal old new) (λ unmade_there. inr (middle, made, unmade_there)) none
