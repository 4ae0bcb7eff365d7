-- What is asked for where the program and the journal that a run left are there.
use Rattle.std.proofs.Common.{◌≡◌, ℕ, ◌≤◌, ◌<◌, Bool, true, false, cond, nat_lt, List, length, Option, Some, None, Ok, sym, ap, ◌∙◌, subst}
use Rattle.std.proofs.lemmas.Bool.{le-ltb, lt-ltb}
use Rattle.outside.specs.Files.{Files}
use Rattle.elf_image.specs.Loading.{plan_of}
use Rattle.elf_image.specs.declared.load_plan.Plan.{Plan}
use Rattle.elf_image.specs.declared.refusal.ElfRefusal.{ElfRefusal}
use Rattle.start_stack.specs.Stack.{start_size, start_limit}
use Rattle.journal.specs.Form.{IsJournal}
use Rattle.journal.specs.Text.{Kept, text_of}
use Rattle.journal.specs.Reading.{reading_of}
use Rattle.session_files.specs.Inputs.{Found, Long, Bytes, found_at, journal_file, journal_limit, names_of, program_limit}
use Rattle.o32_session.specs.Asked.{arguments_of}
use Rattle.session_replay.specs.Replayed.{RefuseReplay, Repeat, ReplayAsked, ReplayAsksFor, ReplayAsksOf, ReplayAsksUnless, asked_of_found, asked_of_reading}
use Rattle.o32_session.specs.Words.{ReplayLine}
use Rattle.session_files.specs.declared.refusal.Refusal.TheVariants as refusals
use Rattle.session_laws.specs.Later.{HasBoth, LeftRun, text_left}

-- the text of a journal is read as that journal
abbrev pub Accepted : Type 0
Accepted = (j : Kept) → IsJournal j → reading_of (text_of j) ≡ Ok j

-- Files

abbrev found_by : Bool → List ℕ → Found
found_by long text = cond long Long (Bytes text)

one_file : (long : Bool) (text bytes : List ℕ) → found_by long text ≡ Bytes bytes → text ≡ bytes
one_file true text bytes is = absurd cc
one_file false text bytes is = cc

-- a file that was loaded is there
file_is : (limit : ℕ) (file : Option (List ℕ)) (bytes : List ℕ) → found_at limit file ≡ Bytes bytes → file ≡ Some bytes
file_is limit None bytes is = absurd cc
file_is limit (Some text) bytes is = ap (λ (t : List ℕ). Some t) (one_file (nat_lt limit (length text)) text bytes is)

-- and is found again under the same limit
found_again : (limit : ℕ) (before later : Option (List ℕ)) (bytes : List ℕ) → found_at limit before ≡ Bytes bytes → later ≡ Some bytes → found_at limit later ≡ Bytes bytes
found_again limit before later bytes is there = ap (found_at limit) (there ∙ sym (file_is limit before bytes is)) ∙ is

found_within : (limit : ℕ) (file : Option (List ℕ)) (text : List ℕ) → file ≡ Some text → length text ≤ limit → found_at limit file ≡ Bytes text
found_within limit file text there short = ap (found_at limit) there ∙ ap (λ (b : Bool). found_by b text) (le-ltb limit (length text) short)

found_long : (limit : ℕ) (file : Option (List ℕ)) (text : List ℕ) → file ≡ Some text → limit < length text → found_at limit file ≡ Long
found_long limit file text there long = ap (found_at limit) there ∙ ap (λ (b : Bool). found_by b text) (lt-ltb limit (length text) long)

module _ (left : LeftRun) (line : ReplayLine) (told : Option Files) (has : HasBoth left line told) where
  abbrev plan : Plan
  plan = plan_of left.run.bytes

  abbrev journal : Kept
  journal = left.leaves.journal

  pub program_found : found_at program_limit (has.files line.program) ≡ Bytes left.run.bytes
  program_found = found_again program_limit (left.run.files (names_of left.words left.run.line).program) (has.files line.program) left.run.bytes left.run.found has.program

  pub journal_found : length (text_left left) ≤ journal_limit → found_at journal_limit (has.files line.journal) ≡ Bytes (text_left left)
  journal_found short = found_within journal_limit (has.files line.journal) (text_left left) has.journal short

  pub journal_fits : start_size journal.args journal.env ≤ start_limit
  journal_fits =
      subst (λ (args : List (List ℕ)). start_size args journal.env ≤ start_limit) (sym left.leaves.of_run.with_args)
      (subst (λ (env : List (List ℕ)). start_size (arguments_of left.words left.run.line) env ≤ start_limit) (sym left.leaves.of_run.with_env) left.run.fits)

  pub journal_read : Accepted → reading_of (text_left left) ≡ Ok journal
  journal_read accepted = accepted journal left.leaves.of_run.form

  read_as : Accepted → asked_of_reading plan (reading_of (text_left left)) ≡ Repeat plan journal
  read_as accepted =
      ap (λ r. asked_of_reading plan r) (journal_read accepted)
      ∙ ap (λ b. cond b (RefuseReplay refusals.Start) (Repeat plan journal)) (le-ltb start_limit (start_size journal.args journal.env) journal_fits)

  -- what was found of the journal, behind the program
  behind : (asked : ReplayAsked) → ReplayAsksFor line told asked → ReplayAsksUnless line (Some has.files) left.run.bytes None asked
  behind asked asks =
      let known : ReplayAsksFor line (Some has.files) asked = subst (λ (t : Option Files). ReplayAsksFor line t asked) has.is_told asks in
      subst (λ (f : Option ElfRefusal). ReplayAsksUnless line (Some has.files) left.run.bytes f asked) left.run.formed
      (subst (λ (f : Found). ReplayAsksOf line (Some has.files) f asked) (known.1 ∙ program_found) known.2)

  pub asked_is : Accepted → (asked : ReplayAsked) → length (text_left left) ≤ journal_limit → ReplayAsksFor line told asked → asked ≡ Repeat plan journal
  asked_is accepted asked short asks =
      let of = behind asked asks in
      of.2 ∙ (ap (λ f. asked_of_found plan f) (of.1 ∙ journal_found short) ∙ read_as accepted)

  pub asked_too_long : (asked : ReplayAsked) → journal_limit < length (text_left left) → ReplayAsksFor line told asked → asked ≡ RefuseReplay (refusals.TooLong journal_file)
  asked_too_long asked long asks =
      let of = behind asked asks in
      of.2 ∙ ap (λ f. asked_of_found plan f) (of.1 ∙ found_long journal_limit (has.files line.journal) (text_left left) has.journal long)
