-- The files that a run writes its texts to: their names differ, and a log and a journal begin where one is named.
use Rattle.std.proofs.Common.{◌≡◌, ◌≤◌, ℕ, Bool, cond, true, List, Option, None, Some, is_some, Result, Ok, Err, option_map, inl, max, ap, arith, refl, sym, ◌∙◌, subst}
use Rattle.std.specs.Prelude.{⊤, option_and_then}
use Rattle.std.specs.Str.{bytes_eq}
use Rattle.outside.specs.Files.{Files}
use Rattle.outside.specs.Streams.{Contents}
use Rattle.outside.proofs.FileLemmas.{bytes_eq-same}
use Rattle.o32_runner.specs.Passed.{NativeLog, first_log}
use Rattle.kernel_core.specs.declared.core_error.Stop.{Stop}
use Rattle.kernel_core.specs.declared.finish.Finish.{Finish}
use Rattle.o32_turns.specs.Machine.{Machine}
use Rattle.o32_runner.specs.Runs.{WithinBudget}
use Rattle.stored_files.specs.Stored.{Stored}
use Rattle.o32_runner.specs.Texts.{AllDiffer, BeginsJournal, BeginsLog, Differ, WritesTexts}
use Rattle.session_files.specs.Inputs.{names_of}
use Rattle.o32_session.specs.Words.{Line, Reading, Asks, WrongAt, compare_names, equal_name, equal_to_journal, equal_to_native, equal_to_saved, equal_to_written, first_of, later_of_equal, read_line, read_words, with_names, word_at}
use Rattle.o32_session.specs.inside.Prepared.{IsPrepared}
use Rattle.o32_session.specs.declared.prepare.Ready.{Ready}
use Rattle.turn_records.specs.Keeping.{Records, first_records}

-- where there is no lesser of two indices, there is none of the two

none_first : (one other : Option ℕ) → first_of one other ≡ None → one ≡ None
none_first None other none = refl
none_first (Some one) None none = none
none_first (Some one) (Some other) none = absurd cc

none_second : (one other : Option ℕ) → first_of one other ≡ None → other ≡ None
none_second None other none = none
none_second (Some one) None none = refl
none_second (Some one) (Some other) none = absurd cc

-- two words of which none is named as equal differ
apart : (words : List (List ℕ)) (one other : ℕ) → later_of_equal words other one ≡ None → word_at words one ≡ word_at words other → ⊥
apart words one other none same =
    let equal : bytes_eq (word_at words other) (word_at words one) ≡ true =
    ap (λ (w : List ℕ). bytes_eq (word_at words other) w) same ∙ bytes_eq-same (word_at words other) in
    let found : later_of_equal words other one ≡ Some (max other one) =
    ap (λ (b : Bool). cond b (Some (max other one)) None) equal in
    absurd cc

-- where a written name is like none of these, it differs from this one
later_differ : (words : List (List ℕ)) (one other : Option ℕ) → option_and_then (λ written. option_and_then (later_of_equal words written) one) other ≡ None
    → Differ (option_map (word_at words) one) (option_map (word_at words) other)
later_differ words None other none = tt
later_differ words (Some one) None none = tt
later_differ words (Some one) (Some other) none = apart words one other none

-- so it is with each of two names that are looked for
none_of : (first second : ℕ → Option ℕ) (written : Option ℕ) → option_and_then (λ at. first_of (first at) (second at)) written ≡ None
    → (option_and_then first written ≡ None) × (option_and_then second written ≡ None)
none_of first second None none = (refl, refl)
none_of first second (Some at) none = (none_first (first at) (second at) none, none_second (first at) (second at) none)

-- no name equals an earlier one, so these don't
differ : (words : List (List ℕ)) (line : Line) → equal_name words line ≡ None
    → AllDiffer (option_map (word_at words) line.trace) (option_map (word_at words) line.native) (option_map (word_at words) line.journal)
differ words line none =
    let traced = option_and_then (equal_to_written words line) line.trace in
    let logged = option_and_then (equal_to_native words line) line.native in
    let kept = option_and_then (equal_to_journal words line) line.journal in
    let saved = option_and_then (equal_to_saved words line) line.save in
    let others : first_of logged (first_of kept saved) ≡ None = none_second traced (first_of logged (first_of kept saved)) none in
    let no_log : logged ≡ None = none_first logged (first_of kept saved) others in
    let no_journal : kept ≡ None = none_first kept saved (none_second logged (first_of kept saved) others) in
    let at_log = none_of (equal_to_written words line) (λ at. option_and_then (later_of_equal words at) line.trace) line.native no_log in
    let at_journal = none_of (equal_to_native words line) (λ at. option_and_then (later_of_equal words at) line.native) line.journal no_journal in
    let at_both = none_of (equal_to_written words line) (λ at. option_and_then (later_of_equal words at) line.trace) line.journal at_journal.0 in
    record {
      first = later_differ words line.trace line.native at_log.1;
      second = later_differ words line.trace line.journal at_both.1;
      third = later_differ words line.native line.journal at_journal.1;
    }

-- the file of the journal is not the one that is saved to
differ_saved : (words : List (List ℕ)) (line : Line) → equal_name words line ≡ None → Differ (option_map (word_at words) line.journal) (option_map (word_at words) line.save)
differ_saved words line none =
    let traced = option_and_then (equal_to_written words line) line.trace in
    let logged = option_and_then (equal_to_native words line) line.native in
    let kept = option_and_then (equal_to_journal words line) line.journal in
    let saved = option_and_then (equal_to_saved words line) line.save in
    let others : first_of logged (first_of kept saved) ≡ None = none_second traced (first_of logged (first_of kept saved)) none in
    let no_save : saved ≡ None = none_second kept saved (none_second logged (first_of kept saved) others) in
    let at_save = none_of (equal_to_journal words line) (λ at. option_and_then (later_of_equal words at) line.journal) line.save no_save in
    later_differ words line.journal line.save at_save.1

-- the names of the line that is asked for, where one is
abbrev AsksApart : List (List ℕ) → Reading → Type 0
AsksApart words (Asks line) = AllDiffer (names_of words line).trace (names_of words line).native (names_of words line).journal
AsksApart words (WrongAt at) = ⊤

named_apart : (words : List (List ℕ)) (line : Line) (at : Option ℕ) → equal_name words line ≡ at → AsksApart words (with_names line at)
named_apart words line None is = differ words line is
named_apart words line (Some at) is = tt

compared_apart : (words : List (List ℕ)) (reading : Reading) → AsksApart words (compare_names words reading)
compared_apart words (WrongAt at) = tt
compared_apart words (Asks line) = named_apart words line (equal_name words line) refl

names_apart : (words : List (List ℕ)) (line : Line) → read_words words ≡ Asks line → AllDiffer (names_of words line).trace (names_of words line).native (names_of words line).journal
names_apart words line is = subst (AsksApart words) is (compared_apart words (read_line words))

abbrev AsksSaved : List (List ℕ) → Reading → Type 0
AsksSaved words (Asks line) = Differ (names_of words line).journal (names_of words line).save
AsksSaved words (WrongAt at) = ⊤

named_saved : (words : List (List ℕ)) (line : Line) (at : Option ℕ) → equal_name words line ≡ at → AsksSaved words (with_names line at)
named_saved words line None is = differ_saved words line is
named_saved words line (Some at) is = tt

compared_saved : (words : List (List ℕ)) (reading : Reading) → AsksSaved words (compare_names words reading)
compared_saved words (WrongAt at) = tt
compared_saved words (Asks line) = named_saved words line (equal_name words line) refl

pub saved_apart : (words : List (List ℕ)) (line : Line) → read_words words ≡ Asks line → Differ (names_of words line).journal (names_of words line).save
saved_apart words line is = subst (AsksSaved words) is (compared_saved words (read_line words))

-- what is ready has these names
pub ready_differ : (words : List (List ℕ)) (reading : Reading) (told : Option Files) (ready : Ready) → read_words words ≡ reading → IsPrepared words reading told (Ok ready)
    → AllDiffer (option_map (word_at words) ready.trace) (option_map (word_at words) ready.native) (option_map (word_at words) ready.journal)
ready_differ words (WrongAt word) told ready is prepared = absurd prepared
ready_differ words (Asks line) told ready is prepared =
    subst (λ (n : Option ℕ). AllDiffer (option_map (word_at words) n) (option_map (word_at words) ready.native) (option_map (word_at words) ready.journal)) (sym prepared.1.1.0)
    (subst (λ (n : Option ℕ). AllDiffer (option_map (word_at words) line.trace) (option_map (word_at words) n) (option_map (word_at words) ready.journal)) (sym prepared.1.1.1.0)
    (subst (λ (n : Option ℕ). AllDiffer (option_map (word_at words) line.trace) (option_map (word_at words) line.native) (option_map (word_at words) n)) (sym prepared.1.1.1.1) (names_apart words line is)))

-- the same of the names themselves
pub named_differ : (trace other_trace native other_native journal other_journal : Option (List ℕ)) → trace ≡ other_trace → native ≡ other_native → journal ≡ other_journal → AllDiffer other_trace other_native other_journal
    → AllDiffer trace native journal
named_differ trace other_trace native other_native journal other_journal traced logged kept apart =
    subst (λ (n : Option (List ℕ)). AllDiffer n native journal) (sym traced)
    (subst (λ (n : Option (List ℕ)). AllDiffer other_trace n journal) (sym logged)
    (subst (λ (n : Option (List ℕ)). AllDiffer other_trace other_native n) (sym kept) apart))

-- a log begins where one is named
begins : (words : List (List ℕ)) (native : Option ℕ) (log : NativeLog) → log ≡ first_log (is_some native) → BeginsLog (option_map (word_at words) native) log
begins words None log is = tt
begins words (Some native) log is = is

pub begins_log : (words : List (List ℕ)) (native : Option ℕ) (name : Option (List ℕ)) (log : NativeLog) → name ≡ option_map (word_at words) native → log ≡ first_log (is_some native) → BeginsLog name log
begins_log words native name log named is = subst (λ (n : Option (List ℕ)). BeginsLog n log) (sym named) (begins words native log is)

-- and a journal
begins_kept : (words : List (List ℕ)) (journal : Option ℕ) (records : Records) → records ≡ first_records (is_some journal) → BeginsJournal (option_map (word_at words) journal) records
begins_kept words None records is = tt
begins_kept words (Some journal) records is = is

pub begins_journal : (words : List (List ℕ)) (journal : Option ℕ) (name : Option (List ℕ)) (records : Records) → name ≡ option_map (word_at words) journal → records ≡ first_records (is_some journal) → BeginsJournal name records
begins_journal words journal name records named is = subst (λ (n : Option (List ℕ)). BeginsJournal n records) (sym named) (begins_kept words journal records is)

-- A run that writes no text

nothing_named : (front : List ℕ) (quantum : ℕ) (machine : Machine) (budget turns : ℕ) (end : Result Finish Stop) (before after : Contents) (store : Stored)
    → WritesTexts None None None front quantum machine budget turns end before after store store
nothing_named front quantum machine budget turns (Ok finish) before after store = record { traced = store; logged = store; traces = refl; logs = refl; keeps = refl }
nothing_named front quantum machine budget turns (Err stop) before after store = inl (record { traced = store; logged = store; traces = refl; logs = refl; keeps = refl })

pub nothing_written : (front : List ℕ) (quantum : ℕ) (machine : Machine) (budget turns : ℕ) (end : Result Finish Stop) (before after : Contents) (store : Stored) (trace native journal : Option (List ℕ)) → trace ≡ None → native ≡ None → journal ≡ None
    → WritesTexts trace native journal front quantum machine budget turns end before after store store
nothing_written front quantum machine budget turns end before after store trace native journal traced logged kept =
    subst (λ (n : Option (List ℕ)). WritesTexts n native journal front quantum machine budget turns end before after store store) (sym traced)
    (subst (λ (n : Option (List ℕ)). WritesTexts None n journal front quantum machine budget turns end before after store store) (sym logged)
    (subst (λ (n : Option (List ℕ)). WritesTexts None None n front quantum machine budget turns end before after store store) (sym kept)
    (nothing_named front quantum machine budget turns end before after store)))

pub within_budget : (end : Result Finish Stop) (turns budget : ℕ) → WithinBudget end turns budget → turns ≤ budget
within_budget (Ok finish) turns budget within = within
within_budget (Err stop) turns budget within = omega arith
