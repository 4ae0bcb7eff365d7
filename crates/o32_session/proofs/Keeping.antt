-- What an emulator keeps of its turns, by the names that a run was given.
use Rattle.std.proofs.Common.{◌≡◌, ◌∙◌, ℕ, Bool, true, false, List, Option, Some, None, ap, option_map, refl, sym}
use Rattle.std.specs.Prelude.{is_some}
use Rattle.o32_runner.specs.Passed.{NativeLog, first_log}
use Rattle.o32_runner.specs.Emulators.{Emulated}
use Rattle.o32_runner.specs.Runs.{KeepsTexts}
use Rattle.session_files.specs.Inputs.{Names, no_names}
use Rattle.o32_session.specs.Session.{KeepsNamed}
use Rattle.o32_session.specs.Words.{word_at}
use Rattle.turn_records.specs.Keeping.{first_records}

log_is : (kept : Bool) → is_some (first_log kept).entries ≡ kept
log_is true = refl
log_is false = refl

records_are : (kept : Bool) → is_some (first_records kept) ≡ kept
records_are true = refl
records_are false = refl

some_named : (words : List (List ℕ)) (place : Option ℕ) → is_some (option_map (word_at words) place) ≡ is_some place
some_named words None = refl
some_named words (Some place) = refl

pub keeps_named : (words : List (List ℕ)) (names : Names) (first final : Emulated) (native journal : Option ℕ) → first.native ≡ first_log (is_some native) → first.records ≡ first_records (is_some journal)
    → names.native ≡ option_map (word_at words) native → names.journal ≡ option_map (word_at words) journal → KeepsTexts first final → KeepsNamed names final
keeps_named words names first final native journal log records logged kept keeps = record {
  native =
      keeps.native ∙ ap (λ (n : NativeLog). is_some n.entries) log ∙ log_is (is_some native) ∙ sym (some_named words native) ∙ sym (ap is_some logged);
  records =
      keeps.records ∙ ap is_some records ∙ records_are (is_some journal) ∙ sym (some_named words journal) ∙ sym (ap is_some kept);
}

-- where no file is named
pub keeps_nothing : (first : Emulated) (native journal : Option ℕ) → first.native ≡ first_log (is_some native) → first.records ≡ first_records (is_some journal)
    → native ≡ None → journal ≡ None → KeepsNamed no_names first
keeps_nothing first native journal log records unlogged unkept = record {
  native = ap (λ (n : NativeLog). is_some n.entries) log ∙ log_is (is_some native) ∙ ap is_some unlogged;
  records = ap is_some records ∙ records_are (is_some journal) ∙ ap is_some unkept;
}

pub keeps_still : (names : Names) (first final : Emulated) → KeepsNamed names first → KeepsTexts first final → KeepsNamed names final
keeps_still names first final named keeps = record { native = keeps.native ∙ named.native; records = keeps.records ∙ named.records }
