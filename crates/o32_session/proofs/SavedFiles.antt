-- What an answer says of the files alone.
use Rattle.std.proofs.Common.{◌≡◌, ℕ, List, [], Option, Some, None, Ok, Err, inl, inr, refl, sym, ap, subst}
use Rattle.outside.specs.Files.{Files, ChangesFile, IsUnchangedOrEmptied}
use Rattle.kernel_core.specs.declared.finish.Finish.{Finish}
use Rattle.kernel_core.specs.declared.finish.Finish.TheVariants as finishes
use Rattle.kernel_core.specs.declared.core_error.Stop.{Stop}
use Rattle.kernel_core.specs.declared.core_error.Stop.TheVariants as stops
use Rattle.kernel_core.specs.declared.tree.Tree.{Tree}
use Rattle.fs_image.specs.Text.{text_of}
use Rattle.o32_runner.specs.Emulators.{Emulated}
use Rattle.o32_turns.specs.Machine.{Machine}
use Rattle.o32_session.specs.Asked.{Asked, Refuse, Run}
use Rattle.session_files.specs.Inputs.{Names, names_of, no_names}
use Rattle.session_files.specs.Saved.{SavesPart, SavesTree, SavesTreeInPart, StandsOrBegins}
use Rattle.o32_runner.specs.JournalText.{IsCutJournal, IsWholeJournal, KeepsAs}
use Rattle.o32_runner.specs.Making.{Makes, MakesNone, MakesNotAll}
use Rattle.o32_runner.specs.NativeText.{IsCutLog, IsWholeLog, LogsAs}
use Rattle.stored_files.specs.Stored.{HasText, IfNamed, IsUnmade, Stored, WritesText}
use Rattle.o32_runner.specs.Texts.{WritesTexts}
use Rattle.o32_runner.specs.Traced.{IsCutTrace, IsWholeTrace, TracesAs}
use Rattle.o32_session.specs.SavedFile.{HasTreeText, IsFileAfter, IsTextAfter, SavesReading, SavesTo, StandsOrHasPart, StandsOrIsThere, TextsTo, WritesFiles}
use Rattle.o32_session.specs.Session.{Answers, AnswersReading, Finishes, StopsAtSave, StopsInRun, final_tree, once_loaded}
use Rattle.session_files.specs.Seen.{Seen, contents_of}
use Rattle.session_files.specs.Unrun.{StopsAtStage}
use Rattle.o32_session.specs.Words.{Reading, Asks, WrongAt}
use Rattle.session_files.specs.declared.refusal.Refusal.{Refusal}
use Rattle.session_files.specs.declared.refusal.Refusal.TheVariants.{Usage}
use Rattle.session_files.specs.declared.end.End.{End}
use Rattle.session_files.specs.declared.end.End.TheVariants.{Exited, Killed, Budget, Blocked, Soaked, Replayed, Refused, Diverged, ReadFault, WriteFault, NoMemory}

-- One file

-- all files stand
pub unchanged_file : (old new : Option Files) (name : List ℕ) (P : Option (List ℕ) → Option (List ℕ) → Type 0) → new ≡ old →
    ((file : Option (List ℕ)) → P file file) → ChangesFile old new name P
unchanged_file None new name P same stands = same
unchanged_file (Some old) new name P same stands =
    subst (λ n. ChangesFile (Some old) n name P) (sym same) (stands (old name), (λ other differs. refl))

-- the same said with more of the file
changed_file : (old new : Option Files) (name : List ℕ) (P Q : Option (List ℕ) → Option (List ℕ) → Type 0) →
    ((before after : Option (List ℕ)) → P before after → Q before after) → ChangesFile old new name P → ChangesFile old new name Q
changed_file None new name P Q more changes = changes
changed_file (Some old) None name P Q more changes = absurd changes
changed_file (Some old) (Some new) name P Q more changes = (more (old name) (new name) changes.0, changes.1)

-- a store that stands as it was has at most a part of any text
pub stands_part : (name text : List ℕ) (store : Stored) → SavesPart name text store store
stands_part name text store = record {
  files = unchanged_file store.files store.files name (StandsOrBegins text) refl (λ file. inl refl);
  created = inl refl;
  loads = refl;
  turned = refl;
}

-- The end

-- all files stand after an end that isn't a finish
abbrev IsNoFinish : End → Type 0
IsNoFinish end = (file : Option (List ℕ)) → IsFileAfter end file file × IsTextAfter end file file

early_stands : (names : Names) (end : End) (old new : Stored) → StopsAtStage names end old new → IsNoFinish end × (new.files ≡ old.files)
early_stands names end old new at_stage =
    elim at_stage as (λ _. IsNoFinish end × (new.files ≡ old.files)) [
      | inl fault ↦ (subst (λ (e : End). IsNoFinish e) (sym fault.0) (λ file. (refl, inl refl)), ap (λ (s : Stored). s.files) fault.1.stands)
      | inr memory ↦ (
        subst (λ (e : End). IsNoFinish e) (sym memory.0) (λ file. (inl refl, inl refl)),
        elim memory.1.stands as (λ _. new.files ≡ old.files) [
          | inl before ↦ ap (λ (s : Stored). s.files) before
          | inr behind ↦ ap (λ (s : Stored). s.files) behind
        ],
      )
    ]

save_stands : (end : End) (old new : Option Files) → IsNoFinish end → new ≡ old → (save : Option (List ℕ)) → SavesTo save end old new
save_stands end old new stands same None = same
save_stands end old new stands same (Some name) = unchanged_file old new name (IsFileAfter end) same (λ file. (stands file).0)

text_stands : (end : End) (files : Option Files) → IsNoFinish end → (text : Option (List ℕ)) → TextsTo text end files files
text_stands end files stands None = refl
text_stands end files stands (Some name) = unchanged_file files files name (IsTextAfter end) refl (λ file. (stands file).1)

stands_so : (end : End) (old new : Option Files) → IsNoFinish end → new ≡ old → (names : Names) → WritesFiles names end old new
stands_so end old new stands same names =
    (old, old, old, text_stands end old stands names.trace, text_stands end old stands names.native, text_stands end old stands names.journal, save_stands end old new stands same names.save)

-- what an answer to a refusal says of the end and of the store
pub refused_stands : (refusal : Refusal) (names : Names) (old new : Seen) (turns : ℕ) (end : End) (host : Option Emulated) →
    Answers (Refuse refusal) names old new turns end host → IsNoFinish end × (new.store.files ≡ old.store.files)
refused_stands refusal names old new turns (Refused given) host answer = ((λ file. (refl, refl)), ap (λ (s : Stored). s.files) answer.stands)
refused_stands refusal names old new turns WriteFault host answer = ((λ file. (inl refl, inl refl)), ap (λ (s : Stored). s.files) answer.0.stands)
refused_stands refusal names old new turns NoMemory host answer = ((λ file. (inl refl, inl refl)), ap (λ (s : Stored). s.files) answer.stands)
refused_stands refusal names old new turns ReadFault host answer = absurd answer
refused_stands refusal names old new turns (Exited status) host answer = absurd answer
refused_stands refusal names old new turns (Killed signal) host answer = absurd answer
refused_stands refusal names old new turns Budget host answer = absurd answer
refused_stands refusal names old new turns Blocked host answer = absurd answer
refused_stands refusal names old new turns (Soaked over) host answer = absurd answer
refused_stands refusal names old new turns (Replayed over) host answer = absurd answer
refused_stands refusal names old new turns (Diverged turn wanted found) host answer = absurd answer

-- A run

-- a finish saved the tree
finish_saves : (save : Option (List ℕ)) (tree : Tree) (old new : Stored) (end : End) → ((before after : Option (List ℕ)) → HasTreeText after → IsFileAfter end before after) → SavesTree save tree old new
    → SavesTo save end old.files new.files
finish_saves None tree old new end says saved = ap (λ (s : Stored). s.files) saved
finish_saves (Some name) tree old new end says saved =
    changed_file old.files new.files name _ (IsFileAfter end) (λ before after is. says before after (tree, saved.0, is)) saved.1.files

part_says : (tree : Tree) (before after : Option (List ℕ)) → StandsOrBegins (text_of tree) before after → StandsOrHasPart before after
part_says tree before after part =
    elim part as (λ _. StandsOrHasPart before after) [
      | inl same ↦ inl same
      | inr begins ↦ inr (tree, begins.0, begins.1, begins.2)
    ]

-- an early stop saved a part at most
part_saves : (save : Option (List ℕ)) (tree : Tree) (old new : Stored) (end : End) → ((before after : Option (List ℕ)) → StandsOrBegins (text_of tree) before after → IsFileAfter end before after)
    → SavesTreeInPart save tree old new → SavesTo save end old.files new.files
part_saves None tree old new end says saved = absurd saved
part_saves (Some name) tree old new end says saved = changed_file old.files new.files name (StandsOrBegins (text_of tree)) (IsFileAfter end) says saved.files

-- a text was written whole, or in part

text_whole : (name : List ℕ) (HasForm : List ℕ → Type 0) (old new : Stored) (end : End) → ((before after : Option (List ℕ)) → (text : List ℕ) × (after ≡ Some text) → IsTextAfter end before after)
    → WritesText name HasForm old new → ChangesFile old.files new.files name (IsTextAfter end)
text_whole name HasForm old new end says wrote =
    changed_file old.files new.files name (HasText wrote.0) (IsTextAfter end) (λ before after is. says before after (wrote.0, is)) wrote.2.files

emptied_says : (before after : Option (List ℕ)) → IsUnchangedOrEmptied before after → StandsOrIsThere before after
emptied_says before after is =
    elim is as (λ _. StandsOrIsThere before after) [
      | inl same ↦ inl same
      | inr empty ↦ inr ([], empty)
    ]

text_part : (name : List ℕ) (HasForm : List ℕ → Type 0) (old new : Stored) (end : End) → ((before after : Option (List ℕ)) → StandsOrIsThere before after → IsTextAfter end before after)
    → WritesText name HasForm old new → ChangesFile old.files new.files name (IsTextAfter end)
text_part name HasForm old new end says wrote =
    changed_file old.files new.files name (HasText wrote.0) (IsTextAfter end) (λ before after is. says before after (inr (wrote.0, is))) wrote.2.files

-- a file could not be made, or was made and has nothing

text_unmade : (name : List ℕ) (old new : Stored) (end : End) → ((before after : Option (List ℕ)) → StandsOrIsThere before after → IsTextAfter end before after)
    → IsUnmade name old new → ChangesFile old.files new.files name (IsTextAfter end)
text_unmade name old new end says unmade =
    changed_file old.files new.files name IsUnchangedOrEmptied (IsTextAfter end) (λ before after is. says before after (emptied_says before after is)) unmade.files

module _ (end : End) (says : (before after : Option (List ℕ)) → StandsOrIsThere before after → IsTextAfter end before after) where
  made_says : (name : Option (List ℕ)) (old new : Stored) → Makes name old new → TextsTo name end old.files new.files
  made_says None old new made = ap (λ (s : Stored). s.files) made
  made_says (Some name) old new made =
      changed_file old.files new.files name (HasText []) (IsTextAfter end) (λ before after is. says before after (inr ([], is))) made.files

  unmade_says : (name : Option (List ℕ)) (old new : Stored) → MakesNone name old new → TextsTo name end old.files new.files
  unmade_says None old new none = absurd none
  unmade_says (Some name) old new none = text_unmade name old new end says none

  stands_says : (name : Option (List ℕ)) (files : Option Files) → TextsTo name end files files
  stands_says None files = refl
  stands_says (Some name) files = unchanged_file files files name (IsTextAfter end) refl (λ file. says file file (inl refl))

  -- what becomes of all three where one was not made
  abbrev pub TextsStand : Option (List ℕ) → Option (List ℕ) → Option (List ℕ) → Option Files → Option Files → Type 0
  TextsStand trace native journal old new =
      (traced : Option Files) × (logged : Option Files) × TextsTo trace end old traced × TextsTo native end traced logged × TextsTo journal end logged new

  pub not_all : (trace native journal : Option (List ℕ)) (old new : Stored) → MakesNotAll trace native journal old new → TextsStand trace native journal old.files new.files
  not_all trace native journal old new (inl (inl none)) =
      (new.files, new.files, unmade_says trace old new none, stands_says native new.files, stands_says journal new.files)
  not_all trace native journal old new (inl (inr (traced, made, none))) =
      (traced.files, new.files, made_says trace old traced made, unmade_says native traced new none, stands_says journal new.files)
  not_all trace native journal old new (inr (logged, made, none)) = (
    made.middle.files,
    logged.files,
    made_says trace old made.middle made.first,
    made_says native made.middle logged made.second,
    unmade_says journal logged new none,
  )

module _ (quantum : ℕ) (machine : Machine) (budget turns : ℕ) (told : Option (List ℕ)) (old new : Stored) (end : End) where
  traces_whole : (name : Option (List ℕ)) (finish : Finish) → ((before after : Option (List ℕ)) → (text : List ℕ) × (after ≡ Some text) → IsTextAfter end before after)
      → IfNamed name (λ n. TracesAs n quantum machine budget turns (Ok finish) told) old new → TextsTo name end old.files new.files
  traces_whole None finish says wrote = ap (λ (s : Stored). s.files) wrote
  traces_whole (Some name) finish says wrote = text_whole name (IsWholeTrace quantum machine turns finish told) old new end says wrote

  logs_whole : (name : Option (List ℕ)) (finish : Finish) → ((before after : Option (List ℕ)) → (text : List ℕ) × (after ≡ Some text) → IsTextAfter end before after)
      → IfNamed name (λ n. LogsAs n quantum machine budget turns (Ok finish) told) old new → TextsTo name end old.files new.files
  logs_whole None finish says wrote = ap (λ (s : Stored). s.files) wrote
  logs_whole (Some name) finish says wrote = text_whole name (IsWholeLog quantum machine turns finish told) old new end says wrote

  traces_part : (name : Option (List ℕ)) (stop : Stop) → ((before after : Option (List ℕ)) → StandsOrIsThere before after → IsTextAfter end before after)
      → IfNamed name (λ n. TracesAs n quantum machine budget turns (Err stop) told) old new → TextsTo name end old.files new.files
  traces_part None stop says wrote = ap (λ (s : Stored). s.files) wrote
  traces_part (Some name) stop says wrote = text_part name (IsCutTrace quantum machine budget turns told) old new end says wrote

  logs_part : (name : Option (List ℕ)) (stop : Stop) → ((before after : Option (List ℕ)) → StandsOrIsThere before after → IsTextAfter end before after)
      → IfNamed name (λ n. LogsAs n quantum machine budget turns (Err stop) told) old new → TextsTo name end old.files new.files
  logs_part None stop says wrote = ap (λ (s : Stored). s.files) wrote
  logs_part (Some name) stop says wrote = text_part name (IsCutLog quantum machine budget turns told) old new end says wrote

module _ (front : List ℕ) (quantum : ℕ) (machine : Machine) (budget turns : ℕ) (told : Option (List ℕ)) (old new : Stored) (end : End) where
  keeps_whole : (name : Option (List ℕ)) (finish : Finish) → ((before after : Option (List ℕ)) → (text : List ℕ) × (after ≡ Some text) → IsTextAfter end before after)
      → IfNamed name (λ n. KeepsAs n front quantum machine budget turns (Ok finish) told) old new → TextsTo name end old.files new.files
  keeps_whole None finish says wrote = ap (λ (s : Stored). s.files) wrote
  keeps_whole (Some name) finish says wrote = text_whole name (IsWholeJournal front quantum machine budget turns finish told) old new end says wrote

  keeps_part : (name : Option (List ℕ)) (stop : Stop) → ((before after : Option (List ℕ)) → StandsOrIsThere before after → IsTextAfter end before after)
      → IfNamed name (λ n. KeepsAs n front quantum machine budget turns (Err stop) told) old new → TextsTo name end old.files new.files
  keeps_part None stop says wrote = ap (λ (s : Stored). s.files) wrote
  keeps_part (Some name) stop says wrote = text_part name (IsCutJournal front quantum machine budget turns told) old new end says wrote

-- a run that stopped saves nothing
stopped_saves : (save : Option (List ℕ)) (end : End) (files : Option Files) → ((file : Option (List ℕ)) → IsFileAfter end file file) → SavesTo save end files files
stopped_saves None end files stands = refl
stopped_saves (Some name) end files stands = unchanged_file files files name (IsFileAfter end) refl stands

module _ (quantum : ℕ) (machine : Machine) (budget : ℕ) (front : List ℕ) (names : Names) (old new : Seen) (turns : ℕ) where
  finished : (finish : Finish) (end : End) (host : Option Emulated) → ((before after : Option (List ℕ)) → HasTreeText after → IsFileAfter end before after)
      → ((before after : Option (List ℕ)) → (text : List ℕ) × (after ≡ Some text) → IsTextAfter end before after)
      → Finishes quantum machine budget front names old new turns finish host → WritesFiles names end old.store.files new.store.files
  finished finish end host saves texts answer = (
    answer.texts.traced.files,
    answer.texts.logged.files,
    answer.middle.files,
    traces_whole quantum machine budget turns old.left old.store answer.texts.traced end names.trace finish texts answer.texts.traces,
    logs_whole quantum machine budget turns old.left answer.texts.traced answer.texts.logged end names.native finish texts answer.texts.logs,
    keeps_whole front quantum machine budget turns old.left answer.texts.logged answer.middle end names.journal finish texts answer.texts.keeps,
    finish_saves names.save (final_tree answer.emulated.machine) answer.middle new.store end saves answer.saves,
  )

  in_run_texts : (stop : Stop) (end : End) → ((file : Option (List ℕ)) → IsFileAfter end file file) → ((before after : Option (List ℕ)) → StandsOrIsThere before after → IsTextAfter end before after)
      → WritesTexts names.trace names.native names.journal front quantum machine budget turns (Err stop) (contents_of old) (contents_of new) old.store new.store → WritesFiles names end old.store.files new.store.files
  in_run_texts stop end stands says (inl each) = (
    each.traced.files,
    each.logged.files,
    new.store.files,
    traces_part quantum machine budget turns old.left old.store each.traced end names.trace stop says each.traces,
    logs_part quantum machine budget turns old.left each.traced each.logged end names.native stop says each.logs,
    keeps_part front quantum machine budget turns old.left each.logged new.store end names.journal stop says each.keeps,
    stopped_saves names.save end new.store.files stands,
  )
  in_run_texts stop end stands says (inr unbegun) =
      let texts = not_all end says names.trace names.native names.journal old.store new.store unbegun.unmade in
      (texts.0, texts.1, new.store.files, texts.2, texts.3, texts.4, stopped_saves names.save end new.store.files stands)

  in_run : (stop : Stop) (end : End) → ((file : Option (List ℕ)) → IsFileAfter end file file) → ((before after : Option (List ℕ)) → StandsOrIsThere before after → IsTextAfter end before after)
      → StopsInRun quantum machine budget front names stop old new turns → WritesFiles names end old.store.files new.store.files
  in_run stop end stands says answer = in_run_texts stop end stands says answer.texts

  at_save : (end : End) → ((tree : Tree) (before after : Option (List ℕ)) → StandsOrBegins (text_of tree) before after → IsFileAfter end before after)
      → ((before after : Option (List ℕ)) → (text : List ℕ) × (after ≡ Some text) → IsTextAfter end before after)
      → StopsAtSave quantum machine budget front names old new turns → WritesFiles names end old.store.files new.store.files
  at_save end saves says answer = (
    answer.texts.traced.files,
    answer.texts.logged.files,
    answer.middle.files,
    traces_whole quantum machine budget turns old.left old.store answer.texts.traced end names.trace answer.finish says answer.texts.traces,
    logs_whole quantum machine budget turns old.left answer.texts.traced answer.texts.logged end names.native answer.finish says answer.texts.logs,
    keeps_whole front quantum machine budget turns old.left answer.texts.logged answer.middle end names.journal answer.finish says answer.texts.keeps,
    part_saves names.save (final_tree answer.final) answer.middle new.store end (saves (final_tree answer.final)) answer.saves,
  )

  run_saves : (end : End) (host : Option Emulated) → Answers (Run quantum machine budget front) names old new turns end host → WritesFiles names end old.store.files new.store.files
  run_saves (Exited status) host answer = finished (finishes.Exited status) (Exited status) host (λ before after is. is) (λ before after is. is) answer
  run_saves (Killed signal) host answer = finished (finishes.Killed signal) (Killed signal) host (λ before after is. is) (λ before after is. is) answer
  run_saves Budget host answer = finished finishes.Budget Budget host (λ before after is. is) (λ before after is. is) answer
  run_saves Blocked host answer = finished finishes.Blocked Blocked host (λ before after is. is) (λ before after is. is) answer
  run_saves (Soaked over) host answer = absurd answer
  run_saves (Replayed over) host answer = absurd answer
  run_saves (Diverged turn wanted found) host answer = absurd answer
  run_saves (Refused given) host answer = absurd answer
  run_saves ReadFault host answer = in_run stops.ReadFault ReadFault (λ file. refl) (λ before after is. is) answer.0
  run_saves WriteFault host answer =
      elim answer as (λ _. WritesFiles names WriteFault old.store.files new.store.files) [
        | inl stopped ↦ in_run stops.WriteFault WriteFault (λ file. inl refl) (λ before after is. is) stopped.0
        | inr failed ↦ at_save WriteFault part_says (λ before after is. inr is) failed.0
      ]
  run_saves NoMemory host answer =
      elim answer as (λ _. WritesFiles names NoMemory old.store.files new.store.files) [
        | inl stopped ↦ in_run stops.NoMemory NoMemory (λ file. inl refl) (λ before after is. is) stopped
        | inr failed ↦ at_save NoMemory part_says (λ before after is. inr is) failed
      ]

-- What is asked for

asked_saves : (names : Names) (old new : Seen) (turns : ℕ) (end : End) (host : Option Emulated) (asked : Asked) → Answers asked names (once_loaded asked names old) new turns end host
    → WritesFiles names end old.store.files new.store.files
asked_saves names old new turns end host (Refuse refusal) answer =
    let stands = refused_stands refusal names (once_loaded (Refuse refusal) names old) new turns end host answer in stands_so end old.store.files new.store.files stands.0 stands.1 names
asked_saves names old new turns end host (Run quantum machine budget front) answer =
    run_saves quantum machine budget front names (once_loaded (Run quantum machine budget front) names old) new turns end host answer

-- What an answer says, of the files alone.
pub saves : (words : List (List ℕ)) (reading : Reading) (old new : Seen) (turns : ℕ) (end : End) (host : Option Emulated) → AnswersReading words reading old new turns end host
    → SavesReading words reading end old.store.files new.store.files
saves words (WrongAt word) old new turns end host answer =
    elim answer as (λ _. new.store.files ≡ old.store.files) [
      | inl early ↦ ap (λ (s : Stored). s.files) early.1.stands
      | inr refused ↦ (refused_stands (Usage word) no_names old new turns end host refused).1
    ]
saves words (Asks line) old new turns end host answer =
    elim answer as (λ _. WritesFiles (names_of words line) end old.store.files new.store.files) [
      | inl early ↦
          let stands = early_stands (names_of words line) end old.store new.store early.at_stage in
          stands_so end old.store.files new.store.files stands.0 stands.1 (names_of words line)
      | inr asked ↦ asked_saves (names_of words line) old new turns end host asked.0 asked.2
    ]
