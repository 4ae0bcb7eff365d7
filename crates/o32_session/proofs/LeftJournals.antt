-- The journal that a run leaves is one that a replay accepts.
use Rattle.std.proofs.Common.{◌≡◌, ◌≢◌, ℕ, ◌≤◌, ◌++◌, List, Option, Some, None, Ok, ◌⊎◌, inl, inr, arith, refl, sym, ap, ◌∙◌, subst}
use Rattle.std.specs.Prelude.{All}
use Rattle.std.proofs.lemmas.List.Elements.{All-drop}
use Rattle.outside.specs.Files.{ChangesFile, Files, HasFile}
use Rattle.elf_image.specs.Loading.{plan_of}
use Rattle.fs_image.specs.Text as trees
use Rattle.journal.specs.Form.{IsFinish}
use Rattle.journal.specs.Text.{Kept, head_text, text_of}
use Rattle.kernel_core.specs.declared.finish.Finish.{Finish}
use Rattle.kernel_core.specs.declared.finish.Finish.TheVariants as finishes
use Rattle.kernel_core.specs.declared.record.Record.{Record}
use Rattle.kernel_core.specs.declared.tree.Tree.{Tree}
use Rattle.native_kernel.proofs.Rounds.{length-round}
use Rattle.o32_runner.specs.Emulators.{Emulated}
use Rattle.o32_turns.specs.Machine.{Machine}
use Rattle.o32_runner.specs.JournalText.{HasJournal, IsWholeJournal, KeepsAs, records_text}
use Rattle.stored_files.specs.Stored.{HasText, IfNamed, Stored, WritesText}
use Rattle.o32_runner.specs.Texts.{Differ}
use Rattle.o32_runner.proofs.RecordForms.{are_records}
use Rattle.session_files.specs.Answers.{finish_of}
use Rattle.o32_session.specs.Asked.{Asked, AsksFor, Run, arguments_of, first_machine, journal_front, stack_chance}
use Rattle.session_files.specs.Inputs.{Names, IsOpened, names_of}
use Rattle.o32_session.specs.LeftJournal.{LeavesJournal}
use Rattle.o32_session.specs.Soaked.{AnswersCommand}
use Rattle.session_files.specs.Saved.{SavesTree}
use Rattle.o32_session.specs.Session.{Answers, AnswersReading, AsksForRun, Finishes, final_tree, once_loaded}
use Rattle.session_files.specs.Seen.{Seen}
use Rattle.o32_session.specs.Words.{Asks, Command, ReplayCommand, RunCommand, SoakCommand, command_of, read_words}
use Rattle.session_files.specs.declared.end.End.{End}
use Rattle.session_files.specs.declared.end.End.TheVariants.{Exited, Killed, Budget, Blocked, Soaked, Replayed, Refused, Diverged, ReadFault, WriteFault, NoMemory}
use Rattle.session_words.proofs.Budgets.{budget_within}
use Rattle.o32_session.proofs.Naming.{saved_apart}
use Rattle.session_files.proofs.Plain.{are_texts, asked_plain}
use Rattle.session_files.proofs.ReadWords.{IsUtf8Word, asked_of_words}
use Rattle.o32_session.proofs.Commands.{no_run, no_run_of_soak}
use Rattle.o32_session.proofs.Sessions.{asks_run}

-- The file

has_text : (old new : Option Files) (name text : List ℕ) → ChangesFile old new name (HasText text) → HasFile new name text
has_text None new name text change = subst (λ (n : Option Files). HasFile n name text) (sym change) tt
has_text (Some old) None name text change = absurd change
has_text (Some old) (Some new) name text change = change.0

-- the file of another name was changed
still_has : (old new : Option Files) (name other text : List ℕ) (P : Option (List ℕ) → Option (List ℕ) → Type 0) → name ≢ other → ChangesFile old new other P → HasFile old name text → HasFile new name text
still_has None new name other text P apart change has = subst (λ (n : Option Files). HasFile n name text) (sym change) tt
still_has (Some old) None name other text P apart change has = absurd change
still_has (Some old) (Some new) name other text P apart change has = change.1 name apart ∙ has

saved_behind : (save : Option (List ℕ)) (tree : Tree) (name text : List ℕ) (old new : Stored) → Differ (Some name) save → SavesTree save tree old new → HasFile old.files name text → HasFile new.files name text
saved_behind None tree name text old new apart saved has = subst (λ (s : Stored). HasFile s.files name text) (sym saved) has
saved_behind (Some other) tree name text old new apart saved has =
    still_has old.files new.files name other text (HasText (trees.text_of tree)) apart saved.1.files has

-- The run

finishes_so : (quantum : ℕ) (machine : Machine) (budget : ℕ) (front : List ℕ) (names : Names) (old new : Seen) (turns : ℕ) (end : End) (host : Option Emulated) (finish : Finish) → finish_of end ≡ Some finish
    → Answers (Run quantum machine budget front) names old new turns end host → Finishes quantum machine budget front names old new turns finish host
finishes_so quantum machine budget front names old new turns (Exited status) host finish is answer =
    let same : finishes.Exited status ≡ finish = cc in subst (λ (f : Finish). Finishes quantum machine budget front names old new turns f host) same answer
finishes_so quantum machine budget front names old new turns (Killed signal) host finish is answer =
    let same : finishes.Killed signal ≡ finish = cc in subst (λ (f : Finish). Finishes quantum machine budget front names old new turns f host) same answer
finishes_so quantum machine budget front names old new turns Budget host finish is answer =
    let same : finishes.Budget ≡ finish = cc in subst (λ (f : Finish). Finishes quantum machine budget front names old new turns f host) same answer
finishes_so quantum machine budget front names old new turns Blocked host finish is answer =
    let same : finishes.Blocked ≡ finish = cc in subst (λ (f : Finish). Finishes quantum machine budget front names old new turns f host) same answer
finishes_so quantum machine budget front names old new turns (Soaked over) host finish is answer = absurd answer
finishes_so quantum machine budget front names old new turns (Replayed over) host finish is answer = absurd answer
finishes_so quantum machine budget front names old new turns (Diverged turn wanted found) host finish is answer = absurd answer
finishes_so quantum machine budget front names old new turns (Refused given) host finish is answer = absurd answer
finishes_so quantum machine budget front names old new turns ReadFault host finish is answer = absurd cc
finishes_so quantum machine budget front names old new turns WriteFault host finish is answer = absurd cc
finishes_so quantum machine budget front names old new turns NoMemory host finish is answer = absurd cc

-- what it wrote to the file of its journal
pub record Wrote (quantum : ℕ) (machine : Machine) (left : List ℕ) (budget : ℕ) (front : List ℕ) (turns : ℕ) (finish : Finish) (name : List ℕ) (new : Option Files) : Type 0 where
  pub text : List ℕ
  pub journal : HasJournal front quantum machine left budget turns finish text
  pub file : HasFile new name text

wrote_named : (front : List ℕ) (quantum : ℕ) (machine : Machine) (budget turns : ℕ) (finish : Finish) (told journal : Option (List ℕ)) (name : List ℕ) (old new : Stored) → journal ≡ Some name
    → IfNamed journal (λ n. KeepsAs n front quantum machine budget turns (Ok finish) told) old new → WritesText name (IsWholeJournal front quantum machine budget turns finish told) old new
wrote_named front quantum machine budget turns finish told journal name old new is keeps =
    subst (λ (n : Option (List ℕ)). IfNamed n (λ m. KeepsAs m front quantum machine budget turns (Ok finish) told) old new) is keeps

wrote : (quantum : ℕ) (machine : Machine) (budget : ℕ) (front : List ℕ) (names : Names) (old new : Seen) (turns : ℕ) (finish : Finish) (host : Option Emulated) (left name : List ℕ) → old.left ≡ Some left
    → names.journal ≡ Some name → Differ names.journal names.save → Finishes quantum machine budget front names old new turns finish host → Wrote quantum machine left budget front turns finish name new.store.files
wrote quantum machine budget front names old new turns finish host left name told named apart finished =
    let keeps = wrote_named front quantum machine budget turns finish old.left names.journal name finished.texts.logged finished.middle named finished.texts.keeps in
    record {
      text = keeps.0;
      journal = keeps.1 left told;
      file = saved_behind names.save (final_tree finished.emulated.machine) name keeps.0 finished.middle new.store (subst (λ (n : Option (List ℕ)). Differ n names.save) named apart) finished.saves
          (has_text finished.texts.logged.files finished.middle.files name keeps.0 keeps.2.files);
    }

-- The journal

is_text : (args env : List (List ℕ)) (random : List ℕ) (records : List Record) (front text : List ℕ) → front ≡ head_text args env random → text ≡ front ++ records_text records
    → text ≡ text_of (record { args = args; env = env; random = random; records = records })
unfolding text_of
is_text args env random records front text is whole = whole ∙ ap (λ (f : List ℕ). f ++ records_text records) is

left_by : (words : List (List ℕ)) (told : Option Files) (run : AsksForRun words told) (left name : List ℕ) (turns : ℕ) (finish : Finish) (tree : Tree) (new : Option Files) → All IsUtf8Word words → turns ≤ run.line.budget
    → IsFinish finish → IsOpened (Some run.files) (names_of words run.line).image (Ok tree)
    → Wrote run.schedule.quantum (first_machine (plan_of run.bytes) (arguments_of words run.line) run.line.environment tree run.schedule) left run.line.budget
    (journal_front (arguments_of words run.line) run.line.environment run.schedule) turns finish name new
    → LeavesJournal words told run left turns finish name new
left_by words told run left name turns finish tree new utf8 within small opened written =
    let args = arguments_of words run.line in
    let env = run.line.environment in
    let random = stack_chance run.schedule in
    let machine = first_machine (plan_of run.bytes) args env tree run.schedule in
    let records = written.journal.records in
    let plain = asked_plain words run.line run.in_order in
    let of_words = asked_of_words IsUtf8Word words run.line utf8 run.in_order in
    let budget = budget_within words run.line run.in_order in
    let journal : Kept = record { args = args; env = env; random = random; records = records } in
    record {
      tree = tree;
      opened = opened;
      journal = journal;
      of_run = record {
        form = record {
          texts = are_texts args env run.fits of_words.some plain.args plain.env;
          args_utf8 = All-drop IsUtf8Word run.line.program words utf8;
          env_utf8 = of_words.env;
          random = length-round run.schedule.random 0 16;
          records = are_records run.schedule.quantum machine left run.line.budget turns finish records (omega (arith, within, budget.1)) small written.journal.are;
        };
        with_args = refl;
        with_env = refl;
        with_random = refl;
        records = written.journal.are;
      };
      file = subst (λ (text : List ℕ). HasFile new name text) (is_text args env random records (journal_front args env run.schedule) written.text refl written.journal.written) written.file;
    }

not_early : {P : Type 0} (end : End) (finish : Finish) → finish_of end ≡ Some finish → (end ≡ ReadFault) ⊎ (end ≡ NoMemory) → P
not_early end finish is early =
    absurd (elim early [
      | inl fault ↦ let wrong : finish_of ReadFault ≡ Some finish = subst (λ (e : End). finish_of e ≡ Some finish) fault is in cc
      | inr memory ↦ let wrong : finish_of NoMemory ≡ Some finish = subst (λ (e : End). finish_of e ≡ Some finish) memory is in cc
    ])

leaves : (words : List (List ℕ)) (old new : Seen) (turns : ℕ) (end : End) (host : Option Emulated) (run : AsksForRun words old.store.files) (left name : List ℕ) (finish : Finish) → All IsUtf8Word words
    → AnswersReading words (read_words words) old new turns end host → old.left ≡ Some left → (names_of words run.line).journal ≡ Some name → finish_of end ≡ Some finish
    → LeavesJournal words old.store.files run left turns finish name new.store.files
leaves words old new turns end host run left name finish utf8 answer told named is =
    let known : AnswersReading words (Asks run.line) old new turns end host = subst (λ r. AnswersReading words r old new turns end host) run.in_order answer in
    elim known as (λ _. LeavesJournal words old.store.files run left turns finish name new.store.files) [
      | inl early ↦ not_early end finish is (elim early.at_stage as (λ _. (end ≡ ReadFault) ⊎ (end ≡ NoMemory)) [ inl fault ↦ inl fault.0 | inr memory ↦ inr memory.0 ])
      | inr asked ↦
          let asks = asks_run words old.store.files run asked.0 (subst (λ f. AsksFor words run.line f asked.0) run.is_told asked.1) in
          let names = names_of words run.line in
          let args = arguments_of words run.line in
          let machine = first_machine (plan_of run.bytes) args run.line.environment asks.0 run.schedule in
          let front = journal_front args run.line.environment run.schedule in
          let this : Asked = Run run.schedule.quantum machine run.line.budget front in
          let finished =
          finishes_so run.schedule.quantum machine run.line.budget front names (once_loaded this names old) new turns end host finish is
          (subst (λ a. Answers a names (once_loaded a names old) new turns end host) asks.2 asked.2) in
          left_by words old.store.files run left name turns finish asks.0 new.store.files utf8 finished.within finished.small asks.1
          (wrote run.schedule.quantum machine run.line.budget front names (once_loaded this names old) new turns finish host left name told named (saved_apart words run.line run.in_order) finished)
    ]

pub journal_left : (command : Command) (words : List (List ℕ)) (old new : Seen) (turns : ℕ) (end : End) (host : Option Emulated) (run : AsksForRun words old.store.files) (left name : List ℕ) (finish : Finish) → All IsUtf8Word words
    → command_of words ≡ command → AnswersCommand command words old new turns end host → old.left ≡ Some left → (names_of words run.line).journal ≡ Some name → finish_of end ≡ Some finish
    → LeavesJournal words old.store.files run left turns finish name new.store.files
journal_left RunCommand words old new turns end host run left name finish utf8 command answer told named is = leaves words old new turns end host run left name finish utf8 answer told named is
journal_left ReplayCommand words old new turns end host run left name finish utf8 command answer told named is = absurd (no_run words run.line command run.in_order)
journal_left SoakCommand words old new turns end host run left name finish utf8 command answer told named is = absurd (no_run_of_soak words run.line command run.in_order)
