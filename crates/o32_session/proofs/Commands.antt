-- What a session answers, by the command that its words begin with.
use Rattle.std.proofs.Common.{◌≡◌, ℕ, codes, Bool, true, false, cond, List, [], ◌∷◌, Option, Some, ◌⊎◌, refl, subst}
use Rattle.std.proofs.lemmas.Slice.Eq.{bytes_eq-Decides}
use Rattle.std.specs.Str.{bytes_eq}
use Rattle.outside.specs.Count.{Rose}
use Rattle.o32_runner.specs.Emulators.{Emulated}
use Rattle.o32_session.specs.SavedFile.{SavesCommand}
use Rattle.session_files.specs.Seen.{Seen}
use Rattle.o32_session.specs.Session.{AsksForRun, EndsAsRun}
use Rattle.o32_session.specs.Words.{Line, Asks, WrongAt, read_words, Command, RunCommand, ReplayCommand, SoakCommand, command_of, read_replay, read_soak}
use Rattle.session_replay.specs.Replayed.{AsksForReplay, EndsAsReplay}
use Rattle.o32_session.specs.Soaked.{AnswersCommand}
use Rattle.session_files.specs.declared.end.End.{End}
use Rattle.session_files.specs.declared.end.End.TheVariants.{ReadFault, NoMemory}
use Rattle.o32_session.proofs.SavedFiles.{saves}
use Rattle.o32_session.proofs.Sessions.{complete}
use Rattle.o32_session.proofs.Soaking.{soak_files}
use Rattle.session_replay.proofs.Repeating.{reading_complete, replay_files}

-- the command by what its word is
abbrev by_word : Bool → Bool → Command
by_word replays soaks = cond replays ReplayCommand (cond soaks SoakCommand RunCommand)

only_replay : (replays soaks : Bool) → by_word replays soaks ≡ ReplayCommand → replays ≡ true
only_replay true soaks same = refl
only_replay false true same = absurd cc
only_replay false false same = absurd cc

only_soak : (replays soaks : Bool) → by_word replays soaks ≡ SoakCommand → soaks ≡ true
only_soak true soaks same = absurd cc
only_soak false true same = refl
only_soak false false same = absurd cc

-- words of a replay ask for no run, and neither do those of a soak
pub no_run : (words : List (List ℕ)) (line : Line) → command_of words ≡ ReplayCommand → read_words words ≡ Asks line → ⊥
no_run [] line is asks = absurd cc
no_run (word ∷ rest) line is asks =
    let replays : bytes_eq word (codes "replay") ≡ true = only_replay (bytes_eq word (codes "replay")) (bytes_eq word (codes "soak")) is in
    let same : word ≡ codes "replay" = (bytes_eq-Decides word (codes "replay")).0 replays in
    let wrong : WrongAt 0 ≡ Asks line = subst (λ (w : List ℕ). read_words (w ∷ rest) ≡ Asks line) same asks in
    cc

pub no_run_of_soak : (words : List (List ℕ)) (line : Line) → command_of words ≡ SoakCommand → read_words words ≡ Asks line → ⊥
no_run_of_soak [] line is asks = absurd cc
no_run_of_soak (word ∷ rest) line is asks =
    let soaks : bytes_eq word (codes "soak") ≡ true = only_soak (bytes_eq word (codes "replay")) (bytes_eq word (codes "soak")) is in
    let same : word ≡ codes "soak" = (bytes_eq-Decides word (codes "soak")).0 soaks in
    let wrong : WrongAt 0 ≡ Asks line = subst (λ (w : List ℕ). read_words (w ∷ rest) ≡ Asks line) same asks in
    cc

-- Where a run is asked for and no count rose, the answer is the run's end, unless memory ran out.
pub run_complete : (command : Command) (words : List (List ℕ)) (old new : Seen) (turns : ℕ) (end : End) (host : Option Emulated) (run : AsksForRun words old.store.files) (left : List ℕ) →
    command_of words ≡ command → AnswersCommand command words old new turns end host → old.left ≡ Some left → (end ≡ ReadFault → ⊥) → (Rose old.store.write_faults new.store.write_faults → ⊥) →
    (Rose old.out_faults new.out_faults → ⊥) → (Rose old.err_faults new.err_faults → ⊥) → (end ≡ NoMemory) ⊎ EndsAsRun words old.store.files run left turns end
run_complete RunCommand words old new turns end host run left is answer told read file out err = complete words old new turns end host run left answer told read file out err
run_complete ReplayCommand words old new turns end host run left is answer told read file out err = absurd (no_run words run.line is run.in_order)
run_complete SoakCommand words old new turns end host run left is answer told read file out err = absurd (no_run_of_soak words run.line is run.in_order)

-- Where a replay is asked for and no count rose, the answer is how it is over, unless memory ran out.
pub replay_complete : (words : List (List ℕ)) (old new : Seen) (turns : ℕ) (end : End) (host : Option Emulated) (replay : AsksForReplay words old.store.files) →
    AnswersCommand (command_of words) words old new turns end host → (Rose old.load_faults new.load_faults → ⊥) → (Rose old.out_faults new.out_faults → ⊥) →
    (Rose old.err_faults new.err_faults → ⊥) → (end ≡ NoMemory) ⊎ EndsAsReplay words old.store.files replay turns end
replay_complete words old new turns end host replay answer load out err =
    reading_complete words old new turns end replay (subst (λ c. AnswersCommand c words old new turns end host) replay.replays answer) load out err

-- What an answer says, of the files alone.
pub command_saves : (command : Command) (words : List (List ℕ)) (old new : Seen) (turns : ℕ) (end : End) (host : Option Emulated) → AnswersCommand command words old new turns end host →
    SavesCommand command words end old.store.files new.store.files
command_saves RunCommand words old new turns end host answer = saves words (read_words words) old new turns end host answer
command_saves ReplayCommand words old new turns end host answer = replay_files (read_replay words) old new turns end answer
command_saves SoakCommand words old new turns end host answer = soak_files (read_soak words) old new turns end host answer
