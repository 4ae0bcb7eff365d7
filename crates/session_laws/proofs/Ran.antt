-- What the session of a left run wrote.
use Rattle.std.proofs.Common.{◌≡◌, ℕ, List, Option, Some, None, Result, Ok, ◌⊎◌, inl, inr, refl, sym, ◌∙◌, subst}
use Rattle.outside.specs.Files.{Files}
use Rattle.elf_image.specs.Loading.{plan_of}
use Rattle.fs_image.proofs.MeaningLaws.{one_tree}
use Rattle.kernel_core.specs.declared.finish.Finish.{Finish}
use Rattle.kernel_core.specs.declared.tree.Tree.{Tree}
use Rattle.o32_session.proofs.Commands.{no_run, no_run_of_soak}
use Rattle.o32_session.proofs.Sessions.{asks_run}
use Rattle.session_files.specs.Answers.{finish_of}
use Rattle.o32_session.specs.Asked.{Asked, AsksFor, Run, arguments_of, first_machine, journal_front}
use Rattle.session_files.specs.Inputs.{Found, Absent, Long, Bytes, IsOpened, IsOpenedBy, Names, names_of}
use Rattle.o32_session.specs.Session.{Answers, AnswersReading, Emulated, once_loaded}
use Rattle.session_files.specs.Seen.{Seen, Writes}
use Rattle.o32_session.specs.Soaked.{AnswersCommand, AnswersSession}
use Rattle.o32_session.specs.Words.{Asks, Command, ReplayCommand, RunCommand, SoakCommand, command_of}
use Rattle.session_files.specs.declared.end.End.{End}
use Rattle.session_files.specs.declared.end.End.TheVariants.{Exited, Killed, Budget, Blocked, Soaked, Replayed, Refused, Diverged, ReadFault, WriteFault, NoMemory}
use Rattle.session_files.specs.declared.refusal.Refusal.{Refusal}
use Rattle.o32_turns.specs.Machine.{Machine}
use Rattle.o32_turns.specs.Runs.{reached}
use Rattle.session_laws.specs.Later.{LeftRun, run_left}

-- One tree is opened

one_found : (found : Found) (a b : Tree) → IsOpenedBy found (Ok a) → IsOpenedBy found (Ok b) → a ≡ b
one_found Absent a b one other = absurd cc
one_found Long a b one other = absurd cc
one_found (Bytes bytes) a b one other = one_tree a b one.valid other.valid (sym one.text ∙ other.text)

one_opened : (files : Files) (image : Option (List ℕ)) (a b : Tree) → IsOpened (Some files) image (Ok a) → IsOpened (Some files) image (Ok b) → a ≡ b
one_opened files None a b one other =
    let first : Result Tree Refusal = Ok a in
    let second : Result Tree Refusal = Ok b in
    let both : first ≡ second = one ∙ sym other in
    cc
one_opened files (Some name) a b one other = one_found one.0 a b one.2 (subst (λ (f : Found). IsOpenedBy f (Ok b)) (other.1 ∙ sym one.1) other.2)

-- A run that is over

writes_so : (quantum : ℕ) (machine : Machine) (budget : ℕ) (front : List ℕ) (names : Names) (old new : Seen) (turns : ℕ) (end : End) (host : Option Emulated) (finish : Finish) (left : List ℕ)
    → finish_of end ≡ Some finish → old.left ≡ Some left → Answers (Run quantum machine budget front) names old new turns end host
    → Writes old new (reached quantum machine left turns).sent.out (reached quantum machine left turns).sent.err
writes_so quantum machine budget front names old new turns (Exited status) host finish left is told answer = (answer.told left told).wrote
writes_so quantum machine budget front names old new turns (Killed signal) host finish left is told answer = (answer.told left told).wrote
writes_so quantum machine budget front names old new turns Budget host finish left is told answer = (answer.told left told).wrote
writes_so quantum machine budget front names old new turns Blocked host finish left is told answer = (answer.told left told).wrote
writes_so quantum machine budget front names old new turns (Soaked over) host finish left is told answer = absurd answer
writes_so quantum machine budget front names old new turns (Replayed over) host finish left is told answer = absurd answer
writes_so quantum machine budget front names old new turns (Diverged turn wanted found) host finish left is told answer = absurd answer
writes_so quantum machine budget front names old new turns (Refused given) host finish left is told answer = absurd answer
writes_so quantum machine budget front names old new turns ReadFault host finish left is told answer = absurd cc
writes_so quantum machine budget front names old new turns WriteFault host finish left is told answer = absurd cc
writes_so quantum machine budget front names old new turns NoMemory host finish left is told answer = absurd cc

not_early : {P : Type 0} (end : End) (finish : Finish) → finish_of end ≡ Some finish → (end ≡ ReadFault) ⊎ (end ≡ NoMemory) → P
not_early end finish is early =
    absurd (elim early [
      | inl fault ↦ let wrong : finish_of ReadFault ≡ Some finish = subst (λ (e : End). finish_of e ≡ Some finish) fault is in cc
      | inr memory ↦ let wrong : finish_of NoMemory ≡ Some finish = subst (λ (e : End). finish_of e ≡ Some finish) memory is in cc
    ])

module _ (left : LeftRun) (old new : Seen) (end : End) (host : Option Emulated) (same : old.store.files ≡ left.before) (told : old.left ≡ Some left.input)
    (is : finish_of end ≡ Some left.finish) where
  abbrev Wrote : Tree → Type 0
  Wrote tree =
      let sent =
      (reached left.run.schedule.quantum
      (first_machine (plan_of left.run.bytes) (arguments_of left.words left.run.line) left.run.line.environment tree left.run.schedule) left.input left.turns).sent in
      Writes old new sent.out sent.err

  ran : (asked : Asked) → AsksFor left.words left.run.line old.store.files asked
      → Answers asked (names_of left.words left.run.line) (once_loaded asked (names_of left.words left.run.line) old) new left.turns end host → Wrote left.leaves.tree
  ran asked asks answer =
      let names = names_of left.words left.run.line in
      let args = arguments_of left.words left.run.line in
      let of = asks_run left.words left.before left.run asked (subst (λ (f : Option Files). AsksFor left.words left.run.line f asked) (same ∙ left.run.is_told) asks) in
      let machine = first_machine (plan_of left.run.bytes) args left.run.line.environment of.0 left.run.schedule in
      let front = journal_front args left.run.line.environment left.run.schedule in
      let this : Asked = Run left.run.schedule.quantum machine left.run.line.budget front in
      let written =
      writes_so left.run.schedule.quantum machine left.run.line.budget front names (once_loaded this names old) new left.turns end host left.finish left.input is told
      (subst (λ (a : Asked). Answers a names (once_loaded a names old) new left.turns end host) of.2 answer) in
      let plain : Wrote of.0 = record { to_out = written.to_out; to_err = written.to_err } in
      subst Wrote (one_opened left.run.files names.image of.0 left.leaves.tree of.1 left.leaves.opened) plain

  answered : (command : Command) → command_of left.words ≡ command → AnswersCommand command left.words old new left.turns end host → Wrote left.leaves.tree
  answered RunCommand command answer =
      let known : AnswersReading left.words (Asks left.run.line) old new left.turns end host =
      subst (λ r. AnswersReading left.words r old new left.turns end host) left.run.in_order answer in
      elim known as (λ _. Wrote left.leaves.tree) [
        | inl early ↦
            not_early end left.finish is (elim early.at_stage as (λ _. (end ≡ ReadFault) ⊎ (end ≡ NoMemory)) [ inl fault ↦ inl fault.0 | inr memory ↦ inr memory.0 ])
        | inr asked ↦ ran asked.0 asked.1 asked.2
      ]
  answered ReplayCommand command answer = absurd (no_run left.words left.run.line command left.run.in_order)
  answered SoakCommand command answer = absurd (no_run_of_soak left.words left.run.line command left.run.in_order)

pub wrote : (left : LeftRun) (old new : Seen) (end : End) (host : Option Emulated) → old.store.files ≡ left.before → old.left ≡ Some left.input → finish_of end ≡ Some left.finish
    → AnswersSession left.words old new left.turns end host → Writes old new (run_left left).sent.out (run_left left).sent.err
wrote left old new end host same told is answer = answered left old new end host same told is (command_of left.words) refl answer
