-- What a soak answers: what its run came to, and its line.
use Rattle.std.proofs.Common.{◌≡◌, ℕ, ◌≤◌, ◌<◌, All, codes, cond, nat_lt, List, [], Option, Some, None, Ok, Err, ◌⊎◌, inl, inr, refl, sym, ap, ◌∙◌, subst, lit≤}
use Rattle.std.specs.Prelude.{unwrap_or}
use Rattle.std.proofs.lemmas.Bool.{le-ltb}
use Rattle.std.proofs.lemmas.List.Elements.{All-cons, All-nil}
use Rattle.outside.specs.Count.{Rose}
use Rattle.outside.specs.Output.{GainsText, GainsBetween}
use Rattle.outside.specs.Streams.{Contents}
use Rattle.outside.proofs.OutputLemmas.{GainsText-nothing}
use Rattle.elf_image.specs.declared.load_plan.Plan.{Plan}
use Rattle.kernel_core.specs.declared.finish.Finish.{Finish}
use Rattle.kernel_core.specs.declared.tree.Tree.{Tree}
use Rattle.o32_runner.specs.Emulators.{Emulated}
use Rattle.kernel_core.specs.declared.core_error.Stop.{Stop}
use Rattle.o32_runner.specs.Runs.{IsCut, IsOver, RunsAs, turns_begun}
use Rattle.stored_files.specs.Stored.{Stored}
use Rattle.o32_turns.specs.Machine.{Machine}
use Rattle.schedule.specs.declared.Schedule.{Schedule}
use Rattle.start_stack.specs.Stack.{start_size, start_limit}
use Rattle.soak_ends.specs.Line.{soak_plan}
use Rattle.session_files.specs.Answers.{finish_of}
use Rattle.o32_session.specs.Asked.{Asked, Refuse, Run, asked_of_schedule, first_machine, journal_front}
use Rattle.session_files.specs.Inputs.{empty_schedule, empty_tree, no_names}
use Rattle.session_files.specs.Faults.{TellsFaults}
use Rattle.session_files.specs.Seen.{Seen}
use Rattle.o32_session.specs.Soaked.{AnswersCommand, AnswersSoak, AnswersSoakReading, AsksForSoak, EndsAsSoak, EndsSo, GoesSoFar, IsSoaked, StopsAtSoakLine, StopsSoak, soak_arguments, soak_machine, text_on}
use Rattle.o32_session.specs.Words.{IsPlain, Line, SoakReading, AsksSoak, WrongSoakAt, command_of, default_budget}
use Rattle.session_files.specs.Steps.{LineFailsOnlyIfRose}
use Rattle.o32_session.specs.inside.Soaking.{IsSoakOf, TellsSoak}
use Rattle.o32_session.specs.declared.soak.SoakRun.{SoakRun}
use Rattle.session_files.specs.declared.end.End.{End}
use Rattle.session_files.specs.declared.end.End.TheVariants.{Exited, Killed, Budget, Blocked, Soaked, Replayed, Refused, Diverged, ReadFault, WriteFault, NoMemory}
use Rattle.session_files.specs.declared.refusal.Refusal.TheVariants.{Usage, Start}
use Rattle.o32_session.proofs.SavedFiles.{refused_stands}

-- The first machine

pub plain_arguments : All IsPlain soak_arguments
plain_arguments = All-cons IsPlain (codes "soak") [] refl (All-nil IsPlain)

pub no_settings : All IsPlain []
no_settings = All-nil IsPlain

fits : start_size soak_arguments [] ≤ start_limit
fits = lit≤ tt

-- what is asked for with these arguments and this environment

abbrev asked : List (List ℕ) → List (List ℕ) → ℕ → Plan → Tree → Schedule → Asked
asked args env budget plan tree schedule =
    cond (nat_lt start_limit (start_size args env)) (Refuse Start)
    (Run schedule.quantum (first_machine plan args env tree schedule) budget (journal_front args env schedule))

is_run : (budget : ℕ) (plan : Plan) → asked soak_arguments [] budget plan empty_tree empty_schedule
    ≡ Run empty_schedule.quantum (first_machine plan soak_arguments [] empty_tree empty_schedule) budget (journal_front soak_arguments [] empty_schedule)
is_run budget plan =
    ap (λ b. cond b (Refuse Start) (Run empty_schedule.quantum (first_machine plan soak_arguments [] empty_tree empty_schedule) budget (journal_front soak_arguments [] empty_schedule)))
    (le-ltb start_limit (start_size soak_arguments []) fits)

abbrev quantum_in : Asked → ℕ
quantum_in (Refuse refusal) = 0
quantum_in (Run quantum machine budget front) = quantum

abbrev machine_in : Machine → Asked → Machine
machine_in other (Refuse refusal) = other
machine_in other (Run quantum machine budget front) = machine

-- what is asked for where all is as for a soak
asked_is : (count : ℕ) (args env : List (List ℕ)) (budget : ℕ) (plan : Plan) (tree : Tree) (schedule : Schedule) →
    args ≡ soak_arguments → env ≡ [] → plan ≡ soak_plan count → tree ≡ empty_tree → schedule ≡ empty_schedule →
    asked args env budget plan tree schedule
    ≡ Run empty_schedule.quantum (soak_machine count) budget (journal_front soak_arguments [] empty_schedule)
unfolding soak_machine
asked_is count args env budget plan tree schedule args_are env_is plan_is tree_is schedule_is =
    ap (λ (a : List (List ℕ)). asked a env budget plan tree schedule) args_are
    ∙ (ap (λ (e : List (List ℕ)). asked soak_arguments e budget plan tree schedule) env_is
    ∙ (ap (λ (p : Plan). asked soak_arguments [] budget p tree schedule) plan_is
    ∙ (ap (λ (t : Tree). asked soak_arguments [] budget (soak_plan count) t schedule) tree_is
    ∙ (ap (λ (s : Schedule). asked soak_arguments [] budget (soak_plan count) empty_tree s) schedule_is ∙ is_run budget (soak_plan count)))))

pub machine_ready : (count : ℕ) (args : List (List ℕ)) (line : Line) (plan : Plan) (tree : Tree) (schedule : Schedule) (quantum : ℕ) (machine : Machine) (budget : ℕ) (front : List ℕ) →
    args ≡ soak_arguments → line.environment ≡ [] → plan ≡ soak_plan count → tree ≡ empty_tree → schedule ≡ empty_schedule →
    asked_of_schedule args line plan tree schedule ≡ Run quantum machine budget front → machine ≡ soak_machine count
machine_ready count args line plan tree schedule quantum machine budget front args_are env_is plan_is tree_is schedule_is ready =
    ap (machine_in machine) (sym ready ∙ asked_is count args line.environment line.budget plan tree schedule args_are env_is plan_is tree_is schedule_is)

pub quantum_ready : (count : ℕ) (args : List (List ℕ)) (line : Line) (plan : Plan) (tree : Tree) (schedule : Schedule) (quantum : ℕ) (machine : Machine) (budget : ℕ) (front : List ℕ) →
    args ≡ soak_arguments → line.environment ≡ [] → plan ≡ soak_plan count → tree ≡ empty_tree → schedule ≡ empty_schedule →
    asked_of_schedule args line plan tree schedule ≡ Run quantum machine budget front → quantum ≡ empty_schedule.quantum
quantum_ready count args line plan tree schedule quantum machine budget front args_are env_is plan_is tree_is schedule_is ready =
    ap quantum_in (sym ready ∙ asked_is count args line.environment line.budget plan tree schedule args_are env_is plan_is tree_is schedule_is)

-- The run

pub ran_over : (turns quantum : ℕ) (finish : Finish) (machine final : Machine) (before after : Contents) → quantum ≡ empty_schedule.quantum → before.left ≡ Some [] →
    RunsAs quantum machine default_budget turns (Ok finish) before after final → EndsSo machine turns finish final
ran_over turns quantum finish machine final before after quantum_is left runs =
    let is : IsOver empty_schedule.quantum machine [] default_budget turns finish before after final =
    subst (λ (q : ℕ). IsOver q machine [] default_budget turns finish before after final) quantum_is (runs [] left) in
    record { over = is.over; leaves = is.leaves }

pub ran_within : (turns quantum : ℕ) (stop : Stop) (machine final : Machine) (before after : Contents) → quantum ≡ empty_schedule.quantum → before.left ≡ Some [] →
    turns < default_budget → RunsAs quantum machine default_budget turns (Err stop) before after final → GoesSoFar machine turns
ran_within turns quantum stop machine final before after quantum_is left few runs =
    let is : IsCut empty_schedule.quantum machine [] turns (turns_begun default_budget turns) before after =
    subst (λ (q : ℕ). IsCut q machine [] turns (turns_begun default_budget turns) before after) quantum_is (runs [] left) in
    record { alive = is.alive; first = is.first; few = few }

-- The line

-- what is seen once so much was written to standard output
abbrev pub beside_line : Seen → Option (List ℕ) → ℕ → Seen
beside_line old out faults = record old { out = out; out_faults = faults }

text_is : (count : ℕ) (soaked : SoakRun) → IsSoakOf count soaked → unwrap_or soaked.line [] ≡ text_on count soaked.turns soaked.finish soaked.emulator.machine
text_is count soaked is = ap (λ (line : Option (List ℕ)). unwrap_or line []) is.line

-- at most a part of it
part_told : (count : ℕ) (soaked : SoakRun) (old : Seen) (out : Option (List ℕ)) (faults : ℕ) → IsSoakOf count soaked → GainsBetween old.out out [] (unwrap_or soaked.line []) →
    StopsAtSoakLine count old (beside_line old out faults) soaked.turns
part_told count soaked old out faults is part = record {
  finish = soaked.finish;
  final = soaked.emulator.machine;
  over = is.over;
  to_out = subst (λ (text : List ℕ). GainsBetween old.out out [] text) (text_is count soaked is) part;
  to_err = GainsText-nothing old.err;
  rest = record { untaken = refl; stands = refl };
}

pub told : (count : ℕ) (soaked : SoakRun) (end : End) (host : Option Emulated) (old : Seen) (out : Option (List ℕ)) (faults : ℕ) → IsSoakOf count soaked →
    TellsSoak soaked end host old.out out → LineFailsOnlyIfRose end old.out_faults faults → AnswersSoak count old (beside_line old out faults) soaked.turns end host
told count soaked (Soaked finish) host old out faults is so cause =
    subst (λ (f : Finish). IsSoaked count old (beside_line old out faults) soaked.turns f host) (sym so.0) (record {
      emulated = soaked.emulator;
      hosted = so.1.0;
      turned = is.turned;
      quantum = is.quantum;
      keeps = is.keeps;
      last = is.last;
      over = is.over;
      wrote = record { to_out = subst (λ (text : List ℕ). GainsText old.out out text) (text_is count soaked is) so.1.1; to_err = GainsText-nothing old.err };
      rest = record { untaken = refl; stands = refl };
    })
told count soaked WriteFault host old out faults is so cause = (part_told count soaked old out faults is so.1, cause)
told count soaked NoMemory host old out faults is so cause = inr (part_told count soaked old out faults is so.1)
told count soaked ReadFault host old out faults is so cause = absurd so
told count soaked (Refused given) host old out faults is so cause = absurd so
told count soaked (Replayed finish) host old out faults is so cause = absurd so
told count soaked (Diverged turn wanted found) host old out faults is so cause = absurd so
told count soaked (Exited status) host old out faults is so cause = absurd so
told count soaked (Killed signal) host old out faults is so cause = absurd so
told count soaked Budget host old out faults is so cause = absurd so
told count soaked Blocked host old out faults is so cause = absurd so

pub told_host : (soaked : SoakRun) (end : End) (host : Option Emulated) (before after : Option (List ℕ)) → TellsSoak soaked end host before after → finish_of end ≡ None → host ≡ None
told_host soaked (Soaked finish) host before after so none = absurd cc
told_host soaked WriteFault host before after so none = so.0
told_host soaked NoMemory host before after so none = so.0
told_host soaked ReadFault host before after so none = absurd so
told_host soaked (Refused given) host before after so none = absurd so
told_host soaked (Replayed finish) host before after so none = absurd so
told_host soaked (Diverged turn wanted found) host before after so none = absurd so
told_host soaked (Exited status) host before after so none = absurd so
told_host soaked (Killed signal) host before after so none = absurd so
told_host soaked Budget host before after so none = absurd so
told_host soaked Blocked host before after so none = absurd so

pub told_faults : (soaked : SoakRun) (end : End) (host : Option Emulated) (old : Seen) (out : Option (List ℕ)) (faults : ℕ) → TellsSoak soaked end host old.out out →
    LineFailsOnlyIfRose end old.out_faults faults → TellsFaults end old (beside_line old out faults)
told_faults soaked (Soaked finish) host old out faults so cause = record { reads = refl; outs = cause; errs = refl; loads = refl; writes = refl }
told_faults soaked WriteFault host old out faults so cause = inl cause
told_faults soaked NoMemory host old out faults so cause = record { reads = refl; outs = cause; errs = refl; loads = refl; writes = refl }
told_faults soaked ReadFault host old out faults so cause = absurd so
told_faults soaked (Refused given) host old out faults so cause = absurd so
told_faults soaked (Replayed finish) host old out faults so cause = absurd so
told_faults soaked (Diverged turn wanted found) host old out faults so cause = absurd so
told_faults soaked (Exited status) host old out faults so cause = absurd so
told_faults soaked (Killed signal) host old out faults so cause = absurd so
told_faults soaked Budget host old out faults so cause = absurd so
told_faults soaked Blocked host old out faults so cause = absurd so

-- memory ran out before the line
pub untold : (count turns : ℕ) (old : Seen) → StopsSoak count turns → AnswersSoak count old old turns NoMemory None
untold count turns old stopped = inl (record {
  stopped = stopped;
  wrote = record { to_out = GainsText-nothing old.out; to_err = GainsText-nothing old.err };
  rest = record { untaken = refl; stands = refl };
})

-- A soak is asked for

soak_end_of : (count : ℕ) (old new : Seen) (turns : ℕ) (end : End) (host : Option Emulated) → AnswersSoak count old new turns end host →
    (Rose old.out_faults new.out_faults → ⊥) → (end ≡ NoMemory) ⊎ EndsAsSoak count turns end
soak_end_of count old new turns (Soaked finish) host answer out = inr (answer.emulated.machine, answer.over)
soak_end_of count old new turns NoMemory host answer out = inl refl
soak_end_of count old new turns WriteFault host answer out = absurd (out answer.1)
soak_end_of count old new turns ReadFault host answer out = absurd answer
soak_end_of count old new turns (Refused given) host answer out = absurd answer
soak_end_of count old new turns (Replayed finish) host answer out = absurd answer
soak_end_of count old new turns (Diverged turn wanted found) host answer out = absurd answer
soak_end_of count old new turns (Exited status) host answer out = absurd answer
soak_end_of count old new turns (Killed signal) host answer out = absurd answer
soak_end_of count old new turns Budget host answer out = absurd answer
soak_end_of count old new turns Blocked host answer out = absurd answer

-- Where a soak is asked for and no count rose, the answer is how its run is over, unless memory ran out.
pub soak_complete : (words : List (List ℕ)) (old new : Seen) (turns : ℕ) (end : End) (host : Option Emulated) (count : ℕ) → AsksForSoak words count →
    AnswersCommand (command_of words) words old new turns end host → (Rose old.out_faults new.out_faults → ⊥) → (end ≡ NoMemory) ⊎ EndsAsSoak count turns end
soak_complete words old new turns end host count asks answer out =
    soak_end_of count old new turns end host
    (subst (λ r. AnswersSoakReading r old new turns end host) asks.in_order (subst (λ c. AnswersCommand c words old new turns end host) asks.soaks answer)) out

-- A soak changes no file

counted_files : (count : ℕ) (old new : Seen) (turns : ℕ) (end : End) (host : Option Emulated) → AnswersSoak count old new turns end host → new.store.files ≡ old.store.files
counted_files count old new turns (Soaked finish) host answer = ap (λ (s : Stored). s.files) answer.rest.stands
counted_files count old new turns WriteFault host answer = ap (λ (s : Stored). s.files) answer.0.rest.stands
counted_files count old new turns NoMemory host answer =
    elim answer as (λ _. new.store.files ≡ old.store.files) [
      | inl unwritten ↦ ap (λ (s : Stored). s.files) unwritten.rest.stands
      | inr at_line ↦ ap (λ (s : Stored). s.files) at_line.rest.stands
    ]
counted_files count old new turns ReadFault host answer = absurd answer
counted_files count old new turns (Refused given) host answer = absurd answer
counted_files count old new turns (Replayed finish) host answer = absurd answer
counted_files count old new turns (Diverged turn wanted found) host answer = absurd answer
counted_files count old new turns (Exited status) host answer = absurd answer
counted_files count old new turns (Killed signal) host answer = absurd answer
counted_files count old new turns Budget host answer = absurd answer
counted_files count old new turns Blocked host answer = absurd answer

pub soak_files : (reading : SoakReading) (old new : Seen) (turns : ℕ) (end : End) (host : Option Emulated) → AnswersSoakReading reading old new turns end host →
    new.store.files ≡ old.store.files
soak_files (WrongSoakAt word) old new turns end host answer = (refused_stands (Usage word) no_names old new turns end None answer).1
soak_files (AsksSoak count) old new turns end host answer = counted_files count old new turns end host answer
