-- Turns that send and take nothing continue a run, and so does one more.
use Rattle.std.proofs.Common.{◌≡◌, ℕ, zero, suc, ◌+◌, ◌-◌, ◌<◌, ◌≤◌, Bool, true, false, List, ◌++◌, Option, Some, None, Result, Ok, Err, inl, inr, arith, refl, sym, ap, ◌∙◌, subst, add-zero, append-nil, append_assoc}
use Rattle.std.proofs.lemmas.Bool.{cases_lt}
use Rattle.outside.specs.Output.{GainsText}
use Rattle.outside.specs.Streams.{Contents}
use Rattle.kernel_core.specs.declared.event.Event.{Event}
use Rattle.kernel_core.specs.declared.core_error.Stop.{Stop}
use Rattle.kernel_core.specs.declared.finish.Finish.{Finish}
use Rattle.kernel_core.specs.declared.finish.Finish.TheVariants.{Budget}
use Rattle.kernel_model.specs.Pipes.{Sent, nothing}
use Rattle.o32_machine.specs.Answered.{turns_of}
use Rattle.o32_machine.specs.Quiet.{IsQuiet, IsTurnAfter}
use Rattle.o32_machine.specs.declared.turn.Turn as code
use Rattle.o32_machine.specs.declared.turn.Turn.TheVariants.{Went, Ended}
use Rattle.o32_turns.specs.Machine.{Machine, Turn}
use Rattle.o32_turns.specs.Runs.{IsRunningAt, Reached, after_turn, is_blocked, more_sent, reached, unless_blocked, unless_over}
use Rattle.o32_turns.specs.Turn.{turn_of}
use Rattle.o32_runner.specs.Runs.{IsCut, IsOver, IsSoFar}
use Rattle.o32_runner.proofs.RunLemmas.{is_cut_by, is_over_by, went_on_by}

-- What stands after more turns

pub sent_behind : (first second third : Sent) → more_sent (more_sent first second) third ≡ more_sent first (more_sent second third)
sent_behind first second third =
    ap (λ (o : List ℕ). let s : Sent = record { out = o; err = (first.err ++ second.err) ++ third.err } in s) (append_assoc first.out second.out third.out)
    ∙ ap (λ (e : List ℕ). let s : Sent = record { out = first.out ++ (second.out ++ third.out); err = e } in s) (append_assoc first.err second.err third.err)

-- the same with what was sent before
abbrev pub behind : Sent → Reached → Reached
behind sent more = record more { sent = more_sent sent more.sent }

turn_behind : (sent : Sent) (more : Reached) (turn : Turn) → after_turn (more_sent sent more.sent) turn ≡ behind sent (after_turn more.sent turn)
turn_behind sent more turn =
    ap (λ (s : Sent). let r : Reached = record { machine = turn.machine; left = turn.left; sent = s; over = turn.over } in r) (sent_behind sent more.sent turn.sent)

blocked_behind : (sent : Sent) (more : Reached) (turn : Turn) (blocked : Bool) → unless_blocked (behind sent more) turn blocked ≡ behind sent (unless_blocked more turn blocked)
blocked_behind sent more turn true = refl
blocked_behind sent more turn false = turn_behind sent more turn

over_behind : (quantum : ℕ) (sent : Sent) (more : Reached) (over : Option Finish) → unless_over quantum (behind sent more) over ≡ behind sent (unless_over quantum more over)
over_behind quantum sent more (Some finish) = refl
over_behind quantum sent more None =
    let turn = turn_of quantum more.machine more.left in blocked_behind sent more turn (is_blocked turn)

pub none_behind : (sent : Sent) → more_sent sent nothing ≡ sent
none_behind sent =
    ap (λ (o : List ℕ). let s : Sent = record { out = o; err = sent.err ++ nothing.err } in s) (append-nil sent.out)
    ∙ ap (λ (e : List ℕ). let s : Sent = record { out = sent.out; err = e } in s) (append-nil sent.err)

-- the run of j turns and then k is that of k turns from where it stands
pub composed : (quantum : ℕ) (machine : Machine) (left : List ℕ) (j k : ℕ) → (reached quantum machine left j).over ≡ None →
    reached quantum machine left (j + k)
    ≡ behind (reached quantum machine left j).sent (reached quantum (reached quantum machine left j).machine (reached quantum machine left j).left k)
unfolding reached
composed quantum machine left j zero alive =
    let at = reached quantum machine left j in
    ap (λ (n : ℕ). reached quantum machine left n) (add-zero j)
    ∙ ap (λ (o : Option Finish). let r : Reached = record { machine = at.machine; left = at.left; sent = at.sent; over = o } in r) alive
    ∙ ap (λ (s : Sent). let r : Reached = record { machine = at.machine; left = at.left; sent = s; over = None } in r) (sym (none_behind at.sent))
composed quantum machine left j (suc k) alive =
    let at = reached quantum machine left j in
    let more = reached quantum at.machine at.left k in
    let next : j + suc k ≡ suc (j + k) = omega arith in
    ap (λ (n : ℕ). reached quantum machine left n) next
    ∙ ap (λ (r : Reached). unless_over quantum r r.over) (composed quantum machine left j k alive)
    ∙ over_behind quantum at.sent more more.over

-- Quiet turns

module _ (quantum : ℕ) (machine : Machine) (left : List ℕ) (j k : ℕ) (before at : Contents) (now then : Machine) (so : IsSoFar quantum machine left j before at now) (quiet : IsQuiet quantum now k then) where
  abbrev here : Reached
  here = reached quantum machine left j

  abbrev there : Reached
  there = record { machine = then; left = here.left; sent = here.sent; over = None }

  quiet_is : reached quantum here.machine here.left k ≡ record { machine = then; left = here.left; sent = nothing; over = None }
  quiet_is = ap (λ (m : Machine). reached quantum m here.left k) so.same ∙ quiet.reaches here.left

  whole : reached quantum machine left (j + k) ≡ there
  whole =
      composed quantum machine left j k so.alive
      ∙ ap (λ (r : Reached). behind here.sent r) quiet_is
      ∙ ap (λ (s : Sent). let r : Reached = record { machine = then; left = here.left; sent = s; over = None } in r) (none_behind here.sent)

  running_then : (d : ℕ) → d < k → IsRunningAt quantum machine left (j + d)
  running_then d below =
      let runs = quiet.running here.left d below in
      let is : reached quantum machine left (j + d) ≡ behind here.sent (reached quantum now here.left d) =
      composed quantum machine left j d so.alive ∙ ap (λ (m : Machine). behind here.sent (reached quantum m here.left d)) so.same in
      record { alive = ap (λ (r : Reached). r.over) is ∙ runs.alive; awake = ap (λ (r : Reached). is_blocked (turn_of quantum r.machine r.left)) is ∙ runs.awake }

  running : (i : ℕ) → i < j + k → IsRunningAt quantum machine left i
  running i below =
      elim (cases_lt i j) as (λ _. IsRunningAt quantum machine left i) [
        | inl less ↦ so.first i less
        | inr more ↦
            let rest : i - j < k = omega arith in
            let same : j + (i - j) ≡ i = omega arith in
            subst (λ (n : ℕ). IsRunningAt quantum machine left n) same (running_then (i - j) rest)
      ]

  pub quiet_on : IsSoFar quantum machine left (j + k) before at then
  quiet_on = record {
    same = ap (λ (r : Reached). r.machine) whole;
    alive = ap (λ (r : Reached). r.over) whole;
    first = running;
    rest = so.rest ∙ ap Some (sym (ap (λ (r : Reached). r.left) whole));
    to_out = subst (λ (r : Reached). GainsText before.out at.out r.sent.out) (sym whole) so.to_out;
    to_err = subst (λ (r : Reached). GainsText before.err at.err r.sent.err) (sym whole) so.to_err;
  }

-- The turns that one call takes: quiet ones, and one more

module _ (quantum : ℕ) (machine : Machine) (left : List ℕ) (j q limit : ℕ) (before at after : Contents) (now then : Machine) (turns : ℕ) (events : List Event) (same : q ≡ quantum) (so : IsSoFar quantum machine left j before at now) where
  pub quiet_then : (result : Result code.Turn Stop) (turned : IsTurnAfter q limit now j result then turns events at after) → IsSoFar quantum machine left (j + turned.quiet) before at turned.middle
  quiet_then result turned =
      quiet_on quantum machine left j turned.quiet before at now turned.middle so (subst (λ (n : ℕ). IsQuiet n now turned.quiet turned.middle) same turned.first)

  pub went_after : (turn : code.Turn) → turn ≡ Went → IsTurnAfter q limit now j (Ok turn) then turns events at after → IsSoFar quantum machine left turns before after then
  went_after turn is turned =
      let counts : turns ≡ j + turned.quiet + 1 = turned.counted ∙ ap (λ (t : code.Turn). j + turned.quiet + turns_of t) is in
      subst (λ (n : ℕ). IsSoFar quantum machine left n before after then) (sym counts)
      (went_on_by quantum machine left (j + turned.quiet) q before at after turned.middle then turn events same is (quiet_then (Ok turn) turned) turned.last)

  pub is_over_after : (budget : ℕ) (turn : code.Turn) (finish : Finish) → turn ≡ Ended finish → j < budget → limit ≤ budget - j → IsTurnAfter q limit now j (Ok turn) then turns events at after
      → IsOver quantum machine left budget turns finish before after then
  is_over_after budget turn finish is below room turned =
      let within : j + turned.quiet < budget = omega (arith, turned.within) in
      let counts : turns ≡ j + turned.quiet + turns_of (Ended finish) = turned.counted ∙ ap (λ (t : code.Turn). j + turned.quiet + turns_of t) is in
      is_over_by quantum machine left (j + turned.quiet) q budget turns before at after turned.middle then turn events finish same is within counts (quiet_then (Ok turn) turned) turned.last

  pub is_cut_after : (stop : Stop) → IsTurnAfter q limit now j (Err stop) then turns events at after → IsCut quantum machine left turns (turns + 1) before after
  is_cut_after stop turned =
      let counts : turns ≡ j + turned.quiet = turned.counted ∙ add-zero (j + turned.quiet) in
      subst (λ (n : ℕ). IsCut quantum machine left n (n + 1) before after) (sym counts)
      (is_cut_by quantum machine left (j + turned.quiet) q before at after turned.middle same (quiet_then (Err stop) turned) turned.last)

-- the budget's turns are done
pub is_done : (quantum : ℕ) (machine : Machine) (left : List ℕ) (j budget turns : ℕ) (before at : Contents) (now : Machine) → IsSoFar quantum machine left j before at now → j ≡ budget → turns ≡ j
    → IsOver quantum machine left budget turns Budget before at now
is_done quantum machine left j budget turns before at now so full counts =
    let running : (i : ℕ) → i < budget → IsRunningAt quantum machine left i = subst (λ (n : ℕ). (i : ℕ) → i < n → IsRunningAt quantum machine left i) full so.first in
    let alive : (reached quantum machine left budget).over ≡ None = subst (λ (n : ℕ). (reached quantum machine left n).over ≡ None) full so.alive in
    let over : IsOver quantum machine left budget j Budget before at now = record { over = (full, running, alive); leaves = sym so.same; rest = so.rest; to_out = so.to_out; to_err = so.to_err } in
    subst (λ (n : ℕ). IsOver quantum machine left budget n Budget before at now) (sym counts) over
