-- How one more turn continues a run.
use Rattle.std.proofs.Common.{◌≡◌, ℕ, ◌+◌, ◌<◌, ◌≤◌, Bool, true, false, List, ◌++◌, Option, Some, None, inl, inr, arith, refl, sym, ap, ◌∙◌, subst, add-one, add-zero, append-nil}
use Rattle.std.proofs.lemmas.Bool.{cases_eq}
use Rattle.outside.specs.Output.{GainsText, GainsBetween}
use Rattle.outside.specs.Streams.{Contents}
use Rattle.outside.proofs.OutputLemmas.{GainsBetween-part, GainsText-nothing, GainsText-then}
use Rattle.kernel_core.specs.declared.event.Event.{Event}
use Rattle.kernel_core.specs.declared.finish.Finish.{Finish}
use Rattle.kernel_core.specs.declared.finish.Finish.TheVariants.{Exited, Killed, Budget, Blocked}
use Rattle.kernel_model.specs.Pipes.{Sent}
use Rattle.o32_machine.specs.Answered.{Stopped, Turned, over_of, turns_of}
use Rattle.o32_machine.specs.declared.turn.Turn as code
use Rattle.o32_machine.specs.declared.turn.Turn.TheVariants.{Went, Ended}
use Rattle.o32_turns.specs.Machine.{Machine, Turn}
use Rattle.o32_turns.specs.Runs.{IsOverAt, IsRunningAt, Reached, after_attempt, after_turn, is_block, is_blocked, last_machine, reached, unless_blocked, unless_over}
use Rattle.o32_turns.specs.Turn.{turn_of}
use Rattle.o32_runner.proofs.TurnEnds.{turn_ends}
use Rattle.o32_runner.specs.Runs.{IsCut, IsOver, IsSoFar}

-- an attempt that finds the process blocked ends so
pub blocked_by : (over : Option Finish) → is_block over ≡ true → over ≡ Some Blocked
blocked_by None is = absurd cc
blocked_by (Some (Exited status)) is = absurd cc
blocked_by (Some (Killed signal)) is = absurd cc
blocked_by (Some Budget) is = absurd cc
blocked_by (Some Blocked) is = refl

-- One more turn

pub at_start : (quantum : ℕ) (machine : Machine) (left : List ℕ) (at : Contents) → at.left ≡ Some left → IsSoFar quantum machine left 0 at at machine
unfolding reached
at_start quantum machine left at told = record {
  same = refl;
  alive = refl;
  first = λ j below. absurd (omega arith);
  rest = told;
  to_out = GainsText-nothing at.out;
  to_err = GainsText-nothing at.err;
}

module _ (quantum : ℕ) (machine : Machine) (left : List ℕ) (k : ℕ) (before middle : Contents) (now : Machine) (so : IsSoFar quantum machine left k before middle now) where
  abbrev at_k : Reached
  at_k = reached quantum machine left k

  -- the attempt at the next turn
  abbrev tried : Turn
  tried = turn_of quantum now at_k.left

  next_by : (blocked : Bool) → is_blocked tried ≡ blocked → reached quantum machine left (k + 1) ≡ unless_blocked at_k tried blocked
  unfolding reached
  next_by blocked is =
      rw add-one
      (ap (λ (o : Option Finish). unless_over quantum at_k o) so.alive
      ∙ ap (λ (m : Machine). after_attempt at_k (turn_of quantum m at_k.left)) so.same
      ∙ ap (λ (b : Bool). unless_blocked at_k tried b) is)

  next_is : is_blocked tried ≡ false → reached quantum machine left (k + 1) ≡ after_turn at_k.sent tried
  next_is awake = next_by false awake

  runs_here : is_blocked tried ≡ false → IsRunningAt quantum machine left k
  runs_here awake = record { alive = so.alive; awake = ap (λ (m : Machine). is_blocked (turn_of quantum m at_k.left)) so.same ∙ awake }

  first_k : is_blocked tried ≡ false → (j : ℕ) → j < k + 1 → IsRunningAt quantum machine left j
  first_k awake j below =
      elim (cases_eq j k) as (λ _. IsRunningAt quantum machine left j) [
        | inl same ↦ subst (λ (n : ℕ). IsRunningAt quantum machine left n) (sym same) (runs_here awake)
        | inr other ↦ let less : j < k = omega arith in so.first j less
      ]

  -- what is gained with a whole turn

  module _ (turn : code.Turn) (after : Contents) (then : Machine) (events : List Event) (turned : Turned tried turn then events middle after) (awake : is_blocked tried ≡ false) where
    next_over : (reached quantum machine left (k + 1)).over ≡ over_of turn
    next_over = ap (λ (r : Reached). r.over) (next_is awake) ∙ sym turned.came

    next_machine : then ≡ (reached quantum machine left (k + 1)).machine
    next_machine = turned.became ∙ sym (ap (λ (r : Reached). r.machine) (next_is awake))

    next_left : after.left ≡ Some (reached quantum machine left (k + 1)).left
    next_left = turned.rest ∙ ap Some (sym (ap (λ (r : Reached). r.left) (next_is awake)))

    next_out : GainsText before.out after.out (reached quantum machine left (k + 1)).sent.out
    next_out = subst (λ (r : Reached). GainsText before.out after.out r.sent.out) (sym (next_is awake)) (GainsText-then so.to_out turned.to_out)

    next_err : GainsText before.err after.err (reached quantum machine left (k + 1)).sent.err
    next_err = subst (λ (r : Reached). GainsText before.err after.err r.sent.err) (sym (next_is awake)) (GainsText-then so.to_err turned.to_err)

    ended_next : (budget : ℕ) (finish : Finish) → IsOverAt quantum machine left budget (k + 1) finish → then ≡ last_machine quantum machine left (k + 1) finish → IsOver quantum machine left budget (k + 1) finish before after then
    ended_next budget finish over leaves = record { over = over; leaves = leaves; rest = next_left; to_out = next_out; to_err = next_err }

  pub went_on : (after : Contents) (then : Machine) (events : List Event) → Turned tried Went then events middle after → IsSoFar quantum machine left (k + 1) before after then
  went_on after then events turned =
      let awake : is_blocked tried ≡ false = sym (ap is_block turned.came) in
      record {
        same = sym (next_machine Went after then events turned awake);
        alive = next_over Went after then events turned awake;
        first = first_k awake;
        rest = next_left Went after then events turned awake;
        to_out = next_out Went after then events turned awake;
        to_err = next_err Went after then events turned awake;
      }

  -- an attempt that finds the process blocked takes and sends nothing
  blocked_over : (budget : ℕ) (after : Contents) (then : Machine) (events : List Event) → k < budget → Turned tried (Ended Blocked) then events middle after → IsOver quantum machine left budget k Blocked before after then
  blocked_over budget after then events within turned =
      let over : tried.over ≡ Some Blocked = sym turned.came in
      let ends = turn_ends quantum now at_k.left Blocked over in
      let waits : is_blocked tried ≡ true = ap is_block over in
      record {
        over = (within, record { alive = so.alive; waits = ap (λ (m : Machine). is_blocked (turn_of quantum m at_k.left)) so.same ∙ waits; first = so.first });
        leaves = turned.became ∙ sym (ap (λ (m : Machine). (turn_of quantum m at_k.left).machine) so.same);
        rest = turned.rest ∙ ap Some ends.1;
        to_out = subst (λ (t : List ℕ). GainsText before.out after.out t) (ap (λ (n : Sent). at_k.sent.out ++ n.out) ends.0 ∙ append-nil at_k.sent.out) (GainsText-then so.to_out turned.to_out);
        to_err = subst (λ (t : List ℕ). GainsText before.err after.err t) (ap (λ (n : Sent). at_k.sent.err ++ n.err) ends.0 ∙ append-nil at_k.sent.err) (GainsText-then so.to_err turned.to_err);
      }

  -- how many turns the attempt counts for
  abbrev pub counted : Finish → ℕ
  counted (Exited status) = k + 1
  counted (Killed signal) = k + 1
  counted Budget = k + 1
  counted Blocked = k

  pub is_over : (budget : ℕ) (finish : Finish) (after : Contents) (then : Machine) (events : List Event) → k < budget → Turned tried (Ended finish) then events middle after → IsOver quantum machine left budget (counted finish) finish before after then
  is_over budget (Exited status) after then events within turned =
      let least : k + 1 ≤ budget = omega arith in
      let awake : is_blocked tried ≡ false = sym (ap is_block turned.came) in
      ended_next (Ended (Exited status)) after then events turned awake budget (Exited status)
      (least, record { ended = next_over (Ended (Exited status)) after then events turned awake; first = first_k awake }) (next_machine (Ended (Exited status)) after then events turned awake)
  is_over budget (Killed signal) after then events within turned =
      let least : k + 1 ≤ budget = omega arith in
      let awake : is_blocked tried ≡ false = sym (ap is_block turned.came) in
      ended_next (Ended (Killed signal)) after then events turned awake budget (Killed signal)
      (least, record { ended = next_over (Ended (Killed signal)) after then events turned awake; first = first_k awake }) (next_machine (Ended (Killed signal)) after then events turned awake)
  is_over budget Budget after then events within turned = absurd (turn_ends quantum now at_k.left Budget (sym turned.came))
  is_over budget Blocked after then events within turned = blocked_over budget after then events within turned

  -- the next turn stopped early

  cut_awake : (after : Contents) → is_blocked tried ≡ false → Stopped tried middle after → IsCut quantum machine left k (k + 1) before after
  cut_awake after awake stopped = record {
    alive = so.alive;
    first = so.first;
    rest = elim stopped.rest [
      | inl kept ↦ inl (kept ∙ so.rest)
      | inr taken ↦ inr (taken ∙ ap Some (sym (ap (λ (r : Reached). r.left) (next_is awake))))
    ];
    to_out = subst (λ (r : Reached). GainsBetween before.out after.out at_k.sent.out r.sent.out) (sym (next_is awake)) (GainsBetween-part so.to_out stopped.to_out);
    to_err = subst (λ (r : Reached). GainsBetween before.err after.err at_k.sent.err r.sent.err) (sym (next_is awake)) (GainsBetween-part so.to_err stopped.to_err);
  }

  -- the attempt would have found the process blocked
  cut_blocked : (after : Contents) → is_blocked tried ≡ true → Stopped tried middle after → IsCut quantum machine left k (k + 1) before after
  cut_blocked after waits stopped =
      let ends = turn_ends quantum now at_k.left Blocked (blocked_by tried.over waits) in
      let next : reached quantum machine left (k + 1) ≡ at_k = next_by true waits in
      let out : at_k.sent.out ++ tried.sent.out ≡ (reached quantum machine left (k + 1)).sent.out =
      ap (λ (n : Sent). at_k.sent.out ++ n.out) ends.0 ∙ (append-nil at_k.sent.out ∙ sym (ap (λ (r : Reached). r.sent.out) next)) in
      let err : at_k.sent.err ++ tried.sent.err ≡ (reached quantum machine left (k + 1)).sent.err =
      ap (λ (n : Sent). at_k.sent.err ++ n.err) ends.0 ∙ (append-nil at_k.sent.err ∙ sym (ap (λ (r : Reached). r.sent.err) next)) in
      record {
        alive = so.alive;
        first = so.first;
        rest = elim stopped.rest [
          | inl kept ↦ inl (kept ∙ so.rest)
          | inr taken ↦ inl (taken ∙ ap Some ends.1)
        ];
        to_out = subst (λ (t : List ℕ). GainsBetween before.out after.out at_k.sent.out t) out (GainsBetween-part so.to_out stopped.to_out);
        to_err = subst (λ (t : List ℕ). GainsBetween before.err after.err at_k.sent.err t) err (GainsBetween-part so.to_err stopped.to_err);
      }

  cut_by : (blocked : Bool) (after : Contents) → is_blocked tried ≡ blocked → Stopped tried middle after → IsCut quantum machine left k (k + 1) before after
  cut_by false after awake stopped = cut_awake after awake stopped
  cut_by true after waits stopped = cut_blocked after waits stopped

  pub is_cut : (after : Contents) → Stopped tried middle after → IsCut quantum machine left k (k + 1) before after
  is_cut after stopped = cut_by (is_blocked tried) after refl stopped

-- The same of an emulator whose quantum is known

pub went_on_by : (quantum : ℕ) (machine : Machine) (left : List ℕ) (k q : ℕ) (before middle after : Contents) (now then : Machine) (turn : code.Turn) (events : List Event) → q ≡ quantum → turn ≡ Went → IsSoFar quantum machine left k before middle now
    → ((left : List ℕ) → middle.left ≡ Some left → Turned (turn_of q now left) turn then events middle after) → IsSoFar quantum machine left (k + 1) before after then
went_on_by quantum machine left k q before middle after now then turn events same is so turned =
    let here = (reached quantum machine left k).left in
    went_on quantum machine left k before middle now so after then events
    (subst (λ (t : code.Turn). Turned (turn_of quantum now here) t then events middle after) is
    (subst (λ (n : ℕ). Turned (turn_of n now here) turn then events middle after) same (turned here so.rest)))

pub is_over_by : (quantum : ℕ) (machine : Machine) (left : List ℕ) (k q budget turns : ℕ) (before middle after : Contents) (now then : Machine) (turn : code.Turn) (events : List Event) (finish : Finish) → q ≡ quantum → turn ≡ Ended finish → k < budget → turns ≡ k + turns_of (Ended finish)
    → IsSoFar quantum machine left k before middle now → ((left : List ℕ) → middle.left ≡ Some left → Turned (turn_of q now left) turn then events middle after) → IsOver quantum machine left budget turns finish before after then
is_over_by quantum machine left k q budget turns before middle after now then turn events finish same is within counts so turned =
    let here = (reached quantum machine left k).left in
    subst (λ (n : ℕ). IsOver quantum machine left budget n finish before after then) (counted_is finish ∙ sym counts)
    (is_over quantum machine left k before middle now so budget finish after then events within
    (subst (λ (t : code.Turn). Turned (turn_of quantum now here) t then events middle after) is
    (subst (λ (n : ℕ). Turned (turn_of n now here) turn then events middle after) same (turned here so.rest))))
  where
    counted_is : (finish : Finish) → counted quantum machine left k before middle now so finish ≡ k + turns_of (Ended finish)
    counted_is (Exited status) = refl
    counted_is (Killed signal) = refl
    counted_is Budget = refl
    counted_is Blocked = sym (add-zero k)

pub is_cut_by : (quantum : ℕ) (machine : Machine) (left : List ℕ) (k q : ℕ) (before middle after : Contents) (now : Machine) → q ≡ quantum → IsSoFar quantum machine left k before middle now
    → ((left : List ℕ) → middle.left ≡ Some left → Stopped (turn_of q now left) middle after) → IsCut quantum machine left k (k + 1) before after
is_cut_by quantum machine left k q before middle after now same so stopped =
    let here = (reached quantum machine left k).left in
    is_cut quantum machine left k before middle now so after
    (subst (λ (n : ℕ). Stopped (turn_of n now here) middle after) same (stopped here so.rest))
