-- How turns one after the other make a replay.
use Rattle.std.proofs.Common.{List, ◌≡◌, ◌<◌, ◌≤◌, ℕ, zero, suc, ◌+◌, ◌-◌, Option, Some, None, Result, Ok, Err, refl, sym, ap, subst, ◌∙◌, add-one, arith, inr}
use Rattle.guest_space.specs.Memory.{Memory}
use Rattle.kernel_core.specs.declared.finish.Finish.{Finish}
use Rattle.kernel_core.specs.declared.record.Record.{Record}
use Rattle.mips_exec.specs.Processor.{Processor}
use Rattle.kernel_model.specs.Pipes.{Sent, nothing}
use Rattle.o32_model.specs.Effects.{Difference}
use Rattle.replay_core.specs.Answered.{AnswersBy, Gains, GainsPart, Written}
use Rattle.replay_core.specs.Replay.{Replay, before_instruction, instruction_or_none, replayed, turn_after, turn_or_none, unless_met}
use Rattle.replay_core.specs.declared.answer.ReplayEnd.{ReplayEnd}
use Rattle.replay_core.specs.declared.answer.ReplayEnd.TheVariants.{Finished}
use Rattle.replay_core.specs.declared.difference.Halt.{Halt}
use Rattle.replay_core.specs.declared.difference.Halt.TheVariants.{Differs, WriteFault, NoMemory}
use Rattle.replay_core.specs.declared.machine.Machine.{Machine}
use Rattle.replay_core.specs.inside.Parts.{Comes, end_by, met, replay_at}
use Rattle.replay_core.specs.inside.Stretch.{Takes}
use Rattle.replay_core.proofs.Sending.{Further, before_further, instruction_or_none_further, unless_met_further}

-- the replay after so many turns, none of which met a difference
pub record GoesSo (start : Replay) (turns : ℕ) (machine : Machine) (before now : Written) : Type 0 where
  pub same : replayed start turns ≡ replay_at machine turns (replayed start turns).sent
  pub gained : Gains before now (replayed start turns).sent

one_more : (start : Replay) (turns : ℕ) → replayed start (turns + 1) ≡ turn_or_none (replayed start turns)
unfolding replayed
one_more start turns = ap (replayed start) (add-one turns)

module _ (start : Replay) (turns : ℕ) (machine : Machine) (before now : Written) (so : GoesSo start turns machine before now) where
  abbrev sent : Sent
  sent = (replayed start turns).sent

  next_is : replayed start (turns + 1) ≡ turn_after (replay_at machine turns sent)
  next_is = one_more start turns ∙ ap turn_or_none so.same

  pub goes_on : (new : Machine) (after : Written) → Comes (turn_after (replay_at machine turns sent)) new (turns + 1) before sent after (Ok tt) → GoesSo start (turns + 1) new before after
  goes_on new after came = record {
    same = subst (λ (r : Replay). r ≡ replay_at new (turns + 1) r.sent) (sym next_is) came.0;
    gained = subst (λ (r : Replay). Gains before after r.sent) (sym next_is) came.1;
  }

  taken : (replayed start turns).turns ≡ turns
  taken = ap (λ (r : Replay). r.turns) so.same

  none : (replayed start turns).difference ≡ None
  none = ap (λ (r : Replay). r.difference) so.same

-- turns behind others are turns behind what those leave
onwards : (start : Replay) (turns quiet : ℕ) → replayed start (turns + quiet) ≡ replayed (replayed start turns) quiet
unfolding replayed
onwards start turns zero = let e : turns + 0 ≡ turns = omega arith in ap (replayed start) e
onwards start turns (suc quiet) =
    let e : turns + suc quiet ≡ suc (turns + quiet) = omega arith in
    ap (replayed start) e ∙ ap turn_or_none (onwards start turns quiet)

pub goes_quietly_on : (start : Replay) (turns : ℕ) (machine : Machine) (before now : Written) → GoesSo start turns machine before now
    → (new : Machine) (quiet : ℕ) (after : Written) (result : Result Unit Halt) → (takes : Takes machine new turns quiet now after result) → GoesSo start (turns + quiet) takes.middle before now
goes_quietly_on start turns machine before now so new quiet after result takes =
    let sent : Sent = (replayed start turns).sent in
    let is : replayed start (turns + quiet) ≡ replay_at takes.middle (turns + quiet) sent =
    onwards start turns quiet ∙ ap (λ (r : Replay). replayed r quiet) so.same ∙ takes.quietly sent in
    record {
      same = subst (λ (r : Replay). r ≡ replay_at takes.middle (turns + quiet) r.sent) (sym is) refl;
      gained = subst (λ (r : Replay). Gains before now r.sent) (sym is) so.gained;
    }

-- a turn that meets a difference is not counted
counted_by : (replay : Replay) (difference : Option Difference) (found : Difference) → difference ≡ Some found → (unless_met difference replay (record replay { turns = replay.turns + 1 })).turns ≡ replay.turns
counted_by replay None found is = absurd cc
counted_by replay (Some difference) found is = refl

counted_difference : (replay : Replay) (difference : Option Difference) → (unless_met difference replay (record replay { turns = replay.turns + 1 })).difference ≡ replay.difference
counted_difference replay None = refl
counted_difference replay (Some difference) = refl

not_counted : (replay : Replay) (found : Difference) → (turn_after replay).difference ≡ Some found → (turn_after replay).turns ≡ replay.turns
not_counted replay found is =
    let turn = replay.turns + 1 in
    let first = before_instruction turn replay in
    let last = unless_met first.difference first (instruction_or_none turn first) in
    let further : Further first last = unless_met_further first.difference first (instruction_or_none turn first) (instruction_or_none_further turn first) in
    let met : last.difference ≡ Some found = sym (counted_difference last last.difference) ∙ is in
    counted_by last last.difference found met ∙ further.turns ∙ (before_further turn replay).turns

-- nothing follows a difference
unless_met_some : (difference : Option Difference) (found : Difference) (first second : Replay) → difference ≡ Some found → unless_met difference first second ≡ first
unless_met_some None found first second is = absurd cc
unless_met_some (Some difference) found first second is = refl

stays_by : (start : Replay) (turns more : ℕ) (found : Difference) → (replayed start turns).difference ≡ Some found → replayed start (more + turns) ≡ replayed start turns
unfolding replayed
stays_by start turns zero found is = ap (replayed start) (let e : 0 + turns ≡ turns = omega arith in e)
stays_by start turns (suc more) found is =
    let reached = replayed start turns in
    let next : suc more + turns ≡ suc (more + turns) = omega arith in
    ap (replayed start) next ∙ ap turn_or_none (stays_by start turns more found is) ∙ unless_met_some reached.difference found reached (turn_after reached) is

stays : (start : Replay) (turns last : ℕ) (found : Difference) → turns ≤ last → (replayed start turns).difference ≡ Some found → replayed start last ≡ replayed start turns
stays start turns last found within is =
    let e : last ≡ (last - turns) + turns = omega arith in
    ap (replayed start) e ∙ stays_by start turns (last - turns) found is

pub goes_at_start : (machine : Machine) (held : Written) → Gains held held nothing → GoesSo (replay_at machine 0 nothing) 0 machine held held
unfolding replayed
goes_at_start machine held gains = record { same = refl; gained = gains }

pub ends_so : (start : Replay) (last turns : ℕ) (machine : Machine) (before now : Written) (finish : Finish) → turns ≡ last → GoesSo start turns machine before now
    → AnswersBy start last (Some finish) (Finished finish) last before now
ends_so start last turns machine before now finish all so =
    let here : GoesSo start last machine before now = subst (λ (n : ℕ). GoesSo start n machine before now) all so in
    (record { all = refl; taken = taken start last machine before now here; none = none start last machine before now here; over = refl }, here.gained)

pub stops_so : (start : Replay) (last turns : ℕ) (machine new : Machine) (before now after : Written) (ended : Option Finish) (halt : Halt) → turns < last → GoesSo start turns machine before now
    → Comes (turn_after (replay_at machine turns (replayed start turns).sent)) new (turns + 1) before (replayed start turns).sent after (Err halt)
    → AnswersBy start last ended (end_by turns halt) turns before after
stops_so start last turns machine new before now after ended (Differs found) below so came =
    let next = next_is start turns machine before now so in
    let met_there : (replayed start (turns + 1)).difference ≡ Some (met found) = ap (λ (r : Replay). r.difference) next ∙ came.0 in
    let within : turns + 1 ≤ last = omega (arith, below) in
    let same = stays start (turns + 1) last (met found) within met_there in
    let whole : replayed start last ≡ turn_after (replay_at machine turns (replayed start turns).sent) = same ∙ next in (
      record {
        taken = ap (λ (r : Replay). r.turns) whole ∙ not_counted (replay_at machine turns (replayed start turns).sent) (met found) came.0;
        next = refl;
        met = ap (λ (r : Replay). r.difference) whole ∙ came.0;
      },
      subst (λ (r : Replay). Gains before after r.sent) (sym whole) came.1,
    )
stops_so start last turns machine new before now after ended WriteFault below so came = record {
  more = below;
  taken = taken start turns machine before now so;
  none = none start turns machine before now so;
  part = subst (λ (r : Replay). GainsPart before after (replayed start turns).sent r.sent) (sym (next_is start turns machine before now so)) came;
}
stops_so start last turns machine new before now after ended NoMemory below so came = inr (record {
  more = below;
  taken = taken start turns machine before now so;
  none = none start turns machine before now so;
  part = subst (λ (r : Replay). GainsPart before after (replayed start turns).sent r.sent) (sym (next_is start turns machine before now so)) came;
})

-- Turns that were taken at once

module _ (start : Replay) (turns : ℕ) (machine : Machine) (before now : Written) (so : GoesSo start turns machine before now) (new : Machine) (quiet : ℕ) (after : Written) where
  pub goes_far : (result : Result Unit Halt) → result ≡ Ok tt → Takes machine new turns quiet now after result → GoesSo start (turns + quiet + 1) new before after
  goes_far result is takes =
      let there = goes_quietly_on start turns machine before now so new quiet after result takes in
      goes_on start (turns + quiet) takes.middle before now there new after
      (subst (λ (r : Result Unit Halt). Comes (turn_after (replay_at takes.middle (turns + quiet) (replayed start (turns + quiet)).sent)) new (turns + quiet + 1) before (replayed start (turns + quiet)).sent after r) is
      (takes.last before (replayed start (turns + quiet)).sent there.gained))

  pub stops_far : (last : ℕ) (ended : Option Finish) (result : Result Unit Halt) (halt : Halt) → turns + quiet < last → result ≡ Err halt → Takes machine new turns quiet now after result
      → AnswersBy start last ended (end_by (turns + quiet) halt) (turns + quiet) before after
  stops_far last ended result halt below is takes =
      let there = goes_quietly_on start turns machine before now so new quiet after result takes in
      stops_so start last (turns + quiet) takes.middle new before now after ended halt below there
      (subst (λ (r : Result Unit Halt). Comes (turn_after (replay_at takes.middle (turns + quiet) (replayed start (turns + quiet)).sent)) new (turns + quiet + 1) before (replayed start (turns + quiet)).sent after r) is
      (takes.last before (replayed start (turns + quiet)).sent there.gained))

-- The start

pub started : (machine : Machine) (cpu first : Processor) (space memory : Memory) (left : List Record) → machine ≡ record { cpu = cpu; space = space; coming = left } → cpu ≡ first → space ≡ memory
    → record { processor = first; memory = memory; sent = nothing; left = left; turns = 0; difference = None } ≡ replay_at machine 0 nothing
started machine cpu first space memory left is same_cpu same_space =
    ap (λ (p : Processor). let r : Replay = record { processor = p; memory = memory; sent = nothing; left = left; turns = 0; difference = None } in r) (sym same_cpu)
    ∙ ap (λ (m : Memory). let r : Replay = record { processor = cpu; memory = m; sent = nothing; left = left; turns = 0; difference = None } in r) (sym same_space)
    ∙ ap (λ (m : Machine). replay_at m 0 nothing) (sym is)

pub answers_for : (start other : Replay) (last more : ℕ) (ended : Option Finish) (finish : Finish) (end : ReplayEnd) (turns : ℕ) (before now : Written) → start ≡ other → more ≡ last → ended ≡ Some finish
    → AnswersBy other more (Some finish) end turns before now → AnswersBy start last ended end turns before now
answers_for start other last more ended finish end turns before now same_start same_last same_end answers =
    subst (λ (r : Replay). AnswersBy r last ended end turns before now) (sym same_start)
    (subst (λ (n : ℕ). AnswersBy other n ended end turns before now) same_last
    (subst (λ (f : Option Finish). AnswersBy other more f end turns before now) (sym same_end) answers))
