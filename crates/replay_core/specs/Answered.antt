-- What a replay answers and leaves. (That it may stop early, and what holds then, is this project's own.)
use Rattle.std.specs.Prelude.{ℕ, ◌≡◌, ◌+◌, ◌<◌, ◌≤◌, ◌⊎◌, List, Option, Some, None}
use Rattle.kernel_core.specs.declared.finish.Finish.{Finish}
use Rattle.kernel_model.specs.Pipes.{Sent}
use Rattle.outside.specs.Count.{Rose}
use Rattle.outside.specs.Output.{GainsText, GainsBetween}
use Rattle.replay_core.specs.Replay.{Replay, replayed}
use Rattle.replay_core.specs.declared.answer.ReplayEnd.{ReplayEnd}
use Rattle.replay_core.specs.declared.answer.ReplayEnd.TheVariants.{Finished, Diverged, Start, WriteFault, NoMemory}

-- what the two outputs have, each where it tells it
pub record Written : Type 0 where
  pub out : Option (List ℕ)
  pub err : Option (List ℕ)

-- what two sinks have, where `out` and `err` give what each tells
abbrev pub written : {O E : Type 0} → (O → Option (List ℕ)) → (E → Option (List ℕ)) → O → E → Written
written out err first second = record { out = out first; err = err second }

-- this was sent between two moments
pub record Gains (before after : Written) (sent : Sent) : Type 0 where
  pub to_out : GainsText before.out after.out sent.out
  pub to_err : GainsText before.err after.err sent.err

-- at least what `low` sent, and at most what `high` sent
pub record GainsPart (before after : Written) (low high : Sent) : Type 0 where
  pub to_out : GainsBetween before.out after.out low.out high.out
  pub to_err : GainsBetween before.err after.err low.err high.err

-- All turns up to the last are taken and meet no difference, and the journal's end has this finish.
pub record EndsBy (replay : Replay) (last : ℕ) (ended : Option Finish) (turns : ℕ) (finish : Finish) : Type 0 where
  pub all : turns ≡ last
  pub taken : replay.turns ≡ turns
  pub none : replay.difference ≡ None
  pub over : ended ≡ Some finish

-- it met this difference, in the turn behind those that are finished
pub record DivergesBy (replay : Replay) (turns turn wanted found : ℕ) : Type 0 where
  pub taken : replay.turns ≡ turns
  pub next : turn ≡ turns + 1
  pub met : replay.difference ≡ Some (record { wanted = wanted; found = found })

-- It stopped after these turns, in the next one: what was sent lies between what these turns send and what one more sends.
pub record StopsAt (start : Replay) (last turns : ℕ) (before after : Written) : Type 0 where
  pub more : turns < last
  pub taken : (replayed start turns).turns ≡ turns
  pub none : (replayed start turns).difference ≡ None
  pub part : GainsPart before after (replayed start turns).sent (replayed start (turns + 1)).sent

-- it did not begin
pub record IsUnbegun (turns : ℕ) (before after : Written) : Type 0 where
  pub none : turns ≡ 0
  pub same : after ≡ before

-- An answer, from the start of a replay, and the turn and the finish of the journal's end. Where the words of the journal are too long, there is
-- no start.
abbrev pub AnswersBy : Replay → ℕ → Option Finish → ReplayEnd → ℕ → Written → Written → Type 0
AnswersBy start last ended (Finished finish) turns before after =
    EndsBy (replayed start last) last ended turns finish × Gains before after (replayed start last).sent
AnswersBy start last ended (Diverged turn wanted found) turns before after =
    DivergesBy (replayed start last) turns turn wanted found × Gains before after (replayed start last).sent
AnswersBy start last ended Start turns before after = IsUnbegun turns before after
AnswersBy start last ended WriteFault turns before after = StopsAt start last turns before after
AnswersBy start last ended NoMemory turns before after = IsUnbegun turns before after ⊎ StopsAt start last turns before after

-- Counts of faults of the two outputs, before and after: no count rose, or one did and none fell.

pub record CountsStay (out out_then err err_then : ℕ) : Type 0 where
  pub out_stays : out_then ≡ out
  pub err_stays : err_then ≡ err

pub record CountRose (out out_then err err_then : ℕ) : Type 0 where
  pub rose : Rose out out_then ⊎ Rose err err_then
  pub out_later : out ≤ out_then
  pub err_later : err ≤ err_then

-- It may stop early by an output only where that counted a fault in this call, and no count rose where it did not.
abbrev pub StopsOnlyIfRose : ReplayEnd → ℕ → ℕ → ℕ → ℕ → Type 0
StopsOnlyIfRose (Finished finish) out out_then err err_then = CountsStay out out_then err err_then
StopsOnlyIfRose (Diverged turn wanted found) out out_then err err_then = CountsStay out out_then err err_then
StopsOnlyIfRose Start out out_then err err_then = CountsStay out out_then err err_then
StopsOnlyIfRose WriteFault out out_then err err_then = CountRose out out_then err err_then
StopsOnlyIfRose NoMemory out out_then err err_then = CountsStay out out_then err err_then
