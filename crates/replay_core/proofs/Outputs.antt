-- The counts of faults of the two outputs.
use Rattle.std.proofs.Common.{ℕ, Option, Result, Ok, Err, refl, subst, ◌∙◌}
use Rattle.guest_space.specs.Memory.{Memory, Pages}
use Rattle.o32_model.specs.Effects.{Difference}
use Rattle.replay_core.specs.Answered.{CountRose, CountsStay, StopsOnlyIfRose}
use Rattle.replay_core.specs.declared.difference.Halt.{Halt}
use Rattle.replay_core.specs.declared.difference.Halt.TheVariants.{Differs, WriteFault, NoMemory}
use Rattle.replay_core.specs.inside.Parts.{ChangesPages, HaltsOnlyIfRose, IsGoing, Meets, end_by}

pub counts_same : (out err : ℕ) → CountsStay out out err err
counts_same out err = record { out_stays = refl; err_stays = refl }

pub counts_then : {o m n e f g : ℕ} → CountsStay o m e f → CountsStay m n f g → CountsStay o n e g
counts_then first second = record { out_stays = second.out_stays ∙ first.out_stays; err_stays = second.err_stays ∙ first.err_stays }

pub halts_after : (result : Result Unit Halt) (o m n e f g : ℕ) → CountsStay o m e f → HaltsOnlyIfRose result m n f g → HaltsOnlyIfRose result o n e g
halts_after (Ok done) o m n e f g stays halts = counts_then stays halts
halts_after (Err (Differs found)) o m n e f g stays halts = counts_then stays halts
halts_after (Err WriteFault) o m n e f g stays halts =
    subst (λ (x : ℕ). CountRose x n e g) stays.out_stays (subst (λ (x : ℕ). CountRose m n x g) stays.err_stays halts)
halts_after (Err NoMemory) o m n e f g stays halts = counts_then stays halts

pub meets_counts : (difference : Option Difference) (result : Result Unit Halt) (out err : ℕ) → Meets difference result → HaltsOnlyIfRose result out out err err
meets_counts difference (Ok done) out err is = counts_same out err
meets_counts difference (Err (Differs found)) out err is = counts_same out err
meets_counts difference (Err WriteFault) out err is = absurd is
meets_counts difference (Err NoMemory) out err is = counts_same out err

pub pages_counts : (meant : Result Pages Difference) (before after : Memory) (result : Result Unit Halt) (out err : ℕ) → ChangesPages meant before after result → HaltsOnlyIfRose result out out err err
pages_counts meant before after (Ok done) out err is = counts_same out err
pages_counts meant before after (Err (Differs found)) out err is = counts_same out err
pages_counts meant before after (Err WriteFault) out err is = absurd is
pages_counts meant before after (Err NoMemory) out err is = counts_same out err

pub stops_by : (turns : ℕ) (halt : Halt) (o n e g : ℕ) → HaltsOnlyIfRose (Err halt) o n e g → StopsOnlyIfRose (end_by turns halt) o n e g
stops_by turns (Differs found) o n e g halts = halts
stops_by turns WriteFault o n e g halts = halts
stops_by turns NoMemory o n e g halts = halts

pub goes_by : (turns : ℕ) (halt : Halt) → IsGoing (end_by turns halt)
goes_by turns (Differs found) = λ is. cc
goes_by turns WriteFault = λ is. cc
goes_by turns NoMemory = λ is. cc
