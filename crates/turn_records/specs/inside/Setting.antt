-- Effects that set registers. (The journal is this project's own.)
use Rattle.std.specs.Prelude.{◌≡◌, All, List, ◌++◌, Ok}
use Rattle.guest_space.specs.Memory.{Pages}
use Rattle.journal.specs.Form.{IsEffect}
use Rattle.kernel_core.specs.declared.record.Effect.{Effect}
use Rattle.kernel_model.specs.Pipes.{Sent}
use Rattle.mips_exec.specs.Processor.{Processor}
use Rattle.o32_model.specs.Effects.{Target, carried_all}

abbrev pub target_at : Processor → Pages → Sent → Target
target_at processor pages sent = record { processor = processor; pages = pages; sent = sent }

-- Effects have come that lead from the registers of one processor to those of another, whatever the pages are and what was sent.
pub record Sets (old new : List Effect) (from to : Processor) : Type 0 where
  pub more : List Effect
  pub whole : new ≡ old ++ more
  pub formed : All IsEffect more
  pub leads : (pages : Pages) (sent : Sent) → carried_all (target_at from pages sent) more ≡ Ok (target_at to pages sent)
