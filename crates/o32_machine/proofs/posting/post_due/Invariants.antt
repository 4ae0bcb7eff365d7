use Rattle.std.proofs.Common.{◌≡◌, ◌≤◌, ◌-◌, ℕ, List, length}
use Rattle.mips_exec.specs.Processor.{Processor}
use Rattle.o32_machine.specs.Emulator.{at_clock, coming_of}
use Rattle.o32_machine.specs.inside.Logging.{PostsLogged}
use Rattle.o32_turns.specs.Turn.{whole}
use Rattle.o32_turns.specs.Going.{within_of}
use Rattle.o32_turns.specs.Posting.{events_posted}
use Rattle.schedule.specs.Ranges.{IsGivenSchedule}
use Rattle.schedule.specs.declared.events.Due.{Due}
use Rattle.o32_machine.proofs.posting.post_due.Given as goal

abbrev pub invariant-loop-due : goal.invariant-loop-due
invariant-loop-due l = record {
  given : IsGivenSchedule l.schedule;
  stands : l.k.clock ≡ l.fn.k.clock;
  so_far : (processor : Processor) (coming : List Due) (idle : ℕ)
      → events_posted whole (coming_of l.fn.schedule) (within_of l.fn.going processor l.space (at_clock l.clock l.fn.k) coming idle)
      ≡ events_posted whole (coming_of l.schedule) (within_of l.going processor l.space (at_clock l.clock l.k) coming idle);
  logged : Processor → PostsLogged l.fn.k l.k l.fn.native l.native;
  told : l.native.told ≤ l.k.clock;
}

abbrev pub decreases-loop-due : goal.decreases-loop-due
decreases-loop-due l = length l.schedule.events - l.schedule.at
