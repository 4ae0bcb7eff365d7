-- Events of the schedule are posted, while the kernel's own clock stands behind the machine's.
use Rattle.std.proofs.Common.{◌≡◌, ℕ, zero, suc, ◌+◌, Bool, true, false, List, [], ◌∷◌, Some, None, OnOk, Result, Ok, Err, refl, sym, ap, ◌∙◌}
use Rattle.std.specs.Prelude.{◌&&◌, ◌||◌, drop, if◌then◌else◌, nat_le, slice_get}
use Rattle.guest_space.specs.Memory.{Memory}
use Rattle.kernel_core.specs.declared.event.Event.TheVariants as events
use Rattle.kernel_model.specs.Shared.{Info}
use Rattle.kernel_model.specs.SignalRows.{is_continue, post}
use Rattle.kernel_model.specs.State.{Kernel}
use Rattle.mips_exec.specs.Processor.{Processor}
use Rattle.o32_machine.proofs.Coming.{from_place}
use Rattle.o32_machine.specs.Emulator.{ProcessState, at_clock, machine_at, within_at, within_now}
use Rattle.o32_turns.specs.Turn.{whole}
use Rattle.o32_turns.specs.Going.{Standing, within_of}
use Rattle.o32_turns.specs.Machine.{Within, happens, with_machine}
use Rattle.o32_turns.specs.Posting.{after_post, event_info, events_posted, is_kill, posted, sent_to, timer_posted, waits_for}
use Rattle.schedule.specs.Cursor.{due_at}
use Rattle.schedule.specs.declared.events.Due.{Due}

abbrev clocked : ℕ → Within → Within
clocked clock within = record within { machine = machine_at clock within.machine }

-- a post doesn't look at the clock

go_clocked : (clock : ℕ) (goes : Bool) (within : Within)
    → (if goes then happens (with_machine (clocked clock within) (record (clocked clock within).machine { stopped = false })) events.Cont else clocked clock within)
    ≡ clocked clock (if goes then happens (with_machine within (record within.machine { stopped = false })) events.Cont else within)
go_clocked clock true within = refl
go_clocked clock false within = refl

sent_clocked : (clock : ℕ) (within : Within) (info : Info) → sent_to whole (clocked clock within) info ≡ clocked clock (sent_to whole within info)
sent_clocked clock within info =
    go_clocked clock ((is_kill info.sig || is_continue info.sig) && within.machine.stopped)
    (after_post within info.sig (post within.machine.kernel.signals info (waits_for whole within.machine info.sig)))

module _ (clock : ℕ) (processor : Processor) (memory : Memory) (coming : List Due) (idle : ℕ) where
  abbrev here : Standing → Kernel → Within
  here going kernel = within_of going processor memory (at_clock clock kernel) coming idle

  -- one event that is due is posted
  pub one_posted : (events : List Due) (place : ℕ) (event : Due) (old new : Standing) (before after : Kernel) → slice_get events place ≡ Some event → nat_le event.time clock ≡ true
      → within_of new processor memory after coming idle ≡ sent_to whole (within_of old processor memory before coming idle) (event_info event)
      → events_posted whole (drop place events) (here old before) ≡ events_posted whole (drop (place + 1) events) (here new after)
  one_posted events place event old new before after is due posts =
      ap (λ (list : List Due). events_posted whole list (here old before)) (from_place events place event is)
      ∙ ap
      (λ (b : Bool). if b then events_posted whole (drop (place + 1) events) (sent_to whole (here old before) (event_info event))
      else with_machine (here old before) (record (here old before).machine { coming = event ∷ drop (place + 1) events }))
      due
      ∙ ap (events_posted whole (drop (place + 1) events))
      (sent_clocked clock (within_of old processor memory before coming idle) (event_info event) ∙ sym (ap (clocked clock) posts))

  -- none is due any more

  none_if : (due : Bool) (event : Due) (more : List Due) (within : Within) → (if due then Some event else None) ≡ None
      → (if due then events_posted whole more (sent_to whole within (event_info event)) else with_machine within (record within.machine { coming = event ∷ more }))
      ≡ with_machine within (record within.machine { coming = event ∷ more })
  none_if true event more within none = absurd cc
  none_if false event more within none = refl

  none_due : (events : List Due) (place : ℕ) (within : Within) → due_at within.machine.kernel.clock (slice_get events place) ≡ None
      → events_posted whole (drop place events) within ≡ with_machine within (record within.machine { coming = drop place events })
  none_due [] zero within none = refl
  none_due [] (suc place) within none = refl
  none_due (event ∷ events) zero within none = none_if (nat_le event.time within.machine.kernel.clock) event events within none
  none_due (event ∷ events) (suc place) within none = none_due events place within none

  pub all_posted : (events : List Due) (place : ℕ) (going : Standing) (kernel : Kernel) → due_at clock (slice_get events place) ≡ None
      → events_posted whole (drop place events) (here going kernel) ≡ within_of going processor memory (at_clock clock kernel) (drop place events) idle
  all_posted events place going kernel none = none_due events place (here going kernel) none

-- The events and then the timer

abbrev Leads : Memory → Standing → Kernel → (Within → Within) → Standing → Kernel → Type 0
Leads memory old before part new after =
    (processor : Processor) (coming : List Due) (idle : ℕ)
    → within_of new processor memory after coming idle ≡ part (within_of old processor memory before coming idle)

module _ (clock : ℕ) (process : ProcessState) (between new : Standing) (middle after : Kernel) (rest : List Due)
    (events : (processor : Processor) (coming : List Due) (idle : ℕ)
    → events_posted whole process.coming (within_of process.going processor process.memory (at_clock clock process.kernel) coming idle) ≡ within_of between processor process.memory (at_clock clock middle) rest idle) where
  abbrev left_so : ProcessState
  left_so = record process { kernel = after; going = new; coming = rest }

  pub all_due_posted : {E : Type 0} (result : Result (Unit {0}) E) (old : ProcessState) → process ≡ old
      → OnOk result (Leads process.memory between (at_clock clock middle) (timer_posted whole) new after) → OnOk result (within_now left_so ≡ posted whole (within_at clock old))
  all_due_posted (Ok done) old is timer =
      timer process.processor rest process.idle
      ∙ ap (timer_posted whole) (sym (events process.processor process.coming process.idle))
      ∙ ap (λ (p : ProcessState). posted whole (within_at clock p)) is
  all_due_posted (Err error) old is timer = timer
