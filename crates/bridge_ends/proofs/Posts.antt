-- What is told of a post, and of the timer.
use Rattle.std.proofs.Common.{◌≡◌, ◌∙◌, ℕ, Bool, true, false, List, [], ◌∷◌, ◌++◌, refl, sym, ap, append-nil}
use Rattle.std.specs.Prelude.{◌==◌, ◌&&◌, nat_le, Option, Some, None, if◌then◌else◌}
use Rattle.std.specs.List.{list_any}
use Rattle.bridge_ends.specs.inside.Endings.{happened, has_come, names, timer_told}
use Rattle.guest_space.specs.Memory.{Memory}
use Rattle.kernel_core.specs.declared.event.Event.{Event}
use Rattle.kernel_core.specs.declared.event.Event.TheVariants as events
use Rattle.kernel_core.specs.declared.signal.Sig.{Sig}
use Rattle.kernel_core.specs.declared.signal.Sig.TheVariants as sigs
use Rattle.kernel_model.specs.Clock.{comes, gone_off_at, if_comes, next_due, next_time}
use Rattle.kernel_model.specs.Shared.{Info}
use Rattle.kernel_model.specs.SignalRows.{advance, post, posted, with_signals}
use Rattle.kernel_model.specs.SignalSets.{place}
use Rattle.kernel_model.specs.State.{Kernel, Timer}
use Rattle.kernel_model.specs.declared.signal.Post.{Post}
use Rattle.mips_exec.specs.Processor.{Processor}
use Rattle.o32_model.specs.SignalWaitEnds.{named_signals}
use Rattle.o32_model.specs.declared.wait.Wait.{Wait}
use Rattle.o32_turns.specs.Turn.{whole}
use Rattle.o32_turns.specs.Going.{Standing, within_of}
use Rattle.o32_turns.specs.Machine.{Machine}
use Rattle.o32_turns.specs.Posting.{after_post, awaited_by, expiry_events, post_event, timer_posted, waits_for}
use Rattle.schedule.specs.declared.events.Due.{Due}

-- Who waits for a signal by name

names_as : (interrupted : Bool) (machine : Machine) (wait : Option Wait) → machine.interrupted ≡ interrupted → names interrupted machine.memory wait ≡ awaited_by machine wait
names_as interrupted machine None is = refl
names_as interrupted machine (Some wait) is = ap (λ (b : Bool). if b then [] else named_signals machine.memory wait) (sym is)

pub waits_as : (going : Standing) (processor : Processor) (memory : Memory) (kernel : Kernel) (coming : List Due) (idle : ℕ) (signal : Sig)
    → list_any (λ (other : Sig). place other == place signal) (names going.interrupted memory going.wait) ≡ waits_for whole (within_of going processor memory kernel coming idle).machine signal
waits_as going processor memory kernel coming idle signal =
    ap (list_any (λ (other : Sig). place other == place signal))
    (names_as going.interrupted (within_of going processor memory kernel coming idle).machine going.wait refl)

-- A post

pub after_posting : (old between : Standing) (processor : Processor) (memory : Memory) (kernel became : Kernel) (coming : List Due) (idle : ℕ) (info : Info) (kept : Bool) (answer : Post)
    → posted became.signals answer ≡ post kernel.signals info kept → became ≡ with_signals kernel became.signals → between ≡ happened old (post_event info.sig answer)
    → within_of between processor memory became coming idle ≡ after_post (within_of old processor memory kernel coming idle) info.sig (post kernel.signals info kept)
after_posting old between processor memory kernel became coming idle info kept answer row others told =
    ap (λ (s : Standing). within_of s processor memory became coming idle) told
    ∙ ap (λ (k : Kernel). within_of (happened old (post_event info.sig answer)) processor memory k coming idle) others
    ∙ ap (after_post (within_of old processor memory kernel coming idle) info.sig) row

-- The timer

come_by : (clock time : ℕ) (there : Bool) → has_come clock (if there then Some time else None) ≡ (nat_le time clock && there)
come_by clock time true = by (nat_le time clock) where
  by : (b : Bool) → b ≡ (b && true)
  by true = refl
  by false = refl
come_by clock time false = by (nat_le time clock) where
  by : (b : Bool) → false ≡ (b && false)
  by true = refl
  by false = refl

expires : (due : Bool) (timer : Timer) → (if due then events.Post sigs.Alrm ∷ [] else []) ≡ expiry_events (if due then Some timer else None)
expires true timer = refl
expires false timer = refl

tells : (old : Standing) (due : Bool) → (if due then happened old (events.Post sigs.Alrm) else old)
    ≡ record old { events = old.events ++ (if due then events.Post sigs.Alrm ∷ [] else []) }
tells old true = refl
tells old false = ap (λ (e : List Event). record old { events = e }) (sym (append-nil old.events))

told_of : (old : Standing) (clock period : ℕ) (due : Option ℕ) → timer_told old clock (if_comes due)
    ≡ record old { events = old.events ++ expiry_events (gone_off_at clock period due) }
told_of old clock period None = tells old false
told_of old clock period (Some time) =
    ap (λ (b : Bool). if b then happened old (events.Post sigs.Alrm) else old) (come_by clock time (comes time))
    ∙ tells old (nat_le time clock && comes time)
    ∙ ap (λ (e : List Event). record old { events = old.events ++ e }) (expires (nat_le time clock && comes time) (next_due clock time period))

pub after_timer : (old new : Standing) (processor : Processor) (memory : Memory) (kernel became : Kernel) (clock : ℕ) (coming : List Due) (idle : ℕ) (kept : Bool)
    → kept ≡ waits_for whole (within_of old processor memory (record kernel { clock = clock }) coming idle).machine sigs.Alrm
    → became ≡ advance kernel clock kept → new ≡ timer_told old clock (next_time kernel.timer)
    → within_of new processor memory became coming idle ≡ timer_posted whole (within_of old processor memory (record kernel { clock = clock }) coming idle)
unfolding advance
after_timer old new processor memory kernel became clock coming idle kept awaited row told =
    ap (λ (k : Kernel). within_of new processor memory k coming idle) (row ∙ ap (advance kernel clock) awaited)
    ∙ ap (λ (s : Standing). within_of s processor memory (advance kernel clock (waits_for whole (within_of old processor memory (record kernel { clock = clock }) coming idle).machine sigs.Alrm)) coming idle) (told ∙ told_of old clock kernel.timer.period kernel.timer.due)
