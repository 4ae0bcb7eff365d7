-- A call that has been answered, and told of, or that waits.
use Rattle.std.proofs.Common.{◌≡◌, ℕ, List, refl, sym, ap, ◌∙◌}
use Rattle.std.specs.Prelude.{Option}
use Rattle.guest_space.specs.Memory.{Memory}
use Rattle.kernel_model.specs.Came.{Came, Done, Refused, Waits, Given}
use Rattle.kernel_model.specs.Clock.{left_of_wait}
use Rattle.kernel_model.specs.Readiness.{Sets, set_count}
use Rattle.kernel_model.specs.SignalSets.{SignalSet}
use Rattle.kernel_model.specs.State.{Kernel}
use Rattle.o32_model.specs.Selecting.{Asked, sets_pieces}
use Rattle.o32_model.specs.Step.{Guest, wait_of}
use Rattle.o32_model.specs.TimeLeft.{LeftForm, with_left_of}
use Rattle.o32_model.specs.declared.outcome.Outcome.{Outcome}
use Rattle.bridge_limits.proofs.LimitedRows.{limited_kernel, limited_memory, limited_outcome, step_of}
use Rattle.bridge_limits.specs.Limits.{asleep, masked_kernel}
use Rattle.bridge_select.specs.declared.rooms.Places.{Places}
use Rattle.bridge_select.specs.inside.Requests.{Requested, selects}
use Rattle.bridge_select.specs.inside.Telling.{Shows, selecting, told_memory, told_outcome}
use Rattle.bridge_select.proofs.Rows.{selects_is}

told_step : (kernel : Kernel) (guest : Guest) (left : List ℕ) (asked : Asked) (form : LeftForm) (remaining : Option ℕ) (mask : Option (Given SignalSet)) (places : Places) (room : List ℕ) (came : Came Sets)
    → Shows asked places came room
    → step_of (limited_kernel kernel mask came) guest left (limited_memory (sets_pieces asked) form remaining guest.memory came) (limited_outcome (sets_pieces asked) set_count kernel mask guest came)
    ≡ step_of kernel guest left (with_left_of form guest.memory remaining (told_memory guest.memory asked came)) (told_outcome guest.memory asked guest.words came)
told_step kernel guest left asked form remaining mask places room (Done sets) shows = refl
told_step kernel guest left asked form remaining mask places room (Refused error) shows = refl
told_step kernel guest left asked form remaining mask places room (Waits wake) shows = absurd shows

pub told_row : (kernel became : Kernel) (guest : Guest) (requested : Requested) (left : List ℕ) (places : Places) (room : List ℕ) (outcome : Outcome) (memory : Memory)
    → (selecting kernel guest.memory requested).state ≡ kernel → became ≡ kernel → Shows requested.asked places (selecting kernel guest.memory requested).came room
    → outcome ≡ told_outcome guest.memory requested.asked guest.words (selecting kernel guest.memory requested).came
    → memory ≡ with_left_of requested.form guest.memory (left_of_wait kernel kernel.clock requested.wait) (told_memory guest.memory requested.asked (selecting kernel guest.memory requested).came)
    → selects kernel guest requested left ≡ step_of became guest left memory outcome
told_row kernel became guest requested left places room outcome memory stays same shows came stored =
    let found = (selecting kernel guest.memory requested).came in
    let remaining = left_of_wait kernel kernel.clock requested.wait in
    selects_is kernel guest requested left stays
    ∙ told_step kernel guest left requested.asked requested.form remaining requested.own.mask places room found shows
    ∙ ap (λ (k : Kernel). step_of k guest left (with_left_of requested.form guest.memory remaining (told_memory guest.memory requested.asked found)) (told_outcome guest.memory requested.asked guest.words found)) (sym same)
    ∙ ap (λ (m : Memory). step_of became guest left m (told_outcome guest.memory requested.asked guest.words found)) (sym stored)
    ∙ ap (step_of became guest left memory) (sym came)

-- what a wait leaves, and what it comes to
abbrev pub Sleeps : Guest → Requested → Option ℕ → Kernel → Outcome → Kernel → Type 0
Sleeps guest requested until kernel outcome became =
    (outcome ≡ asleep kernel (wait_of guest.words (record { done = 0; until = until })) requested.own.mask) × (became ≡ masked_kernel kernel requested.own.mask)

pub wait_row : (kernel became : Kernel) (guest : Guest) (requested : Requested) (left : List ℕ) (until : Option ℕ) (outcome : Outcome)
    → (selecting kernel guest.memory requested).state ≡ kernel → (selecting kernel guest.memory requested).came ≡ Waits (record { done = 0; until = until })
    → Sleeps guest requested until kernel outcome became → selects kernel guest requested left ≡ step_of became guest left guest.memory outcome
wait_row kernel became guest requested left until outcome stays waits sleeps =
    let mask = requested.own.mask in
    let remaining = left_of_wait kernel kernel.clock requested.wait in
    let pieces = sets_pieces requested.asked in
    selects_is kernel guest requested left stays
    ∙ ap (λ (came : Came Sets). step_of (limited_kernel kernel mask came) guest left (limited_memory pieces requested.form remaining guest.memory came) (limited_outcome pieces set_count kernel mask guest came)) waits
    ∙ ap (λ (k : Kernel). step_of k guest left guest.memory (asleep kernel (wait_of guest.words (record { done = 0; until = until })) mask)) (sym sleeps.1)
    ∙ ap (step_of became guest left guest.memory) (sym sleeps.0)
