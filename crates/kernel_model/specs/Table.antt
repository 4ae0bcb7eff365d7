-- Descriptors and the descriptions that they lead to (open(2), dup(2), close(2)).
use Rattle.std.specs.Prelude.{ℕ, ◌+◌, Bool, false, ◌==◌, List, length, drop, position, slice_index_or, slice_set, Option, Some, None, is_none, option_map, option_and_then, unwrap_or, if◌then◌else◌}
use Rattle.std.specs.List.{list_any}
use Rattle.kernel_model.specs.State.{Descriptors}
use Rattle.kernel_model.specs.declared.descriptor.Descriptor.{Descriptor}

-- descriptors are 0 to 1023
abbrev pub descriptor_limit : ℕ
descriptor_limit = 1024

-- Looking up

abbrev pub slot : {A : Type 0} → List (Option A) → ℕ → Option A
slot slots number = slice_index_or slots number None

abbrev pub number_at : {A : Type 0} → Descriptors A → ℕ → Option ℕ
number_at table fd = option_map (λ d. d.number) (slot table.fds fd)

-- the description of a descriptor; none where the descriptor is not open
abbrev pub description_at : {A : Type 0} → Descriptors A → ℕ → Option A
description_at table fd = option_and_then (λ number. slot table.live number) (number_at table fd)

-- the least number from one on at which nothing stands
abbrev pub lowest_free : {A : Type 0} → List (Option A) → ℕ → Option ℕ
lowest_free slots from = option_map (λ k. from + k) (position (λ s. is_none s) (drop from slots))

-- the number of something new: the least that nothing has. There are as many places as descriptors, so one is free wherever a
-- descriptor is.
abbrev pub new_place : {A : Type 0} → List (Option A) → ℕ
new_place slots = unwrap_or (lowest_free slots 0) (length slots)

-- Changing

abbrev pub with_slot : {A : Type 0} → List (Option A) → ℕ → Option A → List (Option A)
with_slot slots number content = slice_set slots number content

-- a new description, of which this is the first descriptor
abbrev pub inserted : {A : Type 0} → Descriptors A → ℕ → A → Bool → Descriptors A
inserted table fd item cloexec = record {
  fds = with_slot table.fds fd (Some (record { number = new_place table.live; cloexec = cloexec }));
  live = with_slot table.live (new_place table.live) (Some item);
}

abbrev pub leads_to : ℕ → Option Descriptor → Bool
leads_to number None = false
leads_to number (Some descriptor) = descriptor.number == number

-- the table without a descriptor, whose description goes where no other descriptor leads to it
abbrev pub closed_at : {A : Type 0} → Descriptors A → ℕ → Option ℕ → Descriptors A
closed_at table fd None = table
closed_at table fd (Some number) =
    let fds = with_slot table.fds fd None in
    record { fds = fds; live = if list_any (leads_to number) fds then table.live else with_slot table.live number None }

unfoldable pub closed : {A : Type 0} → Descriptors A → ℕ → Descriptors A
closed table fd = closed_at table fd (number_at table fd)

-- the description that goes when a descriptor is closed: that of which it is the last descriptor
abbrev pub last_at : {A : Type 0} → Descriptors A → ℕ → Option ℕ → Option A
last_at table fd None = None
last_at table fd (Some number) = if list_any (leads_to number) (with_slot table.fds fd None) then None else slot table.live number

unfoldable pub last_description : {A : Type 0} → Descriptors A → ℕ → Option A
last_description table fd = last_at table fd (number_at table fd)

-- one more descriptor of a description
abbrev pub shared_at : {A : Type 0} → Descriptors A → ℕ → Bool → Option ℕ → Descriptors A
shared_at table onto cloexec None = table
shared_at table onto cloexec (Some number) =
    record table { fds = with_slot table.fds onto (Some (record { number = number; cloexec = cloexec })) }

abbrev pub shared : {A : Type 0} → Descriptors A → ℕ → ℕ → Bool → Descriptors A
shared table fd onto cloexec = shared_at table onto cloexec (number_at table fd)

-- a description that changes for all its descriptors
abbrev pub changed_at : {A : Type 0} → Descriptors A → Option ℕ → A → Descriptors A
changed_at table None item = table
changed_at table (Some number) item = record table { live = with_slot table.live number (Some item) }

abbrev pub with_description : {A : Type 0} → Descriptors A → ℕ → A → Descriptors A
with_description table fd item = changed_at table (number_at table fd) item

-- close-on-exec, which is a descriptor's own
abbrev pub cloexec_at : Option Descriptor → Bool
cloexec_at None = false
cloexec_at (Some descriptor) = descriptor.cloexec

abbrev pub set_cloexec : Bool → Descriptor → Descriptor
set_cloexec cloexec descriptor = record descriptor { cloexec = cloexec }

abbrev pub with_cloexec : {A : Type 0} → Descriptors A → ℕ → Bool → Descriptors A
with_cloexec table fd cloexec =
    record table { fds = with_slot table.fds fd (option_map (set_cloexec cloexec) (slot table.fds fd)) }
