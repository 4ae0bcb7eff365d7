-- What is left of the effects of a record, and of the records of a journal.
use Rattle.std.specs.Prelude.{◌≡◌, ◌⊎◌, ℕ, Bool, true, false, List, [], Result, Ok, Err}
use Rattle.kernel_core.specs.declared.record.Effect.{Effect}
use Rattle.kernel_core.specs.declared.record.Record.{Record}
use Rattle.journal.specs.declared.effects.Effects.TheInside as effects
use Rattle.journal.specs.declared.records.Records.TheInside as records
use Rattle.journal.specs.Reading.{many, effect_at, records_at}

abbrev pub is_read : {A : Type 0} → Result A ℕ → Bool
is_read (Ok value) = true
is_read (Err at) = false

abbrev pub first_or_none : {A B : Type 0} → Result (List A × B) ℕ → List A
first_or_none (Ok found) = found.0
first_or_none (Err at) = []

abbrev pub all_or_none : {A : Type 0} → Result (List A) ℕ → List A
all_or_none (Ok found) = found
all_or_none (Err at) = []

abbrev pub effects_left : effects.Inside → List Effect
effects_left e = first_or_none (many effect_at e.count e.file e.rest.now)

abbrev pub AreEffects : effects.Inside → Type 0
AreEffects e = is_read (many effect_at e.count e.file e.rest.now) ≡ true

abbrev pub records_left : records.Inside → List Record
records_left r = all_or_none (records_at r.more r.before r.file r.rest.now)

-- none is left, or the end is read
abbrev pub AreLeft : records.Inside → Type 0
AreLeft r = (r.more ≡ 0) ⊎ (is_read (records_at r.more r.before r.file r.rest.now) ≡ true)
