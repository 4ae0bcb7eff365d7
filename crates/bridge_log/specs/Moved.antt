-- Bytes that were written or went out, as effects: where they are none, nothing was moved, and there is no effect. (The journal is this
-- project's own.)
use Rattle.std.specs.Prelude.{ℕ, ◌==◌, List, [], ◌∷◌, length, if◌then◌else◌}
use Rattle.guest_space.specs.Memory.{Memory}
use Rattle.kernel_core.specs.declared.record.Effect.{Effect}
use Rattle.kernel_core.specs.declared.record.Effect.TheVariants.{Write, Output}
use Rattle.o32_model.specs.GuestBytes.{is_storable}

abbrev pub written : ℕ → List ℕ → List Effect
written address bytes = if length bytes == 0 then [] else Write address bytes ∷ []

abbrev pub sent_on : ℕ → List ℕ → List Effect
sent_on stream bytes = if length bytes == 0 then [] else Output stream bytes ∷ []

-- bytes that are stored whole or not at all
abbrev pub stored : Memory → ℕ → List ℕ → List Effect
stored memory address bytes = if is_storable memory address (length bytes) then written address bytes else []
