-- What a call comes to by what it was told, and what it stores of that. (The form is this project's own.)
use Rattle.std.specs.Prelude.{ℕ, List, Ok, Err}
use Rattle.guest_space.specs.Memory.{Memory}
use Rattle.kernel_model.specs.Came.{Given}
use Rattle.bridge_signal_state.specs.Passed.{Ending, fails, stores, stores_unless_null}

-- what was told is stored, unless it is an error

abbrev pub stores_told : {V : Type 0} → (V → List ℕ) → Memory → ℕ → Given V → Ending
stores_told bytes_of memory address (Err error) = fails memory error
stores_told bytes_of memory address (Ok told) = stores memory address (bytes_of told) 0

abbrev pub stores_told_unless_null : {V : Type 0} → (V → List ℕ) → Memory → ℕ → Given V → Ending
stores_told_unless_null bytes_of memory address (Err error) = fails memory error
stores_told_unless_null bytes_of memory address (Ok told) = stores_unless_null memory address (bytes_of told) 0
