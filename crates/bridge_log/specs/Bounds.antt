-- What a row gives, and that a register holds what a wait has done. (The form is this project's own.)
use Rattle.std.specs.Prelude.{◌<◌, ◌^◌, ⊤}
use Rattle.kernel_model.specs.Came.{Came, Done, Refused, Waits}

abbrev pub Bounded : {V : Type 0} → (V → Type 0) → Came V → Type 0
Bounded Holds (Done found) = Holds found
Bounded Holds (Refused error) = ⊤
Bounded Holds (Waits wake) = wake.done < 2 ^ 32
