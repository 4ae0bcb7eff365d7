-- The length of a time that is there, by its form. (The form is this project's own.)
use Rattle.std.specs.Prelude.{ℕ, List}
use Rattle.guest_space.specs.Memory.{Memory}
use Rattle.kernel_model.specs.Came.{Given}
use Rattle.kernel_model.specs.Clock.{length_of, then_checked}
use Rattle.kernel_model.specs.Readiness.{select_length}
use Rattle.o32_model.specs.Times.{spec_at, spec_in, val_at, val_in}
use Rattle.bridge_limits.specs.declared.times.TimeForm.{TimeForm}
use Rattle.bridge_limits.specs.declared.times.TimeForm.TheVariants as forms
use Rattle.bridge_limits.specs.declared.times.TimePlace.{TimePlace}

abbrev pub length_in : TimeForm → List ℕ → Given ℕ
length_in forms.Nanoseconds bytes = length_of (spec_in bytes)
length_in forms.Microseconds bytes = select_length (val_in bytes)

abbrev pub length_by : TimeForm → Memory → ℕ → Given ℕ
length_by forms.Nanoseconds memory address = then_checked length_of (spec_at memory address)
length_by forms.Microseconds memory address = then_checked select_length (val_at memory address)

abbrev pub length_there : Memory → TimePlace → Given ℕ
length_there memory place = length_by place.form memory place.address
