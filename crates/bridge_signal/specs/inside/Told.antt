-- What a row of the kernel comes to that neither waits nor stops: what it tells, or its error. (The form is this project's own.)
use Rattle.std.specs.Prelude.{Ok, Err}
use Rattle.kernel_model.specs.Came.{Did, Given, done, refused}
use Rattle.kernel_model.specs.State.{Kernel}

abbrev pub did : {V : Type 0} → Kernel → Given V → Did Kernel V
did kernel (Ok told) = done kernel told
did kernel (Err error) = refused kernel error
