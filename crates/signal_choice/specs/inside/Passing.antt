-- A signal that passes a test. (The form is this project's own.)
use Rattle.std.specs.Prelude.{Bool, Option, Some, None, if◌then◌else◌}
use Rattle.kernel_core.specs.declared.signal.Sig.{Sig}

abbrev pub passing : (Sig → Bool) → Option Sig → Option Sig
passing test None = None
passing test (Some signal) = if test signal then Some signal else None
