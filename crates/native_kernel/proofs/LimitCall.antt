-- prlimit(2) by its number.
use Rattle.std.proofs.Common.{◌≡◌, ℕ, ℤ, List}
use Rattle.kernel_core.specs.declared.reply.Reply.{Reply}
use Rattle.kernel_model.specs.State.{Kernel}
use Rattle.native_calls.specs.Arguments.{argument, word, signed_word}
use Rattle.native_calls.specs.System.{prlimit_row}
use Rattle.native_kernel.specs.Built.{call_of_groups, system_groups}
use Rattle.native_kernel.specs.inside.Quiet.{IsQuiet}

pub limit_call : (nr : ℕ) (args : List ℕ) (kernel after : Kernel) (memory stored : List ℕ) (pid : ℤ) (resource : ℕ) (reply : Reply)
    → nr ≡ 261 → pid ≡ signed_word args 0 → resource ≡ word args 1
    → IsQuiet (prlimit_row kernel memory pid resource (argument args 2) (argument args 3)) reply after stored
    → IsQuiet (call_of_groups system_groups nr args kernel memory) reply after stored
limit_call nr args kernel after memory stored pid resource reply number who what quiet = rw number (rw (who, what) at quiet)
