-- A number that no call of a group has is one of the groups after it.
use Rattle.std.proofs.Common.{◌≡◌, ℕ, List, [], ◌∷◌, Option, Some, Result, refl, sym, ap, subst, ◌∙◌, ne_eqb}
use Rattle.std.specs.Prelude.{⊤, if◌then◌else◌, IfOk}
use Rattle.kernel_core.specs.declared.error.Errno.TheVariants.{ENOSYS}
use Rattle.kernel_core.specs.declared.core_error.NoMemory.{NoMemory}
use Rattle.kernel_core.specs.declared.reply.Reply.{Reply}
use Rattle.kernel_model.specs.State.{Kernel}
use Rattle.native_calls.specs.Step.{NativeCall, failure}
use Rattle.native_calls.specs.Table.{call_in, step_of}
use Rattle.native_kernel.specs.Built.{call_of_groups, call_among}
use Rattle.native_kernel.specs.inside.Quiet.{IsQuiet}

-- a number that none of these calls has
abbrev pub IsApart : ℕ → List NativeCall → Type 0
IsApart nr [] = ⊤
IsApart nr (call ∷ calls) = (nr ≡ call.number → ⊥) × IsApart nr calls

none_in : (nr : ℕ) (calls : List NativeCall) (otherwise : Option NativeCall) → IsApart nr calls → call_in calls otherwise nr ≡ otherwise
none_in nr [] otherwise apart = refl
none_in nr (call ∷ calls) otherwise apart =
    ap (λ b. if b then Some call else call_in calls otherwise nr) (ne_eqb nr call.number apart.0) ∙ none_in nr calls otherwise apart.1

-- what is said of a call of the groups after one
pub later_call : (nr : ℕ) (calls : List NativeCall) (groups : List (List NativeCall)) (args : List ℕ) (kernel after : Kernel) (memory stored : List ℕ)
    (result : Result Reply NoMemory) → IsApart nr calls
    → IfOk result (λ reply. IsQuiet (call_of_groups groups nr args kernel memory) reply after stored)
    → IfOk result (λ reply. IsQuiet (call_of_groups (calls ∷ groups) nr args kernel memory) reply after stored)
later_call nr calls groups args kernel after memory stored result apart quiet =
    subst (λ (o : Option NativeCall). IfOk result (λ reply. IsQuiet (λ left. step_of o args kernel memory left) reply after stored))
    (sym (none_in nr calls (call_among groups nr) apart)) quiet

-- a number of no call
pub no_call : (nr : ℕ) (args : List ℕ) (kernel : Kernel) (memory : List ℕ) (reply : Reply)
    → reply ≡ failure ENOSYS → IsQuiet (call_of_groups [] nr args kernel memory) reply kernel memory
no_call nr args kernel memory reply answered left = record { answered = answered; became = refl; stored = refl; rest = refl; sent = refl }
