-- The alternate stack, set where it was `before`. (The form is this project's own.)
use Rattle.std.specs.Prelude.{ℕ, Bool, ◌&&◌, not, ◌==◌, nat_lt, Option, Some, None, Ok, Err, if◌then◌else◌}
use Rattle.kernel_core.specs.declared.error.Errno.TheVariants.{EINVAL, ENOMEM, EPERM}
use Rattle.kernel_model.specs.Came.{Did, Given, done, refused_if, with_given}
use Rattle.kernel_model.specs.Shared.{Errno}
use Rattle.kernel_model.specs.SignalRows.{is_on, least_stack, set_stack_to, shown_stack, ss_disable, with_stack}
use Rattle.kernel_model.specs.State.{Kernel}
use Rattle.kernel_model.specs.declared.signal.SigStack.{SigStack}

-- what the row does by what is asked for
abbrev pub changed_stack : Kernel → ℕ → Given (Option SigStack) → Did Kernel SigStack
changed_stack kernel sp asked = with_given kernel asked (λ stack. set_stack_to kernel (Some sp) stack)

-- it is taken, or something is wrong with it
abbrev pub set_taken : Kernel → SigStack → SigStack → Did Kernel SigStack
set_taken kernel shown stack =
    refused_if (nat_lt ss_disable stack.flags) EINVAL kernel (
    refused_if (not (stack.flags == ss_disable) && nat_lt stack.size least_stack) ENOMEM kernel (
    done (with_stack kernel stack) shown))

abbrev pub set_from : Kernel → SigStack → ℕ → Option SigStack → Did Kernel SigStack
set_from kernel before sp None = done kernel (shown_stack before (Some sp))
set_from kernel before sp (Some stack) =
    refused_if (is_on before (Some sp)) EPERM kernel (set_taken kernel (shown_stack before (Some sp)) stack)

-- what is wrong with a stack that was not taken
abbrev pub wrong_with : SigStack → Errno
wrong_with stack = if nat_lt ss_disable stack.flags then EINVAL else ENOMEM

abbrev pub told_if : Bool → SigStack → SigStack → Given SigStack
told_if taken shown stack = if taken then Ok shown else Err (wrong_with stack)
