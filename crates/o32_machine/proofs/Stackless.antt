-- A call that is answered at once takes nothing from the stack.
use Rattle.std.proofs.Common.{◌≡◌, ◌∙◌, ℕ, Bool, true, false, not, List, None, Option, Some, refl, subst, sym}
use Rattle.std.specs.Prelude.{◌==◌, slice_index}
use Rattle.bridge_system.specs.Found.{found}
use Rattle.bridge_system.specs.System.{small_call}
use Rattle.guest_space.specs.Memory.{Memory}
use Rattle.kernel_core.specs.declared.error.Errno.TheVariants.{EINVAL}
use Rattle.kernel_model.specs.Came.{done, refused_if}
use Rattle.kernel_model.specs.State.{Kernel}
use Rattle.mips_exec.specs.Processor.{Processor}
use Rattle.o32_calls.specs.Numbers.{plain_number}
use Rattle.o32_calls.specs.declared.process.PlainCall.TheVariants.{Exit, Getpid, Getuid, Getgid, Geteuid, Getegid, Getppid, Cacheflush, SchedYield, Gettid, ExitGroup, SetTidAddress, SetThreadArea, SetRobustList}
use Rattle.o32_calls.specs.declared.process.PlainCall.{PlainCall}
use Rattle.o32_machine.proofs.Numbering.{plain_same, unlisted}
use Rattle.o32_machine.specs.inside.Finishing.{finished}
use Rattle.o32_machine.specs.inside.Plainly.{IsPlainly, with_stack}
use Rattle.o32_model.specs.Small.{exit_row, robust_list_size, set_robust_list_row, set_thread_area_row, small_calls}
use Rattle.o32_model.specs.Step.{gives}
use Rattle.o32_model.specs.Table.{call_in, machine_call, step_of}
use Rattle.o32_model.specs.declared.call_words.CallWords.{CallWords}
use Rattle.o32_model.specs.declared.outcome.Outcome.TheVariants as outcomes
use Rattle.o32_model.specs.declared.outcome.Outcome.{Outcome}
use Rattle.o32_model.specs.declared.wait.Seen.{Seen}
use Rattle.o32_turns.specs.Machine.{Machine}

module _ (words : CallWords) (stack : List (Option ℕ)) where
  pub finished_same : (machine : Machine) (outcome : Outcome) → finished (with_stack stack words) machine outcome ≡ finished words machine outcome
  finished_same machine (outcomes.Value value) = refl
  finished_same machine (outcomes.Pair first second) = refl
  finished_same machine (outcomes.Error error) = refl
  finished_same machine (outcomes.Sleep wait) = refl
  finished_same machine outcomes.Frame = refl
  finished_same machine outcomes.BadFrame = refl
  finished_same machine (outcomes.Exit status) = refl

  module _ (processor : Processor) (memory : Memory) (kernel : Kernel) (left : List ℕ) where
    same_at : (number : ℕ) → words.nr ≡ number
        → step_of (call_in small_calls None number) kernel (found (with_stack stack words) processor memory) left ≡ step_of (call_in small_calls None number) kernel (found words processor memory) left
        → small_call (found (with_stack stack words) processor memory) kernel left ≡ small_call (found words processor memory) kernel left
    same_at number is row =
        subst (λ (n : ℕ). step_of (call_in small_calls None n) kernel (found (with_stack stack words) processor memory) left ≡ step_of (call_in small_calls None n) kernel (found words processor memory) left) (sym is) row

    by_size : (known : Bool) → gives (found (with_stack stack words) processor memory) (refused_if (not known) EINVAL kernel (done kernel 0)) left
        ≡ gives (found words processor memory) (refused_if (not known) EINVAL kernel (done kernel 0)) left
    by_size true = refl
    by_size false = refl

    small_same : (call : PlainCall) → words.nr ≡ plain_number call → small_call (found (with_stack stack words) processor memory) kernel left ≡ small_call (found words processor memory) kernel left
    unfolding exit_row set_robust_list_row set_thread_area_row
    small_same Exit is = same_at 4001 is refl
    small_same Getpid is = same_at 4020 is refl
    small_same Getuid is = same_at 4024 is refl
    small_same Getgid is = same_at 4047 is refl
    small_same Geteuid is = same_at 4049 is refl
    small_same Getegid is = same_at 4050 is refl
    small_same Getppid is = same_at 4064 is refl
    small_same Cacheflush is = same_at 4147 is refl
    small_same SchedYield is = same_at 4162 is refl
    small_same Gettid is = same_at 4222 is refl
    small_same ExitGroup is = same_at 4246 is refl
    small_same SetTidAddress is = same_at 4252 is refl
    small_same SetThreadArea is = same_at 4283 is refl
    small_same SetRobustList is = same_at 4309 is (by_size (slice_index words.reg 1 == robust_list_size))

    pub answered_same : (seen : Seen) (call : Option PlainCall) → IsPlainly call words.nr
        → machine_call seen kernel (found (with_stack stack words) processor memory) left ≡ machine_call seen kernel (found words processor memory) left
    answered_same seen (Some call) there =
        sym (plain_same seen kernel (found (with_stack stack words) processor memory) left call there) ∙ small_same call there
        ∙ plain_same seen kernel (found words processor memory) left call there
    answered_same seen None there =
        sym (unlisted seen kernel (found (with_stack stack words) processor memory) left there) ∙ unlisted seen kernel (found words processor memory) left there
