-- A call by its number.
use Rattle.std.proofs.Common.{◌≡◌, ℕ, List, Option, Some, None, Result, OnOk, refl, subst, sym}
use Rattle.guest_space.specs.Memory.{Memory}
use Rattle.kernel_core.specs.declared.core_error.Stop.{Stop}
use Rattle.kernel_model.specs.State.{Kernel}
use Rattle.mips_exec.specs.Processor.{Processor}
use Rattle.o32_model.specs.Answered.{Answers}
use Rattle.o32_model.specs.Logs.{Kept}
use Rattle.o32_model.specs.Seeing.{restart_syscall_row}
use Rattle.o32_model.specs.Step.{Guest, O32Step}
use Rattle.o32_model.specs.Table.{call_of, machine_call, seeing_call_of, seeing_step_of}
use Rattle.o32_model.specs.declared.outcome.Outcome.{Outcome}
use Rattle.o32_model.specs.declared.wait.Seen.{Seen}
use Rattle.o32_model.specs.declared.wait.Wait.{Wait}
use Rattle.outside.specs.Streams.{Contents}
use Rattle.bridge_signal_state.proofs.Passed.{Still}
use Rattle.bridge_signal_state.specs.Passed.{Keeps}
use Rattle.bridge_signal.specs.inside.Waiting.{restart_outcome}

-- what a machine's call of a number does
abbrev pub call_at : ℕ → Seen → Kernel → Guest → List ℕ → O32Step
call_at number seen kernel guest left = seeing_step_of (call_of number) (seeing_call_of number) seen kernel guest left

pub by_number : (number : ℕ) (seen : Seen) (kernel : Kernel) (guest : Guest) (left : List ℕ) (result : Result Outcome Stop) (became : Kernel) (memory : Memory) (processor : Processor) (before after : Contents) → guest.words.nr ≡ number
    → Answers (call_at number seen kernel guest left) result became memory processor before after → Answers (machine_call seen kernel guest left) result became memory processor before after
by_number number seen kernel guest left result became memory processor before after same answers =
    subst (λ (n : ℕ). Answers (call_at n seen kernel guest left) result became memory processor before after) (sym same) answers

pub kept_by_number : (number : ℕ) (seen : Seen) (kernel : Kernel) (guest : Guest) (left : List ℕ) (result : Result Outcome Stop) (old new : Kept) → guest.words.nr ≡ number
    → OnOk result (Keeps (call_at number seen kernel guest left) kernel left guest old new) → OnOk result (Keeps (machine_call seen kernel guest left) kernel left guest old new)
kept_by_number number seen kernel guest left result old new same keeps =
    subst (λ (n : ℕ). OnOk result (Keeps (call_at n seen kernel guest left) kernel left guest old new)) (sym same) keeps

-- restart_syscall(2) does nothing else.
still_by : (restart : Option Wait) (kernel : Kernel) (guest : Guest) (left : List ℕ) → Still guest kernel left (restart_outcome restart) (restart_syscall_row restart kernel guest left)
unfolding restart_syscall_row
still_by None kernel guest left = record { kernel_stays = refl; left_stays = refl; sends = refl; stored = refl; set = refl; came = refl }
still_by (Some wait) kernel guest left = record { kernel_stays = refl; left_stays = refl; sends = refl; stored = refl; set = refl; came = refl }

pub restart_still : (seen : Seen) (kernel : Kernel) (guest : Guest) (left : List ℕ) (outcome : Outcome) → guest.words.nr ≡ 4253 → outcome ≡ restart_outcome seen.restart
    → Still guest kernel left outcome (machine_call seen kernel guest left)
restart_still seen kernel guest left outcome same is =
    subst (λ (n : ℕ). Still guest kernel left outcome (call_at n seen kernel guest left)) (sym same)
    (subst (λ (o : Outcome). Still guest kernel left o (restart_syscall_row seen.restart kernel guest left)) (sym is) (still_by seen.restart kernel guest left))
