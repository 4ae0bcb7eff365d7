-- A small call by its number, and one that asks the kernel for nothing as the call of the table.
use Rattle.std.proofs.Common.{◌≡◌, ℕ, List, Some, None, Result, refl, sym, subst}
use Rattle.guest_space.specs.Memory.{Memory}
use Rattle.kernel_core.specs.declared.core_error.Stop.{Stop}
use Rattle.kernel_model.specs.Pipes.{nothing}
use Rattle.kernel_model.specs.State.{Kernel}
use Rattle.mips_exec.specs.Processor.{Processor}
use Rattle.native_calls.specs.History.{opening}
use Rattle.bridge_io.proofs.Passed.{logged_none}
use Rattle.bridge_io.proofs.Passed.{effected_none}
use Rattle.bridge_io.specs.Passed.{Keeps, reached}
use Rattle.bridge_system.specs.System.{small_call}
use Rattle.bridge_system.specs.Plain.{leaves}
use Rattle.o32_model.specs.Answered as o32
use Rattle.o32_model.specs.Effects.{Effected}
use Rattle.o32_model.specs.Logs.{Kept}
use Rattle.o32_model.specs.Small.{small_calls}
use Rattle.o32_model.specs.Step.{Guest, O32Step}
use Rattle.o32_model.specs.Table.{call_in, step_of}
use Rattle.o32_model.specs.declared.outcome.Outcome.{Outcome}
use Rattle.outside.proofs.OutputLemmas.{GainsText-nothing}
use Rattle.outside.specs.Streams.{Contents}

pub by_number : (number : ℕ) (kernel : Kernel) (guest : Guest) (left : List ℕ) (result : Result Outcome Stop) (became : Kernel) (memory : Memory) (processor : Processor) (before after : Contents) → guest.words.nr ≡ number
    → o32.Answers (step_of (call_in small_calls None number) kernel guest left) result became memory processor before after → o32.Answers (small_call guest kernel left) result became memory processor before after
by_number number kernel guest left result became memory processor before after same answers =
    subst (λ (n : ℕ). o32.Answers (step_of (call_in small_calls None n) kernel guest left) result became memory processor before after) (sym same) answers

module _ (kernel : Kernel) (left : List ℕ) (outcome : Outcome) (memory : Memory) (processor : Processor) (step : O32Step)
    (is : step ≡ leaves kernel left outcome memory processor) where
  left_called : (at : Contents) → at.left ≡ Some left → o32.Called (leaves kernel left outcome memory processor) outcome kernel memory processor at at
  left_called at told = record {
    came = refl;
    became = refl;
    stored = refl;
    set = refl;
    rest = told;
    to_out = GainsText-nothing at.out;
    to_err = GainsText-nothing at.err;
  }

  pub plain_called : (at : Contents) → at.left ≡ Some left → o32.Called step outcome kernel memory processor at at
  plain_called at told = subst (λ (s : O32Step). o32.Called s outcome kernel memory processor at at) (sym is) (left_called at told)

  left_keeps : (guest : Guest) (kept : Kept) → guest.memory ≡ memory → Keeps (leaves kernel left outcome memory processor) kernel left guest kept kept
  left_keeps guest kept same = record {
    native = logged_none kept.native (opening kernel left);
    effects =
        subst (λ (m : Memory). Effected kept.effects kept.effects (reached guest.processor guest.memory.pages nothing) (reached guest.processor m.pages nothing)) same
        (effected_none kept.effects (reached guest.processor guest.memory.pages nothing));
  }

  pub plain_keeps : (guest : Guest) (kept : Kept) → guest.memory ≡ memory → Keeps step kernel left guest kept kept
  plain_keeps guest kept same = subst (λ (s : O32Step). Keeps s kernel left guest kept kept) (sym is) (left_keeps guest kept same)
