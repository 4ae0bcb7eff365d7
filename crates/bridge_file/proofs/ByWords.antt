-- A call by its number, for each guest with these words and this memory.
use Rattle.std.proofs.Common.{◌≡◌, ℕ, List, Option, Result, Some, OnOk, subst, sym}
use Rattle.bridge_paths.proofs.ByNumber.{by_number, by_number_kept}
use Rattle.bridge_paths.specs.Found.{found}
use Rattle.bridge_paths.specs.Passed.{Keeps, KeepsCall}
use Rattle.guest_space.specs.Memory.{Memory}
use Rattle.kernel_core.specs.declared.core_error.Stop.{Stop}
use Rattle.kernel_model.specs.State.{Kernel}
use Rattle.mips_exec.specs.Processor.{Processor}
use Rattle.o32_model.specs.Answered.{Answers, IsCall}
use Rattle.o32_model.specs.Logs.{Kept}
use Rattle.o32_model.specs.Step.{Guest}
use Rattle.o32_model.specs.Table.{o32_call, step_of, call_of}
use Rattle.o32_model.specs.declared.call_words.CallWords.{CallWords}
use Rattle.o32_model.specs.declared.outcome.Outcome.{Outcome}
use Rattle.outside.specs.Streams.{Contents}

-- what holds with each processor holds for each guest
each_guest : (words : CallWords) (memory : Memory) (P : Guest → Type 0) → ((processor : Processor) → P (found words processor memory))
    → (guest : Guest) → guest.words ≡ words → guest.memory ≡ memory → P guest
each_guest words memory P each guest same stays =
    subst (λ (w : CallWords). P (found w guest.processor guest.memory)) (sym same)
    (subst (λ (m : Memory). P (found words guest.processor m)) (sym stays) (each guest.processor))

module _ (number : ℕ) (kernel : Kernel) (words : CallWords) (memory : Memory) (result : Result Outcome Stop) where
  -- the row, where memory stays
  pub by_words : (became : Kernel) (before after : Contents) → words.nr ≡ number
      → ((processor : Processor) (left : List ℕ) → before.left ≡ Some left → Answers (step_of (call_of number) kernel (found words processor memory) left) result became memory processor before after)
      → (guest : Guest) → guest.words ≡ words → guest.memory ≡ memory → IsCall (o32_call kernel guest) result became guest.memory guest.processor before after
  by_words became before after same row =
      each_guest words memory (λ guest. IsCall (o32_call kernel guest) result became guest.memory guest.processor before after)
      (λ processor left told. by_number number kernel (found words processor memory) left result became memory processor before after same (row processor left told))

  -- the row, where the call stores
  pub by_words_stored : (became : Kernel) (stored : Memory) (before after : Contents) → words.nr ≡ number
      → ((processor : Processor) (left : List ℕ) → before.left ≡ Some left → Answers (step_of (call_of number) kernel (found words processor memory) left) result became stored processor before after)
      → (guest : Guest) → guest.words ≡ words → guest.memory ≡ memory → IsCall (o32_call kernel guest) result became stored guest.processor before after
  by_words_stored became stored before after same row =
      each_guest words memory (λ guest. IsCall (o32_call kernel guest) result became stored guest.processor before after)
      (λ processor left told. by_number number kernel (found words processor memory) left result became stored processor before after same (row processor left told))

  -- what is kept
  pub by_words_kept : (told : Option (List ℕ)) (old new : Kept) → words.nr ≡ number
      → ((processor : Processor) (left : List ℕ) → told ≡ Some left → OnOk result (Keeps (step_of (call_of number) kernel (found words processor memory) left) kernel left (found words processor memory) old new))
      → (guest : Guest) → guest.words ≡ words → guest.memory ≡ memory → KeepsCall (o32_call kernel guest) result kernel guest told old new
  by_words_kept told old new same kept =
      each_guest words memory (λ guest. KeepsCall (o32_call kernel guest) result kernel guest told old new)
      (λ processor left tells. by_number_kept number kernel (found words processor memory) left result old new same (kept processor left tells))
