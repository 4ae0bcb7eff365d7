-- What a call stores.
use Rattle.std.proofs.Common.{◌≡◌, ℕ, List, refl, sym, ap, ◌∙◌}
use Rattle.host_mem.specs.Memory.{written}
use Rattle.kernel_core.specs.declared.reply.Reply.{Reply}
use Rattle.kernel_model.specs.Came.{Done, Did, came_as, told_as}
use Rattle.kernel_model.specs.State.{Kernel, Files}
use Rattle.kernel_model.specs.Whole.{with_files, on_files}
use Rattle.native_calls.specs.Step.{counted, counts, reply_to, memory_after, stored}
use Rattle.native_kernel.specs.inside.Quiet.{Quietly, Stores}

-- what the row tells is stored by its bytes
pub stores_told : {V : Type 0} → (meaning : V → List ℕ) (kernel : Kernel) (did : Did Files V) (value : V) (address : ℕ) (reply : Reply) (memory new bytes : List ℕ)
    → Done value ≡ did.came → did.state ≡ kernel.files → bytes ≡ meaning value
    → reply ≡ stored memory address bytes → new ≡ written memory address bytes
    → Stores (told_as meaning (on_files kernel did)) address reply kernel memory new
stores_told meaning kernel did value address reply memory new bytes came state told answered put =
    let stands = ap (λ c. came_as meaning c) came in
    record {
      answered = answered ∙ ap (stored memory address) told ∙ ap (λ c. reply_to (stored memory address) c) stands;
      became = ap (λ (f : Files). with_files kernel f) (sym state);
      put = put ∙ ap (written memory address) told ∙ ap (λ c. memory_after (written memory address) memory c) stands;
    }

-- the same of bytes whose number is the reply
pub counts_told : {V : Type 0} → (meaning : V → List ℕ) (kernel : Kernel) (did : Did Files V) (value : V) (address : ℕ) (reply : Reply) (memory new bytes left : List ℕ)
    → did.came ≡ Done value → kernel.files ≡ did.state → bytes ≡ meaning value
    → reply ≡ counted memory address bytes → new ≡ written memory address bytes
    → Quietly (counts memory address (told_as meaning (on_files kernel did)) left) reply kernel new left
counts_told meaning kernel did value address reply memory new bytes left came state told answered put =
    let stands = ap (λ c. came_as meaning c) (sym came) in
    record {
      answered = answered ∙ ap (counted memory address) told ∙ ap (λ c. reply_to (counted memory address) c) stands;
      became = ap (λ (f : Files). with_files kernel f) state;
      stored = put ∙ ap (written memory address) told ∙ ap (λ c. memory_after (written memory address) memory c) stands;
      rest = refl;
      sent = refl;
    }
