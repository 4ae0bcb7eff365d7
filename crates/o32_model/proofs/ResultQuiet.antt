-- A call that fails moves nothing: calls that store what they found and give a number.
use Rattle.std.proofs.Common.{◌≡◌, ℕ, ◌==◌, List, length, refl}
use Rattle.guest_space.specs.Bytes.{copied_out}
use Rattle.guest_space.specs.Memory.{Memory}
use Rattle.kernel_model.specs.Came.{Came, Done, Refused, Waits, Did}
use Rattle.kernel_model.specs.State.{Kernel}
use Rattle.o32_model.proofs.Quiet.{Quiet, kept_unless, comes_to_quiet, one_quiet}
use Rattle.o32_model.specs.GuestBytes.{is_storable, with_stored}
use Rattle.o32_model.specs.Laws.{IsFailure}
use Rattle.o32_model.specs.Results.{stored_result, stores_result, stores_result_unless_null}
use Rattle.o32_model.specs.Step.{Guest, value, outcome_of, memory_after, comes_to}
use Rattle.o32_model.specs.declared.call_words.CallWords.{CallWords}

stored_result_quiet : {V : Type 0} (bytes_of : V → List ℕ) (number_of : V → ℕ) (words : CallWords) (memory : Memory) (address : ℕ) (came : Came V)
    → IsFailure (outcome_of (stored_result bytes_of number_of memory address) words came)
    → memory_after (λ found. with_stored memory address (bytes_of found)) memory came ≡ memory
stored_result_quiet bytes_of number_of words memory address (Done found) failed =
    kept_unless (is_storable memory address (length (bytes_of found))) (number_of found) (copied_out memory address (bytes_of found)) memory failed
stored_result_quiet bytes_of number_of words memory address (Refused error) failed = refl
stored_result_quiet bytes_of number_of words memory address (Waits wake) failed = refl

pub result_quiet : {V : Type 0} (bytes_of : V → List ℕ) (number_of : V → ℕ) (guest : Guest) (address : ℕ) (did : Did Kernel V) (left : List ℕ)
    → Quiet guest left (stores_result bytes_of number_of guest address did left)
result_quiet bytes_of number_of guest address did left = λ failed. record {
  stored = stored_result_quiet bytes_of number_of guest.words guest.memory address did.came failed;
  set = refl;
  rest = refl;
  sent = refl;
}

pub result_unless_null_quiet : {V : Type 0} (bytes_of : V → List ℕ) (number_of : V → ℕ) (guest : Guest) (address : ℕ) (did : Did Kernel V) (left : List ℕ)
    → Quiet guest left (stores_result_unless_null bytes_of number_of guest address did left)
result_unless_null_quiet bytes_of number_of guest address did left =
    one_quiet (address == 0) guest left (comes_to (λ found. value (number_of found)) guest did left)
    (stores_result bytes_of number_of guest address did left)
    (comes_to_quiet (λ found. value (number_of found)) guest did left) (result_quiet bytes_of number_of guest address did left)
