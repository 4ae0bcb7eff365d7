-- Calls that store what they found and give a number (getcwd(2), readlink(2), time(2)), and calls that store several pieces (gettimeofday(2),
-- poll(2), select(2)).
use Rattle.std.specs.Prelude.{ℕ, ◌==◌, Bool, List, [], ◌∷◌, length, take_while, if◌then◌else◌}
use Rattle.std.specs.List.{list_all}
use Rattle.guest_space.specs.Bytes.{copied_out}
use Rattle.guest_space.specs.Memory.{Memory}
use Rattle.kernel_core.specs.declared.error.Errno.TheVariants.{EFAULT}
use Rattle.kernel_model.specs.Came.{Did}
use Rattle.kernel_model.specs.Pipes.{nothing}
use Rattle.kernel_model.specs.State.{Kernel}
use Rattle.o32_model.specs.GuestBytes.{is_storable, with_stored}
use Rattle.o32_model.specs.Step.{Guest, O32Step, value, failure, outcome_of, memory_after, comes_to}
use Rattle.o32_model.specs.declared.outcome.Outcome.{Outcome}

-- What was found is stored whole, and gives the result; where its bytes can't all be stored, none is, and that is EFAULT.

abbrev pub value_if : Bool → ℕ → Outcome
value_if room number = if room then value number else failure EFAULT

abbrev pub stored_result : {V : Type 0} → (V → List ℕ) → (V → ℕ) → Memory → ℕ → V → Outcome
stored_result bytes_of number_of memory address found =
    value_if (is_storable memory address (length (bytes_of found))) (number_of found)

abbrev pub stores_result : {V : Type 0} → (V → List ℕ) → (V → ℕ) → Guest → ℕ → Did Kernel V → List ℕ → O32Step
stores_result bytes_of number_of guest address did left = record {
  kernel = did.state;
  left = left;
  memory = memory_after (λ found. with_stored guest.memory address (bytes_of found)) guest.memory did.came;
  processor = guest.processor;
  sent = nothing;
  outcome = outcome_of (stored_result bytes_of number_of guest.memory address) guest.words did.came;
}

-- a text, whose number of bytes is the result
abbrev pub stores_text : Guest → ℕ → Did Kernel (List ℕ) → List ℕ → O32Step
stores_text guest address did left = stores_result (λ bytes. bytes) length guest address did left

-- unless the pointer is null: the result is the same then
abbrev pub stores_result_unless_null : {V : Type 0} → (V → List ℕ) → (V → ℕ) → Guest → ℕ → Did Kernel V → List ℕ → O32Step
stores_result_unless_null bytes_of number_of guest address did left =
    if address == 0 then comes_to (λ found. value (number_of found)) guest did left
    else stores_result bytes_of number_of guest address did left

-- Pieces

-- some bytes, and where they are stored
pub record Piece : Type 0 where
  pub address : ℕ
  pub bytes : List ℕ

abbrev pub fits : Memory → Piece → Bool
fits memory piece = is_storable memory piece.address (length piece.bytes)

-- whether each of them can be stored
abbrev pub all_fit : Memory → List Piece → Bool
all_fit memory pieces = list_all (fits memory) pieces

abbrev pub all_stored : Memory → List Piece → Memory
all_stored memory [] = memory
all_stored memory (piece ∷ pieces) = all_stored (copied_out memory piece.address piece.bytes) pieces

-- They are stored one after another, each whole, up to the first that can't be.
abbrev pub with_pieces : Memory → List Piece → Memory
with_pieces memory pieces = all_stored memory (take_while (fits memory) pieces)

-- a piece unless its pointer is null
abbrev pub piece_unless_null : ℕ → List ℕ → List Piece
piece_unless_null address bytes = if address == 0 then [] else record { address = address; bytes = bytes } ∷ []

-- the pieces that a value is stored as, and the result that it gives, or EFAULT where one of them can't be stored
abbrev pub stores_pieces : {V : Type 0} → (V → List Piece) → (V → ℕ) → Guest → Did Kernel V → List ℕ → O32Step
stores_pieces pieces_of number_of guest did left = record {
  kernel = did.state;
  left = left;
  memory = memory_after (λ found. with_pieces guest.memory (pieces_of found)) guest.memory did.came;
  processor = guest.processor;
  sent = nothing;
  outcome = outcome_of (λ found. value_if (all_fit guest.memory (pieces_of found)) (number_of found)) guest.words did.came;
}
