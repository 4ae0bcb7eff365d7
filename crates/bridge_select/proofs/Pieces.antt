-- Sets that are stored as pieces, one after the other.
use Rattle.std.proofs.Common.{◌≡◌, ℕ, suc, zero, ◌*◌, ◌≤◌, Bool, true, false, List, [], ◌∷◌, ◌++◌, length, take, get_or, refl, sym, ap, ◌∙◌, arith}
use Rattle.std.specs.Prelude.{◌==◌, ◌&&◌, Option, Some, Result, Ok, Err, IfOk, OnOk, replicate, if◌then◌else◌}
use Rattle.std.specs.List.{flat_map}
use Rattle.std.proofs.lemmas.Bool.Decides.{nat_tests}
use Rattle.byteorder.specs.Endian.{IsRead, little_number}
use Rattle.guest_space.specs.Bytes.{copied_out}
use Rattle.guest_space.specs.Memory.{Memory, Pages}
use Rattle.host_mem.specs.Memory.{bytes_at}
use Rattle.kernel_core.specs.declared.core_error.NoMemory.{NoMemory}
use Rattle.kernel_core.specs.declared.record.Effect.{Effect}
use Rattle.kernel_model.specs.Pipes.{Sent}
use Rattle.mips_exec.specs.Processor.{Processor}
use Rattle.layouts.specs.Number.{bytes_of}
use Rattle.o32_model.specs.Effects.{Effected}
use Rattle.o32_model.specs.GuestBytes.{is_storable, with_stored}
use Rattle.o32_model.specs.Results.{Piece, all_fit, fits, piece_unless_null, with_pieces}
use Rattle.o32_model.specs.Selecting.{fds_bytes}
use Rattle.bridge_limits.proofs.Passed.{effected_then}
use Rattle.bridge_limits.specs.Passed.{reached}
use Rattle.bridge_limits.proofs.Storing.{piece_refused, piece_stored, pieces_fit, pieces_refused, pieces_stored, pieces_unfit}
use Rattle.bridge_select.specs.inside.FdSets.{words_bytes}
use Rattle.bridge_select.specs.inside.Telling.{ShowsSet}
use Rattle.bridge_select.proofs.Words.{words_stored}

-- The first words of a set

pub words_taken : (words : List ℕ) (count : ℕ) → take (4 * count) (flat_map (bytes_of true 4) words) ≡ flat_map (bytes_of true 4) (take count words)
words_taken words zero = refl
words_taken [] (suc count) = none (4 * suc count) where
  none : (n : ℕ) → take {A = ℕ} n [] ≡ []
  none zero = refl
  none (suc n) = refl
words_taken (word ∷ words) (suc count) =
    let four : 4 * suc count ≡ suc (suc (suc (suc (4 * count)))) = omega arith in
    ap (λ (n : ℕ). take n (flat_map (bytes_of true 4) (word ∷ words))) four
    ∙ ap (λ (bs : List ℕ). bytes_of true 4 word ++ bs) (words_taken words count)

-- One set

alone : (b : Bool) → (b && true) ≡ b
alone true = refl
alone false = refl

abbrev one : ℕ → List ℕ → Piece
one address bytes = record { address = address; bytes = bytes }

one_fits : (memory : Memory) (address : ℕ) (bytes : List ℕ) → (address ≡ 0 → ⊥) → all_fit memory (piece_unless_null address bytes) ≡ is_storable memory address (length bytes)
one_fits memory address bytes there =
    let null : (address == 0) ≡ false = grind (arith, nat_tests) in
    ap (λ (b : Bool). all_fit memory (if b then [] else one address bytes ∷ [])) null ∙ alone (is_storable memory address (length bytes))

one_kept : (memory : Memory) (piece : Piece) → with_pieces memory (piece ∷ []) ≡ with_stored memory piece.address piece.bytes
one_kept memory piece = by (fits memory piece) refl where
  by : (fit : Bool) → fits memory piece ≡ fit → with_pieces memory (piece ∷ []) ≡ with_stored memory piece.address piece.bytes
  by true there = piece_stored memory piece [] there ∙ sym (ap (λ (b : Bool). if b then copied_out memory piece.address piece.bytes else memory) there)
  by false not = piece_refused memory piece [] not ∙ sym (ap (λ (b : Bool). if b then copied_out memory piece.address piece.bytes else memory) not)

one_stored : (memory : Memory) (address : ℕ) (bytes : List ℕ) → (address ≡ 0 → ⊥) → with_pieces memory (piece_unless_null address bytes) ≡ with_stored memory address bytes
one_stored memory address bytes there =
    let null : (address == 0) ≡ false = grind (arith, nat_tests) in
    ap (λ (b : Bool). with_pieces memory (if b then [] else one address bytes ∷ [])) null ∙ one_kept memory (one address bytes)

pub set_answer : (result : Result Bool NoMemory) (memory : Memory) (address words : ℕ) (set bytes : List ℕ) → (address ≡ 0 → ⊥) → bytes ≡ flat_map (bytes_of true 4) set
    → IfOk result (λ stored. stored ≡ is_storable memory address (length (take (4 * words) bytes)))
    → IfOk result (λ stored. stored ≡ all_fit memory (piece_unless_null address (words_bytes words set)))
set_answer (Ok stored) memory address words set bytes there is put =
    put
    ∙ ap (λ (bs : List ℕ). is_storable memory address (length bs)) (ap (take (4 * words)) is ∙ words_taken set words)
    ∙ sym (one_fits memory address (words_bytes words set) there)
set_answer (Err error) memory address words set bytes there is put = tt

pub set_stored : (result : Result Bool NoMemory) (memory after : Memory) (address words : ℕ) (set bytes : List ℕ) → (address ≡ 0 → ⊥) → bytes ≡ flat_map (bytes_of true 4) set
    → OnOk result (after ≡ with_stored memory address (take (4 * words) bytes)) → OnOk result (after ≡ with_pieces memory (piece_unless_null address (words_bytes words set)))
set_stored (Ok stored) memory after address words set bytes there is put =
    put
    ∙ ap (with_stored memory address) (ap (take (4 * words)) is ∙ words_taken set words)
    ∙ sym (one_stored memory address (words_bytes words set) there)
set_stored (Err error) memory after address words set bytes there is put = tt

-- Three sets, of which the second or the third is not stored, or all are asked

module _ (memory : Memory) (first second third : List Piece) where
  pub first_unfit : all_fit memory first ≡ false → all_fit memory ((first ++ second) ++ third) ≡ false
  first_unfit not = pieces_unfit (first ++ second) third memory (pieces_unfit first second memory not)

  pub first_refused : all_fit memory first ≡ false → with_pieces memory ((first ++ second) ++ third) ≡ with_pieces memory first
  first_refused not = pieces_refused (first ++ second) third memory (pieces_unfit first second memory not) ∙ pieces_refused first second memory not

  module _ (middle : Memory) (there : all_fit memory first ≡ true) (is : middle ≡ with_pieces memory first) where
    two_fit : all_fit memory (first ++ second) ≡ all_fit middle second
    two_fit = pieces_fit first second memory there ∙ ap (λ (m : Memory). all_fit m second) (sym is)

    two_stored : with_pieces memory (first ++ second) ≡ with_pieces middle second
    two_stored = pieces_stored first second memory there ∙ ap (λ (m : Memory). with_pieces m second) (sym is)

    pub second_unfit : all_fit middle second ≡ false → all_fit memory ((first ++ second) ++ third) ≡ false
    second_unfit not = pieces_unfit (first ++ second) third memory (two_fit ∙ not)

    pub second_refused : all_fit middle second ≡ false → with_pieces memory ((first ++ second) ++ third) ≡ with_pieces middle second
    second_refused not = pieces_refused (first ++ second) third memory (two_fit ∙ not) ∙ two_stored

    module _ (last : Memory) (too : all_fit middle second ≡ true) (put : last ≡ with_pieces middle second) where
      pub three_fit : all_fit memory ((first ++ second) ++ third) ≡ all_fit last third
      three_fit = pieces_fit (first ++ second) third memory (two_fit ∙ too) ∙ ap (λ (m : Memory). all_fit m third) (two_stored ∙ sym put)

      pub three_stored : with_pieces memory ((first ++ second) ++ third) ≡ with_pieces last third
      three_stored = pieces_stored (first ++ second) third memory (two_fit ∙ too) ∙ ap (λ (m : Memory). with_pieces m third) (two_stored ∙ sym put)

pub if_answered : (result : Result Bool NoMemory) (all some : Bool) → all ≡ some → IfOk result (λ stored. stored ≡ some) → IfOk result (λ stored. stored ≡ all)
if_answered (Ok stored) all some same is = is ∙ sym same
if_answered (Err error) all some same is = tt

pub on_stored : (result : Result Bool NoMemory) (memory all some : Memory) → all ≡ some → OnOk result (memory ≡ some) → OnOk result (memory ≡ all)
on_stored (Ok stored) memory all some same is = is ∙ sym same
on_stored (Err error) memory all some same is = tt

-- A set that host memory shows

pub piece_shown : (memory set fds : List ℕ) (address place words : ℕ) → words ≤ 32 → length set ≡ 32 → ((bytes : List ℕ) → bytes_at memory place 128 ≡ Some bytes → IsRead little_number 4 bytes set)
    → ShowsSet address place words fds memory → piece_unless_null address (words_bytes words set) ≡ piece_unless_null address (fds_bytes fds words)
piece_shown memory set fds address place words few long read shows = by (address == 0) refl where
  by : (null : Bool) → (address == 0) ≡ null → piece_unless_null address (words_bytes words set) ≡ piece_unless_null address (fds_bytes fds words)
  by true null = ap (λ (b : Bool). if b then [] else one address (words_bytes words set) ∷ []) null ∙ sym (ap (λ (b : Bool). if b then [] else one address (fds_bytes fds words) ∷ []) null)
  by false there =
      let seen = shows (λ none. grind (arith, nat_tests)) in
      ap (piece_unless_null address) (words_stored set fds words (omega arith) (λ k below. read seen.0 seen.1.0 k (omega arith) ∙ seen.1.1 k below))

-- an empty set

zeros : (k n : ℕ) → get_or (replicate {A = ℕ} n 0) k 0 ≡ zero
zeros zero zero = refl
zeros zero (suc n) = refl
zeros (suc k) zero = refl
zeros (suc k) (suc n) = zeros k n

pub nothing_stored : (words : ℕ) → words ≤ 32 → words_bytes words (replicate 32 0) ≡ fds_bytes [] words
nothing_stored words few = words_stored (replicate 32 0) [] words (omega arith) (λ k below. zeros k 32)

-- effects of what was stored before, and of what is stored then
pub stored_after : {A E : Type 0} (result : Result A E) (old middle new : Option (List Effect)) (before between after : Pages)
    → ((processor : Processor) (sent : Sent) → Effected old middle (reached processor before sent) (reached processor between sent))
    → OnOk result ((processor : Processor) (sent : Sent) → Effected middle new (reached processor between sent) (reached processor after sent))
    → OnOk result ((processor : Processor) (sent : Sent) → Effected old new (reached processor before sent) (reached processor after sent))
stored_after (Ok value) old middle new before between after first later = λ processor sent. effected_then (first processor sent) (later processor sent)
stored_after (Err error) old middle new before between after first later = tt
