-- Two pieces, each of which may not be there.
use Rattle.std.proofs.Common.{◌≡◌, ℕ, Bool, true, false, cond, List, [], ◌∷◌, ◌++◌, refl, sym, ap, ◌∙◌}
use Rattle.std.specs.Prelude.{◌==◌, ◌&&◌, Option, is_none, length, take_while, if◌then◌else◌}
use Rattle.std.specs.List.{list_all}
use Rattle.std.proofs.lemmas.List.Sums.{take_while-cons}
use Rattle.guest_space.proofs.Uses.{first_denied-with_bytes}
use Rattle.guest_space.specs.Bytes.{copied_out}
use Rattle.guest_space.specs.Memory.{Memory}
use Rattle.guest_space.specs.declared.access.Access.TheVariants.{Store}
use Rattle.guest_space.specs.declared.access.Denied.{Denied}
use Rattle.o32_model.specs.Results.{Piece, all_fit, all_stored, fits, piece_unless_null, value_if, with_pieces}
use Rattle.bridge_wait.specs.inside.Endings.{pieces_ending}

-- what is stored changes nothing about what can be

fits_same : (memory : Memory) (address : ℕ) (bytes : List ℕ) (piece : Piece) → fits (copied_out memory address bytes) piece ≡ fits memory piece
unfolding copied_out
fits_same memory address bytes piece = ap (λ (o : Option Denied). is_none o) (first_denied-with_bytes Store bytes memory.pages address (length piece.bytes) piece.address)

tests_same : (memory : Memory) (address : ℕ) (bytes : List ℕ) → fits (copied_out memory address bytes) ≡ fits memory
tests_same memory address bytes = λ i. λ piece. fits_same memory address bytes piece i

first_stored : (memory : Memory) (piece : Piece) (rest : List Piece) → fits memory piece ≡ true → with_pieces memory (piece ∷ rest) ≡ with_pieces (copied_out memory piece.address piece.bytes) rest
first_stored memory piece rest there =
    ap (all_stored memory) (take_while-cons (fits memory) piece rest ∙ ap (λ (b : Bool). cond b (piece ∷ take_while (fits memory) rest) []) there)
    ∙ ap (λ (test : Piece → Bool). all_stored (copied_out memory piece.address piece.bytes) (take_while test rest)) (sym (tests_same memory piece.address piece.bytes))

first_fits : (memory : Memory) (piece : Piece) (rest : List Piece) → fits memory piece ≡ true → all_fit memory (piece ∷ rest) ≡ all_fit (copied_out memory piece.address piece.bytes) rest
first_fits memory piece rest there =
    ap (λ (b : Bool). b && all_fit memory rest) there
    ∙ ap (λ (test : Piece → Bool). list_all test rest) (sym (tests_same memory piece.address piece.bytes))

alone : (b : Bool) → (b && true) ≡ true → b ≡ true
alone true both = refl
alone false both = both

same_ending : (memory between after : Memory) (pieces rest : List Piece) (stored : Bool) → all_fit memory pieces ≡ all_fit between rest → with_pieces memory pieces ≡ with_pieces between rest
    → stored ≡ all_fit between rest → after ≡ with_pieces between rest → pieces_ending memory pieces ≡ record { outcome = value_if stored 0; memory = after }
same_ending memory between after pieces rest stored all_one all_kept answer kept =
    let outcome = all_one ∙ sym answer in
    let became = all_kept ∙ sym kept in
    λ i. record { outcome = value_if (outcome i) 0; memory = became i }

abbrev one : ℕ → List ℕ → Piece
one address bytes = record { address = address; bytes = bytes }

pub two_pieces : (memory between after : Memory) (value zone : ℕ) (first second : List ℕ) (stored : Bool) → all_fit memory (piece_unless_null value first) ≡ true → between ≡ with_pieces memory (piece_unless_null value first)
    → stored ≡ all_fit between (piece_unless_null zone second) → after ≡ with_pieces between (piece_unless_null zone second)
    → pieces_ending memory (piece_unless_null value first ++ piece_unless_null zone second) ≡ record { outcome = value_if stored 0; memory = after }
two_pieces memory between after value zone first second stored = by (value == 0) where
  by : (null : Bool) → all_fit memory (if null then [] else one value first ∷ []) ≡ true → between ≡ with_pieces memory (if null then [] else one value first ∷ [])
      → stored ≡ all_fit between (piece_unless_null zone second) → after ≡ with_pieces between (piece_unless_null zone second)
      → pieces_ending memory ((if null then [] else one value first ∷ []) ++ piece_unless_null zone second) ≡ record { outcome = value_if stored 0; memory = after }
  by true all is answer kept =
      same_ending memory between after (piece_unless_null zone second) (piece_unless_null zone second) stored
      (ap (λ (m : Memory). all_fit m (piece_unless_null zone second)) (sym is)) (ap (λ (m : Memory). with_pieces m (piece_unless_null zone second)) (sym is)) answer kept
  by false all is answer kept =
      let there = alone (fits memory (one value first)) all in
      let became = is ∙ first_stored memory (one value first) [] there in
      same_ending memory between after (one value first ∷ piece_unless_null zone second) (piece_unless_null zone second) stored
      (first_fits memory (one value first) (piece_unless_null zone second) there ∙ ap (λ (m : Memory). all_fit m (piece_unless_null zone second)) (sym became))
      (first_stored memory (one value first) (piece_unless_null zone second) there ∙ ap (λ (m : Memory). with_pieces m (piece_unless_null zone second)) (sym became)) answer kept
