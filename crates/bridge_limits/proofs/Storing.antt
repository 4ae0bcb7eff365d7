-- What is stored changes nothing about what can be stored; pieces that are stored one after another; and the time that is left.
use Rattle.std.proofs.Common.{◌≡◌, ℕ, Bool, true, false, cond, List, [], ◌∷◌, ◌++◌, refl, sym, ap, ◌∙◌}
use Rattle.std.specs.Prelude.{◌&&◌, Option, Some, None, is_none, length, take_while, if◌then◌else◌}
use Rattle.std.specs.List.{list_all}
use Rattle.std.proofs.lemmas.List.Sums.{take_while-cons}
use Rattle.guest_space.proofs.Uses.{first_denied-with_bytes}
use Rattle.guest_space.specs.Bytes.{copied_out}
use Rattle.guest_space.specs.Memory.{Memory}
use Rattle.guest_space.specs.declared.access.Access.TheVariants.{Store}
use Rattle.guest_space.specs.declared.access.Denied.{Denied}
use Rattle.o32_model.specs.GuestBytes.{is_storable, with_stored}
use Rattle.o32_model.specs.Results.{Piece, all_fit, all_stored, fits, with_pieces}
use Rattle.o32_model.specs.TimeLeft.{LeftForm, with_left_of}
use Rattle.o32_model.specs.WaitEnds.{WaitEnd, has_time, left_bytes, with_left}
use Rattle.o32_model.specs.declared.wait.Wait.{Wait}
use Rattle.bridge_limits.specs.Limits.{StoresAlike}

-- The same can be stored

pub alike_same : (memory : Memory) → StoresAlike memory memory
alike_same memory = λ address count. refl

pub alike_then : (first second third : Memory) → StoresAlike first second → StoresAlike second third → StoresAlike first third
alike_then first second third p q = λ address count. p address count ∙ q address count

pub alike_sym : (first second : Memory) → StoresAlike first second → StoresAlike second first
alike_sym first second p = λ address count. sym (p address count)

pub alike_is : (before memory : Memory) → before ≡ memory → StoresAlike before memory
alike_is before memory same = λ address count. ap (λ (m : Memory). is_storable m address count) same

pub alike_copied : (memory : Memory) (address : ℕ) (bytes : List ℕ) → StoresAlike memory (copied_out memory address bytes)
unfolding copied_out
alike_copied memory address bytes = λ place count. sym (ap (λ (o : Option Denied). is_none o) (first_denied-with_bytes Store bytes memory.pages address count place))

alike_if : (memory : Memory) (address : ℕ) (bytes : List ℕ) (room : Bool) → StoresAlike memory (if room then copied_out memory address bytes else memory)
alike_if memory address bytes true = alike_copied memory address bytes
alike_if memory address bytes false = alike_same memory

pub alike_stored : (memory : Memory) (address : ℕ) (bytes : List ℕ) → StoresAlike memory (with_stored memory address bytes)
alike_stored memory address bytes = alike_if memory address bytes (is_storable memory address (length bytes))

alike_all : (pieces : List Piece) (memory : Memory) → StoresAlike memory (all_stored memory pieces)
alike_all [] memory = alike_same memory
alike_all (piece ∷ pieces) memory =
    let next = copied_out memory piece.address piece.bytes in
    alike_then memory next (all_stored next pieces) (alike_copied memory piece.address piece.bytes) (alike_all pieces next)

pub alike_pieces : (memory : Memory) (pieces : List Piece) → StoresAlike memory (with_pieces memory pieces)
alike_pieces memory pieces = alike_all (take_while (fits memory) pieces) memory

pub fits_alike : (before memory : Memory) → StoresAlike before memory → fits before ≡ fits memory
fits_alike before memory alike = λ i. λ piece. alike piece.address (length piece.bytes) i

pub all_fit_alike : (before memory : Memory) (pieces : List Piece) → StoresAlike before memory → all_fit before pieces ≡ all_fit memory pieces
all_fit_alike before memory pieces alike = ap (λ (test : Piece → Bool). list_all test pieces) (fits_alike before memory alike)

-- The time that is left

pub left_of_alike : (form : LeftForm) (before memory other : Memory) (left : Option ℕ) → StoresAlike before memory → with_left_of form before left other ≡ with_left_of form memory left other
left_of_alike form before memory other None alike = refl
left_of_alike form before memory other (Some left) alike =
    ap (λ (room : Bool). if room then copied_out other form.address (form.bytes left) else other) (alike form.address (length (form.bytes left)))

pub with_left_alike : (form : LeftForm) (wait : Wait) (clock : ℕ) (before memory : Memory) (ended : WaitEnd) → StoresAlike before memory → with_left form wait clock before ended ≡ with_left form wait clock memory ended
with_left_alike form wait clock before memory ended alike =
    ap (λ (room : Bool). if has_time form && room then record ended { memory = copied_out ended.memory form.address (left_bytes form wait clock) } else ended)
    (alike form.address (length (left_bytes form wait clock)))

-- One piece and those behind it, which are asked of memory as it is after the first

all_test : (test : Piece → Bool) (piece : Piece) (rest : List Piece) → list_all test (piece ∷ rest) ≡ (test piece && list_all test rest)
all_test test piece rest = refl

while_test : (memory : Memory) (piece : Piece) (rest : List Piece) (fit : Bool) → fits memory piece ≡ fit → take_while (fits memory) (piece ∷ rest) ≡ (if fit then piece ∷ take_while (fits memory) rest else [])
while_test memory piece rest fit is = take_while-cons (fits memory) piece rest ∙ ap (λ (b : Bool). cond b (piece ∷ take_while (fits memory) rest) []) is

pub piece_stored : (memory : Memory) (piece : Piece) (rest : List Piece) → fits memory piece ≡ true → with_pieces memory (piece ∷ rest) ≡ with_pieces (copied_out memory piece.address piece.bytes) rest
piece_stored memory piece rest there =
    let next = copied_out memory piece.address piece.bytes in
    ap (all_stored memory) (while_test memory piece rest true there)
    ∙ ap (λ (test : Piece → Bool). all_stored next (take_while test rest)) (fits_alike memory next (alike_copied memory piece.address piece.bytes))

pub piece_fits : (memory : Memory) (piece : Piece) (rest : List Piece) → fits memory piece ≡ true → all_fit memory (piece ∷ rest) ≡ all_fit (copied_out memory piece.address piece.bytes) rest
piece_fits memory piece rest there =
    ap (λ (b : Bool). b && all_fit memory rest) there
    ∙ all_fit_alike memory (copied_out memory piece.address piece.bytes) rest (alike_copied memory piece.address piece.bytes)

pub piece_refused : (memory : Memory) (piece : Piece) (rest : List Piece) → fits memory piece ≡ false → with_pieces memory (piece ∷ rest) ≡ memory
piece_refused memory piece rest not = ap (all_stored memory) (while_test memory piece rest false not)

pub piece_unfit : (memory : Memory) (piece : Piece) (rest : List Piece) → fits memory piece ≡ false → all_fit memory (piece ∷ rest) ≡ false
piece_unfit memory piece rest not = ap (λ (b : Bool). b && all_fit memory rest) not

-- the same by what a piece that was put leaves

stored_is : (memory : Memory) (piece : Piece) → fits memory piece ≡ true → with_stored memory piece.address piece.bytes ≡ copied_out memory piece.address piece.bytes
stored_is memory piece there = ap (λ (b : Bool). if b then copied_out memory piece.address piece.bytes else memory) there

pub piece_put : (memory between : Memory) (piece : Piece) (rest : List Piece) → fits memory piece ≡ true → between ≡ with_stored memory piece.address piece.bytes → with_pieces memory (piece ∷ rest) ≡ with_pieces between rest
piece_put memory between piece rest there put =
    piece_stored memory piece rest there ∙ ap (λ (m : Memory). with_pieces m rest) (sym (put ∙ stored_is memory piece there))

pub piece_put_fits : (memory between : Memory) (piece : Piece) (rest : List Piece) → fits memory piece ≡ true → between ≡ with_stored memory piece.address piece.bytes → all_fit memory (piece ∷ rest) ≡ all_fit between rest
piece_put_fits memory between piece rest there put =
    piece_fits memory piece rest there ∙ ap (λ (m : Memory). all_fit m rest) (sym (put ∙ stored_is memory piece there))

pub piece_not_put : (memory between : Memory) (piece : Piece) (rest : List Piece) → fits memory piece ≡ false → between ≡ with_stored memory piece.address piece.bytes → between ≡ with_pieces memory (piece ∷ rest)
piece_not_put memory between piece rest not put =
    put ∙ ap (λ (b : Bool). if b then copied_out memory piece.address piece.bytes else memory) not ∙ sym (piece_refused memory piece rest not)

-- Some pieces and those behind them

impossible : {A : Type 0} → true ≡ false → A
impossible differ = absurd cc

pub pieces_stored : (first rest : List Piece) (memory : Memory) → all_fit memory first ≡ true → with_pieces memory (first ++ rest) ≡ with_pieces (with_pieces memory first) rest
pieces_stored [] rest memory all = refl
pieces_stored (piece ∷ first) rest memory all = by (fits memory piece) refl (pieces_stored first rest (copied_out memory piece.address piece.bytes)) where
  by : (fit : Bool) → fits memory piece ≡ fit
      → (let next = copied_out memory piece.address piece.bytes in all_fit next first ≡ true → with_pieces next (first ++ rest) ≡ with_pieces (with_pieces next first) rest)
      → with_pieces memory (piece ∷ first ++ rest) ≡ with_pieces (with_pieces memory (piece ∷ first)) rest
  by true there later =
      piece_stored memory piece (first ++ rest) there
      ∙ later (sym (piece_fits memory piece first there) ∙ all)
      ∙ ap (λ (m : Memory). with_pieces m rest) (sym (piece_stored memory piece first there))
  by false not later = impossible (sym all ∙ piece_unfit memory piece first not)

pub pieces_fit : (first rest : List Piece) (memory : Memory) → all_fit memory first ≡ true → all_fit memory (first ++ rest) ≡ all_fit (with_pieces memory first) rest
pieces_fit [] rest memory all = refl
pieces_fit (piece ∷ first) rest memory all = by (fits memory piece) refl (pieces_fit first rest (copied_out memory piece.address piece.bytes)) where
  by : (fit : Bool) → fits memory piece ≡ fit
      → (let next = copied_out memory piece.address piece.bytes in all_fit next first ≡ true → all_fit next (first ++ rest) ≡ all_fit (with_pieces next first) rest)
      → all_fit memory (piece ∷ first ++ rest) ≡ all_fit (with_pieces memory (piece ∷ first)) rest
  by true there later =
      piece_fits memory piece (first ++ rest) there
      ∙ later (sym (piece_fits memory piece first there) ∙ all)
      ∙ ap (λ (m : Memory). all_fit m rest) (sym (piece_stored memory piece first there))
  by false not later = impossible (sym all ∙ piece_unfit memory piece first not)

pub pieces_refused : (first rest : List Piece) (memory : Memory) → all_fit memory first ≡ false → with_pieces memory (first ++ rest) ≡ with_pieces memory first
pieces_refused [] rest memory not = impossible not
pieces_refused (piece ∷ first) rest memory not = by (fits memory piece) refl (pieces_refused first rest (copied_out memory piece.address piece.bytes)) where
  by : (fit : Bool) → fits memory piece ≡ fit
      → (let next = copied_out memory piece.address piece.bytes in all_fit next first ≡ false → with_pieces next (first ++ rest) ≡ with_pieces next first)
      → with_pieces memory (piece ∷ first ++ rest) ≡ with_pieces memory (piece ∷ first)
  by true there later =
      piece_stored memory piece (first ++ rest) there
      ∙ later (sym (piece_fits memory piece first there) ∙ not)
      ∙ sym (piece_stored memory piece first there)
  by false refused later = piece_refused memory piece (first ++ rest) refused ∙ sym (piece_refused memory piece first refused)

pub pieces_unfit : (first rest : List Piece) (memory : Memory) → all_fit memory first ≡ false → all_fit memory (first ++ rest) ≡ false
pieces_unfit [] rest memory not = impossible not
pieces_unfit (piece ∷ first) rest memory not = by (fits memory piece) refl (pieces_unfit first rest (copied_out memory piece.address piece.bytes)) where
  by : (fit : Bool) → fits memory piece ≡ fit
      → (let next = copied_out memory piece.address piece.bytes in all_fit next first ≡ false → all_fit next (first ++ rest) ≡ false)
      → all_fit memory (piece ∷ first ++ rest) ≡ false
  by true there later = piece_fits memory piece (first ++ rest) there ∙ later (sym (piece_fits memory piece first there) ∙ not)
  by false refused later = piece_unfit memory piece (first ++ rest) refused
