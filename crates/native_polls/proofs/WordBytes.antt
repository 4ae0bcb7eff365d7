-- Words as bytes, one word after the other.
use Rattle.std.proofs.Common.{◌≡◌, ℕ, ◌+◌, ◌-◌, ◌*◌, ◌<◌, ◌≤◌, false, List, [], ◌∷◌, ◌++◌, length, take, drop, get_or, refl, sym, ap, ◌∙◌, arith}
use Rattle.std.specs.List.{flat_map}
use Rattle.std.proofs.lemmas.List.{append-nil, append_assoc, drop-drop, drop_all, drop_at, flat_map_more, length-append, length-take-le, take_at, take_more, take_rest}
use Rattle.layouts.specs.Number.{bytes_of}
use Rattle.native_calls.specs.Polls.{set_words}
use Rattle.native_polls.specs.inside.FdSets.{words_bytes}
use borrow.Rule.Slice.PartMut.{put_mid}

module _ (bytes : ℕ → List ℕ) (eight : (word : ℕ) → length (bytes word) ≡ 8) where
  length_words : (words : List ℕ) → length (flat_map bytes words) ≡ 8 * length words
  length_words [] = refl
  length_words (word ∷ words) = omega (arith, length-append (bytes word) (flat_map bytes words), eight word, length_words words)

  length_front : (words : List ℕ) (k : ℕ) → k ≤ length words → length (flat_map bytes (take k words)) ≡ 8 * k
  length_front words k inside = length_words (take k words) ∙ ap (λ (n : ℕ). 8 * n) (length-take-le k words inside)

  -- the first words of bytes that begin with them
  front_taken : (words rest all : List ℕ) (k : ℕ) → k ≤ length words → all ≡ flat_map bytes (take k words) ++ rest
      → take (8 * k) all ≡ flat_map bytes (take k words)
  front_taken words rest all k inside is =
      ap (λ (bs : List ℕ). take (8 * k) bs) is ∙ take_at (flat_map bytes (take k words)) rest (8 * k) (length_front words k inside)

  -- one more word is put
  module _ (words old now part : List ℕ) (k : ℕ) (inside : k < length words) (is : now ≡ flat_map bytes (take k words) ++ drop (8 * k) old)
      (put : part ≡ bytes (get_or words k 0) ++ drop 8 (take (length now - 8 * k) (drop (8 * k) now))) where
    abbrev front : List ℕ
    front = flat_map bytes (take k words)

    abbrev word : List ℕ
    word = bytes (get_or words k 0)

    abbrev rest : List ℕ
    rest = drop (8 * (k + 1)) old

    behind : drop (8 * k) now ≡ drop (8 * k) old
    behind = ap (λ (bs : List ℕ). drop (8 * k) bs) is ∙ drop_at front (drop (8 * k) old) (8 * k) (length_front words k (omega arith))

    part_is : part ≡ word ++ rest
    part_is =
        let next : 8 * k + 8 ≡ 8 * (k + 1) = omega arith in
        put
        ∙ ap (λ (bs : List ℕ). word ++ drop 8 bs) (take_rest now (8 * k) ∙ behind)
        ∙ ap (λ (bs : List ℕ). word ++ bs) (drop-drop 8 (8 * k) old ∙ ap (λ (n : ℕ). drop n old) next)

    none : drop (length now - 8 * k) (drop (8 * k) now) ≡ []
    none = drop-drop (length now - 8 * k) (8 * k) now ∙ drop_all (8 * k + (length now - 8 * k)) now (omega arith)

    one_more : flat_map bytes (take k words) ++ word ≡ flat_map bytes (take (k + 1) words)
    one_more =
        flat_map_more bytes [] (take k words) (get_or words k 0)
        ∙ ap (λ (ws : List ℕ). flat_map bytes ws) (sym (take_more words k 0 inside))

    word_put : put_mid (8 * k) (length now - 8 * k) now part ≡ flat_map bytes (take (k + 1) words) ++ drop (8 * (k + 1)) old
    word_put =
        ap (λ (bs : List ℕ). bs ++ (part ++ drop (length now - 8 * k) (drop (8 * k) now))) (front_taken words (drop (8 * k) old) now k (omega arith) is)
        ∙ ap (λ (bs : List ℕ). front ++ (bs ++ drop (length now - 8 * k) (drop (8 * k) now))) part_is
        ∙ ap (λ (bs : List ℕ). front ++ ((word ++ rest) ++ bs)) none
        ∙ ap (λ (bs : List ℕ). front ++ bs) (append-nil (word ++ rest))
        ∙ sym (append_assoc front word rest)
        ∙ ap (λ (bs : List ℕ). bs ++ rest) one_more

pub word_more : (words old now part : List ℕ) (k : ℕ) → k < length words → now ≡ flat_map (bytes_of false 8) (take k words) ++ drop (8 * k) old
    → part ≡ bytes_of false 8 (get_or words k 0) ++ drop 8 (take (length now - 8 * k) (drop (8 * k) now))
    → put_mid (8 * k) (length now - 8 * k) now part ≡ flat_map (bytes_of false 8) (take (k + 1) words) ++ drop (8 * (k + 1)) old
word_more words old now part k inside is put = word_put (bytes_of false 8) (λ word. refl) words old now part k inside is put

pub words_taken : (words rest all : List ℕ) (count k : ℕ) → k ≡ set_words count → k ≤ length words → all ≡ flat_map (bytes_of false 8) (take k words) ++ rest
    → take (8 * k) all ≡ words_bytes count words
words_taken words rest all count k same inside is =
    front_taken (bytes_of false 8) (λ word. refl) words rest all k inside is
    ∙ ap (λ (n : ℕ). flat_map (bytes_of false 8) (take n words)) same
