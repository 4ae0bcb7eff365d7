-- Words of 32 bits as bytes, natively and in the program's memory.
use Rattle.std.proofs.Common.{◌≡◌, ℕ, zero, suc, ◌+◌, ◌*◌, ◌/◌, ◌%◌, ◌-◌, ◌^◌, ◌<◌, ◌≤◌, true, List, [], ◌∷◌, ◌++◌, length, take, drop, get_or, map, refl, sym, ap, ◌∙◌, inl, inr, arith, append_assoc, append-nil, drop-cons, lit<}
use Rattle.std.specs.Prelude.{◌==◌}
use Rattle.std.specs.List.{flat_map}
use Rattle.std.proofs.lemmas.Bool.{cases_lt}
use Rattle.std.proofs.lemmas.List.{get_or-drop, length-append, length-drop, length-map, take-append-drop, drop-append-le, drop-drop}
use Rattle.std.proofs.lemmas.Grind.{flat_map-append}
use Rattle.std.proofs.lemmas.Nat.Bits.{bit_at_cat_high, bit_at_cat_low}
use Rattle.byteorder.specs.Endian.{big_bytes, big_number, little_bytes, little_number}
use Rattle.byteorder.specs.Numbers.{length-bytes_low_first, little_from-append, little_number-reads_back}
use Rattle.kernel_core.specs.Bits.{has}
use Rattle.kernel_model.specs.Readiness.{first_fds}
use Rattle.layouts.specs.Number.{bytes_of}
use Rattle.layouts.specs.Termios.{count_up}
use Rattle.native_calls.specs.Polls as native
use Rattle.native_calls.specs.Polls.{has_fd, is_among, set_words}
use Rattle.o32_model.specs.Selecting as o32
use Rattle.o32_model.specs.Selecting.{fds_bytes, holds_fd, word_of}
use Rattle.signal_sets.specs.NativeSets.{bits_where}
use Rattle.bridge_select.specs.inside.FdSets.{fds_of, has_bit, words_bytes}
use Rattle.bridge_select.proofs.Fds.{below_is, first_of_more, up_more, where_both}
use Rattle.native_polls.proofs.Lists.{filter_same, flat_same, where_small}

-- What is read of words that were written natively

abbrev pub laid : List ℕ → List ℕ
laid words = flat_map (little_bytes 4) words

pub length-laid : (words : List ℕ) → length (laid words) ≡ 4 * length words
length-laid [] = refl
length-laid (word ∷ words) = omega (arith, length-append (little_bytes 4 word) (laid words), length-bytes_low_first 0 4 word, length-laid words)

-- the words from one on, and what is behind them
from_word : (words rest : List ℕ) (k : ℕ) → k ≤ length words → drop (4 * k) (laid words ++ rest) ≡ laid (drop k words) ++ rest
from_word words rest zero inside = refl
from_word [] rest (suc k) inside = absurd (omega arith)
from_word (word ∷ words) rest (suc k) inside =
    let at : 4 * suc k ≡ 4 + 4 * k = omega arith in
    ap (λ (n : ℕ). drop n (laid (word ∷ words) ++ rest)) at
    ∙ sym (drop-drop (4 * k) 4 (laid (word ∷ words) ++ rest))
    ∙ from_word words rest k (omega arith)

pub word_read : (words rest : List ℕ) (k : ℕ) → k < length words → ((j : ℕ) → get_or words j 0 < 2 ^ 32) → little_number 4 (drop (4 * k) (laid words ++ rest)) ≡ get_or words k 0
word_read words rest k inside small =
    let split : drop k words ≡ get_or words k 0 ∷ drop (suc k) words = drop-cons words k 0 inside in
    ap (little_number 4) (from_word words rest k (omega arith))
    ∙ ap (λ (ws : List ℕ). little_number 4 (laid ws ++ rest)) split
    ∙ ap (little_number 4) (append_assoc (little_bytes 4 (get_or words k 0)) (laid (drop (suc k) words)) rest)
    ∙ little_number-reads_back 4 (get_or words k 0) (laid (drop (suc k) words) ++ rest) (small k)

-- a number of 64 bits is two of these
both_read : (bytes : List ℕ) → little_number 8 bytes ≡ little_number 4 (drop 4 bytes) * 2 ^ 32 + little_number 4 bytes
both_read bytes =
    omega (arith, get_or-drop 4 bytes 0 0, get_or-drop 4 bytes 1 0, get_or-drop 4 bytes 2 0, get_or-drop 4 bytes 3 0)

pub double_read : (words rest : List ℕ) (j : ℕ) → 2 * j + 1 < length words → ((k : ℕ) → get_or words k 0 < 2 ^ 32)
    → little_number 8 (drop (8 * j) (laid words ++ rest)) ≡ get_or words (2 * j + 1) 0 * 2 ^ 32 + get_or words (2 * j) 0
double_read words rest j inside small =
    let bytes : List ℕ = laid words ++ rest in
    let low : 8 * j ≡ 4 * (2 * j) = omega arith in
    let high : 8 * j + 4 ≡ 4 * (2 * j + 1) = omega arith in
    let one : little_number 4 (drop (8 * j) bytes) ≡ get_or words (2 * j) 0 =
    ap (λ (n : ℕ). little_number 4 (drop n bytes)) low ∙ word_read words rest (2 * j) (omega arith) small in
    let other : little_number 4 (drop 4 (drop (8 * j) bytes)) ≡ get_or words (2 * j + 1) 0 =
    ap (little_number 4) (drop-drop 4 (8 * j) bytes) ∙ ap (λ (n : ℕ). little_number 4 (drop n bytes)) high ∙ word_read words rest (2 * j + 1) inside small in
    both_read (drop (8 * j) bytes)
    ∙ ap (λ (n : ℕ). n * 2 ^ 32 + little_number 4 (drop (8 * j) bytes)) other
    ∙ ap (λ (n : ℕ). get_or words (2 * j + 1) 0 * 2 ^ 32 + n) one

-- Descriptors of words

bit_of : (set rest : List ℕ) (fd : ℕ) → fd < 32 * length set → length set % 2 ≡ 0 → ((k : ℕ) → get_or set k 0 < 2 ^ 32) → has_fd (laid set ++ rest) fd ≡ has_bit set fd
bit_of set rest fd inside even small =
    let j : ℕ = fd / 64 in
    ap (λ (n : ℕ). n / 2 ^ (fd % 64) % 2 == 1) (double_read set rest (fd / 64) (omega arith) small)
    ∙ elim (cases_lt (fd % 64) 32) [
      | inl low ↦
          let at : 2 * (fd / 64) ≡ fd / 32 = omega arith in
          let bit : fd % 64 ≡ fd % 32 = omega arith in
          ap (λ (n : ℕ). n == 1) (bit_at_cat_low (get_or set (2 * (fd / 64) + 1) 0) 32 (get_or set (2 * (fd / 64)) 0) (fd % 64) low)
          ∙ ap (λ (n : ℕ). get_or set n 0 / 2 ^ (fd % 64) % 2 == 1) at
          ∙ ap (λ (n : ℕ). get_or set (fd / 32) 0 / 2 ^ n % 2 == 1) bit
      | inr high ↦
          let at : 2 * (fd / 64) + 1 ≡ fd / 32 = omega arith in
          let bit : fd % 64 - 32 ≡ fd % 32 = omega arith in
          ap (λ (n : ℕ). n == 1) (bit_at_cat_high (get_or set (2 * (fd / 64) + 1) 0) 32 (get_or set (2 * (fd / 64)) 0) (fd % 64) (small (2 * (fd / 64))) high)
          ∙ ap (λ (n : ℕ). get_or set n 0 / 2 ^ (fd % 64 - 32) % 2 == 1) at
          ∙ ap (λ (n : ℕ). get_or set (fd / 32) 0 / 2 ^ n % 2 == 1) bit
    ]

-- the bytes that a count needs
front_fd : (bytes : List ℕ) (count fd : ℕ) → fd < count → 8 * set_words count ≤ length bytes → has_fd (take (8 * set_words count) bytes) fd ≡ has_fd bytes fd
front_fd bytes count fd below enough =
    let front : List ℕ = take (8 * set_words count) bytes in
    let rest : List ℕ = drop (8 * set_words count) bytes in
    let long : length front ≡ 8 * set_words count = omega (arith, length-append front rest, ap (λ (bs : List ℕ). length bs) (take-append-drop (8 * set_words count) bytes), length-drop (8 * set_words count) bytes) in
    let split : drop (8 * (fd / 64)) bytes ≡ drop (8 * (fd / 64)) front ++ rest =
    ap (λ (bs : List ℕ). drop (8 * (fd / 64)) bs) (sym (take-append-drop (8 * set_words count) bytes)) ∙ drop-append-le (8 * (fd / 64)) front rest (omega arith) in
    ap (λ (n : ℕ). n / 2 ^ (fd % 64) % 2 == 1)
    (sym (ap (little_number 8) split ∙ little_from-append 8 (drop (8 * (fd / 64)) front) rest (omega (arith, length-drop (8 * (fd / 64)) front))))

pub natively_found : (set rest : List ℕ) (count : ℕ) → count ≤ 32 * length set → length set % 2 ≡ 0 → ((k : ℕ) → get_or set k 0 < 2 ^ 32)
    → native.fds_in count (take (8 * set_words count) (laid set ++ rest)) ≡ fds_of count set
natively_found set rest count enough even small =
    let long : length (laid set ++ rest) ≡ 4 * length set + length rest = omega (arith, length-append (laid set) rest, length-laid set) in
    filter_same (has_fd (take (8 * set_words count) (laid set ++ rest))) (has_bit set) 0 count
    (λ fd low below. front_fd (laid set ++ rest) count fd (omega arith) (omega arith) ∙ bit_of set rest fd (omega arith) even small)

-- words that were read from the program's memory
pub found_in : (bytes set : List ℕ) (words count : ℕ) → count ≤ 32 * words → ((k : ℕ) → k < words → get_or set k 0 ≡ big_number 4 (drop (4 * k) bytes))
    → fds_of count set ≡ first_fds count (o32.fds_in words bytes)
found_in bytes set words count enough are =
    filter_same (has_bit set) (holds_fd bytes) 0 count (λ fd low below. ap (λ (w : ℕ). has w (2 ^ (fd % 32))) (are (fd / 32) (omega arith)))
    ∙ sym (first_of_more (holds_fd bytes) count (32 * words) enough)
    ∙ sym (ap (first_fds count) (below_is bytes (32 * words)))

-- Words of descriptors

halves : (low high : ℕ) → low < 2 ^ 32 → little_bytes 8 (low + 2 ^ 32 * high) ≡ little_bytes 4 low ++ little_bytes 4 high
halves low high small = λ i.
    (let e : (low + 2 ^ 32 * high) % 256 ≡ low % 256 = omega arith in e i)
    ∷ (let e : (low + 2 ^ 32 * high) / 256 ^ 1 % 256 ≡ low / 256 ^ 1 % 256 = omega arith in e i)
    ∷ (let e : (low + 2 ^ 32 * high) / 256 ^ 2 % 256 ≡ low / 256 ^ 2 % 256 = omega arith in e i)
    ∷ (let e : (low + 2 ^ 32 * high) / 256 ^ 3 % 256 ≡ low / 256 ^ 3 % 256 = omega arith in e i)
    ∷ (let e : (low + 2 ^ 32 * high) / 256 ^ 4 % 256 ≡ high % 256 = omega arith in e i)
    ∷ (let e : (low + 2 ^ 32 * high) / 256 ^ 5 % 256 ≡ high / 256 ^ 1 % 256 = omega arith in e i)
    ∷ (let e : (low + 2 ^ 32 * high) / 256 ^ 6 % 256 ≡ high / 256 ^ 2 % 256 = omega arith in e i)
    ∷ (let e : (low + 2 ^ 32 * high) / 256 ^ 7 % 256 ≡ high / 256 ^ 3 % 256 = omega arith in e i)
    ∷ []

abbrev word_in : List ℕ → ℕ → ℕ
word_in fds k = bits_where (is_among fds) (32 * k) 32

double_is : (fds : List ℕ) (k : ℕ) → little_bytes 8 (bits_where (is_among fds) (64 * k) 64) ≡ little_bytes 4 (word_in fds (2 * k)) ++ little_bytes 4 (word_in fds (2 * k + 1))
double_is fds k =
    let low : 64 * k ≡ 32 * (2 * k) = omega arith in
    let high : 64 * k + 32 ≡ 32 * (2 * k + 1) = omega arith in
    ap (little_bytes 8) (where_both (is_among fds) (64 * k) 32 32)
    ∙ halves (bits_where (is_among fds) (64 * k) 32) (bits_where (is_among fds) (64 * k + 32) 32) (where_small (is_among fds) (64 * k) 32)
    ∙ ap (λ (n : ℕ). little_bytes 4 (bits_where (is_among fds) n 32) ++ little_bytes 4 (bits_where (is_among fds) (64 * k + 32) 32)) low
    ∙ ap (λ (n : ℕ). little_bytes 4 (word_in fds (2 * k)) ++ little_bytes 4 (bits_where (is_among fds) n 32)) high

-- the words of a native set
doubles_are : (fds : List ℕ) (first count : ℕ)
    → flat_map (λ k. little_bytes 8 (bits_where (is_among fds) (64 * k) 64)) (count_up first count) ≡ laid (map (word_in fds) (count_up (2 * first) (2 * count)))
doubles_are fds first zero = refl
doubles_are fds first (suc count) =
    let two : 2 * suc count ≡ suc (suc (2 * count)) = omega arith in
    let next : 2 * suc first ≡ suc (suc (2 * first)) = omega arith in
    let other : 2 * first + 1 ≡ suc (2 * first) = omega arith in
    let rest : List ℕ = laid (map (word_in fds) (count_up (suc (suc (2 * first))) (2 * count))) in
    ap (λ (bs : List ℕ). bs ++ flat_map (λ k. little_bytes 8 (bits_where (is_among fds) (64 * k) 64)) (count_up (suc first) count)) (double_is fds first)
    ∙ ap (λ (bs : List ℕ). (little_bytes 4 (word_in fds (2 * first)) ++ little_bytes 4 (word_in fds (2 * first + 1))) ++ bs)
    (doubles_are fds (suc first) count ∙ ap (λ (n : ℕ). laid (map (word_in fds) (count_up n (2 * count)))) next)
    ∙ append_assoc (little_bytes 4 (word_in fds (2 * first))) (little_bytes 4 (word_in fds (2 * first + 1))) rest
    ∙ ap (λ (n : ℕ). little_bytes 4 (word_in fds (2 * first)) ++ (little_bytes 4 (word_in fds n) ++ rest)) other
    ∙ ap (λ (n : ℕ). laid (map (word_in fds) (count_up (2 * first) n))) (sym two)

get_up : (first count k : ℕ) → k < count → get_or (count_up first count) k 0 ≡ first + k
get_up first zero k inside = absurd (omega arith)
get_up first (suc count) zero inside = omega arith
get_up first (suc count) (suc k) inside = omega (arith, get_up (suc first) count k (omega arith))

pub length-up : (first count : ℕ) → length (count_up first count) ≡ count
length-up first zero = refl
length-up first (suc count) = ap suc (length-up (suc first) count)

words_small : (fds : List ℕ) (ns : List ℕ) (j : ℕ) → get_or (map (word_in fds) ns) j 0 < 2 ^ 32
words_small fds [] j = lit< tt
words_small fds (n ∷ ns) zero = where_small (is_among fds) (32 * n) 32
words_small fds (n ∷ ns) (suc j) = words_small fds ns j

get_map : (f : ℕ → ℕ) (ns : List ℕ) (k : ℕ) → k < length ns → get_or (map f ns) k 0 ≡ f (get_or ns k 0)
get_map f [] k inside = absurd (omega arith)
get_map f (n ∷ ns) zero inside = refl
get_map f (n ∷ ns) (suc k) inside = get_map f ns k (omega arith)

-- a word of what the native kernel stores of a set
pub told_word : (fds rest : List ℕ) (count k : ℕ) → k < 2 * set_words count → little_number 4 (drop (4 * k) (native.fds_bytes count fds ++ rest)) ≡ word_in fds k
told_word fds rest count k inside =
    let ns : List ℕ = count_up 0 (2 * set_words count) in
    let long : length (map (word_in fds) ns) ≡ 2 * set_words count = length-map ns (word_in fds) ∙ length-up 0 (2 * set_words count) in
    let at : 0 + k ≡ k = omega arith in
    ap (λ (bs : List ℕ). little_number 4 (drop (4 * k) (bs ++ rest))) (doubles_are fds 0 (set_words count))
    ∙ word_read (map (word_in fds) ns) rest k (omega arith) (words_small fds ns)
    ∙ get_map (word_in fds) ns k (omega (arith, length-up 0 (2 * set_words count)))
    ∙ ap (word_in fds) (get_up 0 (2 * set_words count) k inside ∙ at)

pub length_told : (fds : List ℕ) (count : ℕ) → length (native.fds_bytes count fds) ≡ 8 * set_words count
length_told fds count =
    let ns : List ℕ = count_up 0 (2 * set_words count) in
    let all : length (native.fds_bytes count fds) ≡ 4 * length (map (word_in fds) ns) = ap (λ (bs : List ℕ). length bs) (doubles_are fds 0 (set_words count)) ∙ length-laid (map (word_in fds) ns) in
    omega (arith, all, length-map ns (word_in fds), length-up 0 (2 * set_words count))

-- What is stored in the program's memory

pub stored_is : (fds : List ℕ) (words : ℕ) → fds_bytes fds words ≡ flat_map (λ k. big_bytes 4 (word_of fds k)) (count_up 0 words)
unfolding fds_bytes
stored_is fds zero = refl
stored_is fds (suc words) =
    let at : 0 + words ≡ words = omega arith in
    ap (λ (bs : List ℕ). bs ++ big_bytes 4 (word_of fds words)) (stored_is fds words)
    ∙ ap (λ (bs : List ℕ). flat_map (λ k. big_bytes 4 (word_of fds k)) (count_up 0 words) ++ bs) (sym (append-nil (big_bytes 4 (word_of fds words))))
    ∙ ap (λ (n : ℕ). flat_map (λ k. big_bytes 4 (word_of fds k)) (count_up 0 words) ++ flat_map (λ k. big_bytes 4 (word_of fds k)) (n ∷ [])) (sym at)
    ∙ sym (flat_map-append (λ k. big_bytes 4 (word_of fds k)) (count_up 0 words) ((0 + words) ∷ []))
    ∙ ap (flat_map (λ k. big_bytes 4 (word_of fds k))) (sym (up_more 0 words))

pub words_stored : (set fds : List ℕ) (words : ℕ) → words ≤ length set → ((k : ℕ) → k < words → get_or set k 0 ≡ word_of fds k) → words_bytes words set ≡ fds_bytes fds words
words_stored set fds words enough are =
    flat_same (bytes_of true 4) (λ k. big_bytes 4 (word_of fds k)) set 0 words (omega arith) (λ k low below. ap (big_bytes 4) (are k (omega arith)))
    ∙ sym (stored_is fds words)
