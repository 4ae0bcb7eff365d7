-- Adding one text behind another, and the texts of a list.
use Rattle.std.proofs.Common.{◌≡◌, ℕ, ◌+◌, ◌<◌, ◌≤◌, List, [], ◌∷◌, ◌++◌, length, get_or, All, take, drop, Result, Ok, Err, refl, sym, ap, subst, ◌∙◌, append_assoc, arith}
use Rattle.std.specs.List.{flat_map}
use Rattle.std.proofs.Math.Nat.{mod-eq_of_lt}
use Rattle.byteorder.specs.Endian.{big_bytes}
use Rattle.std.proofs.lemmas.List.{append-nil, take_all, take_more, drop_more, take-append-drop}
use Rattle.std.proofs.lemmas.List.Concat.{flat_map-cons}
use Rattle.std.proofs.lemmas.Grind.{flat_map-append}
use Rattle.std.specs.Prelude.{OnOk, OnErr}
use Rattle.journal.specs.Adding.{AddsPrefix}
use Rattle.journal.specs.inside.Writing.{Adds}

-- nothing was added
pub adds_nothing : (text old new : List ℕ) → new ≡ old → AddsPrefix text old new
adds_nothing text old new same = record { added = []; missing = text; gained = same ∙ sym (append-nil old); parts = refl }

-- a prefix of the first of two texts
pub prefix_first : (a b old new : List ℕ) → AddsPrefix a old new → AddsPrefix (a ++ b) old new
prefix_first a b old new p = record {
  added = p.added;
  missing = p.missing ++ b;
  gained = p.gained;
  parts = ap (λ (t : List ℕ). t ++ b) p.parts ∙ append_assoc p.added p.missing b;
}

-- the first of two texts, and a prefix of the second
pub prefix_second : (a b old mid new : List ℕ) → mid ≡ old ++ a → AddsPrefix b mid new → AddsPrefix (a ++ b) old new
prefix_second a b old mid new first p = record {
  added = a ++ p.added;
  missing = p.missing;
  gained = p.gained ∙ (ap (λ (t : List ℕ). t ++ p.added) first ∙ append_assoc old a p.added);
  parts = ap (λ (t : List ℕ). a ++ t) p.parts ∙ sym (append_assoc a p.added p.missing);
}

-- the texts of a list, taken apart at a place
pub parted : {A : Type 0} (text : A → List ℕ) (xs : List A) (i : ℕ) (x : A) → i < length xs → x ≡ get_or xs i x → flat_map text xs ≡ flat_map text (take i xs) ++ (text x ++ flat_map text (drop (i + 1) xs))
parted text xs i x below is =
    let rest : drop i xs ≡ x ∷ drop (i + 1) xs = drop_more xs i x below ∙ ap (λ y. y ∷ drop (i + 1) xs) (sym is) in
    ap (flat_map text) (sym (take-append-drop i xs)) ∙ (flat_map-append text (take i xs) (drop i xs)
    ∙ ap (λ (t : List ℕ). flat_map text (take i xs) ++ t) (ap (flat_map text) rest ∙ flat_map-cons text x (drop (i + 1) xs)))

-- one text of a list more
pub adds_next : {A : Type 0} (text : A → List ℕ) (xs : List A) (i : ℕ) (x : A) (old mid new : List ℕ) → i < length xs → x ≡ get_or xs i x → mid ≡ old ++ flat_map text (take i xs) → new ≡ mid ++ text x
    → new ≡ old ++ flat_map text (take (i + 1) xs)
adds_next text xs i x old mid new below is so_far one =
    let more : take (i + 1) xs ≡ take i xs ++ x ∷ [] = take_more xs i x below ∙ ap (λ y. take i xs ++ y ∷ []) (sym is) in
    let texts : flat_map text (take (i + 1) xs) ≡ flat_map text (take i xs) ++ text x =
    ap (flat_map text) more ∙ (flat_map-append text (take i xs) (x ∷ []) ∙ ap (λ (t : List ℕ). flat_map text (take i xs) ++ t) (flat_map-cons text x [] ∙ append-nil (text x))) in
    one ∙ (ap (λ (t : List ℕ). t ++ text x) so_far ∙ (append_assoc old (flat_map text (take i xs)) (text x) ∙ ap (λ (t : List ℕ). old ++ t) (sym texts)))

-- the next text of a list does not fit
pub adds_fails : {A : Type 0} (text : A → List ℕ) (xs : List A) (i : ℕ) (x : A) (old mid new : List ℕ) → i < length xs → x ≡ get_or xs i x → mid ≡ old ++ flat_map text (take i xs) → AddsPrefix (text x) mid new
    → AddsPrefix (flat_map text xs) old new
adds_fails text xs i x old mid new below is so_far p =
    let both = prefix_second (flat_map text (take i xs)) (text x ++ flat_map text (drop (i + 1) xs)) old mid new so_far (prefix_first (text x) (flat_map text (drop (i + 1) xs)) mid new p) in
    subst (λ (t : List ℕ). AddsPrefix t old new) (sym (parted text xs i x below is)) both

-- all texts of a list
pub adds_all : {A : Type 0} (text : A → List ℕ) (xs : List A) (i : ℕ) (old new : List ℕ) → length xs ≤ i → new ≡ old ++ flat_map text (take i xs) → new ≡ old ++ flat_map text xs
adds_all text xs i old new past so_far = so_far ∙ ap (λ (ys : List _). old ++ flat_map text ys) (take_all i xs past)

-- the second of two texts behind the first
pub adds_then : {A E : Type 0} (a b : List ℕ) (result : Result A E) (old mid new : List ℕ) → mid ≡ old ++ a → Adds b result mid new → Adds (a ++ b) result old new
adds_then a b (Ok done) old mid new first second = second ∙ (ap (λ (t : List ℕ). t ++ b) first ∙ append_assoc old a b)
adds_then a b (Err error) old mid new first second = prefix_second a b old mid new first second

-- four pieces, one after the other
pub four_pieces : (a b c d a' b' c' d' : List ℕ) → a ≡ a' → b ≡ b' → c ≡ c' → d ≡ d' → a ++ (b ++ (c ++ (d ++ []))) ≡ a' ++ (b' ++ (c' ++ d'))
four_pieces a b c d a' b' c' d' ea eb ec ed = rw (ea, eb, ec, ed) (ap (λ (t : List ℕ). a' ++ (b' ++ (c' ++ t))) (append-nil d'))

pub one_byte : (n : ℕ) → n < 256 → n ∷ [] ≡ big_bytes 1 n
one_byte n below = ap (λ k. k ∷ []) (sym (mod-eq_of_lt below))

-- both sides of an answer
pub adds_ok : {A E : Type 0} (text text' : List ℕ) (result : Result A E) (old new : List ℕ) → text ≡ text' → Adds text result old new → OnOk result (new ≡ old ++ text')
adds_ok text text' (Ok done) old new same h = h ∙ ap (λ (t : List ℕ). old ++ t) same
adds_ok text text' (Err error) old new same h = tt

pub adds_err : {A E : Type 0} (text text' : List ℕ) (result : Result A E) (old new : List ℕ) → text ≡ text' → Adds text result old new → OnErr result (AddsPrefix text' old new)
adds_err text text' (Ok done) old new same h = tt
adds_err text text' (Err error) old new same h = subst (λ (t : List ℕ). AddsPrefix t old new) same h
