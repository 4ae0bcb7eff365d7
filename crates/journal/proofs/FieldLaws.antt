-- A field that is read is the field that was written, and what was written is read again.
use Rattle.std.proofs.Common.{◌≡◌, ℕ, zero, suc, ◌+◌, ◌*◌, ◌/◌, ◌^◌, ◌<◌, ◌≤◌, Bool, true, false, cond, ltb, List, [], ◌∷◌, ◌++◌, length, get_or, take, drop, Result, Ok, Err, refl, sym, ap, subst, ◌∙◌, append_assoc, arith, inl, inr}
use Rattle.std.proofs.lemmas.Bool.{cases_lt, ltb-false, le-ltb}
use Rattle.std.proofs.lemmas.List.{append-nil, take_at, drop_at, take-append-drop, length-append, length-take, get_or-drop, get_or-take, get_or_past}
use Rattle.std.proofs.Math.Nat.{mod-lt, mul-le-mul_right, add-mul}
use Rattle.std.specs.Int.{byte_at}
use Rattle.byteorder.specs.Endian.{big_number, big_from, big_bytes}
use Rattle.byteorder.specs.Numbers.{big_from-cons, big_from-lt, big_number-reads_back, big_from-take, length-bytes_high_first}
use Rattle.journal.specs.Text.{counted}
use Rattle.journal.specs.Reading.{◌>>=◌, place, number_at, bytes_at, number_by, bytes_by}

abbrev pub IsBytes : List ℕ → Type 0
IsBytes bytes = (i : ℕ) → get_or bytes i 0 < 256

pub IsBytes-drop : (n : ℕ) (bytes : List ℕ) → IsBytes bytes → IsBytes (drop n bytes)
IsBytes-drop n bytes h i = rw get_or-drop (h (n + i))

pub IsBytes-take : (n : ℕ) (bytes : List ℕ) → IsBytes bytes → IsBytes (take n bytes)
IsBytes-take n bytes h i =
    elim (cases_lt i n) [
      | inl lt ↦ rw (get_or-take n bytes i 0 lt) (h i)
      | inr le ↦ rw (get_or_past (take n bytes) i 0 (omega (arith, length-take n bytes))) (omega arith)
    ]

-- the value of a step that did not fail
pub bind_ok : {A B : Type 0} (r : Result A ℕ) (f : A → Result B ℕ) (y : B) → (r >>= f) ≡ Ok y → (x : A) × (r ≡ Ok x) × (f x ≡ Ok y)
bind_ok (Ok x) f y e = (x, refl, e)
bind_ok (Err d) f y e = absurd cc

-- a test that did not fail
pub guard_ok : {A : Type 0} (b : Bool) (d : ℕ) (x y : A) → cond b (Err d) (Ok x) ≡ Ok y → (b ≡ false) × (x ≡ y)
guard_ok true d x y e = absurd cc
guard_ok false d x y e = (refl, cc)

abbrev done : {A : Type 0} → A → Result A ℕ
done x = Ok x

pub ok_is : {A : Type 0} (x y : A) → done x ≡ done y → x ≡ y
ok_is x y e = cc

-- what a reader took from the front
pub record Takes (bytes text rest : List ℕ) : Type 0 where
  pub parts : bytes ≡ text ++ rest
  pub rest_fits : IsBytes rest

pub Takes-then : (a x b y c : List ℕ) → Takes a x b → Takes b y c → Takes a (x ++ y) c
Takes-then a x b y c p q = record { parts = p.parts ∙ ap (λ (t : List ℕ). x ++ t) q.parts ∙ sym (append_assoc x y c); rest_fits = q.rest_fits }

-- Numbers

-- a number below a place is told by its parts
same_parts : (m a b r s : ℕ) → a * m + r ≡ b * m + s → r < m → s < m → (a ≡ b) × (r ≡ s)
same_parts m a b r s e below below' =
    elim (cases_lt a b) as (λ _. (a ≡ b) × (r ≡ s)) [
      | inl lt ↦ absurd (let h : (a + 1) * m ≤ b * m = mul-le-mul_right m (omega arith) in omega (arith, add-mul a 1 m, h))
      | inr ge ↦ elim (cases_lt b a) as (λ _. (a ≡ b) × (r ≡ s)) [
        | inl lt ↦ absurd (let h : (b + 1) * m ≤ a * m = mul-le-mul_right m (omega arith) in omega (arith, add-mul b 1 m, h))
        | inr ge' ↦ let same : a ≡ b = omega arith in
            let times : a * m ≡ b * m = ap (λ k. k * m) same in
            (same, omega (arith, times))
      ]
    ]

rest_of : (b : ℕ) (bytes : List ℕ) → IsBytes (b ∷ bytes) → IsBytes bytes
rest_of b bytes h i = h (suc i)

-- bytes are told by their number
same_bytes : (n : ℕ) (xs ys : List ℕ) → length xs ≡ n → length ys ≡ n → IsBytes xs → IsBytes ys → big_from 0 n xs ≡ big_from 0 n ys → xs ≡ ys
same_bytes zero [] [] lx ly fx fy e = refl
same_bytes zero [] (y ∷ ys) lx ly fx fy e = absurd (omega (arith, ly))
same_bytes zero (x ∷ xs) ys lx ly fx fy e = absurd (omega (arith, lx))
same_bytes (suc n) [] ys lx ly fx fy e = absurd (omega (arith, lx))
same_bytes (suc n) (x ∷ xs) [] lx ly fx fy e = absurd (omega (arith, ly))
same_bytes (suc n) (x ∷ xs) (y ∷ ys) lx ly fx fy e =
    let fx' = rest_of x xs fx in
    let fy' = rest_of y ys fy in
    let cx = big_from-cons 0 n x xs in
    let cy = big_from-cons 0 n y ys in
    let whole : x * 256 ^ n + big_from 0 n xs ≡ y * 256 ^ n + big_from 0 n ys = ap (λ k. x * 256 ^ n + k) (sym cx) ∙ (e ∙ ap (λ k. y * 256 ^ n + k) cy) in
    let p = same_parts (256 ^ n) x y (big_from 0 n xs) (big_from 0 n ys) whole (big_from-lt 0 n xs fx') (big_from-lt 0 n ys fy') in
    let tail = same_bytes n xs ys (omega (arith, lx)) (omega (arith, ly)) fx' fy' p.1 in
    cc

byte_small : (n x : ℕ) → byte_at n x < 256
byte_small zero x = omega arith
byte_small (suc n) x = mod-lt (x / 256 ^ suc n) (omega arith)

-- the bytes of a number are bytes
pub IsBytes-number : (n x : ℕ) → IsBytes (big_bytes n x)
IsBytes-number zero x i = omega arith
IsBytes-number (suc n) x zero = byte_small n x
IsBytes-number (suc n) x (suc i) = IsBytes-number n x i

-- the bytes of the number in the front of a list are that front
pub front_is : (n : ℕ) (bytes : List ℕ) → n ≤ length bytes → IsBytes bytes → big_bytes n (big_number n bytes) ≡ take n bytes
front_is n bytes long fits =
    let front = take n bytes in
    let len : length front ≡ n = omega (arith, length-take n bytes) in
    let fits' = IsBytes-take n bytes fits in
    let number : big_from 0 n front ≡ big_from 0 n bytes = big_from-take 0 n n bytes (omega arith) in
    let back = big_number-reads_back n (big_number n bytes) [] (big_from-lt 0 n bytes fits) in
    same_bytes n (big_bytes n (big_number n bytes)) front (length-bytes_high_first n (big_number n bytes)) len (IsBytes-number n (big_number n bytes)) fits'
    (ap (big_from 0 n) (sym (append-nil (big_bytes n (big_number n bytes)))) ∙ (back ∙ sym number))

pub number_takes : (width file : ℕ) (bytes : List ℕ) (x : ℕ × List ℕ) → IsBytes bytes → number_at width file bytes ≡ Ok x → Takes bytes (big_bytes width x.0) x.1 × (x.0 < 256 ^ width)
number_takes width file bytes x fits e =
    let g = guard_ok (ltb (length bytes) width) file (big_number width bytes, drop width bytes) x e in
    let long : width ≤ length bytes = ltb-false _ _ g.0 in
    let P : ℕ × List ℕ → Type 0 = λ y. Takes bytes (big_bytes width y.0) y.1 × (y.0 < 256 ^ width) in
    subst P g.1 (record { parts = sym (ap (λ (t : List ℕ). t ++ drop width bytes) (front_is width bytes long fits) ∙ take-append-drop width bytes); rest_fits = IsBytes-drop width bytes fits }, big_from-lt 0 width bytes fits)

pub number_again : (width file n : ℕ) (rest : List ℕ) → n < 256 ^ width → number_at width file (big_bytes width n ++ rest) ≡ Ok (n, rest)
number_again width file n rest lt =
    let len = length-bytes_high_first width n in
    let long : ltb (length (big_bytes width n ++ rest)) width ≡ false = le-ltb _ _ (omega (arith, length-append (big_bytes width n) rest)) in
    let value = big_number-reads_back width n rest lt in
    let left = drop_at (big_bytes width n) rest width len in
    rw (long, value, left) refl

pub number_kept : (breaks : ℕ → Bool) (width file : ℕ) (bytes : List ℕ) (x : ℕ × List ℕ) → number_by breaks width file bytes ≡ Ok x → (number_at width file bytes ≡ Ok x) × (breaks x.0 ≡ false)
number_kept breaks width file bytes x e =
    let b = bind_ok (number_at width file bytes) (λ n. cond (breaks n.0) (Err (place file bytes)) (Ok n)) x e in
    let g = guard_ok (breaks b.0.0) (place file bytes) b.0 x b.2 in
    let P : ℕ × List ℕ → Type 0 = λ y. (number_at width file bytes ≡ Ok y) × (breaks y.0 ≡ false) in
    subst P g.1 (b.1, g.0)

pub number_by_again : (breaks : ℕ → Bool) (width file n : ℕ) (rest : List ℕ) → n < 256 ^ width → breaks n ≡ false → number_by breaks width file (big_bytes width n ++ rest) ≡ Ok (n, rest)
number_by_again breaks width file n rest lt keeps =
    let again = number_again width file n rest lt in
    rw again (rw keeps refl)

-- Bytes

pub bytes_take : (count file : ℕ) (rest : List ℕ) (x : List ℕ × List ℕ) → IsBytes rest → bytes_at count file rest ≡ Ok x → Takes rest x.0 x.1 × (length x.0 ≡ count) × IsBytes x.0
bytes_take count file rest x fits e =
    let g = guard_ok (ltb (length rest) count) file (take count rest, drop count rest) x e in
    let long : count ≤ length rest = ltb-false _ _ g.0 in
    let P : List ℕ × List ℕ → Type 0 = λ y. Takes rest y.0 y.1 × (length y.0 ≡ count) × IsBytes y.0 in
    subst P g.1 (record { parts = sym (take-append-drop count rest); rest_fits = IsBytes-drop count rest fits }, omega (arith, length-take count rest), IsBytes-take count rest fits)

pub bytes_again : (count file : ℕ) (bytes rest : List ℕ) → length bytes ≡ count → bytes_at count file (bytes ++ rest) ≡ Ok (bytes, rest)
bytes_again count file bytes rest len =
    let long : ltb (length (bytes ++ rest)) count ≡ false = le-ltb _ _ (omega (arith, length-append bytes rest)) in
    rw (long, take_at bytes rest count len, drop_at bytes rest count len) refl

pub bytes_kept : (breaks : List ℕ → Bool) (count file : ℕ) (rest : List ℕ) (x : List ℕ × List ℕ) → bytes_by breaks count file rest ≡ Ok x → (bytes_at count file rest ≡ Ok x) × (breaks x.0 ≡ false)
bytes_kept breaks count file rest x e =
    let b = bind_ok (bytes_at count file rest) (λ n. cond (breaks n.0) (Err (place file rest)) (Ok n)) x e in
    let g = guard_ok (breaks b.0.0) (place file rest) b.0 x b.2 in
    let P : List ℕ × List ℕ → Type 0 = λ y. (bytes_at count file rest ≡ Ok y) × (breaks y.0 ≡ false) in
    subst P g.1 (b.1, g.0)

pub bytes_by_again : (breaks : List ℕ → Bool) (count file : ℕ) (bytes rest : List ℕ) → length bytes ≡ count → breaks bytes ≡ false → bytes_by breaks count file (bytes ++ rest) ≡ Ok (bytes, rest)
bytes_by_again breaks count file bytes rest len keeps =
    let again = bytes_again count file bytes rest len in
    rw again (rw keeps refl)

-- Both at once: what was taken, and what it keeps

pub record TakesNumber (breaks : ℕ → Bool) (width : ℕ) (bytes : List ℕ) (x : ℕ × List ℕ) : Type 0 where
  pub takes : Takes bytes (big_bytes width x.0) x.1
  pub small : x.0 < 256 ^ width
  pub keeps : breaks x.0 ≡ false

pub number_by_takes : (breaks : ℕ → Bool) (width file : ℕ) (bytes : List ℕ) (x : ℕ × List ℕ) → IsBytes bytes → number_by breaks width file bytes ≡ Ok x → TakesNumber breaks width bytes x
number_by_takes breaks width file bytes x fits e =
    let k = number_kept breaks width file bytes x e in
    let t = number_takes width file bytes x fits k.0 in
    record { takes = t.0; small = t.1; keeps = k.1 }

pub record TakesBytes (breaks : List ℕ → Bool) (count : ℕ) (rest : List ℕ) (x : List ℕ × List ℕ) : Type 0 where
  pub takes : Takes rest x.0 x.1
  pub long : length x.0 ≡ count
  pub are_bytes : IsBytes x.0
  pub keeps : breaks x.0 ≡ false

pub bytes_by_takes : (breaks : List ℕ → Bool) (count file : ℕ) (rest : List ℕ) (x : List ℕ × List ℕ) → IsBytes rest → bytes_by breaks count file rest ≡ Ok x → TakesBytes breaks count rest x
bytes_by_takes breaks count file rest x fits e =
    let k = bytes_kept breaks count file rest x e in
    let t = bytes_take count file rest x fits k.0 in
    record { takes = t.0; long = t.1; are_bytes = t.2; keeps = k.1 }

-- bytes behind their number
pub Takes-counted : (a : List ℕ) (count : ℕ × List ℕ) (bytes : List ℕ × List ℕ) → Takes a (big_bytes 4 count.0) count.1 → Takes count.1 bytes.0 bytes.1 → length bytes.0 ≡ count.0 → Takes a (counted bytes.0) bytes.1
Takes-counted a count bytes p q len =
    let first : Takes a (big_bytes 4 (length bytes.0)) count.1 = subst (λ (n : ℕ). Takes a (big_bytes 4 n) count.1) (sym len) p in
    Takes-then a (big_bytes 4 (length bytes.0)) count.1 bytes.0 bytes.1 first q
