-- A text is cut at its first slash, and slashes at its beginning make no component.
use Rattle.std.proofs.Common.{◌≡◌, ◌≤◌, ℕ, zero, suc, ◌+◌, Bool, true, false, cond, List, [], ◌∷◌, ◌++◌, length, take, drop, refl, sym, ◌∙◌, ap, append_assoc, arith, length-append}
use Rattle.std.specs.Prelude.{if◌then◌else◌, not, ◌||◌, ◌==◌, nat_lt, Option, Some, None}
use Rattle.std.specs.List.{list_any, position, position_or_len}
use Rattle.std.specs.Option.{unwrap_or}
use Rattle.std.proofs.lemmas.List.Sums.{prefix_len-le-length}
use Rattle.std.proofs.Math.Numerals.{one-add}
use Rattle.std.proofs.lemmas.Bool.Decides.{nat_tests}
use Rattle.std.proofs.lemmas.List.{append-nil}
use Rattle.kernel_core.specs.PathWalk.{components, components_after, closed, begins_with_slash, ends_with_slash}
use Rattle.kernel_core.specs.ValidTree.{is_no_name_byte}
use Rattle.native_vfs.specs.inside.Texts.{is_nul, is_slash, AreBytes}

-- how much of a byte and what follows it stands before the first slash
abbrev before : Bool → ℕ → ℕ
before slash rest = cond (not slash) (1 + rest) 0

split-byte :
    (name rest : List ℕ) (byte n : ℕ) (slash : Bool) → (byte == 47) ≡ slash →
    components_after (name ++ byte ∷ []) rest ≡ closed ((name ++ byte ∷ []) ++ take n rest) (components (drop n rest)) →
    components_after name (byte ∷ rest) ≡ closed (name ++ take (before slash n) (byte ∷ rest)) (components (drop (before slash n) (byte ∷ rest)))
unfolding components_after
split-byte name rest byte n true e h =
    ap (λ b. if b then closed name (components_after [] rest) else components_after (name ++ byte ∷ []) rest) e
    ∙ ap (λ text. closed text (components_after [] rest)) (sym (append-nil name))
    ∙ ap (closed (name ++ [])) (sym (ap (λ b. if b then closed [] (components_after [] rest) else components_after (byte ∷ []) rest) e))
split-byte name rest byte n false e h =
    ap (λ b. if b then closed name (components_after [] rest) else components_after (name ++ byte ∷ []) rest) e
    ∙ h
    ∙ ap (λ text. closed text (components (drop n rest))) (append_assoc name (byte ∷ []) (take n rest))
    ∙ ap (λ m. closed (name ++ take m (byte ∷ rest)) (components (drop m (byte ∷ rest)))) (sym (one-add n))

-- the first component, and those of what stands after it
components_after-split :
    (name text : List ℕ) →
    components_after name text
    ≡ closed (name ++ take (position_or_len is_slash text) text) (components (drop (position_or_len is_slash text) text))
unfolding components_after
components_after-split name [] = ap (λ n. closed n []) (sym (append-nil name))
components_after-split name (byte ∷ rest) =
    split-byte name rest byte (position_or_len is_slash rest) (byte == 47) refl (components_after-split (name ++ byte ∷ []) rest)

-- a slash at the beginning makes no component
pub components-slash : (byte : ℕ) (rest : List ℕ) → (byte == 47) ≡ true → components (byte ∷ rest) ≡ components rest
unfolding components_after
components-slash byte rest e =
    ap (λ b. if b then closed [] (components_after [] rest) else components_after ([] ++ byte ∷ []) rest) e

closed-first :
    (byte n : ℕ) (rest : List ℕ) (slash : Bool) (after : List (List ℕ)) → slash ≡ false →
    closed (take (before slash n) (byte ∷ rest)) after ≡ take (before slash n) (byte ∷ rest) ∷ after
closed-first byte n rest true after e = cc
closed-first byte n rest false after e =
    ap (λ m. closed (take m (byte ∷ rest)) after) (one-add n) ∙ sym (ap (λ m. take m (byte ∷ rest) ∷ after) (one-add n))

-- a text that begins with a component
pub components-first :
    (text : List ℕ) → 1 ≤ length text → begins_with_slash text ≡ false →
    components text ≡ take (position_or_len is_slash text) text ∷ components (drop (position_or_len is_slash text) text)
components-first [] some begins = absurd (omega arith)
components-first (byte ∷ rest) some begins =
    components_after-split [] (byte ∷ rest)
    ∙ closed-first byte (position_or_len is_slash rest) rest (byte == 47)
    (components (drop (position_or_len is_slash (byte ∷ rest)) (byte ∷ rest))) begins

or-false : (a b : Bool) → (a || b) ≡ false → (a ≡ false) × (b ≡ false)
or-false true b h = (cc, cc)
or-false false b h = (refl, h)

plain-byte :
    (byte n : ℕ) (rest : List ℕ) (slash : Bool) → (byte == 47) ≡ slash → (byte == 0) ≡ false →
    list_any is_no_name_byte (take n rest) ≡ false → list_any is_no_name_byte (take (before slash n) (byte ∷ rest)) ≡ false
plain-byte byte n rest true e nul h = refl
plain-byte byte n rest false e nul h =
    ap (λ m. list_any is_no_name_byte (take m (byte ∷ rest))) (one-add n)
    ∙ ap (λ b. (b || (byte == 0)) || list_any is_no_name_byte (take n rest)) e
    ∙ ap (λ b. b || list_any is_no_name_byte (take n rest)) nul
    ∙ h

-- a name has no slash, and no NUL where the text has none
pub name-plain : (text : List ℕ) → list_any is_nul text ≡ false → list_any is_no_name_byte (take (position_or_len is_slash text) text) ≡ false
name-plain [] plain = refl
name-plain (byte ∷ rest) plain =
    let both = or-false (byte == 0) (list_any is_nul rest) plain in
    plain-byte byte (position_or_len is_slash rest) rest (byte == 47) refl both.0 (name-plain rest both.1)

pub drop-plain : (n : ℕ) (text : List ℕ) → list_any is_nul text ≡ false → list_any is_nul (drop n text) ≡ false
drop-plain zero text plain = plain
drop-plain (suc n) [] plain = refl
drop-plain (suc n) (byte ∷ rest) plain = drop-plain n rest (or-false (byte == 0) (list_any is_nul rest) plain).1

pub rest-plain : (byte : ℕ) (rest : List ℕ) → list_any is_nul (byte ∷ rest) ≡ false → list_any is_nul rest ≡ false
rest-plain byte rest plain = (or-false (byte == 0) (list_any is_nul rest) plain).1

-- where the first slash stands, and the length where there is none
or_length : (n size : ℕ) (inside : Bool) → nat_lt n size ≡ inside → n ≤ size → unwrap_or (cond inside (Some n) None) size ≡ n
or_length n size true e within = refl
or_length n size false e within = grind (arith, nat_tests)

pub position-or_len : (text : List ℕ) → unwrap_or (position is_slash text) (length text) ≡ position_or_len is_slash text
position-or_len text =
    or_length (position_or_len is_slash text) (length text) (nat_lt (position_or_len is_slash text) (length text)) refl
    (prefix_len-le-length (λ byte. not (is_slash byte)) text)

pub end-is : (end : ℕ) (first : Option ℕ) (text : List ℕ) → end ≡ unwrap_or first (length text) → first ≡ position is_slash text → end ≡ position_or_len is_slash text
end-is end first text or_len is = or_len ∙ ap (λ o. unwrap_or o (length text)) is ∙ position-or_len text

pub position-within : (text : List ℕ) → position_or_len is_slash text ≤ length text
position-within text = prefix_len-le-length (λ byte. not (is_slash byte)) text

-- the last byte tells how a text ends
pub ends-last : (rest : List ℕ) (last : ℕ) → ends_with_slash (rest ++ last ∷ []) ≡ (last == 47)
unfolding ends_with_slash
ends-last [] last = refl
ends-last (byte ∷ []) last = refl
ends-last (byte ∷ next ∷ rest) last = ends-last (next ∷ rest) last

pub ends-none : ends_with_slash [] ≡ false
unfolding ends_with_slash
ends-none = refl

-- a text has no more components than bytes
closed-length : (name : List ℕ) (rest : List (List ℕ)) → length (closed name rest) ≤ length name + length rest
closed-length [] rest = omega arith
closed-length (byte ∷ bytes) rest = omega arith

after-length : (name text : List ℕ) → length (components_after name text) ≤ length name + length text
unfolding components_after
after-length name [] = closed-length name []
after-length name (byte ∷ rest) = by (byte == 47) (after-length [] rest) (after-length (name ++ byte ∷ []) rest)
  where
    by : (slash : Bool) → length (components_after [] rest) ≤ 0 + length rest →
        length (components_after (name ++ byte ∷ []) rest) ≤ length (name ++ byte ∷ []) + length rest →
        length (if slash then closed name (components_after [] rest) else components_after (name ++ byte ∷ []) rest) ≤ length name + length (byte ∷ rest)
    by true cut longer = omega (arith, closed-length name (components_after [] rest))
    by false cut longer = omega (arith, length-append name (byte ∷ []))

pub length-components : (text : List ℕ) → length (components text) ≤ length text
length-components text = omega (arith, after-length [] text)

-- a text that does not begin with a slash has a component
pub has-component : (text : List ℕ) (rest : List (List ℕ)) → 1 ≤ length text → begins_with_slash text ≡ false → components text ++ rest ≡ [] → ⊥
has-component text rest some begins none = cons-none _ _ (sym (ap (λ c. c ++ rest) (components-first text some begins)) ∙ none)
  where
    cons-none : {A : Type 0} (x : A) (xs : List A) → x ∷ xs ≡ [] → ⊥
    cons-none x xs h = cc

pub take-bytes : (n : ℕ) (text : List ℕ) → AreBytes text → AreBytes (take n text)
take-bytes zero text bytes place = omega arith
take-bytes (suc n) [] bytes place = omega arith
take-bytes (suc n) (byte ∷ rest) bytes zero = bytes zero
take-bytes (suc n) (byte ∷ rest) bytes (suc place) = take-bytes n rest (λ p. bytes (suc p)) place
