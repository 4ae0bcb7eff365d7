-- Effects are read as they were written, and keep their form.
use Rattle.std.proofs.Common.{◌≡◌, ℕ, ◌+◌, ◌^◌, ◌<◌, ◌≤◌, Bool, true, false, not, ◌||◌, List, [], ◌∷◌, ◌++◌, length, Ok, refl, sym, ap, subst, ◌∙◌, append_assoc, arith, inl, inr}
use Rattle.std.specs.Prelude.{◌==◌, nat_lt}
use Rattle.std.proofs.lemmas.Bool.{cases_Bool, ltb-true, ltb-false, le-ltb, lt-ltb, eqb-true, eqb-false}
use Rattle.byteorder.specs.Endian.{big_bytes}
use Rattle.kernel_core.specs.declared.record.Effect.{Effect}
use Rattle.kernel_core.specs.declared.record.Effect.TheVariants.{Register, Write, Map, Unmap, Protect, Output}
use Rattle.journal.specs.Text.{counted, effect_text}
use Rattle.journal.specs.Form.{user_pages, ArePages, IsEffect}
use Rattle.journal.specs.Reading.{◌>>=◌, number_at, number_by, bytes_at, register_at, write_at, pages_at, protection_at, map_at, unmap_at, protect_at, output_at, fields_at, effect_at}
use Rattle.journal.proofs.FieldLaws.{IsBytes, Takes, Takes-then, Takes-counted, bind_ok, ok_is, number_takes, number_again, number_by_takes, number_by_again, bytes_take, bytes_again}
use Rattle.journal.proofs.Guards.{or_false, both_false, not_false, not_of_true}

-- an effect behind its tag
abbrev pub tag : Effect → ℕ
tag (Register r value) = 1
tag (Write address bytes) = 2
tag (Map first count prot) = 3
tag (Unmap first count) = 4
tag (Protect first count prot) = 5
tag (Output stream bytes) = 6

abbrev pub body : Effect → List ℕ
body (Register r value) = big_bytes 1 r ++ big_bytes 4 value
body (Write address bytes) = big_bytes 4 address ++ counted bytes
body (Map first count prot) = big_bytes 4 first ++ (big_bytes 4 count ++ big_bytes 1 prot)
body (Unmap first count) = big_bytes 4 first ++ big_bytes 4 count
body (Protect first count prot) = big_bytes 4 first ++ (big_bytes 4 count ++ big_bytes 1 prot)
body (Output stream bytes) = big_bytes 1 stream ++ counted bytes

-- what was taken from the front as the fields of an effect with this tag
pub record TakesFields (number : ℕ) (rest : List ℕ) (x : Effect × List ℕ) : Type 0 where
  pub is : tag x.0 ≡ number
  pub takes : Takes rest (body x.0) x.1
  pub form : IsEffect x.0

register_takes : (file : ℕ) (rest : List ℕ) (x : Effect × List ℕ) → IsBytes rest → register_at file rest ≡ Ok x → TakesFields 1 rest x
unfolding register_at
register_takes file rest x fits e =
    let a = bind_ok (number_by (λ n. nat_lt n 1 || nat_lt 35 n) 1 file rest) (λ r. number_at 4 file r.1 >>= λ value. Ok (Register r.0 value.0, value.1)) x e in
    let r = a.0 in
    let b = bind_ok (number_at 4 file r.1) (λ value. Ok (Register r.0 value.0, value.1)) x a.2 in
    let value = b.0 in
    let ta = number_by_takes (λ n. nat_lt n 1 || nat_lt 35 n) 1 file rest r fits a.1 in
    let tb = number_takes 4 file r.1 value ta.takes.rest_fits b.1 in
    let tests = or_false (nat_lt r.0 1) (nat_lt 35 r.0) ta.keeps in
    let all = Takes-then rest (big_bytes 1 r.0) r.1 (big_bytes 4 value.0) value.1 ta.takes tb.0 in
    subst (TakesFields 1 rest) (ok_is (Register r.0 value.0, value.1) x b.2)
    (record { is = refl; takes = all; form = (ltb-false _ _ tests.0, ltb-false _ _ tests.1, tb.1) })

register_again : (file r value : ℕ) (rest : List ℕ) → IsEffect (Register r value) → register_at file (body (Register r value) ++ rest) ≡ Ok (Register r value, rest)
unfolding register_at
register_again file r value rest form =
    let regrouped = append_assoc (big_bytes 1 r) (big_bytes 4 value) rest in
    let first = number_by_again (λ n. nat_lt n 1 || nat_lt 35 n) 1 file r (big_bytes 4 value ++ rest) (omega (arith, form.1)) (both_false _ _ (le-ltb _ _ form.0) (le-ltb _ _ form.1)) in
    let second = number_again 4 file value rest form.2 in
    ap (register_at file) regrouped ∙ rw (first, second) refl

write_takes : (file : ℕ) (rest : List ℕ) (x : Effect × List ℕ) → IsBytes rest → write_at file rest ≡ Ok x → TakesFields 2 rest x
unfolding write_at
write_takes file rest x fits e =
    let a = bind_ok (number_at 4 file rest) (λ address. number_at 4 file address.1 >>= λ count. bytes_at count.0 file count.1 >>= λ bytes. Ok (Write address.0 bytes.0, bytes.1)) x e in
    let address = a.0 in
    let b = bind_ok (number_at 4 file address.1) (λ count. bytes_at count.0 file count.1 >>= λ bytes. Ok (Write address.0 bytes.0, bytes.1)) x a.2 in
    let count = b.0 in
    let c = bind_ok (bytes_at count.0 file count.1) (λ bytes. Ok (Write address.0 bytes.0, bytes.1)) x b.2 in
    let bytes = c.0 in
    let ta = number_takes 4 file rest address fits a.1 in
    let tb = number_takes 4 file address.1 count ta.0.rest_fits b.1 in
    let tc = bytes_take count.0 file count.1 bytes tb.0.rest_fits c.1 in
    let both = Takes-counted address.1 count bytes tb.0 tc.0 tc.1 in
    let all = Takes-then rest (big_bytes 4 address.0) address.1 (counted bytes.0) bytes.1 ta.0 both in
    subst (TakesFields 2 rest) (ok_is (Write address.0 bytes.0, bytes.1) x c.2)
    (record { is = refl; takes = all; form = (ta.1, omega (arith, tc.1, tb.1)) })

write_again : (file address : ℕ) (bytes rest : List ℕ) → IsEffect (Write address bytes) → write_at file (body (Write address bytes) ++ rest) ≡ Ok (Write address bytes, rest)
unfolding write_at
write_again file address bytes rest form =
    let count = big_bytes 4 (length bytes) in
    let regrouped : body (Write address bytes) ++ rest ≡ big_bytes 4 address ++ (count ++ (bytes ++ rest)) =
    append_assoc (big_bytes 4 address) (count ++ bytes) rest ∙ ap (λ (t : List ℕ). big_bytes 4 address ++ t) (append_assoc count bytes rest) in
    let first = number_again 4 file address (count ++ (bytes ++ rest)) form.0 in
    let second = number_again 4 file (length bytes) (bytes ++ rest) form.1 in
    let third = bytes_again (length bytes) file bytes rest refl in
    ap (write_at file) regrouped ∙ rw (first, second, third) refl

-- Pages

record TakesPages (rest : List ℕ) (x : (ℕ × ℕ) × List ℕ) : Type 0 where
  takes : Takes rest (big_bytes 4 x.0.0 ++ big_bytes 4 x.0.1) x.1
  form : ArePages x.0.0 x.0.1

pages_take : (file : ℕ) (rest : List ℕ) (x : (ℕ × ℕ) × List ℕ) → IsBytes rest → pages_at file rest ≡ Ok x → TakesPages rest x
unfolding pages_at
pages_take file rest x fits e =
    let a = bind_ok (number_by (λ n. not (nat_lt n user_pages)) 4 file rest) (λ first. number_by (λ n. nat_lt user_pages (first.0 + n)) 4 file first.1 >>= λ count. Ok ((first.0, count.0), count.1)) x e in
    let first = a.0 in
    let b = bind_ok (number_by (λ n. nat_lt user_pages (first.0 + n)) 4 file first.1) (λ count. Ok ((first.0, count.0), count.1)) x a.2 in
    let count = b.0 in
    let ta = number_by_takes (λ n. not (nat_lt n user_pages)) 4 file rest first fits a.1 in
    let tb = number_by_takes (λ n. nat_lt user_pages (first.0 + n)) 4 file first.1 count ta.takes.rest_fits b.1 in
    let all = Takes-then rest (big_bytes 4 first.0) first.1 (big_bytes 4 count.0) count.1 ta.takes tb.takes in
    subst (TakesPages rest) (ok_is ((first.0, count.0), count.1) x b.2)
    (record { takes = all; form = record { begins = ltb-true _ _ (not_false _ ta.keeps); ends = ltb-false _ _ tb.keeps } })

pages_again : (file first count : ℕ) (rest : List ℕ) → ArePages first count → pages_at file (big_bytes 4 first ++ (big_bytes 4 count ++ rest)) ≡ Ok ((first, count), rest)
unfolding pages_at
pages_again file first count rest form =
    let one = number_by_again (λ n. not (nat_lt n user_pages)) 4 file first (big_bytes 4 count ++ rest) (omega (arith, form.begins)) (not_of_true _ (lt-ltb _ _ form.begins)) in
    let two = number_by_again (λ n. nat_lt user_pages (first + n)) 4 file count rest (omega (arith, form.ends)) (le-ltb _ _ form.ends) in
    rw (one, two) refl

protection_takes : (file : ℕ) (rest : List ℕ) (x : ℕ × List ℕ) → IsBytes rest → protection_at file rest ≡ Ok x → Takes rest (big_bytes 1 x.0) x.1 × (x.0 ≤ 7)
protection_takes file rest x fits e =
    let t = number_by_takes (λ n. nat_lt 7 n) 1 file rest x fits e in
    (t.takes, ltb-false _ _ t.keeps)

protection_again : (file prot : ℕ) (rest : List ℕ) → prot ≤ 7 → protection_at file (big_bytes 1 prot ++ rest) ≡ Ok (prot, rest)
protection_again file prot rest small = number_by_again (λ n. nat_lt 7 n) 1 file prot rest (omega (arith, small)) (le-ltb _ _ small)

three_parts : (a b c rest : List ℕ) → (a ++ (b ++ c)) ++ rest ≡ a ++ (b ++ (c ++ rest))
three_parts a b c rest = simp append_assoc

map_takes : (file : ℕ) (rest : List ℕ) (x : Effect × List ℕ) → IsBytes rest → map_at file rest ≡ Ok x → TakesFields 3 rest x
unfolding map_at
map_takes file rest x fits e =
    let a = bind_ok (pages_at file rest) (λ pages. protection_at file pages.1 >>= λ prot. Ok (Map pages.0.0 pages.0.1 prot.0, prot.1)) x e in
    let pages = a.0 in
    let b = bind_ok (protection_at file pages.1) (λ prot. Ok (Map pages.0.0 pages.0.1 prot.0, prot.1)) x a.2 in
    let prot = b.0 in
    let ta = pages_take file rest pages fits a.1 in
    let tb = protection_takes file pages.1 prot ta.takes.rest_fits b.1 in
    let parts = Takes-then rest (big_bytes 4 pages.0.0 ++ big_bytes 4 pages.0.1) pages.1 (big_bytes 1 prot.0) prot.1 ta.takes tb.0 in
    let all = subst (λ (t : List ℕ). Takes rest t prot.1) (append_assoc (big_bytes 4 pages.0.0) (big_bytes 4 pages.0.1) (big_bytes 1 prot.0)) parts in
    subst (TakesFields 3 rest) (ok_is (Map pages.0.0 pages.0.1 prot.0, prot.1) x b.2)
    (record { is = refl; takes = all; form = (ta.form, tb.1) })

map_again : (file first count prot : ℕ) (rest : List ℕ) → IsEffect (Map first count prot) → map_at file (body (Map first count prot) ++ rest) ≡ Ok (Map first count prot, rest)
unfolding map_at
map_again file first count prot rest form =
    let regrouped = three_parts (big_bytes 4 first) (big_bytes 4 count) (big_bytes 1 prot) rest in
    let one = pages_again file first count (big_bytes 1 prot ++ rest) form.0 in
    let two = protection_again file prot rest form.1 in
    ap (map_at file) regrouped ∙ rw (one, two) refl

unmap_takes : (file : ℕ) (rest : List ℕ) (x : Effect × List ℕ) → IsBytes rest → unmap_at file rest ≡ Ok x → TakesFields 4 rest x
unfolding unmap_at
unmap_takes file rest x fits e =
    let a = bind_ok (pages_at file rest) (λ pages. Ok (Unmap pages.0.0 pages.0.1, pages.1)) x e in
    let pages = a.0 in
    let ta = pages_take file rest pages fits a.1 in
    subst (TakesFields 4 rest) (ok_is (Unmap pages.0.0 pages.0.1, pages.1) x a.2)
    (record { is = refl; takes = ta.takes; form = ta.form })

unmap_again : (file first count : ℕ) (rest : List ℕ) → IsEffect (Unmap first count) → unmap_at file (body (Unmap first count) ++ rest) ≡ Ok (Unmap first count, rest)
unfolding unmap_at
unmap_again file first count rest form =
    let regrouped = append_assoc (big_bytes 4 first) (big_bytes 4 count) rest in
    let one = pages_again file first count rest form in
    ap (unmap_at file) regrouped ∙ rw one refl

protect_takes : (file : ℕ) (rest : List ℕ) (x : Effect × List ℕ) → IsBytes rest → protect_at file rest ≡ Ok x → TakesFields 5 rest x
unfolding protect_at
protect_takes file rest x fits e =
    let a = bind_ok (pages_at file rest) (λ pages. protection_at file pages.1 >>= λ prot. Ok (Protect pages.0.0 pages.0.1 prot.0, prot.1)) x e in
    let pages = a.0 in
    let b = bind_ok (protection_at file pages.1) (λ prot. Ok (Protect pages.0.0 pages.0.1 prot.0, prot.1)) x a.2 in
    let prot = b.0 in
    let ta = pages_take file rest pages fits a.1 in
    let tb = protection_takes file pages.1 prot ta.takes.rest_fits b.1 in
    let parts = Takes-then rest (big_bytes 4 pages.0.0 ++ big_bytes 4 pages.0.1) pages.1 (big_bytes 1 prot.0) prot.1 ta.takes tb.0 in
    let all = subst (λ (t : List ℕ). Takes rest t prot.1) (append_assoc (big_bytes 4 pages.0.0) (big_bytes 4 pages.0.1) (big_bytes 1 prot.0)) parts in
    subst (TakesFields 5 rest) (ok_is (Protect pages.0.0 pages.0.1 prot.0, prot.1) x b.2)
    (record { is = refl; takes = all; form = (ta.form, tb.1) })

protect_again : (file first count prot : ℕ) (rest : List ℕ) → IsEffect (Protect first count prot) → protect_at file (body (Protect first count prot) ++ rest) ≡ Ok (Protect first count prot, rest)
unfolding protect_at
protect_again file first count prot rest form =
    let regrouped = three_parts (big_bytes 4 first) (big_bytes 4 count) (big_bytes 1 prot) rest in
    let one = pages_again file first count (big_bytes 1 prot ++ rest) form.0 in
    let two = protection_again file prot rest form.1 in
    ap (protect_at file) regrouped ∙ rw (one, two) refl

output_takes : (file : ℕ) (rest : List ℕ) (x : Effect × List ℕ) → IsBytes rest → output_at file rest ≡ Ok x → TakesFields 6 rest x
unfolding output_at
output_takes file rest x fits e =
    let a = bind_ok (number_by (λ n. nat_lt n 1 || nat_lt 2 n) 1 file rest) (λ stream. number_at 4 file stream.1 >>= λ count. bytes_at count.0 file count.1 >>= λ bytes. Ok (Output stream.0 bytes.0, bytes.1)) x e in
    let stream = a.0 in
    let b = bind_ok (number_at 4 file stream.1) (λ count. bytes_at count.0 file count.1 >>= λ bytes. Ok (Output stream.0 bytes.0, bytes.1)) x a.2 in
    let count = b.0 in
    let c = bind_ok (bytes_at count.0 file count.1) (λ bytes. Ok (Output stream.0 bytes.0, bytes.1)) x b.2 in
    let bytes = c.0 in
    let ta = number_by_takes (λ n. nat_lt n 1 || nat_lt 2 n) 1 file rest stream fits a.1 in
    let tb = number_takes 4 file stream.1 count ta.takes.rest_fits b.1 in
    let tc = bytes_take count.0 file count.1 bytes tb.0.rest_fits c.1 in
    let tests = or_false (nat_lt stream.0 1) (nat_lt 2 stream.0) ta.keeps in
    let both = Takes-counted stream.1 count bytes tb.0 tc.0 tc.1 in
    let all = Takes-then rest (big_bytes 1 stream.0) stream.1 (counted bytes.0) bytes.1 ta.takes both in
    subst (TakesFields 6 rest) (ok_is (Output stream.0 bytes.0, bytes.1) x c.2)
    (record { is = refl; takes = all; form = (ltb-false _ _ tests.0, ltb-false _ _ tests.1, omega (arith, tc.1, tb.1)) })

output_again : (file stream : ℕ) (bytes rest : List ℕ) → IsEffect (Output stream bytes) → output_at file (body (Output stream bytes) ++ rest) ≡ Ok (Output stream bytes, rest)
unfolding output_at
output_again file stream bytes rest form =
    let count = big_bytes 4 (length bytes) in
    let regrouped : body (Output stream bytes) ++ rest ≡ big_bytes 1 stream ++ (count ++ (bytes ++ rest)) =
    append_assoc (big_bytes 1 stream) (count ++ bytes) rest ∙ ap (λ (t : List ℕ). big_bytes 1 stream ++ t) (append_assoc count bytes rest) in
    let first = number_by_again (λ n. nat_lt n 1 || nat_lt 2 n) 1 file stream (count ++ (bytes ++ rest)) (omega (arith, form.1)) (both_false _ _ (le-ltb _ _ form.0) (le-ltb _ _ form.1)) in
    let second = number_again 4 file (length bytes) (bytes ++ rest) form.2 in
    let third = bytes_again (length bytes) file bytes rest refl in
    ap (output_at file) regrouped ∙ rw (first, second, third) refl

-- Any effect

fields_take : (number file : ℕ) (rest : List ℕ) (x : Effect × List ℕ) → 1 ≤ number → number ≤ 6 → IsBytes rest → fields_at number file rest ≡ Ok x → TakesFields number rest x
fields_take number file rest x low high fits e =
    let as_number : (k : ℕ) → (number == k) ≡ true → TakesFields k rest x → TakesFields number rest x = λ k t. subst (λ (n : ℕ). TakesFields n rest x) (sym (eqb-true number k t)) in
    elim (cases_Bool (number == 1)) [
      | inl t ↦ as_number 1 t (register_takes file rest x fits (rw t at e))
      | inr n1 ↦ elim (cases_Bool (number == 2)) [
        | inl t ↦ as_number 2 t (write_takes file rest x fits (rw (n1, t) at e))
        | inr n2 ↦ elim (cases_Bool (number == 3)) [
          | inl t ↦ as_number 3 t (map_takes file rest x fits (rw (n1, n2, t) at e))
          | inr n3 ↦ elim (cases_Bool (number == 4)) [
            | inl t ↦ as_number 4 t (unmap_takes file rest x fits (rw (n1, n2, n3, t) at e))
            | inr n4 ↦ elim (cases_Bool (number == 5)) [
              | inl t ↦ as_number 5 t (protect_takes file rest x fits (rw (n1, n2, n3, n4, t) at e))
              | inr n5 ↦
                  let is : number ≡ 6 = omega (arith, low, high, eqb-false number 1 n1, eqb-false number 2 n2, eqb-false number 3 n3, eqb-false number 4 n4, eqb-false number 5 n5) in
                  subst (λ (n : ℕ). TakesFields n rest x) (sym is) (output_takes file rest x fits (rw (n1, n2, n3, n4, n5) at e))
            ]
          ]
        ]
      ]
    ]

fields_again : (file : ℕ) (e : Effect) (rest : List ℕ) → IsEffect e → fields_at (tag e) file (body e ++ rest) ≡ Ok (e, rest)
fields_again file (Register r value) rest form = register_again file r value rest form
fields_again file (Write address bytes) rest form = write_again file address bytes rest form
fields_again file (Map first count prot) rest form = map_again file first count prot rest form
fields_again file (Unmap first count) rest form = unmap_again file first count rest form
fields_again file (Protect first count prot) rest form = protect_again file first count prot rest form
fields_again file (Output stream bytes) rest form = output_again file stream bytes rest form

tag_is : (e : Effect) → (1 ≤ tag e) × (tag e ≤ 6)
tag_is (Register r value) = (omega arith, omega arith)
tag_is (Write address bytes) = (omega arith, omega arith)
tag_is (Map first count prot) = (omega arith, omega arith)
tag_is (Unmap first count) = (omega arith, omega arith)
tag_is (Protect first count prot) = (omega arith, omega arith)
tag_is (Output stream bytes) = (omega arith, omega arith)

tag_text : (e : Effect) → big_bytes 1 (tag e) ++ body e ≡ effect_text e
tag_text (Register r value) = refl
tag_text (Write address bytes) = refl
tag_text (Map first count prot) = refl
tag_text (Unmap first count) = refl
tag_text (Protect first count prot) = refl
tag_text (Output stream bytes) = refl

pub effect_takes : (file : ℕ) (rest : List ℕ) (x : Effect × List ℕ) → IsBytes rest → effect_at file rest ≡ Ok x → Takes rest (effect_text x.0) x.1 × IsEffect x.0
unfolding effect_at
effect_takes file rest x fits e =
    let a = bind_ok (number_by (λ n. nat_lt n 1 || nat_lt 6 n) 1 file rest) (λ t. fields_at t.0 file t.1) x e in
    let t = a.0 in
    let ta = number_by_takes (λ n. nat_lt n 1 || nat_lt 6 n) 1 file rest t fits a.1 in
    let tests = or_false (nat_lt t.0 1) (nat_lt 6 t.0) ta.keeps in
    let f = fields_take t.0 file t.1 x (ltb-false _ _ tests.0) (ltb-false _ _ tests.1) ta.takes.rest_fits a.2 in
    let first : Takes rest (big_bytes 1 (tag x.0)) t.1 = subst (λ (n : ℕ). Takes rest (big_bytes 1 n) t.1) (sym f.is) ta.takes in
    let all = Takes-then rest (big_bytes 1 (tag x.0)) t.1 (body x.0) x.1 first f.takes in
    (subst (λ (s : List ℕ). Takes rest s x.1) (tag_text x.0) all, f.form)

pub effect_again : (file : ℕ) (e : Effect) (rest : List ℕ) → IsEffect e → effect_at file (effect_text e ++ rest) ≡ Ok (e, rest)
unfolding effect_at
effect_again file e rest form =
    let regrouped : effect_text e ++ rest ≡ big_bytes 1 (tag e) ++ (body e ++ rest) = ap (λ (t : List ℕ). t ++ rest) (sym (tag_text e)) ∙ append_assoc (big_bytes 1 (tag e)) (body e) rest in
    let small = tag_is e in
    let first = number_by_again (λ n. nat_lt n 1 || nat_lt 6 n) 1 file (tag e) (body e ++ rest) (omega (arith, small.1)) (both_false _ _ (le-ltb _ _ small.0) (le-ltb _ _ small.1)) in
    let second = fields_again file e rest form in
    ap (effect_at file) regrouped ∙ rw (first, second) refl
