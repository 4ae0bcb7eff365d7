-- Records are read as they were written, keep their form, and stand in their order.
use Rattle.std.proofs.Common.{◌≡◌, ℕ, zero, suc, ◌+◌, ◌^◌, ◌<◌, ◌≤◌, Bool, true, false, not, ◌||◌, List, [], ◌∷◌, ◌++◌, length, All, Option, Some, None, Result, Ok, refl, sym, ap, subst, ◌∙◌, append_assoc, arith, inl, inr}
use Rattle.std.specs.Prelude.{◌==◌, ◌&&◌, nat_lt, if◌then◌else◌}
use Rattle.std.specs.List.{flat_map}
use Rattle.std.proofs.lemmas.Bool.{cases_Bool, ltb-true, ltb-false, le-ltb, lt-ltb, eqb-true, eqb-false, eq-eqb, false_from_ne_true}
use Rattle.std.proofs.lemmas.List.{append-nil, length-append}
use Rattle.std.proofs.lemmas.List.Concat.{flat_map-cons}
use Rattle.std.proofs.lemmas.List.Elements.{All-nil, All-cons}
use Rattle.byteorder.specs.Endian.{big_bytes}
use Rattle.byteorder.specs.Numbers.{length-bytes_high_first}
use Rattle.kernel_core.specs.declared.record.Record.{Record}
use Rattle.kernel_core.specs.declared.record.Effect.{Effect}
use Rattle.kernel_core.specs.declared.finish.Finish.{Finish}
use Rattle.kernel_core.specs.declared.finish.Finish.TheVariants.{Exited, Killed, Budget, Blocked}
use Rattle.journal.specs.declared.turns.Front.{Front}
use Rattle.journal.specs.Text.{effect_text, finish_text, body_text, record_text}
use Rattle.journal.specs.Form.{greatest_turn, call_kind, idle_kind, end_kind, IsEffect, IsFinish, no_words, AreSixWords, IsBody, IsRecord, front_of, follows_in_turn, has_ended_turn, Follows, AreRecords}
use Rattle.journal.specs.Reading.{◌>>=◌, place, number_at, number_by, many, effect_at, breaks_turn, breaks_kind, ordered, front_at, words_at, changes_at, finish_of, breaks_finish, end_at, record_at, ended, records_at}
use Rattle.journal.proofs.FieldLaws.{IsBytes, Takes, Takes-then, bind_ok, guard_ok, ok_is, number_takes, number_again, number_by_takes, number_by_again}
use Rattle.journal.proofs.ManyLaws.{many_take, many_again}
use Rattle.journal.proofs.EffectLaws.{effect_takes, effect_again}
use Rattle.journal.proofs.Guards.{or_false, both_false, not_false, not_of_true, positive, not_zero}

-- The front of a record

abbrev front_text : Front → List ℕ
front_text front = big_bytes 8 front.turn ++ big_bytes 1 front.kind

record TakesFront (before : Front) (rest : List ℕ) (x : Front × List ℕ) : Type 0 where
  takes : Takes rest (front_text x.0) x.1
  turn : x.0.turn ≤ greatest_turn
  zero : x.0.turn ≡ 0 → x.0.kind ≡ end_kind
  rises : before.turn ≤ x.0.turn
  low : 1 ≤ x.0.kind
  high : x.0.kind ≤ end_kind
  order : x.0.turn ≡ before.turn → follows_in_turn before.kind x.0.kind ≡ true

and_true : (a b : Bool) → a ≡ true → (a && not b) ≡ false → b ≡ true
and_true a true ea e = refl
and_true a false ea e = absurd (let f : (a && true) ≡ false = e in cc)

ordered_ok : (before : Front) (file : ℕ) (from_turn from_kind : List ℕ) (turn kind : ℕ) (rest : List ℕ) (x : Front × List ℕ) → ordered before file from_turn from_kind turn kind rest ≡ Ok x
    → (((turn == 0) && not (kind == end_kind)) ≡ false) × (breaks_kind before turn kind ≡ false) × (x ≡ (record { turn = turn; kind = kind }, rest))
ordered_ok before file from_turn from_kind turn kind rest x e =
    elim (cases_Bool ((turn == 0) && not (kind == end_kind))) [
      | inl t ↦ absurd (let f = rw t at e in cc)
      | inr n ↦ let f = rw n at e in
          let g = guard_ok (breaks_kind before turn kind) (place file from_kind) (record { turn = turn; kind = kind }, rest) x f in
          (n, g.0, sym g.1)
    ]

front_takes : (before : Front) (file : ℕ) (rest : List ℕ) (x : Front × List ℕ) → IsBytes rest → front_at before file rest ≡ Ok x → TakesFront before rest x
unfolding front_at
front_takes before file rest x fits e =
    let a = bind_ok (number_by (breaks_turn before) 8 file rest) (λ turn. number_at 1 file turn.1 >>= λ kind. ordered before file rest turn.1 turn.0 kind.0 kind.1) x e in
    let turn = a.0 in
    let b = bind_ok (number_at 1 file turn.1) (λ kind. ordered before file rest turn.1 turn.0 kind.0 kind.1) x a.2 in
    let kind = b.0 in
    let o = ordered_ok before file rest turn.1 turn.0 kind.0 kind.1 x b.2 in
    let ta = number_by_takes (breaks_turn before) 8 file rest turn fits a.1 in
    let tb = number_takes 1 file turn.1 kind ta.takes.rest_fits b.1 in
    let turns = or_false (nat_lt turn.0 before.turn) (nat_lt greatest_turn turn.0) ta.keeps in
    let kinds = or_false (nat_lt kind.0 1) (nat_lt end_kind kind.0 || ((turn.0 == before.turn) && not (follows_in_turn before.kind kind.0))) o.1 in
    let upper = or_false (nat_lt end_kind kind.0) ((turn.0 == before.turn) && not (follows_in_turn before.kind kind.0)) kinds.1 in
    let all = Takes-then rest (big_bytes 8 turn.0) turn.1 (big_bytes 1 kind.0) kind.1 ta.takes tb.0 in
    subst (TakesFront before rest) (sym o.2) (record {
      takes = all;
      turn = ltb-false _ _ turns.1;
      zero = λ z. eqb-true _ _ (and_true (turn.0 == 0) (kind.0 == end_kind) (eq-eqb _ _ z) o.0);
      rises = ltb-false _ _ turns.0;
      low = ltb-false _ _ kinds.0;
      high = ltb-false _ _ upper.0;
      order = λ same. and_true (turn.0 == before.turn) (follows_in_turn before.kind kind.0) (eq-eqb _ _ same) upper.1;
    })

unless_both : (a b : Bool) → (a ≡ true → b ≡ true) → (a && not b) ≡ false
unless_both true b h = not_of_true b (h refl)
unless_both false b h = refl

front_again : (before : Front) (file turn kind : ℕ) (rest : List ℕ) → turn ≤ greatest_turn → (turn ≡ 0 → kind ≡ end_kind) → before.turn ≤ turn → 1 ≤ kind → kind ≤ end_kind
    → (turn ≡ before.turn → follows_in_turn before.kind kind ≡ true) → front_at before file (big_bytes 8 turn ++ (big_bytes 1 kind ++ rest)) ≡ Ok (record { turn = turn; kind = kind }, rest)
unfolding front_at
front_again before file turn kind rest small none rises low high order =
    let one = number_by_again (breaks_turn before) 8 file turn (big_bytes 1 kind ++ rest) (omega (arith, small)) (both_false _ _ (le-ltb _ _ rises) (le-ltb _ _ small)) in
    let two = number_again 1 file kind rest (omega (arith, high)) in
    let first : ((turn == 0) && not (kind == end_kind)) ≡ false = unless_both (turn == 0) (kind == end_kind) (λ t. eq-eqb _ _ (none (eqb-true _ _ t))) in
    let in_turn : ((turn == before.turn) && not (follows_in_turn before.kind kind)) ≡ false = unless_both (turn == before.turn) (follows_in_turn before.kind kind) (λ t. order (eqb-true _ _ t)) in
    let second : breaks_kind before turn kind ≡ false = both_false _ _ (le-ltb _ _ low) (both_false _ _ (le-ltb _ _ high) in_turn) in
    rw (one, two, first, second) refl

-- Words

abbrev words_text : List ℕ → List ℕ
words_text words = flat_map (big_bytes 4) words

one_word : (width : ℕ) (xs : List ℕ) (bytes : List ℕ) (x : ℕ) (after rest : List ℕ) → Takes bytes (big_bytes 4 x) after → Takes after (words_text xs) rest → Takes bytes (words_text (x ∷ xs)) rest
one_word width xs bytes x after rest p q =
    let both = Takes-then bytes (big_bytes 4 x) after (words_text xs) rest p q in
    subst (λ (t : List ℕ). Takes bytes t rest) (sym (flat_map-cons (big_bytes 4) x xs)) both

no_word : (bytes : List ℕ) → IsBytes bytes → Takes bytes (words_text []) bytes
no_word bytes fits = record { parts = refl; rest_fits = fits }

six_small : (a b c d e f : ℕ) → a < 2 ^ 32 → b < 2 ^ 32 → c < 2 ^ 32 → d < 2 ^ 32 → e < 2 ^ 32 → f < 2 ^ 32 → AreSixWords (a ∷ b ∷ c ∷ d ∷ e ∷ f ∷ [])
six_small a b c d e f la lb lc ld le lf =
    let W : ℕ → Type 0 = λ word. word < 2 ^ 32 in
    let f1 = All-cons W f [] lf (All-nil W) in
    let e1 = All-cons W e (f ∷ []) le f1 in
    let d1 = All-cons W d (e ∷ f ∷ []) ld e1 in
    let c1 = All-cons W c (d ∷ e ∷ f ∷ []) lc d1 in
    let b1 = All-cons W b (c ∷ d ∷ e ∷ f ∷ []) lb c1 in
    (refl, All-cons W a (b ∷ c ∷ d ∷ e ∷ f ∷ []) la b1)

words_take : (file : ℕ) (rest : List ℕ) (x : List ℕ × List ℕ) → IsBytes rest → words_at file rest ≡ Ok x → Takes rest (words_text x.0) x.1 × AreSixWords x.0
unfolding words_at
words_take file rest x fits e =
    let a = bind_ok (number_at 4 file rest) (λ pc. number_at 4 file pc.1 >>= λ v0. number_at 4 file v0.1 >>= λ a0. number_at 4 file a0.1 >>= λ a1. number_at 4 file a1.1 >>= λ a2. number_at 4 file a2.1 >>= λ a3. Ok (pc.0 ∷ v0.0 ∷ a0.0 ∷ a1.0 ∷ a2.0 ∷ a3.0 ∷ [], a3.1)) x e in
    let w0 = a.0 in
    let b = bind_ok (number_at 4 file w0.1) (λ v0. number_at 4 file v0.1 >>= λ a0. number_at 4 file a0.1 >>= λ a1. number_at 4 file a1.1 >>= λ a2. number_at 4 file a2.1 >>= λ a3. Ok (w0.0 ∷ v0.0 ∷ a0.0 ∷ a1.0 ∷ a2.0 ∷ a3.0 ∷ [], a3.1)) x a.2 in
    let w1 = b.0 in
    let c = bind_ok (number_at 4 file w1.1) (λ a0. number_at 4 file a0.1 >>= λ a1. number_at 4 file a1.1 >>= λ a2. number_at 4 file a2.1 >>= λ a3. Ok (w0.0 ∷ w1.0 ∷ a0.0 ∷ a1.0 ∷ a2.0 ∷ a3.0 ∷ [], a3.1)) x b.2 in
    let w2 = c.0 in
    let d = bind_ok (number_at 4 file w2.1) (λ a1. number_at 4 file a1.1 >>= λ a2. number_at 4 file a2.1 >>= λ a3. Ok (w0.0 ∷ w1.0 ∷ w2.0 ∷ a1.0 ∷ a2.0 ∷ a3.0 ∷ [], a3.1)) x c.2 in
    let w3 = d.0 in
    let f = bind_ok (number_at 4 file w3.1) (λ a2. number_at 4 file a2.1 >>= λ a3. Ok (w0.0 ∷ w1.0 ∷ w2.0 ∷ w3.0 ∷ a2.0 ∷ a3.0 ∷ [], a3.1)) x d.2 in
    let w4 = f.0 in
    let g = bind_ok (number_at 4 file w4.1) (λ a3. Ok (w0.0 ∷ w1.0 ∷ w2.0 ∷ w3.0 ∷ w4.0 ∷ a3.0 ∷ [], a3.1)) x f.2 in
    let w5 = g.0 in
    let t0 = number_takes 4 file rest w0 fits a.1 in
    let t1 = number_takes 4 file w0.1 w1 t0.0.rest_fits b.1 in
    let t2 = number_takes 4 file w1.1 w2 t1.0.rest_fits c.1 in
    let t3 = number_takes 4 file w2.1 w3 t2.0.rest_fits d.1 in
    let t4 = number_takes 4 file w3.1 w4 t3.0.rest_fits f.1 in
    let t5 = number_takes 4 file w4.1 w5 t4.0.rest_fits g.1 in
    let s5 = one_word 4 [] w4.1 w5.0 w5.1 w5.1 t5.0 (no_word w5.1 t5.0.rest_fits) in
    let s4 = one_word 4 (w5.0 ∷ []) w3.1 w4.0 w4.1 w5.1 t4.0 s5 in
    let s3 = one_word 4 (w4.0 ∷ w5.0 ∷ []) w2.1 w3.0 w3.1 w5.1 t3.0 s4 in
    let s2 = one_word 4 (w3.0 ∷ w4.0 ∷ w5.0 ∷ []) w1.1 w2.0 w2.1 w5.1 t2.0 s3 in
    let s1 = one_word 4 (w2.0 ∷ w3.0 ∷ w4.0 ∷ w5.0 ∷ []) w0.1 w1.0 w1.1 w5.1 t1.0 s2 in
    let s0 = one_word 4 (w1.0 ∷ w2.0 ∷ w3.0 ∷ w4.0 ∷ w5.0 ∷ []) rest w0.0 w0.1 w5.1 t0.0 s1 in
    let P : List ℕ × List ℕ → Type 0 = λ y. Takes rest (words_text y.0) y.1 × AreSixWords y.0 in
    subst P (ok_is (w0.0 ∷ w1.0 ∷ w2.0 ∷ w3.0 ∷ w4.0 ∷ w5.0 ∷ [], w5.1) x g.2) (s0, six_small w0.0 w1.0 w2.0 w3.0 w4.0 w5.0 t0.1 t1.1 t2.1 t3.1 t4.1 t5.1)

abbrev pub SixAre : List ℕ → Type 0
SixAre words = (a : ℕ) × (b : ℕ) × (c : ℕ) × (d : ℕ) × (e : ℕ) × (f : ℕ) × (words ≡ a ∷ b ∷ c ∷ d ∷ e ∷ f ∷ [])

six_are : (words : List ℕ) → length words ≡ 6 → SixAre words
six_are [] len = absurd (omega (arith, len))
six_are (a ∷ []) len = absurd (omega (arith, len))
six_are (a ∷ b ∷ []) len = absurd (omega (arith, len))
six_are (a ∷ b ∷ c ∷ []) len = absurd (omega (arith, len))
six_are (a ∷ b ∷ c ∷ d ∷ []) len = absurd (omega (arith, len))
six_are (a ∷ b ∷ c ∷ d ∷ e ∷ []) len = absurd (omega (arith, len))
six_are (a ∷ b ∷ c ∷ d ∷ e ∷ f ∷ []) len = (a, b, c, d, e, f, refl)
six_are (a ∷ b ∷ c ∷ d ∷ e ∷ f ∷ g ∷ more) len = absurd (omega (arith, len))

six_parts : (a b c d e f rest : List ℕ) → (a ++ (b ++ (c ++ (d ++ (e ++ (f ++ [])))))) ++ rest ≡ a ++ (b ++ (c ++ (d ++ (e ++ (f ++ rest)))))
six_parts a b c d e f rest = simp append_assoc

six_again : (file a b c d e f : ℕ) (rest : List ℕ) → a < 2 ^ 32 → b < 2 ^ 32 → c < 2 ^ 32 → d < 2 ^ 32 → e < 2 ^ 32 → f < 2 ^ 32
    → words_at file (big_bytes 4 a ++ (big_bytes 4 b ++ (big_bytes 4 c ++ (big_bytes 4 d ++ (big_bytes 4 e ++ (big_bytes 4 f ++ rest)))))) ≡ Ok (a ∷ b ∷ c ∷ d ∷ e ∷ f ∷ [], rest)
unfolding words_at
six_again file a b c d e f rest la lb lc ld le lf =
    let tf = big_bytes 4 f ++ rest in
    let te = big_bytes 4 e ++ tf in
    let td = big_bytes 4 d ++ te in
    let tc = big_bytes 4 c ++ td in
    let tb = big_bytes 4 b ++ tc in
    rw (number_again 4 file a tb la, number_again 4 file b tc lb, number_again 4 file c td lc, number_again 4 file d te ld, number_again 4 file e tf le, number_again 4 file f rest lf) refl

words_again : (file : ℕ) (words rest : List ℕ) → AreSixWords words → words_at file (words_text words ++ rest) ≡ Ok (words, rest)
words_again file words rest are =
    let s = six_are words are.0 in
    let W : ℕ → Type 0 = λ word. word < 2 ^ 32 in
    let all : All W (s.0 ∷ s.1 ∷ s.2 ∷ s.3 ∷ s.4 ∷ s.5 ∷ []) = subst (All W) s.6 are.1 in
    let regrouped = six_parts (big_bytes 4 s.0) (big_bytes 4 s.1) (big_bytes 4 s.2) (big_bytes 4 s.3) (big_bytes 4 s.4) (big_bytes 4 s.5) rest in
    let again = six_again file s.0 s.1 s.2 s.3 s.4 s.5 rest (all 0 0 (omega arith)) (all 1 0 (omega arith)) (all 2 0 (omega arith)) (all 3 0 (omega arith)) (all 4 0 (omega arith)) (all 5 0 (omega arith)) in
    subst (λ (ws : List ℕ). words_at file (words_text ws ++ rest) ≡ Ok (ws, rest)) (sym s.6) (ap (words_at file) regrouped ∙ again)

-- Words and effects

record TakesBody (front : Front) (rest : List ℕ) (x : Record × List ℕ) : Type 0 where
  turn : x.0.turn ≡ front.turn
  kind : x.0.kind ≡ front.kind
  takes : Takes rest (body_text x.0.finish x.0.words x.0.effects) x.1
  form : IsBody x.0.kind x.0.finish x.0.words x.0.effects

none_read : (count kind : ℕ) (effects : List Effect) → length effects ≡ count → ((kind == idle_kind) && not (count == 0)) ≡ false → kind ≡ idle_kind → effects ≡ []
none_read count kind [] len e is = refl
none_read count kind (effect ∷ effects) len e is =
    let z : count ≡ 0 = eqb-true _ _ (and_true (kind == idle_kind) (count == 0) (eq-eqb _ _ is) e) in
    absurd (omega (arith, len, z))

changes_take : (front : Front) (file : ℕ) (rest : List ℕ) (x : Record × List ℕ) → 1 ≤ front.kind → front.kind < end_kind → IsBytes rest → changes_at front file rest ≡ Ok x → TakesBody front rest x
unfolding changes_at
changes_take front file rest x low high fits e =
    let a = bind_ok (words_at file rest) (λ words. number_by (λ n. (front.kind == idle_kind) && not (n == 0)) 4 file words.1 >>= λ count. many effect_at count.0 file count.1 >>= λ effects. Ok (record { turn = front.turn; kind = front.kind; words = words.0; effects = effects.0; finish = None }, effects.1)) x e in
    let words = a.0 in
    let b = bind_ok (number_by (λ n. (front.kind == idle_kind) && not (n == 0)) 4 file words.1) (λ count. many effect_at count.0 file count.1 >>= λ effects. Ok (record { turn = front.turn; kind = front.kind; words = words.0; effects = effects.0; finish = None }, effects.1)) x a.2 in
    let count = b.0 in
    let c = bind_ok (many effect_at count.0 file count.1) (λ effects. Ok (record { turn = front.turn; kind = front.kind; words = words.0; effects = effects.0; finish = None }, effects.1)) x b.2 in
    let effects = c.0 in
    let ta = words_take file rest words fits a.1 in
    let tb = number_by_takes (λ n. (front.kind == idle_kind) && not (n == 0)) 4 file words.1 count ta.0.rest_fits b.1 in
    let tc = many_take effect_at effect_text IsEffect file (λ left y are got. effect_takes file left y are got) count.0 count.1 effects tb.takes.rest_fits c.1 in
    let second : Takes words.1 (big_bytes 4 (length effects.0)) count.1 = subst (λ (n : ℕ). Takes words.1 (big_bytes 4 n) count.1) (sym tc.len) tb.takes in
    let both = Takes-then words.1 (big_bytes 4 (length effects.0)) count.1 (flat_map effect_text effects.0) effects.1 second tc.takes in
    let all = Takes-then rest (words_text words.0) words.1 (big_bytes 4 (length effects.0) ++ flat_map effect_text effects.0) effects.1 ta.0 both in
    let made : Record = record { turn = front.turn; kind = front.kind; words = words.0; effects = effects.0; finish = None } in
    subst (TakesBody front rest) (ok_is (made, effects.1) x c.2) (record {
      turn = refl;
      kind = refl;
      takes = all;
      form = (low, high, ta.1, omega (arith, tc.len, tb.small), tc.keep, none_read count.0 front.kind effects.0 tc.len tb.keeps);
    })

changes_again : (file turn kind : ℕ) (words : List ℕ) (effects : List Effect) (rest : List ℕ) → IsBody kind None words effects
    → changes_at (record { turn = turn; kind = kind }) file (body_text None words effects ++ rest) ≡ Ok (record { turn = turn; kind = kind; words = words; effects = effects; finish = None }, rest)
unfolding changes_at
changes_again file turn kind words effects rest form =
    let count = big_bytes 4 (length effects) in
    let text = flat_map effect_text effects in
    let regrouped : body_text None words effects ++ rest ≡ words_text words ++ (count ++ (text ++ rest)) =
    append_assoc (words_text words) (count ++ text) rest ∙ ap (λ (t : List ℕ). words_text words ++ t) (append_assoc count text rest) in
    let one = words_again file words (count ++ (text ++ rest)) form.2 in
    let keeps : ((kind == idle_kind) && not (length effects == 0)) ≡ false = unless_both (kind == idle_kind) (length effects == 0) (λ t. eq-eqb _ _ (ap length (form.5 (eqb-true _ _ t)))) in
    let two = number_by_again (λ n. (kind == idle_kind) && not (n == 0)) 4 file (length effects) (text ++ rest) form.3 keeps in
    let three = many_again effect_at effect_text IsEffect file (λ y left good. effect_again file y left good) effects rest form.4 in
    ap (changes_at (record { turn = turn; kind = kind }) file) regrouped ∙ rw (one, two, three) refl

-- The end

abbrev finish_number : Finish → ℕ
finish_number (Exited status) = 1
finish_number (Killed signal) = 2
finish_number Budget = 3
finish_number Blocked = 4

abbrev finish_value : Finish → ℕ
finish_value (Exited status) = status
finish_value (Killed signal) = signal
finish_value Budget = 0
finish_value Blocked = 0

finish_parts : (f : Finish) → finish_text f ≡ big_bytes 1 (finish_number f) ++ big_bytes 1 (finish_value f)
finish_parts (Exited status) = refl
finish_parts (Killed signal) = refl
finish_parts Budget = refl
finish_parts Blocked = refl

-- a number and a value that were read are those of what comes of them
record IsNamed (before : Front) (turn number value : ℕ) (f : Finish) : Type 0 where
  number_is : finish_number f ≡ number
  value_is : finish_value f ≡ value
  form : IsFinish f
  killed : (signal : ℕ) → f ≡ Killed signal → has_ended_turn before turn ≡ false

named : (before : Front) (turn number value : ℕ) → breaks_finish before turn number ≡ false → value < 256 → (nat_lt 2 number && not (value == 0)) ≡ false → IsNamed before turn number value (finish_of number value)
named before turn number value known small plain =
    let low = or_false (nat_lt number 1) (nat_lt 4 number || ((number == 2) && has_ended_turn before turn)) known in
    let high = or_false (nat_lt 4 number) ((number == 2) && has_ended_turn before turn) low.1 in
    elim (cases_Bool (number == 1)) [
      | inl t ↦ let is : number ≡ 1 = eqb-true _ _ t in
          rw t (record { number_is = sym is; value_is = refl; form = small; killed = λ signal e. absurd cc })
      | inr n1 ↦ elim (cases_Bool (number == 2)) [
        | inl t ↦ let is : number ≡ 2 = eqb-true _ _ t in
            let free : has_ended_turn before turn ≡ false = rw t at high.1 in
            rw (n1, t) (record { number_is = sym is; value_is = refl; form = small; killed = λ signal e. free })
        | inr n2 ↦
            let above : 2 < number = omega (arith, ltb-false _ _ low.0, eqb-false number 1 n1, eqb-false number 2 n2) in
            let none : value ≡ 0 = eqb-true _ _ (and_true (nat_lt 2 number) (value == 0) (lt-ltb _ _ above) plain) in
            elim (cases_Bool (number == 3)) [
              | inl t ↦ let is : number ≡ 3 = eqb-true _ _ t in
                  rw (n1, n2, t) (record { number_is = sym is; value_is = sym none; form = tt; killed = λ signal e. absurd cc })
              | inr n3 ↦
                  let is : number ≡ 4 = omega (arith, above, ltb-false _ _ high.0, eqb-false number 3 n3) in
                  rw (n1, n2, n3) (record { number_is = sym is; value_is = sym none; form = tt; killed = λ signal e. absurd cc })
            ]
      ]
    ]

record TakesEnd (before front : Front) (rest : List ℕ) (x : Record × List ℕ) : Type 0 where
  body : TakesBody front rest x
  killed : (signal : ℕ) → x.0.finish ≡ Some (Killed signal) → has_ended_turn before front.turn ≡ false

some_same : (a b : Finish) (o : Option Finish) → o ≡ Some a → o ≡ Some b → a ≡ b
some_same a b o ea eb = cc

end_takes : (before front : Front) (file : ℕ) (rest : List ℕ) (x : Record × List ℕ) → front.kind ≡ end_kind → IsBytes rest → end_at before front file rest ≡ Ok x → TakesEnd before front rest x
unfolding end_at
end_takes before front file rest x last fits e =
    let a = bind_ok (number_by (breaks_finish before front.turn) 1 file rest) (λ number. number_by (λ n. nat_lt 2 number.0 && not (n == 0)) 1 file number.1 >>= λ value. Ok (record { turn = front.turn; kind = front.kind; words = no_words; effects = []; finish = Some (finish_of number.0 value.0) }, value.1)) x e in
    let number = a.0 in
    let b = bind_ok (number_by (λ n. nat_lt 2 number.0 && not (n == 0)) 1 file number.1) (λ value. Ok (record { turn = front.turn; kind = front.kind; words = no_words; effects = []; finish = Some (finish_of number.0 value.0) }, value.1)) x a.2 in
    let value = b.0 in
    let ta = number_by_takes (breaks_finish before front.turn) 1 file rest number fits a.1 in
    let tb = number_by_takes (λ n. nat_lt 2 number.0 && not (n == 0)) 1 file number.1 value ta.takes.rest_fits b.1 in
    let f = finish_of number.0 value.0 in
    let is = named before front.turn number.0 value.0 ta.keeps tb.small tb.keeps in
    let first : Takes rest (big_bytes 1 (finish_number f)) number.1 = subst (λ (n : ℕ). Takes rest (big_bytes 1 n) number.1) (sym is.number_is) ta.takes in
    let second : Takes number.1 (big_bytes 1 (finish_value f)) value.1 = subst (λ (n : ℕ). Takes number.1 (big_bytes 1 n) value.1) (sym is.value_is) tb.takes in
    let both = Takes-then rest (big_bytes 1 (finish_number f)) number.1 (big_bytes 1 (finish_value f)) value.1 first second in
    let all : Takes rest (finish_text f) value.1 = subst (λ (t : List ℕ). Takes rest t value.1) (sym (finish_parts f)) both in
    let made : Record = record { turn = front.turn; kind = front.kind; words = no_words; effects = []; finish = Some f } in
    subst (TakesEnd before front rest) (ok_is (made, value.1) x b.2) (record {
      body = record { turn = refl; kind = refl; takes = all; form = (last, is.form, refl, refl) };
      killed = λ signal same. is.killed signal (some_same f (Killed signal) (Some f) refl same);
    })

finish_again : (f : Finish) → IsFinish f → finish_of (finish_number f) (finish_value f) ≡ f
finish_again (Exited status) form = refl
finish_again (Killed signal) form = refl
finish_again Budget form = refl
finish_again Blocked form = refl

finish_small : (f : Finish) → IsFinish f → (finish_number f ≤ 4) × (finish_value f < 256)
finish_small (Exited status) form = (omega arith, form)
finish_small (Killed signal) form = (omega arith, form)
finish_small Budget form = (omega arith, omega arith)
finish_small Blocked form = (omega arith, omega arith)

finish_keeps : (before : Front) (turn : ℕ) (f : Finish) → ((signal : ℕ) → f ≡ Killed signal → has_ended_turn before turn ≡ false) → breaks_finish before turn (finish_number f) ≡ false
finish_keeps before turn (Exited status) free = refl
finish_keeps before turn (Killed signal) free = free signal refl
finish_keeps before turn Budget free = refl
finish_keeps before turn Blocked free = refl

value_keeps : (f : Finish) → (nat_lt 2 (finish_number f) && not (finish_value f == 0)) ≡ false
value_keeps (Exited status) = refl
value_keeps (Killed signal) = refl
value_keeps Budget = refl
value_keeps Blocked = refl

end_again : (before : Front) (file turn kind : ℕ) (f : Finish) (rest : List ℕ) → IsFinish f → ((signal : ℕ) → f ≡ Killed signal → has_ended_turn before turn ≡ false)
    → end_at before (record { turn = turn; kind = kind }) file (finish_text f ++ rest) ≡ Ok (record { turn = turn; kind = kind; words = no_words; effects = []; finish = Some f }, rest)
unfolding end_at
end_again before file turn kind f rest form free =
    let n = finish_number f in
    let v = finish_value f in
    let regrouped : finish_text f ++ rest ≡ big_bytes 1 n ++ (big_bytes 1 v ++ rest) = ap (λ (t : List ℕ). t ++ rest) (finish_parts f) ∙ append_assoc (big_bytes 1 n) (big_bytes 1 v) rest in
    let small = finish_small f form in
    let one = number_by_again (breaks_finish before turn) 1 file n (big_bytes 1 v ++ rest) (omega (arith, small.0)) (finish_keeps before turn f free) in
    let two = number_by_again (λ m. nat_lt 2 n && not (m == 0)) 1 file v rest small.1 (value_keeps f) in
    ap (end_at before (record { turn = turn; kind = kind }) file) regrouped ∙ rw (one, two) (ap (λ (g : Finish). Ok (record { turn = turn; kind = kind; words = no_words; effects = []; finish = Some g }, rest)) (finish_again f form))

-- A record

pub record TakesRecord (before : Front) (rest : List ℕ) (x : Record × List ℕ) : Type 0 where
  pub takes : Takes rest (record_text x.0) x.1
  pub form : IsRecord x.0
  pub follows : Follows before x.0

no_finish : (kind : ℕ) (finish : Option Finish) (words : List ℕ) (effects : List Effect) (signal : ℕ) → IsBody kind finish words effects → kind < end_kind → finish ≡ Some (Killed signal) → ⊥
no_finish kind None words effects signal form below e = absurd cc
no_finish kind (Some finish) words effects signal form below e = absurd (omega (arith, form.0, below))

whole_record : (before : Front) (rest : List ℕ) (front : Front × List ℕ) (x : Record × List ℕ) → TakesFront before rest front → TakesBody front.0 front.1 x
    → ((signal : ℕ) → x.0.finish ≡ Some (Killed signal) → has_ended_turn before front.0.turn ≡ false) → TakesRecord before rest x
unfolding record_text
whole_record before rest front x f b killed =
    let body = body_text x.0.finish x.0.words x.0.effects in
    let parts = Takes-then rest (front_text front.0) front.1 body x.1 f.takes b.takes in
    let grouped : Takes rest (big_bytes 8 front.0.turn ++ (big_bytes 1 front.0.kind ++ body)) x.1 = subst (λ (t : List ℕ). Takes rest t x.1) (append_assoc (big_bytes 8 front.0.turn) (big_bytes 1 front.0.kind) body) parts in
    let P : ℕ → ℕ → Type 0 = λ turn kind. Takes rest (big_bytes 8 turn ++ (big_bytes 1 kind ++ body)) x.1 in
    let turned = subst (λ (n : ℕ). P n front.0.kind) (sym b.turn) grouped in
    let all = subst (P x.0.turn) (sym b.kind) turned in
    record {
      takes = all;
      form = record {
        turn = omega (arith, b.turn, f.turn);
        zero = λ z. b.kind ∙ f.zero (sym b.turn ∙ z);
        body = b.form;
      };
      follows = record {
        turn = omega (arith, b.turn, f.rises);
        kind = λ same. subst (λ (k : ℕ). follows_in_turn before.kind k ≡ true) (sym b.kind) (f.order (sym b.turn ∙ same));
        killed = λ signal is. subst (λ (t : ℕ). has_ended_turn before t ≡ false) (sym b.turn) (killed signal is);
      };
    }

pub record_takes : (before : Front) (file : ℕ) (rest : List ℕ) (x : Record × List ℕ) → IsBytes rest → record_at before file rest ≡ Ok x → TakesRecord before rest x
unfolding record_at
record_takes before file rest x fits e =
    let a = bind_ok (front_at before file rest) (λ front. if front.0.kind == end_kind then end_at before front.0 file front.1 else changes_at front.0 file front.1) x e in
    let front = a.0 in
    let f = front_takes before file rest front fits a.1 in
    elim (cases_Bool (front.0.kind == end_kind)) [
      | inl t ↦
          let read : end_at before front.0 file front.1 ≡ Ok x = rw t at a.2 in
          let b = end_takes before front.0 file front.1 x (eqb-true _ _ t) f.takes.rest_fits read in
          whole_record before rest front x f b.body b.killed
      | inr n ↦
          let read : changes_at front.0 file front.1 ≡ Ok x = rw n at a.2 in
          let below : front.0.kind < end_kind = omega (arith, f.high, eqb-false _ _ n) in
          let b = changes_take front.0 file front.1 x f.low below f.takes.rest_fits read in
          whole_record before rest front x f b (λ signal is. absurd (no_finish x.0.kind x.0.finish x.0.words x.0.effects signal b.form (omega (arith, b.kind, below)) is))
    ]

kind_known : (kind : ℕ) (finish : Option Finish) (words : List ℕ) (effects : List Effect) → IsBody kind finish words effects → (1 ≤ kind) × (kind ≤ end_kind)
kind_known kind None words effects form = (form.0, omega (arith, form.1))
kind_known kind (Some finish) words effects form = (omega (arith, form.0), omega (arith, form.0))

-- what stands behind the front of a record
abbrev body_at : Front → Front → ℕ → List ℕ → Result (Record × List ℕ) ℕ
body_at before front file rest = if front.kind == end_kind then end_at before front file rest else changes_at front file rest

not_end : (kind : ℕ) → kind < end_kind → (kind == end_kind) ≡ false
not_end kind below = false_from_ne_true _ (λ e. let is : kind ≡ end_kind = eqb-true _ _ e in omega (arith, is, below))

body_again : (before : Front) (file turn kind : ℕ) (finish : Option Finish) (words : List ℕ) (effects : List Effect) (rest : List ℕ) → IsBody kind finish words effects
    → ((signal : ℕ) → finish ≡ Some (Killed signal) → has_ended_turn before turn ≡ false)
    → body_at before (record { turn = turn; kind = kind }) file (body_text finish words effects ++ rest) ≡ Ok (record { turn = turn; kind = kind; words = words; effects = effects; finish = finish }, rest)
body_again before file turn kind None words effects rest form free =
    let other = not_end kind form.1 in
    rw other (changes_again file turn kind words effects rest form)
body_again before file turn kind (Some finish) words effects rest form free =
    let last : (kind == end_kind) ≡ true = eq-eqb _ _ form.0 in
    rw (last, form.2, form.3) (end_again before file turn kind finish rest form.1 (λ signal e. free signal (ap (λ (f : Finish). Some f) e)))

pub record_again : (before : Front) (file : ℕ) (x : Record) (rest : List ℕ) → IsRecord x → Follows before x → record_at before file (record_text x ++ rest) ≡ Ok (x, rest)
unfolding record_at record_text
record_again before file x rest form follows =
    let body = body_text x.finish x.words x.effects in
    let regrouped : (big_bytes 8 x.turn ++ (big_bytes 1 x.kind ++ body)) ++ rest ≡ big_bytes 8 x.turn ++ (big_bytes 1 x.kind ++ (body ++ rest)) =
    append_assoc (big_bytes 8 x.turn) (big_bytes 1 x.kind ++ body) rest ∙ ap (λ (t : List ℕ). big_bytes 8 x.turn ++ t) (append_assoc (big_bytes 1 x.kind) body rest) in
    let known = kind_known x.kind x.finish x.words x.effects form.body in
    let one = front_again before file x.turn x.kind (body ++ rest) form.turn form.zero follows.turn known.0 known.1 follows.kind in
    let two = body_again before file x.turn x.kind x.finish x.words x.effects rest form.body follows.killed in
    ap (record_at before file) regrouped ∙ rw one two

-- Records up to the end

ended_ok : (x : Record) (file : ℕ) (rest : List ℕ) (got : List Record) → ended x file rest ≡ Ok got → (rest ≡ []) × (got ≡ x ∷ [])
ended_ok x file [] got e = (refl, cc)
ended_ok x file (byte ∷ rest) got e = absurd cc

one_record : (before : Front) (bytes : List ℕ) (x : Record × List ℕ) → TakesRecord before bytes x → x.1 ≡ [] → bytes ≡ flat_map record_text (x.0 ∷ [])
one_record before bytes x t none = t.takes.parts ∙ (ap (λ (r : List ℕ). record_text x.0 ++ r) none ∙ sym (flat_map-cons record_text x.0 []))

more_records : (before : Front) (x : Record) (left : List Record) → IsRecord x → Follows before x → x.kind < end_kind → AreRecords (front_of x) left → AreRecords before (x ∷ left)
more_records before x [] form follows below are = absurd are
more_records before x (next ∷ left) form follows below are = (form, follows, below, are)

kind_high : (x : Record) → IsRecord x → x.kind ≤ end_kind
kind_high x form = (kind_known x.kind x.finish x.words x.effects form.body).1

pub records_take : (more : ℕ) (before : Front) (file : ℕ) (bytes : List ℕ) (got : List Record) → IsBytes bytes → records_at more before file bytes ≡ Ok got
    → (bytes ≡ flat_map record_text got) × AreRecords before got
unfolding records_at
records_take zero before file bytes got fits e = absurd cc
records_take (suc more) before file bytes got fits e =
    let a = bind_ok (record_at before file bytes) (λ next. if next.0.kind == end_kind then ended next.0 file next.1 else (records_at more (front_of next.0) file next.1 >>= λ others. Ok (next.0 ∷ others))) got e in
    let x = a.0 in
    let t = record_takes before file bytes x fits a.1 in
    elim (cases_Bool (x.0.kind == end_kind)) [
      | inl last ↦
          let read : ended x.0 file x.1 ≡ Ok got = rw last at a.2 in
          let o = ended_ok x.0 file x.1 got read in
          let P : List Record → Type 0 = λ rs. (bytes ≡ flat_map record_text rs) × AreRecords before rs in
          subst P (sym o.1) (one_record before bytes x t o.0, (t.form, t.follows, eqb-true _ _ last))
      | inr other ↦
          let read : (records_at more (front_of x.0) file x.1 >>= λ others. Ok (x.0 ∷ others)) ≡ Ok got = rw other at a.2 in
          let b = bind_ok (records_at more (front_of x.0) file x.1) (λ others. Ok (x.0 ∷ others)) got read in
          let r = records_take more (front_of x.0) file x.1 b.0 t.takes.rest_fits b.1 in
          let below : x.0.kind < end_kind = omega (arith, kind_high x.0 t.form, eqb-false _ _ other) in
          let text : bytes ≡ flat_map record_text (x.0 ∷ b.0) = t.takes.parts ∙ (ap (λ (s : List ℕ). record_text x.0 ++ s) r.0 ∙ sym (flat_map-cons record_text x.0 b.0)) in
          let P : List Record → Type 0 = λ rs. (bytes ≡ flat_map record_text rs) × AreRecords before rs in
          subst P (ok_is (x.0 ∷ b.0) got b.2) (text, more_records before x.0 b.0 t.form t.follows below r.1)
    ]

pub records_again : (more : ℕ) (before : Front) (file : ℕ) (records : List Record) → AreRecords before records → length records ≤ more → records_at more before file (flat_map record_text records) ≡ Ok records
unfolding records_at
records_again more before file [] are few = absurd are
records_again zero before file (x ∷ left) are few = absurd (omega (arith, few))
records_again (suc more) before file (x ∷ []) are few =
    let text : flat_map record_text (x ∷ []) ≡ record_text x ++ [] = flat_map-cons record_text x [] in
    let one = record_again before file x [] are.0 are.1 in
    let last : (x.kind == end_kind) ≡ true = eq-eqb _ _ are.2 in
    ap (records_at (suc more) before file) text ∙ rw (one, last) refl
records_again (suc more) before file (x ∷ next ∷ left) are few =
    let text : flat_map record_text (x ∷ next ∷ left) ≡ record_text x ++ flat_map record_text (next ∷ left) = flat_map-cons record_text x (next ∷ left) in
    let one = record_again before file x (flat_map record_text (next ∷ left)) are.0 are.1 in
    let other = not_end x.kind are.2 in
    let others = records_again more (front_of x) file (next ∷ left) are.3 (omega (arith, few)) in
    ap (records_at (suc more) before file) text ∙ rw (one, other, others) refl

-- a record takes a byte at least
record_long : (x : Record) → 1 ≤ length (record_text x)
unfolding record_text
record_long x =
    let body = body_text x.finish x.words x.effects in
    omega (arith, length-append (big_bytes 8 x.turn) (big_bytes 1 x.kind ++ body), length-bytes_high_first 8 x.turn)

pub records_long : (records : List Record) → length records ≤ length (flat_map record_text records)
records_long [] = omega arith
records_long (x ∷ records) =
    let text : length (flat_map record_text (x ∷ records)) ≡ length (record_text x ++ flat_map record_text records) = ap length (flat_map-cons record_text x records) in
    omega (arith, text, length-append (record_text x) (flat_map record_text records), record_long x, records_long records)
