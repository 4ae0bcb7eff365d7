-- What the writers and readers of frames rest on, over plain values.
use Rattle.std.proofs.Common.{◌≡◌, ℕ, zero, suc, ◌+◌, ◌/◌, ◌<◌, ◌≤◌, Bool, true, false, List, [], ◌∷◌, ◌++◌, length, map, take, drop, get_or, ℤ, pos, Option, Some, None, refl, sym, ap, ◌∙◌, arith, append_assoc}
use Rattle.std.specs.Prelude.{nat_le, if◌then◌else◌}
use Rattle.std.specs.FinMap.{get}
use Rattle.std.specs.Prelude.{bit_and, Ok, Err}
use Rattle.std.proofs.lemmas.Bool.{leb-false}
use Rattle.std.proofs.lemmas.List.{take_all, drop-map, ext_get_or, get_or-drop, get_or-take, get_or-map, length-map, length-drop, length-take}
use Rattle.guest_space.specs.declared.access.Denied.{Denied}
use Rattle.layouts.specs.Number.{low_number}
use Rattle.layouts.specs.Frames.{sign_extended, returned_mask, context_of, stack_of}
use Rattle.mips_exec.specs.Processor.{Processor}
use Rattle.signal_frames.specs.declared.AltStack.{AltStack}
use Rattle.signal_frames.specs.Returning.{shown_stack, returned}
use Rattle.guest_space.specs.Access.{user_end, page_refusal, refusal, denied_or, first_denied, unless_denied}
use Rattle.guest_space.specs.declared.access.Access.TheVariants.{Store, Load}
use Rattle.guest_space.specs.declared.access.Why.TheVariants.{Beyond}
use Rattle.guest_space.specs.Memory.{Pages}
use Rattle.layouts.specs.Shape.{Shape, are_in_range, record_bytes, after_put_record}

-- where no byte is denied, the first lies in user space
pub within_user_space : (pages : Pages) (address count : ℕ) → 0 < count → first_denied Store pages address count ≡ None → address < user_end
unfolding first_denied refusal
within_user_space pages address zero some none = absurd (omega arith)
within_user_space pages address (suc count) some none =
    elim (nat_le user_end address) as (λ b. nat_le user_end address ≡ b → denied_or address (if b then Some Beyond else page_refusal Store (get pages (address / 4096))) (first_denied Store pages (address + 1) count) ≡ None → address < user_end) [
      | true ↦ λ past denied. absurd (cc)
      | false ↦ λ within denied. leb-false _ _ within
    ] refl none

-- values of their fields' ranges are written
pub written-in_range : (shape : Shape) (values : List ℤ) (bytes left : List ℕ) → are_in_range shape.fields values ≡ true → left ≡ after_put_record shape values bytes → left ≡ record_bytes shape values
written-in_range shape values bytes left within is =
    is ∙ ap (λ (b : Bool). if b then record_bytes shape values else bytes) within

-- the values of a context, added one after another
pub context-pushed : (old first looped second last : List ℤ) (registers : List ℕ) (place : ℕ) (one two three pc hi lo : ℤ) → first ≡ old ++ one ∷ [] → looped ≡ first ++ map sign_extended (take place registers) → length registers ≤ place → second ≡ looped ++ two ∷ [] → last ≡ second ++ three ∷ [] → one ≡ pc → two ≡ hi → three ≡ lo → last ≡ old ++ (pc ∷ map sign_extended registers ++ hi ∷ lo ∷ [])
context-pushed old first looped second last registers place one two three pc hi lo is_first is_looped whole is_second is_last is_pc is_hi is_lo =
    let all : take place registers ≡ registers = take_all place registers whole in
    let regs : List ℤ = map sign_extended registers in
    let grouped : (((old ++ pc ∷ []) ++ regs) ++ hi ∷ []) ++ lo ∷ [] ≡ old ++ ((pc ∷ regs) ++ hi ∷ lo ∷ []) = simp append_assoc in
    let step : last ≡ (((old ++ pc ∷ []) ++ regs) ++ hi ∷ []) ++ lo ∷ [] = rw (is_last, is_second, is_looped, is_first, all, is_pc, is_hi, is_lo) refl in
    step ∙ grouped

-- the words of a mask, of an alternate stack and of a context, each the low word of a value
mask-words-of : (a b c d : ℕ) (w x y z : ℤ) → a ≡ low_number 4 w → b ≡ low_number 4 x → c ≡ low_number 4 y → d ≡ low_number 4 z → bit_and a 4290772735 ∷ b ∷ c ∷ d ∷ [] ≡ returned_mask (map (low_number 4) (w ∷ x ∷ y ∷ z ∷ []))
mask-words-of a b c d w x y z is_a is_b is_c is_d = rw (is_a, is_b, is_c, is_d) refl

pub mask-words : (words : List ℤ) (a b c d : ℕ) → length words ≡ 4 → a ≡ low_number 4 (get_or words 0 (pos 0)) → b ≡ low_number 4 (get_or words 1 (pos 0)) → c ≡ low_number 4 (get_or words 2 (pos 0)) → d ≡ low_number 4 (get_or words 3 (pos 0)) → bit_and a 4290772735 ∷ b ∷ c ∷ d ∷ [] ≡ returned_mask (map (low_number 4) words)
mask-words [] a b c d count is_a is_b is_c is_d = absurd (omega arith)
mask-words (w ∷ []) a b c d count is_a is_b is_c is_d = absurd (omega arith)
mask-words (w ∷ x ∷ []) a b c d count is_a is_b is_c is_d = absurd (omega arith)
mask-words (w ∷ x ∷ y ∷ []) a b c d count is_a is_b is_c is_d = absurd (omega arith)
mask-words (w ∷ x ∷ y ∷ z ∷ v ∷ more) a b c d count is_a is_b is_c is_d = absurd (omega arith)
mask-words (w ∷ x ∷ y ∷ z ∷ []) a b c d count is_a is_b is_c is_d = mask-words-of a b c d w x y z is_a is_b is_c is_d

word-at : (words : List ℤ) (place : ℕ) → place < length words → get_or (map (low_number 4) words) place 0 ≡ low_number 4 (get_or words place (pos 0))
word-at words place below = get_or-map (low_number 4) words place (pos 0) 0 below

pub stack-words : (words : List ℤ) (sp size flags : ℕ) → 3 ≤ length words → sp ≡ low_number 4 (get_or words 0 (pos 0)) → size ≡ low_number 4 (get_or words 1 (pos 0)) → flags ≡ low_number 4 (get_or words 2 (pos 0)) → record { sp = sp; size = size; flags = flags } ≡ shown_stack (stack_of (map (low_number 4) words))
stack-words words sp size flags count is_sp is_size is_flags =
    let F : ℕ → ℕ → ℕ → AltStack = λ a b c. record { sp = a; size = b; flags = c } in
    ap (λ (a : ℕ). F a size flags) (is_sp ∙ sym (word-at words 0 (omega arith)))
    ∙ ap (λ (b : ℕ). F (get_or (map (low_number 4) words) 0 0) b flags) (is_size ∙ sym (word-at words 1 (omega arith)))
    ∙ ap (λ (c : ℕ). F (get_or (map (low_number 4) words) 0 0) (get_or (map (low_number 4) words) 1 0) c) (is_flags ∙ sym (word-at words 2 (omega arith)))

-- register 0, and registers 1 to 31 of the words
register-words : (words : List ℤ) (registers : List ℕ) → 35 ≤ length words → length registers ≡ 32 → get_or registers 0 0 ≡ 0 → ((k : ℕ) → 1 ≤ k → k < 32 → get_or registers k 0 ≡ low_number 4 (get_or words (k + 1) (pos 0))) → registers ≡ 0 ∷ drop 1 (take 32 (drop 1 (map (low_number 4) words)))
register-words words registers enough count none each =
    let numbers : List ℕ = map (low_number 4) words in
    let long : length numbers ≡ length words = length-map words (low_number 4) in
    let kept : length (drop 1 (take 32 (drop 1 numbers))) ≡ 31 = omega (arith, length-drop 1 (take 32 (drop 1 numbers)), length-take 32 (drop 1 numbers), length-drop 1 numbers) in
    ext_get_or 0 registers (0 ∷ drop 1 (take 32 (drop 1 numbers))) (omega arith) (at numbers)
  where
    at : (numbers : List ℕ) → (k : ℕ) → k < length registers → get_or registers k 0 ≡ get_or (0 ∷ drop 1 (take 32 (drop 1 (map (low_number 4) words)))) k 0
    at numbers zero below = none
    at numbers (suc k) below =
        each (suc k) (omega arith) (omega arith)
        ∙ sym (word-at words (suc k + 1) (omega arith))
        ∙ ap (λ (place : ℕ). get_or (map (low_number 4) words) place 0) (omega arith)
        ∙ sym (get_or-drop 1 (map (low_number 4) words) (1 + k) 0)
        ∙ sym (get_or-take 32 (drop 1 (map (low_number 4) words)) (1 + k) 0 (omega arith))
        ∙ sym (get_or-drop 1 (take 32 (drop 1 (map (low_number 4) words))) k 0)

pub returned-words : (p : Processor) (words : List ℤ) (registers : List ℕ) (hi lo pc : ℕ) → 35 ≤ length words → length registers ≡ 32 → get_or registers 0 0 ≡ 0 → ((k : ℕ) → 1 ≤ k → k < 32 → get_or registers k 0 ≡ low_number 4 (get_or words (k + 1) (pos 0))) → pc ≡ low_number 4 (get_or words 0 (pos 0)) → hi ≡ low_number 4 (get_or words 33 (pos 0)) → lo ≡ low_number 4 (get_or words 34 (pos 0)) → record p { registers = registers; hi = hi; lo = lo; pc = pc } ≡ returned p (context_of (map (low_number 4) words))
returned-words p words registers hi lo pc enough count none each is_pc is_hi is_lo =
    let numbers : List ℕ = map (low_number 4) words in
    let all : registers ≡ 0 ∷ drop 1 (take 32 (drop 1 numbers)) = register-words words registers enough count none each in
    let upper : hi ≡ get_or numbers 33 0 = is_hi ∙ sym (word-at words 33 (omega arith)) in
    let lower : lo ≡ get_or numbers 34 0 = is_lo ∙ sym (word-at words 34 (omega arith)) in
    let first : pc ≡ get_or numbers 0 0 = is_pc ∙ sym (word-at words 0 (omega arith)) in
    let F : List ℕ → ℕ → ℕ → ℕ → Processor = λ a b c d. record p { registers = a; hi = b; lo = c; pc = d } in
    ap (λ (a : List ℕ). F a hi lo pc) all
    ∙ ap (λ (b : ℕ). F (0 ∷ drop 1 (take 32 (drop 1 numbers))) b lo pc) upper
    ∙ ap (λ (c : ℕ). F (0 ∷ drop 1 (take 32 (drop 1 numbers))) (get_or numbers 33 0) c pc) lower
    ∙ ap (λ (d : ℕ). F (0 ∷ drop 1 (take 32 (drop 1 numbers))) (get_or numbers 33 0) (get_or numbers 34 0) d) first

-- the words behind some values
pub drop-words : (n : ℕ) (values : List ℤ) → map (low_number 4) (drop n values) ≡ drop n (map (low_number 4) values)
drop-words n values = sym (drop-map (low_number 4) n values)

-- an answer for a frame that could be loaded
unless-ok : {T : Type 0} (denied : Option Denied) (u : Unit {0}) (value meant : T) → value ≡ meant → Ok u ≡ unless_denied denied tt → Ok value ≡ unless_denied denied meant
unless-ok None u value meant same answered = ap (λ x. Ok x) same
unless-ok (Some d) u value meant same answered = absurd (cc)

pub read-answer : {T : Type 0} (pages : Pages) (at start count : ℕ) (u : Unit {0}) (value meant : T) → at ≡ start → value ≡ meant → Ok u ≡ unless_denied (first_denied Load pages at count) tt → Ok value ≡ unless_denied (first_denied Load pages start count) meant
read-answer pages at start count u value meant there same answered =
    unless-ok (first_denied Load pages at count) u value meant same answered
    ∙ ap (λ (a : ℕ). unless_denied (first_denied Load pages a count) meant) there

unless-err : {T : Type 0} (denied : Option Denied) (d : Denied) (meant : T) → Err d ≡ unless_denied {T = Unit {0}} denied tt → unless_denied denied meant ≡ Err d
unless-err None d meant answered = absurd (cc)
unless-err (Some e) d meant answered =
    let same : e ≡ d = cc in
    ap (λ x. Err x) same

pub read-denied : {T : Type 0} (pages : Pages) (at start count : ℕ) (d : Denied) (meant : T) → at ≡ start → Err d ≡ unless_denied {T = Unit {0}} (first_denied Load pages at count) tt → unless_denied (first_denied Load pages start count) meant ≡ Err d
read-denied pages at start count d meant there answered =
    ap (λ (a : ℕ). unless_denied (first_denied Load pages a count) meant) (sym there)
    ∙ unless-err (first_denied Load pages at count) d meant answered
