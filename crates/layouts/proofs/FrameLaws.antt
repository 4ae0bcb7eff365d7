-- The values of a frame are in their fields' ranges, and a frame reads back.
use Rattle.std.proofs.Common.{◌≡◌, ℕ, zero, suc, ◌+◌, ◌-◌, ◌*◌, ◌/◌, ◌^◌, ◌<◌, ◌≤◌, Bool, true, false, List, [], ◌∷◌, ◌++◌, length, map, take, drop, get_or, ℤ, pos, refl, sym, ap, subst, ◌∙◌, arith, All, length-append, append_assoc}
use Rattle.std.specs.Prelude.{negsuc, ◌-ℤ◌, ◌&&◌, nat_lt, ◌==◌, if◌then◌else◌}
use Rattle.std.proofs.lemmas.Bool.{ltb-true, ltb-false, lt-ltb}
use Rattle.std.proofs.lemmas.Int.{ints}
use Rattle.std.proofs.lemmas.List.{length-map}
use Rattle.layouts.specs.declared.field.Field.{Field}
use Rattle.layouts.specs.Number.{half, value_of, is_in_range}
use Rattle.layouts.specs.Shape.{word, double, signed, row, moved, are_in_range}
use Rattle.layouts.specs.O32.{signed_double, stack, siginfo, siginfo_fault, sigcontext, ucontext, frame, rt_frame_of}
use Rattle.layouts.specs.Frames.{IsWord, Context, IsContext, IsMask, AlternateStack, IsAlternateStack, Information, IsInformation, sign_extended, context_values, stack_values, siginfo_of, siginfo_values}

and_both : (a b : Bool) → a ≡ true → b ≡ true → (a && b) ≡ true
and_both true b first second = second
and_both false b first second = cc

-- the fields of two parts, and those of a part that lies elsewhere
are_in_range-append : (fields more : List Field) (values others : List ℤ) → length values ≡ length fields → are_in_range fields values ≡ true → are_in_range more others ≡ true → are_in_range (fields ++ more) (values ++ others) ≡ true
are_in_range-append [] more [] others count first second = second
are_in_range-append [] more (value ∷ values) others count first second = absurd (omega arith)
are_in_range-append (field ∷ fields) more [] others count first second = absurd (omega arith)
are_in_range-append (field ∷ fields) more (value ∷ values) others count first second =
    let parts = both (is_in_range field.signed field.width value) (are_in_range fields values) first in
    and_both (is_in_range field.signed field.width value) (are_in_range (fields ++ more) (values ++ others)) parts.0
    (are_in_range-append fields more values others (omega arith) parts.1 second)
  where
    both : (a b : Bool) → (a && b) ≡ true → (a ≡ true) × (b ≡ true)
    both true b holds = (refl, holds)
    both false b holds = cc

are_in_range-moved : (by : ℕ) (fields : List Field) (values : List ℤ) → are_in_range (moved by fields) values ≡ are_in_range fields values
are_in_range-moved by [] values = refl
are_in_range-moved by (field ∷ fields) [] = refl
are_in_range-moved by (field ∷ fields) (value ∷ values) =
    ap (λ (b : Bool). is_in_range field.signed field.width value && b) (are_in_range-moved by fields values)

word_in_range : (number : ℕ) → IsWord number → is_in_range false 4 (pos number) ≡ true
word_in_range number small = lt-ltb number (256 ^ 4) small

sign_extended-in_range : (number : ℕ) → IsWord number → is_in_range true 8 (sign_extended number) ≡ true
sign_extended-in_range number small =
    elim (nat_lt number (half 4)) as (λ b. nat_lt number (half 4) ≡ b → is_in_range true 8 (if b then pos number else pos number -ℤ pos (256 ^ 4)) ≡ true) [
      | true ↦ λ low.
          let below : number < half 4 = ltb-true number (half 4) low in
          lt-ltb number (half 8) (omega arith)
      | false ↦ λ high.
          let negative : pos number -ℤ pos (256 ^ 4) ≡ negsuc (256 ^ 4 - suc number) = omega (arith, ints) in
          rw negative (lt-ltb (256 ^ 4 - suc number) (half 8) (omega arith))
    ] refl

tail_words : (number : ℕ) (words : List ℕ) → All IsWord (number ∷ words) → All IsWord words
tail_words number words all = λ k d below. all (suc k) d (omega arith)

head_word : (number : ℕ) (words : List ℕ) → All IsWord (number ∷ words) → IsWord number
head_word number words all = all 0 0 (omega arith)

registers_in_range : (count offset : ℕ) (words : List ℕ) → length words ≡ count → All IsWord words → are_in_range (row signed_double count offset) (map sign_extended words) ≡ true
registers_in_range zero offset words whole all = refl
registers_in_range (suc count) offset [] whole all = refl
registers_in_range (suc count) offset (number ∷ words) whole all =
    and_both (is_in_range true 8 (sign_extended number)) (are_in_range (row signed_double count (offset + 8)) (map sign_extended words))
    (sign_extended-in_range number (head_word number words all))
    (registers_in_range count (offset + 8) words (omega arith) (tail_words number words all))

words_in_range : (count offset : ℕ) (words : List ℕ) → length words ≡ count → All IsWord words → are_in_range (row word count offset) (map pos words) ≡ true
words_in_range zero offset words whole all = refl
words_in_range (suc count) offset [] whole all = refl
words_in_range (suc count) offset (number ∷ words) whole all =
    and_both (is_in_range false 4 (pos number)) (are_in_range (row word count (offset + 4)) (map pos words))
    (word_in_range number (head_word number words all))
    (words_in_range count (offset + 4) words (omega arith) (tail_words number words all))

last_in_range : (context : Context) → IsContext context → are_in_range (signed_double 552 ∷ signed_double 560 ∷ []) (sign_extended context.hi ∷ sign_extended context.lo ∷ []) ≡ true
last_in_range context valid =
    and_both (is_in_range true 8 (sign_extended context.hi)) (are_in_range (signed_double 560 ∷ []) (sign_extended context.lo ∷ []))
    (sign_extended-in_range context.hi valid.hi)
    (and_both (is_in_range true 8 (sign_extended context.lo)) (are_in_range [] []) (sign_extended-in_range context.lo valid.lo) refl)

length-context_values : (context : Context) → IsContext context → length (context_values context) ≡ 35
length-context_values context valid =
    let registers : length (map sign_extended context.registers) ≡ 32 = length-map context.registers sign_extended ∙ valid.count in
    omega (arith, length-append (sign_extended context.pc ∷ map sign_extended context.registers) (sign_extended context.hi ∷ sign_extended context.lo ∷ []))

context_in_range : (context : Context) → IsContext context → are_in_range sigcontext.fields (context_values context) ≡ true
context_in_range context valid =
    let registers : length (map sign_extended context.registers) ≡ 32 = length-map context.registers sign_extended ∙ valid.count in
    let first : are_in_range (signed_double 8 ∷ row signed_double 32 16) (sign_extended context.pc ∷ map sign_extended context.registers) ≡ true =
    and_both (is_in_range true 8 (sign_extended context.pc)) (are_in_range (row signed_double 32 16) (map sign_extended context.registers))
    (sign_extended-in_range context.pc valid.pc) (registers_in_range 32 16 context.registers valid.count valid.registers) in
    are_in_range-append (signed_double 8 ∷ row signed_double 32 16) (signed_double 552 ∷ signed_double 560 ∷ []) (sign_extended context.pc ∷ map sign_extended context.registers) (sign_extended context.hi ∷ sign_extended context.lo ∷ []) (omega arith) first (last_in_range context valid)

-- the values of a frame without siginfo
pub frame_in_range : (context : Context) (mask : List ℕ) → IsContext context → IsMask mask → are_in_range frame.fields (context_values context ++ map pos mask) ≡ true
frame_in_range context mask valid words =
    are_in_range-append (moved 24 sigcontext.fields) (row word 4 616) (context_values context) (map pos mask) (length-context_values context valid)
    (are_in_range-moved 24 sigcontext.fields (context_values context) ∙ context_in_range context valid)
    (words_in_range 4 616 mask words.count words.words)

pub length-frame_values : (context : Context) (mask : List ℕ) → IsContext context → IsMask mask → length (context_values context ++ map pos mask) ≡ 39
length-frame_values context mask valid words =
    omega (arith, length-append (context_values context) (map pos mask), length-context_values context valid, length-map mask pos, words.count)

stack_in_range : (shown : AlternateStack) → IsAlternateStack shown → are_in_range stack.fields (stack_values shown) ≡ true
stack_in_range shown valid =
    and_both (is_in_range false 4 (pos shown.sp)) (are_in_range (word 4 ∷ word 8 ∷ []) (pos shown.size ∷ pos shown.flags ∷ [])) (word_in_range shown.sp valid.sp)
    (and_both (is_in_range false 4 (pos shown.size)) (are_in_range (word 8 ∷ []) (pos shown.flags ∷ [])) (word_in_range shown.size valid.size)
    (and_both (is_in_range false 4 (pos shown.flags)) (are_in_range [] []) (word_in_range shown.flags valid.flags) refl))

sent_in_range : (info : Information) → IsInformation info → are_in_range (word 12 ∷ word 16 ∷ word 20 ∷ []) (pos info.pid ∷ pos info.uid ∷ pos info.value ∷ []) ≡ true
sent_in_range info valid =
    and_both (is_in_range false 4 (pos info.pid)) (are_in_range (word 16 ∷ word 20 ∷ []) (pos info.uid ∷ pos info.value ∷ [])) (word_in_range info.pid valid.pid)
    (and_both (is_in_range false 4 (pos info.uid)) (are_in_range (word 20 ∷ []) (pos info.value ∷ [])) (word_in_range info.uid valid.uid)
    (and_both (is_in_range false 4 (pos info.value)) (are_in_range [] []) (word_in_range info.value valid.value) refl))

fault_in_range : (info : Information) → IsInformation info → are_in_range (word 12 ∷ []) (pos info.address ∷ []) ≡ true
fault_in_range info valid = and_both (is_in_range false 4 (pos info.address)) (are_in_range [] []) (word_in_range info.address valid.address) refl

first_in_range : (info : Information) (fields : List Field) (values : List ℤ) → IsInformation info → are_in_range fields values ≡ true → are_in_range (signed (word 0) ∷ signed (word 4) ∷ signed (word 8) ∷ fields) (pos info.signo ∷ info.code ∷ info.errno ∷ values) ≡ true
first_in_range info fields values valid rest =
    let small : info.signo ≤ 128 = valid.signo in
    and_both (is_in_range true 4 (pos info.signo)) (are_in_range (signed (word 4) ∷ signed (word 8) ∷ fields) (info.code ∷ info.errno ∷ values)) (lt-ltb info.signo (half 4) (omega arith))
    (and_both (is_in_range true 4 info.code) (are_in_range (signed (word 8) ∷ fields) (info.errno ∷ values)) valid.code
    (and_both (is_in_range true 4 info.errno) (are_in_range fields values) valid.errno rest))

info_in_range : (info : Information) → IsInformation info → are_in_range (siginfo_of info).fields (siginfo_values info) ≡ true
info_in_range info valid =
    elim (info.address == 0) as (λ b. are_in_range (if b then siginfo else siginfo_fault).fields (pos info.signo ∷ info.code ∷ info.errno ∷ (if b then pos info.pid ∷ pos info.uid ∷ pos info.value ∷ [] else pos info.address ∷ [])) ≡ true) [
      | true ↦ first_in_range info (word 12 ∷ word 16 ∷ word 20 ∷ []) (pos info.pid ∷ pos info.uid ∷ pos info.value ∷ []) valid (sent_in_range info valid)
      | false ↦ first_in_range info (word 12 ∷ []) (pos info.address ∷ []) valid (fault_in_range info valid)
    ]

length-siginfo_values : (info : Information) → length (siginfo_values info) ≡ length (siginfo_of info).fields
length-siginfo_values info =
    elim (info.address == 0) as (λ b. length (pos info.signo ∷ info.code ∷ info.errno ∷ (if b then pos info.pid ∷ pos info.uid ∷ pos info.value ∷ [] else pos info.address ∷ [])) ≡ length (if b then siginfo else siginfo_fault).fields) [
      | true ↦ refl
      | false ↦ refl
    ]

ucontext_in_range : (shown : AlternateStack) (context : Context) (mask : List ℕ) → IsAlternateStack shown → IsContext context → IsMask mask → are_in_range ucontext.fields (stack_values shown ++ context_values context ++ map pos mask) ≡ true
ucontext_in_range shown context mask valid_stack valid words =
    let front : length (stack_values shown ++ context_values context) ≡ 38 = omega (arith, length-append (stack_values shown) (context_values context), length-context_values context valid) in
    are_in_range-append (moved 8 stack.fields ++ moved 24 sigcontext.fields) (row word 4 616) (stack_values shown ++ context_values context) (map pos mask) front
    (are_in_range-append (moved 8 stack.fields) (moved 24 sigcontext.fields) (stack_values shown) (context_values context) refl
    (are_in_range-moved 8 stack.fields (stack_values shown) ∙ stack_in_range shown valid_stack)
    (are_in_range-moved 24 sigcontext.fields (context_values context) ∙ context_in_range context valid))
    (words_in_range 4 616 mask words.count words.words)

regrouped : (info shown context mask : List ℤ) → info ++ shown ++ context ++ mask ≡ info ++ (shown ++ context ++ mask)
regrouped info shown context mask =
    append_assoc (info ++ shown) context mask ∙ append_assoc info shown (context ++ mask) ∙ ap (λ (more : List ℤ). info ++ more) (sym (append_assoc shown context mask))

-- the values of a frame with siginfo
pub rt_frame_in_range : (info : Information) (shown : AlternateStack) (context : Context) (mask : List ℕ) → IsInformation info → IsAlternateStack shown → IsContext context → IsMask mask → are_in_range (rt_frame_of (siginfo_of info)).fields (siginfo_values info ++ stack_values shown ++ context_values context ++ map pos mask) ≡ true
rt_frame_in_range info shown context mask valid_info valid_stack valid words =
    let length_of : length (siginfo_values info) ≡ length (moved 24 (siginfo_of info).fields) =
    length-siginfo_values info ∙ sym (length-map (siginfo_of info).fields (λ (field : Field). record field { offset = field.offset + 24 })) in
    ap (are_in_range (rt_frame_of (siginfo_of info)).fields) (regrouped (siginfo_values info) (stack_values shown) (context_values context) (map pos mask))
    ∙ are_in_range-append (moved 24 (siginfo_of info).fields) (moved 152 ucontext.fields) (siginfo_values info) (stack_values shown ++ context_values context ++ map pos mask) length_of
    (are_in_range-moved 24 (siginfo_of info).fields (siginfo_values info) ∙ info_in_range info valid_info)
    (are_in_range-moved 152 ucontext.fields (stack_values shown ++ context_values context ++ map pos mask) ∙ ucontext_in_range shown context mask valid_stack valid words)

pub length-rt_frame_values : (info : Information) (shown : AlternateStack) (context : Context) (mask : List ℕ) → IsContext context → IsMask mask → length (siginfo_values info ++ stack_values shown ++ context_values context ++ map pos mask) ≡ length (rt_frame_of (siginfo_of info)).fields
length-rt_frame_values info shown context mask valid words =
    omega (
      arith,
      length-append (siginfo_values info ++ stack_values shown ++ context_values context) (map pos mask),
      length-append (siginfo_values info ++ stack_values shown) (context_values context),
      length-append (siginfo_values info) (stack_values shown),
      length-append (moved 24 (siginfo_of info).fields) (moved 152 ucontext.fields),
      length-map (siginfo_of info).fields (λ (field : Field). record field { offset = field.offset + 24 }),
      length-siginfo_values info,
      length-context_values context valid,
      length-map mask pos,
      words.count,
    )
