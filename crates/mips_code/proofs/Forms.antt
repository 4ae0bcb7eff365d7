-- Each form of the table, both ways: a word that is built of an instruction's parts is read as that
-- instruction, and the parts of an instruction that is read build the word.
use Rattle.std.proofs.Common.{◌≡◌, ℕ, ℤ, ◌+◌, ◌^◌, ◌<◌, Bool, true, false, ◌&&◌, List, [], ◌∷◌, Option, Some, None, ap, ◌∙◌, refl}
use Rattle.std.specs.Prelude.{IsTrue, IfSome, ◌==◌, nat_le}
use Rattle.std.specs.Int.{w16, cast_signed, cast_unsigned}
use Rattle.std.proofs.lemmas.Bool.{and_parts, and_from, cond-true, cond_both, eq-eqb, eqb-true, lt-ltb}
use Rattle.mips_code.specs.declared.insn.Insn.{Insn}
use Rattle.mips_code.specs.declared.parts.Parts.TheVariants.{Jump, Signed, Immediate, Register, LongCode, ShortCode}
use Rattle.mips_code.specs.Instructions.{Form, Row, only_if, or_else, opcode, rs, rt, rd, sa, function, target, immediate, signed_immediate, long_code, short_code, jump, immediate_form, compare_zero, register_immediate, unsigned_immediate, upper_immediate, shift, three_registers, jump_register, jump_and_link_register, long_code_form, barrier, to_register, from_register, two_registers, short_code_form, count, extract, insert, unary, instruction_of, find_row, find_special, find_plain, regimm_rows, special2_rows, special3_rows}
use Rattle.mips_code.specs.Words.{fit, is_half, parts_of, is_bounded, is_in_range}
use Rattle.mips_code.specs.inside.Assembled.{word_of_parts}
use Rattle.mips_code.proofs.WordFields.{Six, Four, Two, Long, Short, six, four, two, long, short, six-word, six-fit, four-word, four-fit, two-word, two-fit, long-word, long-fit, short-word, short-fit, half-below, half-read, signed-half, signed-bits}

-- a word with these fields is looked up by this form
abbrev pub ByFunction : ℕ → ℕ → Form → Type 0
ByFunction o n form =
    (word : ℕ) → opcode word ≡ o → function word ≡ n → instruction_of word ≡ form word

abbrev pub ByRt : ℕ → Form → Type 0
ByRt n form = (word : ℕ) → opcode word ≡ 1 → rt word ≡ n → instruction_of word ≡ form word

abbrev pub ByOpcode : ℕ → Form → Type 0
ByOpcode o form = (word : ℕ) → opcode word ≡ o → instruction_of word ≡ form word

pub at_special : (n : ℕ) → ByFunction 0 n (find_special n)
at_special n word eo en = rw eo (rw en refl)

pub at_regimm : (n : ℕ) → ByRt n (find_row regimm_rows n)
at_regimm n word eo en = rw eo (rw en refl)

pub at_special2 : (n : ℕ) → ByFunction 28 n (find_row special2_rows n)
at_special2 n word eo en = rw eo (rw en refl)

pub at_special3 : (n : ℕ) → ByFunction 31 n (find_row special3_rows n)
at_special3 n word eo en = rw eo (rw en refl)

pub at_plain :
    (o : ℕ) → (o == 0) ≡ false → (o == 1) ≡ false → (o == 28) ≡ false → (o == 31) ≡ false
    → ByOpcode o (find_plain o)
at_plain o h0 h1 h28 h31 word eo = rw eo (rw h0 (rw h1 (rw h28 (rw h31 refl))))

-- a made instruction, from its fields
ap2 :
    {A : Type 0} (make : ℕ → A → Insn) {a a' : ℕ} {z z' : A} → a ≡ a' → z ≡ z'
    → Some (make a z) ≡ Some (make a' z')
ap2 make ea ez = rw ea (rw ez refl)

ap3 :
    {A : Type 0} (make : ℕ → ℕ → A → Insn) {a a' b b' : ℕ} {z z' : A}
    → a ≡ a' → b ≡ b' → z ≡ z' → Some (make a b z) ≡ Some (make a' b' z')
ap3 make ea eb ez = rw ea (rw eb (rw ez refl))

only_if-true : (holds : Bool) (insn : Insn) → holds ≡ true → only_if holds insn ≡ Some insn
only_if-true holds insn e = cond-true holds (Some insn) None e

-- what is read of a word builds it, and is in range
abbrev pub Sound : ℕ → Option Insn → Type 0
Sound word read =
    IfSome read (λ insn. (word_of_parts (parts_of insn) ≡ word) × IsTrue (is_in_range insn))

-- of two rows of one number
pub sound_or :
    (first other : Option Insn) (word : ℕ) → Sound word first → Sound word other
    → Sound word (or_else first other)
sound_or (Some insn) other word h k = h
sound_or None other word h k = k

-- of the row of a number
abbrev pub AllSound : List Row → ℕ → ℕ → Type 0
AllSound [] number word = Unit {0}
AllSound (first ∷ rows) number word =
    (first.number ≡ number → Sound word (first.form word)) × AllSound rows number word

pub sound_row :
    (rows : List Row) (number word : ℕ) → AllSound rows number word
    → Sound word (find_row rows number word)
sound_row [] number word h = tt
sound_row (first ∷ rows) number word h =
    cond_both (first.number == number) (first.form word) (find_row rows number word) (Sound word)
    (λ e. h.0 (eqb-true _ _ e)) (λ _. sound_row rows number word h.1)

sound_if :
    (holds : Bool) (insn : Insn) (word : ℕ) → (holds ≡ true → Sound word (Some insn))
    → Sound word (only_if holds insn)
sound_if holds insn word k = cond_both holds (Some insn) None (Sound word) k (λ _. tt)

sound_six :
    (word o a b c d n : ℕ) (insn : Insn) → word < 2 ^ 32 → Six word o a b c d n
    → parts_of insn ≡ Register o a b c d n → is_bounded insn ≡ true → Sound word (Some insn)
sound_six word o a b c d n insn lt f parts bounded = (
  rw parts (six-word word o a b c d n lt f),
  and_from _ _ (rw parts (six-fit word o a b c d n lt f)) bounded,
)

sound_four :
    (word o a b i : ℕ) (insn : Insn) → word < 2 ^ 32 → Four word o a b i
    → parts_of insn ≡ Immediate o a b i → is_bounded insn ≡ true → Sound word (Some insn)
sound_four word o a b i insn lt f parts bounded = (
  rw parts (four-word word o a b i lt f),
  and_from _ _ (rw parts (four-fit word o a b i lt f)) bounded,
)

sound_two :
    (word o t : ℕ) (insn : Insn) → word < 2 ^ 32 → Two word o t
    → parts_of insn ≡ Jump o t → is_bounded insn ≡ true → Sound word (Some insn)
sound_two word o t insn lt f parts bounded = (
  rw parts (two-word word o t lt f),
  and_from _ _ (rw parts (two-fit word o t lt f)) bounded,
)

sound_long :
    (word k n : ℕ) (insn : Insn) → word < 2 ^ 32 → Long word k n
    → parts_of insn ≡ LongCode k n → is_bounded insn ≡ true → Sound word (Some insn)
sound_long word k n insn lt f parts bounded = (
  rw parts (long-word word k n lt f),
  and_from _ _ (rw parts (long-fit word k n lt f)) bounded,
)

sound_short :
    (word a b k n : ℕ) (insn : Insn) → word < 2 ^ 32 → Short word a b k n
    → parts_of insn ≡ ShortCode a b k n → is_bounded insn ≡ true → Sound word (Some insn)
sound_short word a b k n insn lt f parts bounded = (
  rw parts (short-word word a b k n lt f),
  and_from _ _ (rw parts (short-fit word a b k n lt f)) bounded,
)

shift_made :
    (word o n kind : ℕ) (make : ℕ → ℕ → ℕ → Insn) (b c d : ℕ) → Six word o kind b c d n
    → shift kind make word ≡ Some (make b c d)
shift_made word o n kind make b c d f =
    only_if-true _ _ (eq-eqb _ _ f.rs_is) ∙ rw f.rt_is (rw f.rd_is (rw f.sa_is (refl)))

pub shift-read :
    (o n kind : ℕ) (make : ℕ → ℕ → ℕ → Insn) (b c d : ℕ)
    → ((word : ℕ) → Six word o kind b c d n → instruction_of word ≡ shift kind make word)
    → IsTrue (fit (Register o kind b c d n) && (true))
    → instruction_of (word_of_parts (Register o kind b c d n)) ≡ Some (make b c d)
shift-read o n kind make b c d at h =
    let both = and_parts _ _ h in
    let f = six o kind b c d n both.0 in
    at (word_of_parts (Register o kind b c d n)) f
    ∙ shift_made (word_of_parts (Register o kind b c d n)) o n kind make b c d f

pub shift-sound :
    (o n kind : ℕ) (make : ℕ → ℕ → ℕ → Insn) (word : ℕ) → word < 2 ^ 32 → opcode word ≡ o
    → function word ≡ n → ((b c d : ℕ) → parts_of (make b c d) ≡ Register o kind b c d n)
    → ((b c d : ℕ) → is_bounded (make b c d) ≡ (true)) → Sound word (shift kind make word)
shift-sound o n kind make word lt eo en parts bounded =
    sound_if _ _ word (λ t.
    sound_six word o kind (rt word) (rd word) (sa word) n _ lt
    (record {
      opcode_is = eo;
      rs_is = eqb-true _ _ t;
      rt_is = refl;
      rd_is = refl;
      sa_is = refl;
      function_is = en;
    })
    (parts (rt word) (rd word) (sa word)) (bounded (rt word) (rd word) (sa word)))

three_registers_made :
    (word o n kind : ℕ) (make : ℕ → ℕ → ℕ → Insn) (a b c : ℕ) → Six word o a b c kind n
    → three_registers kind make word ≡ Some (make a b c)
three_registers_made word o n kind make a b c f =
    only_if-true _ _ (eq-eqb _ _ f.sa_is) ∙ rw f.rs_is (rw f.rt_is (rw f.rd_is (refl)))

pub three_registers-read :
    (o n kind : ℕ) (make : ℕ → ℕ → ℕ → Insn) (a b c : ℕ)
    → ((word : ℕ) → Six word o a b c kind n → instruction_of word ≡ three_registers kind make word)
    → IsTrue (fit (Register o a b c kind n) && (true))
    → instruction_of (word_of_parts (Register o a b c kind n)) ≡ Some (make a b c)
three_registers-read o n kind make a b c at h =
    let both = and_parts _ _ h in
    let f = six o a b c kind n both.0 in
    at (word_of_parts (Register o a b c kind n)) f
    ∙ three_registers_made (word_of_parts (Register o a b c kind n)) o n kind make a b c f

pub three_registers-sound :
    (o n kind : ℕ) (make : ℕ → ℕ → ℕ → Insn) (word : ℕ) → word < 2 ^ 32 → opcode word ≡ o
    → function word ≡ n → ((a b c : ℕ) → parts_of (make a b c) ≡ Register o a b c kind n)
    → ((a b c : ℕ) → is_bounded (make a b c) ≡ (true)) → Sound word (three_registers kind make word)
three_registers-sound o n kind make word lt eo en parts bounded =
    sound_if _ _ word (λ t.
    sound_six word o (rs word) (rt word) (rd word) kind n _ lt
    (record {
      opcode_is = eo;
      rs_is = refl;
      rt_is = refl;
      rd_is = refl;
      sa_is = eqb-true _ _ t;
      function_is = en;
    })
    (parts (rs word) (rt word) (rd word)) (bounded (rs word) (rt word) (rd word)))

jump_register_made :
    (word o n : ℕ) (make : ℕ → ℕ → Insn) (a d : ℕ) → Six word o a 0 0 d n
    → jump_register make word ≡ Some (make a d)
jump_register_made word o n make a d f =
    only_if-true _ _ (and_from _ _ (eq-eqb _ _ f.rt_is) (eq-eqb _ _ f.rd_is)) ∙ rw f.rs_is (rw f.sa_is (refl))

pub jump_register-read :
    (o n : ℕ) (make : ℕ → ℕ → Insn) (a d : ℕ)
    → ((word : ℕ) → Six word o a 0 0 d n → instruction_of word ≡ jump_register make word)
    → IsTrue (fit (Register o a 0 0 d n) && (true))
    → instruction_of (word_of_parts (Register o a 0 0 d n)) ≡ Some (make a d)
jump_register-read o n make a d at h =
    let both = and_parts _ _ h in
    let f = six o a 0 0 d n both.0 in
    at (word_of_parts (Register o a 0 0 d n)) f
    ∙ jump_register_made (word_of_parts (Register o a 0 0 d n)) o n make a d f

pub jump_register-sound :
    (o n : ℕ) (make : ℕ → ℕ → Insn) (word : ℕ) → word < 2 ^ 32 → opcode word ≡ o
    → function word ≡ n → ((a d : ℕ) → parts_of (make a d) ≡ Register o a 0 0 d n)
    → ((a d : ℕ) → is_bounded (make a d) ≡ (true)) → Sound word (jump_register make word)
jump_register-sound o n make word lt eo en parts bounded =
    sound_if _ _ word (λ t.
    let p1 = and_parts _ _ t in
    sound_six word o (rs word) 0 0 (sa word) n _ lt
    (record {
      opcode_is = eo;
      rs_is = refl;
      rt_is = eqb-true _ _ p1.0;
      rd_is = eqb-true _ _ p1.1;
      sa_is = refl;
      function_is = en;
    })
    (parts (rs word) (sa word)) (bounded (rs word) (sa word)))

jump_and_link_register_made :
    (word o n : ℕ) (make : ℕ → ℕ → ℕ → Insn) (a c d : ℕ) → Six word o a 0 c d n
    → jump_and_link_register make word ≡ Some (make a c d)
jump_and_link_register_made word o n make a c d f =
    only_if-true _ _ (eq-eqb _ _ f.rt_is) ∙ rw f.rs_is (rw f.rd_is (rw f.sa_is (refl)))

pub jump_and_link_register-read :
    (o n : ℕ) (make : ℕ → ℕ → ℕ → Insn) (a c d : ℕ)
    → ((word : ℕ) → Six word o a 0 c d n → instruction_of word ≡ jump_and_link_register make word)
    → IsTrue (fit (Register o a 0 c d n) && (true))
    → instruction_of (word_of_parts (Register o a 0 c d n)) ≡ Some (make a c d)
jump_and_link_register-read o n make a c d at h =
    let both = and_parts _ _ h in
    let f = six o a 0 c d n both.0 in
    at (word_of_parts (Register o a 0 c d n)) f
    ∙ jump_and_link_register_made (word_of_parts (Register o a 0 c d n)) o n make a c d f

pub jump_and_link_register-sound :
    (o n : ℕ) (make : ℕ → ℕ → ℕ → Insn) (word : ℕ) → word < 2 ^ 32 → opcode word ≡ o
    → function word ≡ n → ((a c d : ℕ) → parts_of (make a c d) ≡ Register o a 0 c d n)
    → ((a c d : ℕ) → is_bounded (make a c d) ≡ (true)) → Sound word (jump_and_link_register make word)
jump_and_link_register-sound o n make word lt eo en parts bounded =
    sound_if _ _ word (λ t.
    sound_six word o (rs word) 0 (rd word) (sa word) n _ lt
    (record {
      opcode_is = eo;
      rs_is = refl;
      rt_is = eqb-true _ _ t;
      rd_is = refl;
      sa_is = refl;
      function_is = en;
    })
    (parts (rs word) (rd word) (sa word)) (bounded (rs word) (rd word) (sa word)))

barrier_made :
    (word o n : ℕ) (make : ℕ → Insn) (d : ℕ) → Six word o 0 0 0 d n
    → barrier make word ≡ Some (make d)
barrier_made word o n make d f =
    only_if-true _ _ (and_from _ _ (and_from _ _ (eq-eqb _ _ f.rs_is) (eq-eqb _ _ f.rt_is)) (eq-eqb _ _ f.rd_is)) ∙ rw f.sa_is (refl)

pub barrier-read :
    (o n : ℕ) (make : ℕ → Insn) (d : ℕ)
    → ((word : ℕ) → Six word o 0 0 0 d n → instruction_of word ≡ barrier make word)
    → IsTrue (fit (Register o 0 0 0 d n) && (true))
    → instruction_of (word_of_parts (Register o 0 0 0 d n)) ≡ Some (make d)
barrier-read o n make d at h =
    let both = and_parts _ _ h in
    let f = six o 0 0 0 d n both.0 in
    at (word_of_parts (Register o 0 0 0 d n)) f
    ∙ barrier_made (word_of_parts (Register o 0 0 0 d n)) o n make d f

pub barrier-sound :
    (o n : ℕ) (make : ℕ → Insn) (word : ℕ) → word < 2 ^ 32 → opcode word ≡ o
    → function word ≡ n → ((d : ℕ) → parts_of (make d) ≡ Register o 0 0 0 d n)
    → ((d : ℕ) → is_bounded (make d) ≡ (true)) → Sound word (barrier make word)
barrier-sound o n make word lt eo en parts bounded =
    sound_if _ _ word (λ t.
    let p2 = and_parts _ _ t in
    let p1 = and_parts _ _ p2.0 in
    sound_six word o 0 0 0 (sa word) n _ lt
    (record {
      opcode_is = eo;
      rs_is = eqb-true _ _ p1.0;
      rt_is = eqb-true _ _ p1.1;
      rd_is = eqb-true _ _ p2.1;
      sa_is = refl;
      function_is = en;
    })
    (parts (sa word)) (bounded (sa word)))

to_register_made :
    (word o n : ℕ) (make : ℕ → Insn) (c : ℕ) → Six word o 0 0 c 0 n
    → to_register make word ≡ Some (make c)
to_register_made word o n make c f =
    only_if-true _ _ (and_from _ _ (and_from _ _ (eq-eqb _ _ f.rs_is) (eq-eqb _ _ f.rt_is)) (eq-eqb _ _ f.sa_is)) ∙ rw f.rd_is (refl)

pub to_register-read :
    (o n : ℕ) (make : ℕ → Insn) (c : ℕ)
    → ((word : ℕ) → Six word o 0 0 c 0 n → instruction_of word ≡ to_register make word)
    → IsTrue (fit (Register o 0 0 c 0 n) && (true))
    → instruction_of (word_of_parts (Register o 0 0 c 0 n)) ≡ Some (make c)
to_register-read o n make c at h =
    let both = and_parts _ _ h in
    let f = six o 0 0 c 0 n both.0 in
    at (word_of_parts (Register o 0 0 c 0 n)) f
    ∙ to_register_made (word_of_parts (Register o 0 0 c 0 n)) o n make c f

pub to_register-sound :
    (o n : ℕ) (make : ℕ → Insn) (word : ℕ) → word < 2 ^ 32 → opcode word ≡ o
    → function word ≡ n → ((c : ℕ) → parts_of (make c) ≡ Register o 0 0 c 0 n)
    → ((c : ℕ) → is_bounded (make c) ≡ (true)) → Sound word (to_register make word)
to_register-sound o n make word lt eo en parts bounded =
    sound_if _ _ word (λ t.
    let p2 = and_parts _ _ t in
    let p1 = and_parts _ _ p2.0 in
    sound_six word o 0 0 (rd word) 0 n _ lt
    (record {
      opcode_is = eo;
      rs_is = eqb-true _ _ p1.0;
      rt_is = eqb-true _ _ p1.1;
      rd_is = refl;
      sa_is = eqb-true _ _ p2.1;
      function_is = en;
    })
    (parts (rd word)) (bounded (rd word)))

from_register_made :
    (word o n : ℕ) (make : ℕ → Insn) (a : ℕ) → Six word o a 0 0 0 n
    → from_register make word ≡ Some (make a)
from_register_made word o n make a f =
    only_if-true _ _ (and_from _ _ (and_from _ _ (eq-eqb _ _ f.rt_is) (eq-eqb _ _ f.rd_is)) (eq-eqb _ _ f.sa_is)) ∙ rw f.rs_is (refl)

pub from_register-read :
    (o n : ℕ) (make : ℕ → Insn) (a : ℕ)
    → ((word : ℕ) → Six word o a 0 0 0 n → instruction_of word ≡ from_register make word)
    → IsTrue (fit (Register o a 0 0 0 n) && (true))
    → instruction_of (word_of_parts (Register o a 0 0 0 n)) ≡ Some (make a)
from_register-read o n make a at h =
    let both = and_parts _ _ h in
    let f = six o a 0 0 0 n both.0 in
    at (word_of_parts (Register o a 0 0 0 n)) f
    ∙ from_register_made (word_of_parts (Register o a 0 0 0 n)) o n make a f

pub from_register-sound :
    (o n : ℕ) (make : ℕ → Insn) (word : ℕ) → word < 2 ^ 32 → opcode word ≡ o
    → function word ≡ n → ((a : ℕ) → parts_of (make a) ≡ Register o a 0 0 0 n)
    → ((a : ℕ) → is_bounded (make a) ≡ (true)) → Sound word (from_register make word)
from_register-sound o n make word lt eo en parts bounded =
    sound_if _ _ word (λ t.
    let p2 = and_parts _ _ t in
    let p1 = and_parts _ _ p2.0 in
    sound_six word o (rs word) 0 0 0 n _ lt
    (record {
      opcode_is = eo;
      rs_is = refl;
      rt_is = eqb-true _ _ p1.0;
      rd_is = eqb-true _ _ p1.1;
      sa_is = eqb-true _ _ p2.1;
      function_is = en;
    })
    (parts (rs word)) (bounded (rs word)))

two_registers_made :
    (word o n : ℕ) (make : ℕ → ℕ → Insn) (a b : ℕ) → Six word o a b 0 0 n
    → two_registers make word ≡ Some (make a b)
two_registers_made word o n make a b f =
    only_if-true _ _ (and_from _ _ (eq-eqb _ _ f.rd_is) (eq-eqb _ _ f.sa_is)) ∙ rw f.rs_is (rw f.rt_is (refl))

pub two_registers-read :
    (o n : ℕ) (make : ℕ → ℕ → Insn) (a b : ℕ)
    → ((word : ℕ) → Six word o a b 0 0 n → instruction_of word ≡ two_registers make word)
    → IsTrue (fit (Register o a b 0 0 n) && (true))
    → instruction_of (word_of_parts (Register o a b 0 0 n)) ≡ Some (make a b)
two_registers-read o n make a b at h =
    let both = and_parts _ _ h in
    let f = six o a b 0 0 n both.0 in
    at (word_of_parts (Register o a b 0 0 n)) f
    ∙ two_registers_made (word_of_parts (Register o a b 0 0 n)) o n make a b f

pub two_registers-sound :
    (o n : ℕ) (make : ℕ → ℕ → Insn) (word : ℕ) → word < 2 ^ 32 → opcode word ≡ o
    → function word ≡ n → ((a b : ℕ) → parts_of (make a b) ≡ Register o a b 0 0 n)
    → ((a b : ℕ) → is_bounded (make a b) ≡ (true)) → Sound word (two_registers make word)
two_registers-sound o n make word lt eo en parts bounded =
    sound_if _ _ word (λ t.
    let p1 = and_parts _ _ t in
    sound_six word o (rs word) (rt word) 0 0 n _ lt
    (record {
      opcode_is = eo;
      rs_is = refl;
      rt_is = refl;
      rd_is = eqb-true _ _ p1.0;
      sa_is = eqb-true _ _ p1.1;
      function_is = en;
    })
    (parts (rs word) (rt word)) (bounded (rs word) (rt word)))

count_made :
    (word o n : ℕ) (make : ℕ → ℕ → ℕ → Insn) (a b c : ℕ) → Six word o a b c 0 n → (b == c) ≡ true
    → count make word ≡ Some (make a b c)
count_made word o n make a b c f inside =
    let in_bounds : (rt word == rd word) ≡ true = rw f.rt_is (rw f.rd_is inside) in
    only_if-true _ _ (and_from _ _ (eq-eqb _ _ f.sa_is) (in_bounds)) ∙ rw f.rs_is (rw f.rt_is (rw f.rd_is (refl)))

pub count-read :
    (o n : ℕ) (make : ℕ → ℕ → ℕ → Insn) (a b c : ℕ)
    → ((word : ℕ) → Six word o a b c 0 n → instruction_of word ≡ count make word)
    → IsTrue (fit (Register o a b c 0 n) && (b == c))
    → instruction_of (word_of_parts (Register o a b c 0 n)) ≡ Some (make a b c)
count-read o n make a b c at h =
    let both = and_parts _ _ h in
    let f = six o a b c 0 n both.0 in
    at (word_of_parts (Register o a b c 0 n)) f
    ∙ count_made (word_of_parts (Register o a b c 0 n)) o n make a b c f both.1

pub count-sound :
    (o n : ℕ) (make : ℕ → ℕ → ℕ → Insn) (word : ℕ) → word < 2 ^ 32 → opcode word ≡ o
    → function word ≡ n → ((a b c : ℕ) → parts_of (make a b c) ≡ Register o a b c 0 n)
    → ((a b c : ℕ) → is_bounded (make a b c) ≡ (b == c)) → Sound word (count make word)
count-sound o n make word lt eo en parts bounded =
    sound_if _ _ word (λ t.
    let p1 = and_parts _ _ t in
    sound_six word o (rs word) (rt word) (rd word) 0 n _ lt
    (record {
      opcode_is = eo;
      rs_is = refl;
      rt_is = refl;
      rd_is = refl;
      sa_is = eqb-true _ _ p1.0;
      function_is = en;
    })
    (parts (rs word) (rt word) (rd word)) (bounded (rs word) (rt word) (rd word) ∙ p1.1))

extract_made :
    (word o n : ℕ) (make : ℕ → ℕ → ℕ → ℕ → Insn) (a b c d : ℕ) → Six word o a b c d n → (nat_le (c + d) 31) ≡ true
    → extract make word ≡ Some (make a b c d)
extract_made word o n make a b c d f inside =
    let in_bounds : (nat_le (rd word + sa word) 31) ≡ true = rw f.rd_is (rw f.sa_is inside) in
    only_if-true _ _ (in_bounds) ∙ rw f.rs_is (rw f.rt_is (rw f.rd_is (rw f.sa_is (refl))))

pub extract-read :
    (o n : ℕ) (make : ℕ → ℕ → ℕ → ℕ → Insn) (a b c d : ℕ)
    → ((word : ℕ) → Six word o a b c d n → instruction_of word ≡ extract make word)
    → IsTrue (fit (Register o a b c d n) && (nat_le (c + d) 31))
    → instruction_of (word_of_parts (Register o a b c d n)) ≡ Some (make a b c d)
extract-read o n make a b c d at h =
    let both = and_parts _ _ h in
    let f = six o a b c d n both.0 in
    at (word_of_parts (Register o a b c d n)) f
    ∙ extract_made (word_of_parts (Register o a b c d n)) o n make a b c d f both.1

pub extract-sound :
    (o n : ℕ) (make : ℕ → ℕ → ℕ → ℕ → Insn) (word : ℕ) → word < 2 ^ 32 → opcode word ≡ o
    → function word ≡ n → ((a b c d : ℕ) → parts_of (make a b c d) ≡ Register o a b c d n)
    → ((a b c d : ℕ) → is_bounded (make a b c d) ≡ (nat_le (c + d) 31)) → Sound word (extract make word)
extract-sound o n make word lt eo en parts bounded =
    sound_if _ _ word (λ t.
    sound_six word o (rs word) (rt word) (rd word) (sa word) n _ lt
    (record {
      opcode_is = eo;
      rs_is = refl;
      rt_is = refl;
      rd_is = refl;
      sa_is = refl;
      function_is = en;
    })
    (parts (rs word) (rt word) (rd word) (sa word)) (bounded (rs word) (rt word) (rd word) (sa word) ∙ t))

insert_made :
    (word o n : ℕ) (make : ℕ → ℕ → ℕ → ℕ → Insn) (a b c d : ℕ) → Six word o a b c d n → (nat_le d c) ≡ true
    → insert make word ≡ Some (make a b c d)
insert_made word o n make a b c d f inside =
    let in_bounds : (nat_le (sa word) (rd word)) ≡ true = rw f.rd_is (rw f.sa_is inside) in
    only_if-true _ _ (in_bounds) ∙ rw f.rs_is (rw f.rt_is (rw f.rd_is (rw f.sa_is (refl))))

pub insert-read :
    (o n : ℕ) (make : ℕ → ℕ → ℕ → ℕ → Insn) (a b c d : ℕ)
    → ((word : ℕ) → Six word o a b c d n → instruction_of word ≡ insert make word)
    → IsTrue (fit (Register o a b c d n) && (nat_le d c))
    → instruction_of (word_of_parts (Register o a b c d n)) ≡ Some (make a b c d)
insert-read o n make a b c d at h =
    let both = and_parts _ _ h in
    let f = six o a b c d n both.0 in
    at (word_of_parts (Register o a b c d n)) f
    ∙ insert_made (word_of_parts (Register o a b c d n)) o n make a b c d f both.1

pub insert-sound :
    (o n : ℕ) (make : ℕ → ℕ → ℕ → ℕ → Insn) (word : ℕ) → word < 2 ^ 32 → opcode word ≡ o
    → function word ≡ n → ((a b c d : ℕ) → parts_of (make a b c d) ≡ Register o a b c d n)
    → ((a b c d : ℕ) → is_bounded (make a b c d) ≡ (nat_le d c)) → Sound word (insert make word)
insert-sound o n make word lt eo en parts bounded =
    sound_if _ _ word (λ t.
    sound_six word o (rs word) (rt word) (rd word) (sa word) n _ lt
    (record {
      opcode_is = eo;
      rs_is = refl;
      rt_is = refl;
      rd_is = refl;
      sa_is = refl;
      function_is = en;
    })
    (parts (rs word) (rt word) (rd word) (sa word)) (bounded (rs word) (rt word) (rd word) (sa word) ∙ t))

unary_made :
    (word o n kind : ℕ) (make : ℕ → ℕ → Insn) (b c : ℕ) → Six word o 0 b c kind n
    → unary kind make word ≡ Some (make b c)
unary_made word o n kind make b c f =
    only_if-true _ _ (and_from _ _ (eq-eqb _ _ f.rs_is) (eq-eqb _ _ f.sa_is)) ∙ rw f.rt_is (rw f.rd_is (refl))

pub unary-read :
    (o n kind : ℕ) (make : ℕ → ℕ → Insn) (b c : ℕ)
    → ((word : ℕ) → Six word o 0 b c kind n → instruction_of word ≡ unary kind make word)
    → IsTrue (fit (Register o 0 b c kind n) && (true))
    → instruction_of (word_of_parts (Register o 0 b c kind n)) ≡ Some (make b c)
unary-read o n kind make b c at h =
    let both = and_parts _ _ h in
    let f = six o 0 b c kind n both.0 in
    at (word_of_parts (Register o 0 b c kind n)) f
    ∙ unary_made (word_of_parts (Register o 0 b c kind n)) o n kind make b c f

pub unary-sound :
    (o n kind : ℕ) (make : ℕ → ℕ → Insn) (word : ℕ) → word < 2 ^ 32 → opcode word ≡ o
    → function word ≡ n → ((b c : ℕ) → parts_of (make b c) ≡ Register o 0 b c kind n)
    → ((b c : ℕ) → is_bounded (make b c) ≡ (true)) → Sound word (unary kind make word)
unary-sound o n kind make word lt eo en parts bounded =
    sound_if _ _ word (λ t.
    let p1 = and_parts _ _ t in
    sound_six word o 0 (rt word) (rd word) kind n _ lt
    (record {
      opcode_is = eo;
      rs_is = eqb-true _ _ p1.0;
      rt_is = refl;
      rd_is = refl;
      sa_is = eqb-true _ _ p1.1;
      function_is = en;
    })
    (parts (rt word) (rd word)) (bounded (rt word) (rd word)))

pub jump-read :
    (o : ℕ) (make : ℕ → Insn) → ByOpcode o (jump make) → (t : ℕ)
    → IsTrue (fit (Jump o t) && true) → instruction_of (word_of_parts (Jump o t)) ≡ Some (make t)
jump-read o make at t h =
    let f = two o t (and_parts _ _ h).0 in
    at (word_of_parts (Jump o t)) f.opcode_is ∙ ap (λ x. Some (make x)) f.target_is

pub jump-sound :
    (o : ℕ) (make : ℕ → Insn) (word : ℕ) → word < 2 ^ 32 → opcode word ≡ o
    → ((t : ℕ) → parts_of (make t) ≡ Jump o t) → ((t : ℕ) → is_bounded (make t) ≡ true)
    → Sound word (jump make word)
jump-sound o make word lt eo parts bounded =
    sound_two word o (target word) _ lt (record { opcode_is = eo; target_is = refl })
    (parts (target word)) (bounded (target word))

-- the immediate of a word that is built with a signed one
signed_read :
    (word o a b : ℕ) (z : ℤ) → IsTrue (is_half z) → Four word o a b (cast_unsigned w16 z)
    → signed_immediate word ≡ z
unfolding signed_immediate
signed_read word o a b z half f = ap (cast_signed w16) f.immediate_is ∙ half-read z half

signed_four :
    (o a b : ℕ) (z : ℤ) → IsTrue (fit (Signed o a b z))
    → Four (word_of_parts (Signed o a b z)) o a b (cast_unsigned w16 z) × IsTrue (is_half z)
signed_four o a b z h =
    let p = and_parts _ _ h in
    (four o a b (cast_unsigned w16 z) (and_from _ _ p.0 (lt-ltb _ (2 ^ 16) (half-below z p.1))), p.1)

sound_signed :
    (word o a b : ℕ) (insn : Insn) → word < 2 ^ 32 → Four word o a b (immediate word)
    → parts_of insn ≡ Signed o a b (signed_immediate word) → is_bounded insn ≡ true
    → Sound word (Some insn)
sound_signed word o a b insn lt f parts bounded =
    let fits = and_parts _ _ (four-fit word o a b (immediate word) lt f) in (
      rw parts (rw (signed-bits word) (four-word word o a b (immediate word) lt f)),
      and_from _ _ (rw parts (and_from _ _ fits.0 (signed-half word))) bounded,
    )

pub immediate_form-read :
    (o : ℕ) (make : ℕ → ℕ → ℤ → Insn) → ByOpcode o (immediate_form make) → (a b : ℕ) (z : ℤ)
    → IsTrue (fit (Signed o a b z) && true)
    → instruction_of (word_of_parts (Signed o a b z)) ≡ Some (make a b z)
unfolding immediate_form
immediate_form-read o make at a b z h =
    let p = signed_four o a b z (and_parts _ _ h).0 in
    let word = word_of_parts (Signed o a b z) in
    let e = signed_read word o a b z p.1 p.0 in
    at word p.0.opcode_is ∙ ap3 make p.0.rs_is p.0.rt_is e

pub immediate_form-sound :
    (o : ℕ) (make : ℕ → ℕ → ℤ → Insn) (word : ℕ) → word < 2 ^ 32 → opcode word ≡ o
    → ((a b : ℕ) (z : ℤ) → parts_of (make a b z) ≡ Signed o a b z)
    → ((a b : ℕ) (z : ℤ) → is_bounded (make a b z) ≡ true) → Sound word (immediate_form make word)
unfolding immediate_form
immediate_form-sound o make word lt eo parts bounded =
    sound_signed word o (rs word) (rt word) _ lt
    (record { opcode_is = eo; rs_is = refl; rt_is = refl; immediate_is = refl })
    (parts (rs word) (rt word) (signed_immediate word))
    (bounded (rs word) (rt word) (signed_immediate word))

pub compare_zero-read :
    (o : ℕ) (make : ℕ → ℤ → Insn) → ByOpcode o (compare_zero make) → (a : ℕ) (z : ℤ)
    → IsTrue (fit (Signed o a 0 z) && true)
    → instruction_of (word_of_parts (Signed o a 0 z)) ≡ Some (make a z)
compare_zero-read o make at a z h =
    let p = signed_four o a 0 z (and_parts _ _ h).0 in
    let word = word_of_parts (Signed o a 0 z) in
    let e = signed_read word o a 0 z p.1 p.0 in
    at word p.0.opcode_is ∙ (only_if-true _ _ (eq-eqb _ _ p.0.rt_is) ∙ ap2 make p.0.rs_is e)

pub compare_zero-sound :
    (o : ℕ) (make : ℕ → ℤ → Insn) (word : ℕ) → word < 2 ^ 32 → opcode word ≡ o
    → ((a : ℕ) (z : ℤ) → parts_of (make a z) ≡ Signed o a 0 z)
    → ((a : ℕ) (z : ℤ) → is_bounded (make a z) ≡ true) → Sound word (compare_zero make word)
compare_zero-sound o make word lt eo parts bounded =
    sound_if _ _ word (λ t.
    sound_signed word o (rs word) 0 _ lt
    (record { opcode_is = eo; rs_is = refl; rt_is = eqb-true _ _ t; immediate_is = refl })
    (parts (rs word) (signed_immediate word)) (bounded (rs word) (signed_immediate word)))

pub register_immediate-read :
    (n : ℕ) (make : ℕ → ℤ → Insn) → ByRt n (register_immediate make) → (a : ℕ) (z : ℤ)
    → IsTrue (fit (Signed 1 a n z) && true)
    → instruction_of (word_of_parts (Signed 1 a n z)) ≡ Some (make a z)
unfolding register_immediate
register_immediate-read n make at a z h =
    let p = signed_four 1 a n z (and_parts _ _ h).0 in
    let word = word_of_parts (Signed 1 a n z) in
    let e = signed_read word 1 a n z p.1 p.0 in
    at word p.0.opcode_is p.0.rt_is ∙ ap2 make p.0.rs_is e

pub register_immediate-sound :
    (n : ℕ) (make : ℕ → ℤ → Insn) (word : ℕ) → word < 2 ^ 32 → opcode word ≡ 1 → rt word ≡ n
    → ((a : ℕ) (z : ℤ) → parts_of (make a z) ≡ Signed 1 a n z)
    → ((a : ℕ) (z : ℤ) → is_bounded (make a z) ≡ true) → Sound word (register_immediate make word)
unfolding register_immediate
register_immediate-sound n make word lt eo en parts bounded =
    sound_signed word 1 (rs word) n _ lt
    (record { opcode_is = eo; rs_is = refl; rt_is = en; immediate_is = refl })
    (parts (rs word) (signed_immediate word)) (bounded (rs word) (signed_immediate word))

pub unsigned_immediate-read :
    (o : ℕ) (make : ℕ → ℕ → ℕ → Insn) → ByOpcode o (unsigned_immediate make) → (a b i : ℕ)
    → IsTrue (fit (Immediate o a b i) && true)
    → instruction_of (word_of_parts (Immediate o a b i)) ≡ Some (make a b i)
unsigned_immediate-read o make at a b i h =
    let f = four o a b i (and_parts _ _ h).0 in
    at (word_of_parts (Immediate o a b i)) f.opcode_is ∙ ap3 make f.rs_is f.rt_is f.immediate_is

pub unsigned_immediate-sound :
    (o : ℕ) (make : ℕ → ℕ → ℕ → Insn) (word : ℕ) → word < 2 ^ 32 → opcode word ≡ o
    → ((a b i : ℕ) → parts_of (make a b i) ≡ Immediate o a b i)
    → ((a b i : ℕ) → is_bounded (make a b i) ≡ true) → Sound word (unsigned_immediate make word)
unsigned_immediate-sound o make word lt eo parts bounded =
    sound_four word o (rs word) (rt word) (immediate word) _ lt
    (record { opcode_is = eo; rs_is = refl; rt_is = refl; immediate_is = refl })
    (parts (rs word) (rt word) (immediate word)) (bounded (rs word) (rt word) (immediate word))

pub upper_immediate-read :
    (o : ℕ) (make : ℕ → ℕ → Insn) → ByOpcode o (upper_immediate make) → (b i : ℕ)
    → IsTrue (fit (Immediate o 0 b i) && true)
    → instruction_of (word_of_parts (Immediate o 0 b i)) ≡ Some (make b i)
upper_immediate-read o make at b i h =
    let f = four o 0 b i (and_parts _ _ h).0 in
    at (word_of_parts (Immediate o 0 b i)) f.opcode_is
    ∙ (only_if-true _ _ (eq-eqb _ _ f.rs_is) ∙ ap2 make f.rt_is f.immediate_is)

pub upper_immediate-sound :
    (o : ℕ) (make : ℕ → ℕ → Insn) (word : ℕ) → word < 2 ^ 32 → opcode word ≡ o
    → ((b i : ℕ) → parts_of (make b i) ≡ Immediate o 0 b i)
    → ((b i : ℕ) → is_bounded (make b i) ≡ true) → Sound word (upper_immediate make word)
upper_immediate-sound o make word lt eo parts bounded =
    sound_if _ _ word (λ t.
    sound_four word o 0 (rt word) (immediate word) _ lt
    (record { opcode_is = eo; rs_is = eqb-true _ _ t; rt_is = refl; immediate_is = refl })
    (parts (rt word) (immediate word)) (bounded (rt word) (immediate word)))

pub long_code_form-read :
    (n : ℕ) (make : ℕ → Insn) → ByFunction 0 n (long_code_form make) → (k : ℕ)
    → IsTrue (fit (LongCode k n) && true) → instruction_of (word_of_parts (LongCode k n)) ≡ Some (make k)
long_code_form-read n make at k h =
    let f = long k n (and_parts _ _ h).0 in
    at (word_of_parts (LongCode k n)) f.opcode_is f.function_is ∙ ap (λ x. Some (make x)) f.long_code_is

pub long_code_form-sound :
    (n : ℕ) (make : ℕ → Insn) (word : ℕ) → word < 2 ^ 32 → opcode word ≡ 0 → function word ≡ n
    → ((k : ℕ) → parts_of (make k) ≡ LongCode k n) → ((k : ℕ) → is_bounded (make k) ≡ true)
    → Sound word (long_code_form make word)
long_code_form-sound n make word lt eo en parts bounded =
    sound_long word (long_code word) n _ lt
    (record { opcode_is = eo; long_code_is = refl; function_is = en })
    (parts (long_code word)) (bounded (long_code word))

pub short_code_form-read :
    (n : ℕ) (make : ℕ → ℕ → ℕ → Insn) → ByFunction 0 n (short_code_form make) → (a b k : ℕ)
    → IsTrue (fit (ShortCode a b k n) && true)
    → instruction_of (word_of_parts (ShortCode a b k n)) ≡ Some (make a b k)
short_code_form-read n make at a b k h =
    let f = short a b k n (and_parts _ _ h).0 in
    at (word_of_parts (ShortCode a b k n)) f.opcode_is f.function_is
    ∙ ap3 make f.rs_is f.rt_is f.short_code_is

pub short_code_form-sound :
    (n : ℕ) (make : ℕ → ℕ → ℕ → Insn) (word : ℕ) → word < 2 ^ 32 → opcode word ≡ 0
    → function word ≡ n → ((a b k : ℕ) → parts_of (make a b k) ≡ ShortCode a b k n)
    → ((a b k : ℕ) → is_bounded (make a b k) ≡ true) → Sound word (short_code_form make word)
short_code_form-sound n make word lt eo en parts bounded =
    sound_short word (rs word) (rt word) (short_code word) n _ lt
    (record { opcode_is = eo; rs_is = refl; rt_is = refl; short_code_is = refl; function_is = en })
    (parts (rs word) (rt word) (short_code word)) (bounded (rs word) (rt word) (short_code word))
