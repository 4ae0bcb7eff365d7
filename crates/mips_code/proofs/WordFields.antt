-- The fields of a word that is built of its parts, and the parts of a word.
use Rattle.std.proofs.Common.{◌≡◌, ℕ, ℤ, ◌^◌, ◌<◌, pos, negsuc, suc, ◌-◌, arith}
use Rattle.std.specs.Prelude.{IsTrue, nat_lt as ltb}
use Rattle.std.specs.Int.{w16, cast_signed, cast_unsigned}
use Rattle.std.proofs.lemmas.Int.{to_z-of_z, of_z-to_z}
use Rattle.std.proofs.lemmas.Bool.{cond_both, ltb-false, and_parts, and_from, ltb-true, lt-ltb}
use Rattle.mips_code.specs.Instructions.{opcode, rs, rt, rd, sa, function, target, immediate, signed_immediate, long_code, short_code}
use Rattle.mips_code.specs.declared.parts.Parts.TheVariants.{Jump, Immediate, Register, LongCode, ShortCode}
use Rattle.mips_code.specs.Words.{fit, is_half}
use Rattle.mips_code.specs.inside.Assembled.{word_of_parts}

-- the fields of a word of the shape Register
pub record Six (word o a b c d n : ℕ) : Type 0 where
  pub opcode_is : opcode word ≡ o
  pub rs_is : rs word ≡ a
  pub rt_is : rt word ≡ b
  pub rd_is : rd word ≡ c
  pub sa_is : sa word ≡ d
  pub function_is : function word ≡ n

six_below :
    (o a b c d n : ℕ) → o < 64 → a < 32 → b < 32 → c < 32 → d < 32 → n < 64
    → Six (word_of_parts (Register o a b c d n)) o a b c d n
six_below o a b c d n ho ha hb hc hd hn =
    record {
      opcode_is = omega arith;
      rs_is = omega arith;
      rt_is = omega arith;
      rd_is = omega arith;
      sa_is = omega arith;
      function_is = omega arith;
    }

pub six :
    (o a b c d n : ℕ) → IsTrue (fit (Register o a b c d n))
    → Six (word_of_parts (Register o a b c d n)) o a b c d n
six o a b c d n h =
    let p5 = and_parts _ _ h in
    let p4 = and_parts _ _ p5.0 in
    let p3 = and_parts _ _ p4.0 in
    let p2 = and_parts _ _ p3.0 in
    let p1 = and_parts _ _ p2.0 in
    six_below o a b c d n (ltb-true _ _ p1.0)
    (ltb-true _ _ p1.1)
    (ltb-true _ _ p2.1)
    (ltb-true _ _ p3.1)
    (ltb-true _ _ p4.1)
    (ltb-true _ _ p5.1)

pub six-word :
    (word o a b c d n : ℕ) → word < 2 ^ 32 → Six word o a b c d n
    → word_of_parts (Register o a b c d n) ≡ word
six-word word o a b c d n lt f =
    omega (arith, f.opcode_is, f.rs_is, f.rt_is, f.rd_is, f.sa_is, f.function_is)

pub six-fit :
    (word o a b c d n : ℕ) → word < 2 ^ 32 → Six word o a b c d n
    → IsTrue (fit (Register o a b c d n))
six-fit word o a b c d n lt f =
    and_from _ _ (and_from _ _ (and_from _ _ (and_from _ _ (and_from _ _ (lt-ltb o 64 (omega (arith, f.opcode_is))) (lt-ltb a 32 (omega (arith, f.rs_is)))) (lt-ltb b 32 (omega (arith, f.rt_is)))) (lt-ltb c 32 (omega (arith, f.rd_is)))) (lt-ltb d 32 (omega (arith, f.sa_is)))) (lt-ltb n 64 (omega (arith, f.function_is)))

-- the fields of a word of the shape Immediate
pub record Four (word o a b i : ℕ) : Type 0 where
  pub opcode_is : opcode word ≡ o
  pub rs_is : rs word ≡ a
  pub rt_is : rt word ≡ b
  pub immediate_is : immediate word ≡ i

four_below :
    (o a b i : ℕ) → o < 64 → a < 32 → b < 32 → i < 2 ^ 16
    → Four (word_of_parts (Immediate o a b i)) o a b i
four_below o a b i ho ha hb hi =
    record {
      opcode_is = omega arith;
      rs_is = omega arith;
      rt_is = omega arith;
      immediate_is = omega arith;
    }

pub four :
    (o a b i : ℕ) → IsTrue (fit (Immediate o a b i))
    → Four (word_of_parts (Immediate o a b i)) o a b i
four o a b i h =
    let p3 = and_parts _ _ h in
    let p2 = and_parts _ _ p3.0 in
    let p1 = and_parts _ _ p2.0 in
    four_below o a b i (ltb-true _ _ p1.0)
    (ltb-true _ _ p1.1)
    (ltb-true _ _ p2.1)
    (ltb-true _ _ p3.1)

pub four-word :
    (word o a b i : ℕ) → word < 2 ^ 32 → Four word o a b i
    → word_of_parts (Immediate o a b i) ≡ word
four-word word o a b i lt f =
    omega (arith, f.opcode_is, f.rs_is, f.rt_is, f.immediate_is)

pub four-fit :
    (word o a b i : ℕ) → word < 2 ^ 32 → Four word o a b i
    → IsTrue (fit (Immediate o a b i))
four-fit word o a b i lt f =
    and_from _ _ (and_from _ _ (and_from _ _ (lt-ltb o 64 (omega (arith, f.opcode_is))) (lt-ltb a 32 (omega (arith, f.rs_is)))) (lt-ltb b 32 (omega (arith, f.rt_is)))) (lt-ltb i (2 ^ 16) (omega (arith, f.immediate_is)))

-- the fields of a word of the shape Jump
pub record Two (word o t : ℕ) : Type 0 where
  pub opcode_is : opcode word ≡ o
  pub target_is : target word ≡ t

two_below :
    (o t : ℕ) → o < 64 → t < 2 ^ 26
    → Two (word_of_parts (Jump o t)) o t
two_below o t ho ht =
    record {
      opcode_is = omega arith;
      target_is = omega arith;
    }

pub two :
    (o t : ℕ) → IsTrue (fit (Jump o t))
    → Two (word_of_parts (Jump o t)) o t
two o t h =
    let p1 = and_parts _ _ h in
    two_below o t (ltb-true _ _ p1.0)
    (ltb-true _ _ p1.1)

pub two-word :
    (word o t : ℕ) → word < 2 ^ 32 → Two word o t
    → word_of_parts (Jump o t) ≡ word
two-word word o t lt f =
    omega (arith, f.opcode_is, f.target_is)

pub two-fit :
    (word o t : ℕ) → word < 2 ^ 32 → Two word o t
    → IsTrue (fit (Jump o t))
two-fit word o t lt f =
    and_from _ _ (lt-ltb o 64 (omega (arith, f.opcode_is))) (lt-ltb t (2 ^ 26) (omega (arith, f.target_is)))

-- the fields of a word of the shape LongCode
pub record Long (word k n : ℕ) : Type 0 where
  pub opcode_is : opcode word ≡ 0
  pub long_code_is : long_code word ≡ k
  pub function_is : function word ≡ n

long_below :
    (k n : ℕ) → k < 2 ^ 20 → n < 64
    → Long (word_of_parts (LongCode k n)) k n
long_below k n hk hn =
    record {
      opcode_is = omega arith;
      long_code_is = omega arith;
      function_is = omega arith;
    }

pub long :
    (k n : ℕ) → IsTrue (fit (LongCode k n))
    → Long (word_of_parts (LongCode k n)) k n
long k n h =
    let p1 = and_parts _ _ h in
    long_below k n (ltb-true _ _ p1.0)
    (ltb-true _ _ p1.1)

pub long-word :
    (word k n : ℕ) → word < 2 ^ 32 → Long word k n
    → word_of_parts (LongCode k n) ≡ word
long-word word k n lt f =
    omega (arith, f.opcode_is, f.long_code_is, f.function_is)

pub long-fit :
    (word k n : ℕ) → word < 2 ^ 32 → Long word k n
    → IsTrue (fit (LongCode k n))
long-fit word k n lt f =
    and_from _ _ (lt-ltb k (2 ^ 20) (omega (arith, f.long_code_is))) (lt-ltb n 64 (omega (arith, f.function_is)))

-- the fields of a word of the shape ShortCode
pub record Short (word a b k n : ℕ) : Type 0 where
  pub opcode_is : opcode word ≡ 0
  pub rs_is : rs word ≡ a
  pub rt_is : rt word ≡ b
  pub short_code_is : short_code word ≡ k
  pub function_is : function word ≡ n

short_below :
    (a b k n : ℕ) → a < 32 → b < 32 → k < 2 ^ 10 → n < 64
    → Short (word_of_parts (ShortCode a b k n)) a b k n
short_below a b k n ha hb hk hn =
    record {
      opcode_is = omega arith;
      rs_is = omega arith;
      rt_is = omega arith;
      short_code_is = omega arith;
      function_is = omega arith;
    }

pub short :
    (a b k n : ℕ) → IsTrue (fit (ShortCode a b k n))
    → Short (word_of_parts (ShortCode a b k n)) a b k n
short a b k n h =
    let p3 = and_parts _ _ h in
    let p2 = and_parts _ _ p3.0 in
    let p1 = and_parts _ _ p2.0 in
    short_below a b k n (ltb-true _ _ p1.0)
    (ltb-true _ _ p1.1)
    (ltb-true _ _ p2.1)
    (ltb-true _ _ p3.1)

pub short-word :
    (word a b k n : ℕ) → word < 2 ^ 32 → Short word a b k n
    → word_of_parts (ShortCode a b k n) ≡ word
short-word word a b k n lt f =
    omega (arith, f.opcode_is, f.rs_is, f.rt_is, f.short_code_is, f.function_is)

pub short-fit :
    (word a b k n : ℕ) → word < 2 ^ 32 → Short word a b k n
    → IsTrue (fit (ShortCode a b k n))
short-fit word a b k n lt f =
    and_from _ _ (and_from _ _ (and_from _ _ (lt-ltb a 32 (omega (arith, f.rs_is))) (lt-ltb b 32 (omega (arith, f.rt_is)))) (lt-ltb k (2 ^ 10) (omega (arith, f.short_code_is)))) (lt-ltb n 64 (omega (arith, f.function_is)))

-- a signed immediate fits 16 bits, and is read back
pub half-below : (z : ℤ) → IsTrue (is_half z) → cast_unsigned w16 z < 2 ^ 16
half-below (pos size) h = omega (arith, ltb-true size (2 ^ 15) h)
half-below (negsuc size) h = omega (arith, ltb-true size (2 ^ 15) h)

pub half-read : (z : ℤ) → IsTrue (is_half z) → cast_signed w16 (cast_unsigned w16 z) ≡ z
half-read (pos size) h = to_z-of_z w16 (pos size) (record { sfits = ltb-true size (2 ^ 15) h })
half-read (negsuc size) h = to_z-of_z w16 (negsuc size) (record { sfits = ltb-true size (2 ^ 15) h })

is_half-cast : (bits : ℕ) → bits < 2 ^ 16 → IsTrue (is_half (cast_signed w16 bits))
is_half-cast bits below =
    cond_both (ltb bits (2 ^ 15)) (pos bits) (negsuc (2 ^ 16 - suc bits)) (λ z. IsTrue (is_half z))
    (λ e. e) (λ e. lt-ltb _ _ (omega (arith, ltb-false _ _ e)))

pub signed-half : (word : ℕ) → IsTrue (is_half (signed_immediate word))
unfolding signed_immediate
signed-half word = is_half-cast (immediate word) (omega arith)

pub signed-bits : (word : ℕ) → cast_unsigned w16 (signed_immediate word) ≡ immediate word
unfolding signed_immediate
signed-bits word = of_z-to_z w16 (immediate word) (omega arith)
