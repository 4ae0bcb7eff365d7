-- How many instructions the program has, and how many bytes.
use Rattle.std.proofs.Common.{◌≡◌, ℕ, zero, suc, ◌+◌, ◌*◌, ◌++◌, List, [], ◌∷◌, length, refl, arith, length-append}
use Rattle.std.specs.List.{flat_map}
use Rattle.mips_code.specs.declared.insn.Insn.{Insn}
use Rattle.soak_program.specs.Instructions.{code_of, finish, instructions, round, start}
use Rattle.soak_program.specs.Numbers.{numbers, numbers_from, successor}

length-numbers_from : (number count : ℕ) → length (numbers_from number count) ≡ count
length-numbers_from number zero = refl
length-numbers_from number (suc count) = let rest = length-numbers_from (successor number) count in omega (arith, rest)

length-numbers : (count : ℕ) → length (numbers count) ≡ count
unfolding numbers
length-numbers count = length-numbers_from count count

length-round : (number : ℕ) → length (round number) ≡ 9
unfolding round
length-round number = refl

length-ends : length start + length finish ≡ 10
unfolding start finish
length-ends = refl

length-rounds : (xs : List ℕ) → length (flat_map round xs) ≡ 9 * length xs
length-rounds [] = refl
length-rounds (x ∷ xs) =
    let rest = length-rounds xs in
    let here = length-round x in
    let both = length-append (round x) (flat_map round xs) in
    omega (arith, rest, here, both)

pub length-instructions : (count : ℕ) → length (instructions count) ≡ 10 + 9 * count
length-instructions count =
    let whole = length-append (start ++ flat_map round (numbers count)) finish in
    let front = length-append start (flat_map round (numbers count)) in
    let rounds = length-rounds (numbers count) in
    let each = length-numbers count in
    let ends = length-ends in
    omega (arith, whole, front, rounds, each, ends)

length-code_of : (insns : List Insn) → length (code_of insns) ≡ 4 * length insns
length-code_of [] = refl
length-code_of (insn ∷ insns) = let rest = length-code_of insns in omega (arith, rest)

pub length-code : (count : ℕ) → length (code_of (instructions count)) ≡ 4 * (10 + 9 * count)
length-code count =
    let bytes = length-code_of (instructions count) in
    let words = length-instructions count in
    omega (arith, bytes, words)
