-- The words of the program decode to its instructions.
use Rattle.std.proofs.Common.{◌≡◌, ℕ, suc, zero, ◌/◌, ◌%◌, ◌^◌, ◌<◌, ◌++◌, Some, List, [], ◌∷◌, map, refl, ap, ◌∙◌, arith}
use Rattle.std.specs.Prelude.{Bool, true, ◌&&◌, nat_lt}
use Rattle.std.specs.List.{flat_map, list_all}
use Rattle.std.proofs.lemmas.Bool.{lt-ltb}
use Rattle.std.proofs.lemmas.List.Folds.{list_all-append}
use Rattle.mips_code.specs.declared.insn.Insn.{Insn}
use Rattle.mips_code.specs.Instructions.{instruction_of}
use Rattle.mips_code.specs.Words.{is_in_range, parts_of}
use Rattle.mips_code.proofs.Rows.{decodes}
use Rattle.soak_program.specs.Instructions.{finish, instructions, round, start, word_of}
use Rattle.soak_program.specs.Numbers.{numbers, numbers_from, successor}
use Rattle.soak_program.proofs.Fields.{encoded}

both : {a b : Bool} → a ≡ true → b ≡ true → (a && b) ≡ true
both p q = rw (p, q) refl

first : (a b : Bool) → (a && b) ≡ true → a ≡ true
first a b h = grind arith

second : (a b : Bool) → (a && b) ≡ true → b ≡ true
second a b h = grind arith

ends_fit : (list_all is_in_range start ≡ true) × (list_all is_in_range finish ≡ true)
unfolding start finish
ends_fit = (refl, refl)

round_fits : (number : ℕ) → number < 2 ^ 32 → list_all is_in_range (round number) ≡ true
unfolding round
round_fits number h =
    let upper : nat_lt (number / 2 ^ 16) (2 ^ 16) ≡ true = lt-ltb (number / 2 ^ 16) (2 ^ 16) (omega arith) in
    let lower : nat_lt (number % 2 ^ 16) (2 ^ 16) ≡ true = lt-ltb (number % 2 ^ 16) (2 ^ 16) (omega arith) in
    simp (upper, lower)

rounds_fit : (number count : ℕ) → number < 2 ^ 32 → list_all is_in_range (flat_map round (numbers_from number count)) ≡ true
rounds_fit number zero h = refl
rounds_fit number (suc count) h =
    let small : successor number < 2 ^ 32 = omega arith in
    list_all-append is_in_range (round number) (flat_map round (numbers_from (successor number) count))
    ∙ both (round_fits number h) (rounds_fit (successor number) count small)

program_fits : (count : ℕ) → count < 2 ^ 32 → list_all is_in_range (instructions count) ≡ true
unfolding numbers
program_fits count h =
    list_all-append is_in_range (start ++ flat_map round (numbers count)) finish
    ∙ both (list_all-append is_in_range start (flat_map round (numbers count)) ∙ both ends_fit.0 (rounds_fit count count h)) ends_fit.1

all_decode : (insns : List Insn) → list_all is_in_range insns ≡ true → map (λ insn. instruction_of (word_of insn)) insns ≡ map Some insns
unfolding word_of
all_decode [] h = refl
all_decode (insn ∷ insns) h =
    let here : instruction_of (word_of insn) ≡ Some insn = ap instruction_of (encoded (parts_of insn)) ∙ decodes insn (first (is_in_range insn) (list_all is_in_range insns) h) in
    let rest = all_decode insns (second (is_in_range insn) (list_all is_in_range insns) h) in
    rw (here, rest) refl

pub program_decodes : (count : ℕ) → count < 2 ^ 32 → map (λ insn. instruction_of (word_of insn)) (instructions count) ≡ map Some (instructions count)
program_decodes count h = all_decode (instructions count) (program_fits count h)
