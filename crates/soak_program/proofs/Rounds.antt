-- The code of the rounds, one by one.
use Rattle.std.proofs.Common.{◌≡◌, ℕ, suc, ◌+◌, ◌++◌, List, ◌∷◌, ap, sym, ◌∙◌, arith, append_assoc}
use Rattle.std.specs.List.{flat_map}
use Rattle.std.proofs.lemmas.Grind.{flat_map-append}
use Rattle.std.specs.Int.{to_be_bytes, w32}
use Rattle.mips_code.specs.declared.insn.Insn.{Insn}
use Rattle.soak_program.specs.Instructions.{code_of, round, word_of}
use Rattle.soak_program.specs.Numbers.{numbers_from, successor}

-- the pieces of one more element
one_more : {X Y Z : Type 0} (f : X → List Y) (g : Y → List Z) (old : List Z) (x : X) (xs : List X) → (old ++ flat_map g (f x)) ++ flat_map g (flat_map f xs) ≡ old ++ flat_map g (flat_map f (x ∷ xs))
one_more f g old x xs = append_assoc old (flat_map g (f x)) (flat_map g (flat_map f xs)) ∙ ap (λ t. old ++ t) (sym (flat_map-append g (f x) (flat_map f xs)))

pub next_round : (old : List ℕ) (number left rest : ℕ) → left ≡ rest + 1 → (old ++ code_of (round number)) ++ code_of (flat_map round (numbers_from (successor number) rest)) ≡ old ++ code_of (flat_map round (numbers_from number left))
next_round old number left rest h =
    let e : left ≡ suc rest = omega arith in
    rw e (one_more round (λ (insn : Insn). to_be_bytes w32 (word_of insn)) old number (numbers_from (successor number) rest))
