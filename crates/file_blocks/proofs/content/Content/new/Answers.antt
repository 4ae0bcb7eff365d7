use Rattle.std.proofs.Common.{ℕ, List, nat_cmp, ap, ◌∙◌, subst, sym, arith}
use Rattle.std.specs.FinMap.{len, len-empty}
use Rattle.kernel_core.specs.FileContent.{IsContent, no_content}
use Rattle.file_blocks.proofs.Validity.{empty-valid}
use Rattle.file_blocks.proofs.content.Content.new.Goals as goal

empty_content-valid : IsContent no_content
empty_content-valid = record { small = omega arith; blocks = empty-valid 0 }

pub invariant_of-result : goal.invariant_of-result
invariant_of-result c =
    let none = ap len c.new.ensures ∙ len-empty nat_cmp (List ℕ) in
    (subst (λ m. IsContent (record { size = 0; blocks = m })) (sym c.new.ensures) empty_content-valid, omega (arith, none))

pub returns-clause-valid : goal.returns-clause-valid
returns-clause-valid c = subst (λ m. IsContent (record { size = 0; blocks = m })) (sym c.new.ensures) empty_content-valid

pub returns-clause-none_kept : goal.returns-clause-none_kept
returns-clause-none_kept c = ap len c.new.ensures ∙ len-empty nat_cmp (List ℕ)
