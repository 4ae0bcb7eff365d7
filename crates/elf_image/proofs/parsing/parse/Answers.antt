use Rattle.std.proofs.Common.{List, sym, subst, ◌∙◌, length}
use Rattle.elf_image.specs.inside.Header.{AreInside}
use Rattle.elf_image.specs.Loading.{IsValidPlan}
use Rattle.elf_image.specs.declared.program_header.ProgramHeader.{ProgramHeader}
use Rattle.elf_image.proofs.Whole.{are-inside, valid}
use Rattle.elf_image.proofs.parsing.parse.Goals as goal

pub planned-requires-clause-inside : goal.planned-requires-clause-inside
planned-requires-clause-inside c =
    let is = c.as_slice.ensures.value ∙ c.in_ok-loads.ensures.loads in
    subst (λ (hs : List ProgramHeader). AreInside (length c.args.bytes.now) hs) (sym is) (are-inside c.args.bytes.now c.in_ok-loads.ensures.judged)

pub returns-clause-valid : goal.returns-clause-valid
returns-clause-valid c = subst IsValidPlan (sym c.in_ok-plan.ensures) (valid c.args.bytes.now c.in_ok-loads.ensures.judged)
