use Rattle.soak_program.proofs.Meaning.{program_decodes}
use Rattle.soak_program.proofs.instructions.code_is_the_program.Goals as goal

pub returns : goal.returns
returns c = program_decodes
