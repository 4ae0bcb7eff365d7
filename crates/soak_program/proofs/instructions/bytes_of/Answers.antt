-- The word that an instruction is encoded as is the one with its numbers in the fields.
use Rattle.std.proofs.Common.{Some, sym, subst, ap, ◌∙◌, arith, ◌<◌, ◌^◌}
use Rattle.std.specs.Int.{to_be_bytes, w32}
use Rattle.mips_code.proofs.Forms.{Sound}
use Rattle.mips_code.proofs.Rows.{sound}
use Rattle.soak_program.specs.Instructions.{word_of}
use Rattle.mips_code.specs.Words.{parts_of}
use Rattle.soak_program.proofs.Fields.{encoded}
use Rattle.soak_program.proofs.instructions.bytes_of.Goals as goal

pub returns : goal.returns
unfolding word_of
returns c =
    let small : c.encode.result < 2 ^ 32 = omega arith in
    let there : Sound c.encode.result (Some c.args.insn) = subst (Sound c.encode.result) c.encode.ensures.decodes (sound c.encode.result small) in
    c.to_be_bytes.ensures ∙ ap (to_be_bytes w32) (sym (encoded (parts_of c.args.insn) ∙ there.0))
