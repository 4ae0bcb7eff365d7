-- The word that is built is read as the instruction, and no other word is.
use Rattle.std.proofs.Common.{◌≡◌, Some, sym, ◌∙◌, ap, subst}
use Rattle.mips_code.specs.Instructions.{instruction_of}
use Rattle.mips_code.specs.Words.{parts_of}
use Rattle.mips_code.specs.inside.Assembled.{word_of_parts}
use Rattle.mips_code.proofs.Forms.{Sound}
use Rattle.mips_code.proofs.Rows.{decodes, sound}
use Rattle.mips_code.proofs.encode.Goals as goal

pub returns-clause-decodes : goal.returns-clause-decodes
returns-clause-decodes c =
    let built : c.word_of_parts.result ≡ word_of_parts (parts_of c.args.insn) =
    c.word_of_parts.ensures ∙ ap word_of_parts c.parts_of_insn.ensures in
    ap instruction_of built ∙ decodes c.args.insn c.requires

pub returns-clause-only : goal.returns-clause-only
returns-clause-only c word lt read =
    let built : c.word_of_parts.result ≡ word_of_parts (parts_of c.args.insn) =
    c.word_of_parts.ensures ∙ ap word_of_parts c.parts_of_insn.ensures in
    let sound_there : Sound word (Some c.args.insn) = subst (Sound word) read (sound word lt) in
    sym (built ∙ sound_there.0)
