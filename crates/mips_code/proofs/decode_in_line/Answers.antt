-- What is read of a word is in range.
use Rattle.std.proofs.Common.{ℕ, Option, Some, None, sym, subst}
use Rattle.std.specs.Prelude.{IsTrue, IfSome}
use Rattle.mips_code.specs.declared.insn.Insn.{Insn}
use Rattle.mips_code.specs.Words.{is_in_range}
use Rattle.mips_code.proofs.Forms.{Sound}
use Rattle.mips_code.proofs.Rows.{sound}
use Rattle.mips_code.proofs.decode_in_line.Goals as goal

in_range_of :
    (word : ℕ) (read : Option Insn) → Sound word read → IfSome read (λ insn. IsTrue (is_in_range insn))
in_range_of word (Some insn) h = h.1
in_range_of word None h = tt

pub returns-clause-in_range : goal.returns-clause-in_range
returns-clause-in_range c =
    in_range_of c.args.word c.look_up.result
    (subst (Sound c.args.word) (sym c.look_up.ensures) (sound c.args.word c.ranges.word.fits))
