use Rattle.std.proofs.Common.{sym, ◌∙◌}
use Rattle.std.specs.Int.{w64}
use Rattle.std.proofs.lemmas.Nat.Bits.{bit_at_set_same, bit_at_set_other, bit_at_clear_same, bit_at_clear_other}
use Rattle.number_pool.proofs.Bits.{one_is, zero_is}
use Rattle.number_pool.proofs.words.marked.Goals as goal

pub returns-then-taken-clause-place : goal.returns-then-taken-clause-place
returns-then-taken-clause-place c = one_is _ (bit_at_set_same w64 c.args.word c.args.place c.requires) ∙ sym c.if-taken.true

pub returns-then-taken-clause-others : goal.returns-then-taken-clause-others
returns-then-taken-clause-others c = λ other inside apart. bit_at_set_other w64 c.args.word c.args.place c.requires other apart

pub returns-else-taken-clause-place : goal.returns-else-taken-clause-place
returns-else-taken-clause-place c = zero_is _ (bit_at_clear_same w64 c.args.word c.args.place c.requires) ∙ sym c.if-taken.false

pub returns-else-taken-clause-others : goal.returns-else-taken-clause-others
returns-else-taken-clause-others c = λ other inside apart. bit_at_clear_other w64 c.args.word c.args.place c.requires other inside apart
