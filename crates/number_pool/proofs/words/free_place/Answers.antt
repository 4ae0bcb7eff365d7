use Rattle.std.proofs.Common.{sym, ◌∙◌}
use Rattle.number_pool.proofs.Bits.{masked_least, masked_ones}
use Rattle.number_pool.proofs.words.free_place.Goals as goal

pub returns-then-is_full : goal.returns-then-is_full
returns-then-is_full c = masked_ones c.args.word c.args.from c.requires (sym c.is_full.ensures ∙ c.if-is_full.true)

pub returns-else-is_full : goal.returns-else-is_full
returns-else-is_full c = masked_least c.args.word c.args.from c.requires c.first_free_place.result c.first_free_place.ensures
