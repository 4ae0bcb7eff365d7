use Rattle.std.specs.Prelude.{◌≡◌, ◌%◌}
use Rattle.std.proofs.Common.{◌∙◌, arith, ap}
use Rattle.std.proofs.lemmas.Nat.{and_mask}
use Rattle.bitflags.specs.Sets.{known_from}
use Rattle.kernel_core.specs.MapSet.{map_set}
use Rattle.kernel_core.specs.inside.MapBits.{map_set_named}
use Rattle.kernel_core.proofs.map_flags.MapFlags.new.Goals as goal

named : (c : goal.After-from_bits_truncate) → c.from_bits_truncate.result.0 ≡ c.args.bits.0 % 8
unfolding known_from
named c = c.from_bits_truncate.ensures tt ∙ and_mask c.args.bits.0 3

pub invariant_of-result : goal.invariant_of-result
invariant_of-result c = let kept = named c in omega arith

pub returns : goal.returns
returns c = ap (λ bits. map_set c.args.kind bits) (named c) ∙ map_set_named c.args.kind c.args.bits.0
