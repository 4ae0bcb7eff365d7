use Rattle.std.proofs.Common.{sym, subst, arith}
use Rattle.std.specs.Int.{w64}
use Rattle.std.proofs.lemmas.Nat.Bits.{bit_at-trailing_ones}
use Rattle.number_pool.specs.inside.Words.{IsLeastZero}
use Rattle.number_pool.proofs.Bits.{not_full}
use Rattle.number_pool.proofs.words.first_free_place.Goals as goal

pub returns : goal.returns
returns c =
    let ones = bit_at-trailing_ones w64 c.args.word (not_full c.args.word c.ranges.word.fits c.requires) in
    subst (IsLeastZero c.args.word 0) (sym c.trailing_ones.ensures) (record {
      from_there = omega arith;
      inside = ones.0;
      zero_there = ones.1;
      between = λ lower low below. ones.2 lower below;
    })
