use Rattle.std.proofs.Common.{◌∷◌, [], arith}
use Rattle.signal_sets.proofs.Turned.{native_of-only, two_words_small}
use Rattle.signal_sets.proofs.Turning.{to_native_same}
use Rattle.signal_sets.proofs.sets.to_native.Goals as goal

same : goal.returns-clause-signals
same c =
    to_native_same c.args.set c.gathered.result c.joined.result c.joined-2.result (omega arith) (omega (arith, c.joined-2.ensures.low_half))
    c.gathered.ensures.bits c.joined.ensures.word c.joined-2.ensures.word

pub returns-clause-value : goal.returns-clause-value
returns-clause-value c =
    native_of-only c.args.set (c.joined.result ∷ c.joined-2.result ∷ []) (two_words_small c.joined.result c.joined-2.result (omega arith) (omega arith)) (same c)

pub returns-clause-signals : goal.returns-clause-signals
returns-clause-signals = same
