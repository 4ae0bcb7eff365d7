use Rattle.std.proofs.Common.{arith}
use Rattle.std.proofs.lemmas.Nat.{and_le_r}
use Rattle.signal_sets.proofs.Turned.{set_of_native-only, four_words_small}
use Rattle.signal_sets.proofs.Turning.{of_native_same}
use Rattle.signal_sets.proofs.sets.of_native.Goals as goal

same : goal.returns-clause-signals
same c =
    of_native_same c.args.native c.gathered.result c.low_word-first.result c.high_word.result c.low_word.result c.high_word-2.result (omega arith)
    c.low_word-first.ensures c.high_word.ensures c.low_word.ensures c.high_word-2.ensures c.gathered.ensures.bits

pub returns-clause-value : goal.returns-clause-value
returns-clause-value c =
    set_of_native-only _ c.args.native
    (four_words_small _ _ _ _ (omega (arith, and_le_r c.low_word-first.result 2147483648, c.gathered.ensures.small)) (omega arith) (omega arith) (omega arith))
    (same c)

pub returns-clause-signals : goal.returns-clause-signals
returns-clause-signals = same
