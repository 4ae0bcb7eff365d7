use Rattle.native_polls.proofs.WordBytes.{word_more}
use Rattle.native_polls.proofs.fd_sets.put_words.Goals as goal

pub loop-k-preserved : goal.loop-k-preserved
loop-k-preserved c =
    word_more c.args.words.now c.args.bytes.now c.loop-k.bytes c.write_u64.new.buf c.loop-k.k c.loop-k-test.true c.loop-k.invariant c.write_u64.ensures
