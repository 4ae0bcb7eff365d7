use Rattle.std.proofs.Common.{ap, ◌∙◌, arith}
use Rattle.std.specs.Prelude.{ℕ, List}
use Rattle.host_mem.specs.Memory.{written}
use Rattle.native_polls.proofs.WordBytes.{words_taken}
use Rattle.native_polls.proofs.fd_sets.store_set.Goals as goal

pub returns : goal.returns
returns c =
    c.write-there.ensures.written
    ∙ ap (λ (bs : List ℕ). written c.args.mem.now c.args.address bs)
    (words_taken c.args.words.now _ c.put_words.new.bytes c.args.count c.words_of-count.result c.words_of-count.ensures.words
    (omega (arith, c.words_of-count.ensures.few)) c.put_words.ensures)
