use Rattle.std.proofs.Common.{ℕ, ◌*◌, sym, ap, ◌∙◌, arith}
use Rattle.native_polls.proofs.SetLaws.{fault_read, nothing_read, words_read}
use Rattle.native_polls.proofs.fd_sets.set_at.Goals as goal

pub returns-then-is_empty : goal.returns-then-is_empty
returns-then-is_empty c = nothing_read c.args.mem.now c.args.count c.args.address c.requires (sym c.is_empty.ensures ∙ c.if-is_empty.true)

pub returns-in-None : goal.returns-in-None
returns-in-None c =
    fault_read c.args.mem.now c.args.count c.args.address (8 * c.words_of-words.result) (sym c.is_empty.ensures ∙ c.if-is_empty.false)
    (ap (λ (n : ℕ). 8 * n) c.words_of-words.ensures.words) c.in-None.ensures.bytes

pub returns-in-Some : goal.returns-in-Some
returns-in-Some c =
    words_read c.args.mem.now c.in-Some.bytes.now c.words_in.result c.args.count c.args.address (8 * c.words_of-words.result)
    (sym c.is_empty.ensures ∙ c.if-is_empty.false) (ap (λ (n : ℕ). 8 * n) c.words_of-words.ensures.words) c.in-Some.ensures.bytes
    (λ k below. c.words_in.ensures k (omega (arith, below, c.words_of-words.ensures.words)))
