use Rattle.std.proofs.Common.{◌<◌, ◌∙◌, length, sym, arith}
use Rattle.replay_core.proofs.Words.{no_more_words, other_word, same_word}
use Rattle.replay_core.proofs.difference.compare.Goals as goal

pub loop-place-preserved : goal.loop-place-preserved
loop-place-preserved c =
    let below : c.loop-place.place < length c.args.found.now = omega (arith, c.loop-place-test.true, c.requires) in
    same_word c.args.wanted.now c.args.found.now c.loop-place.place c.loop-place-test.true below c.if-wanted-place.false ∙ c.loop-place.invariant

pub returns-then-wanted-place : goal.returns-then-wanted-place
returns-then-wanted-place c =
    let below : c.loop-place.place < length c.args.found.now = omega (arith, c.loop-place-test.true, c.requires) in
    sym c.loop-place.invariant ∙ other_word c.args.wanted.now c.args.found.now c.loop-place.place c.loop-place-test.true below c.if-wanted-place.true

pub returns : goal.returns
returns c = sym c.loop-place.invariant ∙ no_more_words c.args.wanted.now c.args.found.now c.loop-place.place (omega arith)
