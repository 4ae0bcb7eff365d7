use Rattle.std.proofs.Common.{◌≡◌, get_or, pos, to_z, of_z, ap, ◌∙◌, arith}
use Rattle.std.proofs.lemmas.Int.{ints}
use mir.Syntax.{w128}
use Rattle.layouts.specs.Number.{low_number}
use Rattle.signal_frames.proofs.Steps.{stack-words}
use Rattle.signal_frames.proofs.reading.stack_of.Goals as goal

pub returns : goal.returns
returns c =
    let words = c.args.words.now in
    let first : to_z w128 (of_z w128 (get_or words 0 (pos 0))) ≡ get_or words 0 (pos 0) = omega (arith, ints) in
    let second : to_z w128 (of_z w128 (get_or words 1 (pos 0))) ≡ get_or words 1 (pos 0) = omega (arith, ints) in
    let third : to_z w128 (of_z w128 (get_or words 2 (pos 0))) ≡ get_or words 2 (pos 0) = omega (arith, ints) in
    stack-words words c.low_word.result c.low_word-2.result c.low_word-3.result c.requires
    (c.low_word.ensures ∙ ap (low_number 4) first) (c.low_word-2.ensures ∙ ap (low_number 4) second) (c.low_word-3.ensures ∙ ap (low_number 4) third)
