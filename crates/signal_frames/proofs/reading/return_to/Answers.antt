use Rattle.std.proofs.Common.{◌≡◌, map, get_or, pos, to_z, of_z, ap, ◌∙◌, arith}
use Rattle.std.proofs.lemmas.Int.{ints}
use mir.Syntax.{w128}
use Rattle.layouts.specs.Number.{low_number}
use Rattle.layouts.specs.Frames.{context_of}
use Rattle.mips_exec.specs.Processor.{Processor}
use Rattle.mips_exec.specs.contracts.cpu.Cpu.{the_view}
use Rattle.signal_frames.specs.Returning.{returned}
use Rattle.signal_frames.proofs.Steps.{returned-words}
use Rattle.signal_frames.proofs.reading.return_to.Goals as goal

pub returns-clause-returned : goal.returns-clause-returned
returns-clause-returned c =
    let words = c.args.context.now in
    let first : to_z w128 (of_z w128 (get_or words 0 (pos 0))) ≡ get_or words 0 (pos 0) = omega (arith, ints) in
    let upper : to_z w128 (of_z w128 (get_or words 33 (pos 0))) ≡ get_or words 33 (pos 0) = omega (arith, ints) in
    let lower : to_z w128 (of_z w128 (get_or words 34 (pos 0))) ≡ get_or words 34 (pos 0) = omega (arith, ints) in
    returned-words (the_view c.cpu.inside) words c.loop-number.registers c.low_word-cpu-inside-2.result c.low_word-cpu-inside-3.result c.low_word-cpu-inside.result
    c.requires c.loop-number.invariant.0 c.loop-number.invariant.1 (λ k some below. c.loop-number.invariant.2 k some (omega arith))
    (c.low_word-cpu-inside.ensures ∙ ap (low_number 4) first) (c.low_word-cpu-inside-2.ensures ∙ ap (low_number 4) upper) (c.low_word-cpu-inside-3.ensures ∙ ap (low_number 4) lower)
    ∙ ap (λ (p : Processor). returned p (context_of (map (low_number 4) words))) c.cpu.view_is
