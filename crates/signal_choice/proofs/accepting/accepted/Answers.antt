-- Number by number.
use Rattle.std.proofs.Common.{◌≡◌, ◌∙◌, ◌&&◌, sym, ap, ℕ, arith, rules}
use Rattle.kernel_core.specs.declared.signal.Sig.{Sig}
use Rattle.kernel_model.specs.SignalSets.{blockable, has}
use Rattle.signal_choice.proofs.Lookup.{found_from, here, none_behind, not_here}
use Rattle.signal_choice.proofs.accepting.accepted.Goals as goal

pub returns-then-is_some : goal.returns-then-is_some
returns-then-is_some c =
    let test = λ (signal : Sig). has (blockable c.args.set) signal && has c.args.pending signal in
    sym (c.loop-number.invariant ∙ here test c.loop-number.number (omega arith) c.named_at-found.result c.named_at-found.ensures (search rules))

pub loop-number-preserved : goal.loop-number-preserved
loop-number-preserved c =
    let test = λ (signal : Sig). has (blockable c.args.set) signal && has c.args.pending signal in
    c.loop-number.invariant ∙ not_here test c.loop-number.number (omega arith) c.named_at-found.result c.named_at-found.ensures (search rules)

pub returns : goal.returns
returns c =
    let test = λ (signal : Sig). has (blockable c.args.set) signal && has c.args.pending signal in
    let end : c.loop-number.number ≡ 129 = omega arith in
    sym (c.loop-number.invariant ∙ ap (λ (n : ℕ). found_from test n) end ∙ none_behind test)
