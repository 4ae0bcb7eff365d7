use Rattle.std.proofs.Common.{◌≡◌, ◌∙◌, ◌+◌, ◌-◌, zero, eqb, sym, ap, arith}
use Rattle.kernel_core.specs.NameCalls.{is_below}
use Rattle.native_vfs.specs.inside.Stored.{nodes_of, number_of_key}
use Rattle.native_vfs.proofs.removals.RemovalReasons.{below-end, below-here, below-none, below-up}
use Rattle.native_vfs.proofs.tables.Tables.{len-nodes}
use Rattle.native_vfs.proofs.refusals.is_in_subtree.Goals as goal

pub loop-step-init : goal.loop-step-init
loop-step-init c = record {
  live = c.requires.dir;
  left = ap (λ n. is_below n (nodes_of c.args.inodes.now.table) (number_of_key c.args.inodes.now.table c.args.above) (number_of_key c.args.inodes.now.table c.args.dir))
      (len-nodes c.args.inodes.now.table c.args.inodes.now.distinct ∙ sym c.len-step-end.ensures ∙ (let e : c.len-step-end.result ≡ c.len-step-end.result - 0 = omega arith in e));
}

pub returns-then-number-above : goal.returns-then-number-above
returns-then-number-above c =
    sym (c.loop-step.invariant.left
    ∙ below-here (nodes_of c.args.inodes.now.table) (number_of_key c.args.inodes.now.table c.args.above) (number_of_key c.args.inodes.now.table c.loop-step.key)
    (c.len-step-end.result - c.loop-step._step) (c.len-step-end.result - (c.loop-step._step + 1)) (omega arith)
    (sym c.number.ensures ∙ c.if-number-above.true ∙ c.number-above.ensures))

pub returns-in-None : goal.returns-in-None
returns-in-None c =
    sym (c.loop-step.invariant.left
    ∙ below-none (nodes_of c.args.inodes.now.table) (number_of_key c.args.inodes.now.table c.args.above) (number_of_key c.args.inodes.now.table c.loop-step.key)
    (c.len-step-end.result - c.loop-step._step) (c.len-step-end.result - (c.loop-step._step + 1)) (omega arith)
    (λ e. c.if-number-above.false (c.number.ensures ∙ e ∙ sym c.number-above.ensures)) c.in-None.ensures.parent)

pub loop-step-preserved : goal.loop-step-preserved
loop-step-preserved c = record {
  live = c.in-Some.ensures.live;
  left = c.loop-step.invariant.left
      ∙ below-up (nodes_of c.args.inodes.now.table) (number_of_key c.args.inodes.now.table c.args.above) (number_of_key c.args.inodes.now.table c.loop-step.key)
      (c.len-step-end.result - c.loop-step._step) (c.len-step-end.result - (c.loop-step._step + 1)) (number_of_key c.args.inodes.now.table c.in-Some.parent) (omega arith)
      (λ e. c.if-number-above.false (c.number.ensures ∙ e ∙ sym c.number-above.ensures)) c.in-Some.ensures.parent;
}

pub returns : goal.returns
returns c =
    sym (c.loop-step.invariant.left
    ∙ ap (λ n. is_below n (nodes_of c.args.inodes.now.table) (number_of_key c.args.inodes.now.table c.args.above) (number_of_key c.args.inodes.now.table c.loop-step.key))
    (let e : c.len-step-end.result - c.loop-step._step ≡ zero = omega arith in e)
    ∙ below-end (nodes_of c.args.inodes.now.table) (number_of_key c.args.inodes.now.table c.args.above) (number_of_key c.args.inodes.now.table c.loop-step.key)
    ∙ ap (λ n. eqb n (number_of_key c.args.inodes.now.table c.args.above)) (sym c.number-2.ensures) ∙ ap (eqb c.number-2.result) (sym c.number-above.ensures))
