use Rattle.std.proofs.Common.{◌≡◌, suc, ◌+◌, ◌-◌, ◌++◌, sym, ap, ◌∙◌, arith}
use Rattle.std.specs.Prelude.{reverse}
use Rattle.kernel_core.specs.ValidTree.{node_limit}
use Rattle.kernel_model.specs.NodeRows.{name_below, names_to}
use Rattle.native_vfs.specs.Keyed.{number_at}
use Rattle.native_files.proofs.NamesUp.{names-begin, names-end, names-lost, names-root, names-up, names_before, parent-directory}
use Rattle.native_files.proofs.location.names_back.Goals as goal

pub loop-step-init : goal.loop-step-init
loop-step-init c = (
  c.requires.live,
  c.requires.directory,
  names-begin c.new-back.result.items c.new-back.ensures.items (names_to node_limit c.args.vfs.now.nodes (number_at c.args.vfs.now c.args.key)),
)

pub loop-step-preserved : goal.loop-step-preserved
loop-step-preserved c =
    let vfs = c.args.vfs.now in
    let nodes = vfs.nodes in
    let at = number_at vfs c.loop-step.at in
    let parent = number_at vfs c.in-Some.parent in
    let told = c.status-number.ensures in
    let same = ap (λ s. s.number) told.2 in
    let up = sym c.in-Some.ensures.parent in
    let fuel = node_limit - (c.loop-step._step + 1) in
    let back = c.loop-step.back.items in
    let steps : node_limit - c.loop-step._step ≡ suc fuel = omega arith in (
      c.in-Some.ensures.live,
      parent-directory nodes c.requires.valid at parent up,
      c.loop-step.invariant.2
          ∙ ap (λ n. names_before back (names_to n nodes at)) steps
          ∙ names-up nodes at parent fuel back (λ is. c.if-number-eq-ROOT_NUMBER.false (same ∙ is)) up
          ∙ ap (λ b. names_before b (names_to fuel nodes parent)) (ap (λ n. back ++ reverse (name_below nodes parent n)) (sym same) ∙ sym c.in_ok-put_name-in-Some.ensures),
    )

pub returns-then-number-eq-ROOT_NUMBER : goal.returns-then-number-eq-ROOT_NUMBER
returns-then-number-eq-ROOT_NUMBER c =
    let vfs = c.args.vfs.now in
    let told = c.status-number.ensures in
    sym (c.loop-step.invariant.2 ∙ ap (names_before c.loop-step.back.items) (names-root vfs.nodes (number_at vfs c.loop-step.at) (node_limit - c.loop-step._step) (sym (ap (λ s. s.number) told.2) ∙ c.if-number-eq-ROOT_NUMBER.true)))

pub returns-in-None : goal.returns-in-None
returns-in-None c =
    let vfs = c.args.vfs.now in
    let told = c.status-number.ensures in
    sym (c.loop-step.invariant.2
    ∙ ap (names_before c.loop-step.back.items) (names-lost vfs.nodes (number_at vfs c.loop-step.at) (node_limit - c.loop-step._step) (λ is. c.if-number-eq-ROOT_NUMBER.false (ap (λ s. s.number) told.2 ∙ is)) (sym c.in-None.ensures.parent)))

pub put_name-requires-clause-directory : goal.put_name-requires-clause-directory
put_name-requires-clause-directory c =
    let vfs = c.args.vfs.now in
    parent-directory vfs.nodes c.requires.valid (number_at vfs c.loop-step.at) (number_at vfs c.in-Some.parent) (sym c.in-Some.ensures.parent)

pub returns-then-status-eq-ROOT_NUMBER : goal.returns-then-status-eq-ROOT_NUMBER
returns-then-status-eq-ROOT_NUMBER c =
    let vfs = c.args.vfs.now in
    let told = c.status.ensures in
    sym (c.loop-step.invariant.2 ∙ ap (names_before c.loop-step.back.items) (names-root vfs.nodes (number_at vfs c.loop-step.at) (node_limit - c.loop-step._step) (sym (ap (λ s. s.number) told.2) ∙ c.if-status-eq-ROOT_NUMBER.true)))

pub returns : goal.returns
returns c =
    let vfs = c.args.vfs.now in
    let at = number_at vfs c.loop-step.at in
    let told = c.status.ensures in
    let ended = c.loop-step-test.false in
    let none : node_limit - c.loop-step._step ≡ 0 = omega (arith, ended) in
    sym (c.loop-step.invariant.2 ∙ ap (λ n. names_before c.loop-step.back.items (names_to n vfs.nodes at)) none
    ∙ ap (names_before c.loop-step.back.items) (names-end vfs.nodes at (λ is. c.if-status-eq-ROOT_NUMBER.false (ap (λ s. s.number) told.2 ∙ is))))
