-- The native call stores for the row.
use Rattle.bridge_io.proofs.TerminalMirrors.{stores_along}
use Rattle.o32_model.specs.Words.{argument}
use Rattle.bridge_io.proofs.terminal.show.Goals as goal

pub returns-clause-row : goal.returns-clause-row
returns-clause-row g c = λ guest step same memory stores.
    c.store_call.ensures.row guest step same memory
    (λ left. stores_along guest c.args.below.now.kernel.now left (argument c.args.words.now 2) c.args.structure (step left) _ (argument c.args.words.now 0) c.args.number _ _ c.args.space.now memory c.from.ensures c.size_for_program.ensures.value c.host_place-place.ensures (stores left))

pub returns-clause-kept : goal.returns-clause-kept
returns-clause-kept g c = λ guest step same memory stores.
    c.store_call.ensures.kept guest step same memory
    (λ left. stores_along guest c.args.below.now.kernel.now left (argument c.args.words.now 2) c.args.structure (step left) _ (argument c.args.words.now 0) c.args.number _ _ c.args.space.now memory c.from.ensures c.size_for_program.ensures.value c.host_place-place.ensures (stores left))
