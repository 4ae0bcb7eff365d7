-- The position is put there.
use Rattle.kernel_model.specs.Transfers.{moved_to}
use Rattle.kernel_model.specs.Whole.{with_files}
use Rattle.native_calls.specs.Step.{value}
use Rattle.bridge_entries.proofs.Lookups.{place_quiet}
use Rattle.bridge_entries.proofs.Quietly.{went_stop}
use Rattle.bridge_entries.proofs.passing.put_position.Goals as goal

pub returns-clause-goes : goal.returns-clause-goes
returns-clause-goes g c = λ description node there is_node small left told.
    let seen = c.in_ok-quiet.ensures.goes (with_files c.args.below.now.kernel.now (moved_to c.args.below.now.kernel.now.files c.args.fd description c.args.place)) (value c.args.place) c.clear.new.self
    (λ left. place_quiet c.args.below.now.kernel.now c.clear.new.self left c.from.result c.args.fd c.args.place description node c.from.ensures c.ranges.fd.fits there is_node small) left told in
    (tt, seen.1)

pub returns-in_err-quiet-clause-goes : goal.returns-in_err-quiet-clause-goes
returns-in_err-quiet-clause-goes g c = λ description node there is_node small left told.
    went_stop _ c.from_residual.result _ _ _ _ _ _ _ _ c.from_residual.ensures.0
    (c.in_err-quiet.ensures.goes (with_files c.args.below.now.kernel.now (moved_to c.args.below.now.kernel.now.files c.args.fd description c.args.place)) (value c.args.place) c.clear.new.self
    (λ left. place_quiet c.args.below.now.kernel.now c.clear.new.self left c.from.result c.args.fd c.args.place description node c.from.ensures c.ranges.fd.fits there is_node small) left told)
