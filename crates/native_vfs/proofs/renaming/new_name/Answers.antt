use Rattle.native_vfs.proofs.tables.Reasons.{live-dir}
use Rattle.native_vfs.proofs.removals.Stages.{placed-listing}
use Rattle.native_vfs.proofs.renaming.new_name.Goals as goal

pub reserve_name-requires-clause-live : goal.reserve_name-requires-clause-live
reserve_name-requires-clause-live c = live-dir c.args.table.now c.args.at.now c.requires.agrees

pub reserve_name-requires-clause-directory : goal.reserve_name-requires-clause-directory
reserve_name-requires-clause-directory c = placed-listing c.args.table.now c.args.at.now c.requires.agrees
