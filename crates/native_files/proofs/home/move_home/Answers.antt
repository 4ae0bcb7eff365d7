use Rattle.native_files.proofs.Homes.{AreKept-moved}
use Rattle.native_files.proofs.home.move_home.Goals as goal

pub returns-clause-kept : goal.returns-clause-kept
returns-clause-kept c =
    AreKept-moved c.args.vfs.now c.args.table.now.live c.args.node_keys.now c.args.from c.requires.kept c.args.to c.requires.live c.requires.directory
    c.hold.new.self c.hold.ensures.nodes c.hold.ensures.same c.hold.ensures.held c.release.new.self c.release.ensures.held c.release.ensures.valid
