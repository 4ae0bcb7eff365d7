use Rattle.kernel_core.specs.ValidTree.{root}
use Rattle.native_vfs.proofs.walks.WalkLemmas.{leads-to, root-directory}
use Rattle.native_vfs.proofs.vfs.Vfs.root_key.Goals as goal

pub returns-clause-key : goal.returns-clause-key
returns-clause-key c =
    let inside = c.self.inside in
    leads-to c.args.self.now inside.inodes.table (record { number = root; key = inside.root }) c.self.view_is c.self.invariant.top

pub returns-clause-directory : goal.returns-clause-directory
returns-clause-directory c = root-directory c.args.self.now c.self.inside.inodes.table c.self.view_is c.self.invariant.sound.system
