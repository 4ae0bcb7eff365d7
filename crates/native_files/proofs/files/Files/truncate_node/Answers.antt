use Rattle.native_files.proofs.KeptLemmas.{AreKept-held}
use Rattle.native_files.proofs.files.Files.truncate_node.Goals as goal

pub invariant_of-self : goal.invariant_of-self
invariant_of-self c =
    AreKept-held c.self.inside.vfs c.truncate_at.new.vfs c.self.inside.table.live c.self.inside.node_keys.items c.self.inside.directory c.self.invariant c.truncate_at.ensures.held c.truncate_at.ensures.valid
