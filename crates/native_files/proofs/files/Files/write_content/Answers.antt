use Rattle.native_files.proofs.KeptLemmas.{AreKept-held}
use Rattle.native_files.proofs.files.Files.write_content.Goals as goal

pub invariant_of-self : goal.invariant_of-self
invariant_of-self c =
    AreKept-held c.self.inside.vfs c.write_file.new.vfs c.self.inside.table.live c.self.inside.node_keys.items c.self.inside.directory c.self.invariant c.write_file.ensures.held c.write_file.ensures.valid
