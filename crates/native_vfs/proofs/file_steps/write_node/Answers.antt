use Rattle.native_vfs.proofs.contents.Files.{unwritten}
use Rattle.native_vfs.proofs.file_steps.write_node.Goals as goal

pub returns-else-count-gt0-clause-ok : goal.returns-else-count-gt0-clause-ok
returns-else-count-gt0-clause-ok c =
    unwritten c.args.node.now c.in-File.content c.write_counted.new.content c.args.at c.in_ok-count.count c.args.bytes.now c.args.now c.in-File.is c.if-count-gt0.false
    c.in_ok-count.ensures.ok c.write_counted.ensures.valid
