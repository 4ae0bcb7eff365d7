use Rattle.std.proofs.Common.{length, subst}
use Rattle.kernel_core.specs.declared.error.Errno.TheVariants.{EBADF}
use Rattle.kernel_model.specs.Came.{with_some}
use Rattle.kernel_model.specs.Transfers.{read, reading}
use Rattle.native_files.specs.Answers.{ReadsSo, moved}
use Rattle.native_files.specs.inside.Contents.{read_asked}
use Rattle.native_files.proofs.files.Files.read.Goals as goal

pub returns-in-Some-clause-row : goal.returns-in-Some-clause-row
unfolding read
returns-in-Some-clause-row g c =
    λ left told.
    let files = c.args.self.now in
    subst (λ o. ReadsSo (with_some (reading left files) EBADF o (λ description. read_asked files left c.args.fd description c.args.asked (length c.args.buffer.now))) (moved c.read_asked.result) c.read_asked.new.self
    (g.I.Source.left c.args.input.now) (g.I.Source.left c.read_asked.new.input) c.args.buffer.now c.read_asked.new.buffer)
    c.in-Some.ensures.readable (c.read_asked.ensures.row left told)
