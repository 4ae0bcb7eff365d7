use Rattle.std.proofs.Common.{ap, ◌∙◌}
use Rattle.kernel_model.specs.State.{Files}
use Rattle.kernel_model.specs.Table.{number_at}
use Rattle.native_files.proofs.Closing.{after-not_open}
use Rattle.native_files.proofs.files.Files.close_open.Goals as goal

pub returns-in-None-clause-closed : goal.returns-in-None-clause-closed
returns-in-None-clause-closed c = after-not_open c.args.self.now c.args.fd (c.in-None.ensures.number ∙ ap (λ (f : Files). number_at f.table c.args.fd) c.self.view_is)
