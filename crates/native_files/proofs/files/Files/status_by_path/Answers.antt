use Rattle.std.proofs.Common.{Err, Ok, subst}
use Rattle.kernel_core.specs.declared.error.Errno.TheVariants.{ENOENT}
use Rattle.kernel_model.specs.Came.{done, with_some}
use Rattle.kernel_model.specs.ContentRows.{status_at}
use Rattle.kernel_model.specs.NodeRows as rows
use Rattle.kernel_model.specs.State.{Files}
use Rattle.native_files.specs.Answers.{Answers, base_of, status_flags_of, status_told}
use Rattle.native_files.proofs.NameSteps.{seen}
use Rattle.native_files.proofs.NamedRows.{find-lost}
use Rattle.native_files.proofs.NodeRows.{status-row}
use Rattle.native_files.proofs.files.Files.status_by_path.Goals as goal

pub returns-in-Err-clause-row : goal.returns-in-Err-clause-row
returns-in-Err-clause-row c =
    let s = c.self.inside in
    let files = seen s.table s.flow s.directory s.umask s.terminal s.vfs in
    subst (λ (f : Files). Answers (rows.status_by_path f (base_of c.args.base) c.args.path.now (status_flags_of c.args.flags)) (Err c.in-Err.error) f) c.self.view_is
    (find-lost s.table s.flow s.directory s.umask s.terminal s.vfs (base_of c.args.base) c.args.path.now c.args.flags.follow
    (λ node. with_some files ENOENT (status_at s.vfs.nodes node) (λ status. done files status)) c.in-Err.error c.in-Err.ensures)

pub returns-in-Ok-clause-row : goal.returns-in-Ok-clause-row
returns-in-Ok-clause-row c =
    let s = c.self.inside in
    let told = c.node_status.ensures.told in
    subst (λ (f : Files). Answers (rows.status_by_path f (base_of c.args.base) c.args.path.now (status_flags_of c.args.flags)) (Ok (status_told c.node_status.result)) f) c.self.view_is
    (status-row s.table s.flow s.directory s.umask s.terminal s.vfs (base_of c.args.base) c.args.path.now c.args.flags.follow c.in-Ok.node c.in-Ok.ensures
    told.0 told.1 (status_told c.node_status.result) told.2)
