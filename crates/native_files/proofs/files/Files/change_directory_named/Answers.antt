use Rattle.std.proofs.Common.{Err, Ok, true, refl, subst}
use Rattle.kernel_core.specs.Queries.{FileKind, LinkKind}
use Rattle.kernel_core.specs.declared.core_error.CoreError.TheVariants.{Refused}
use Rattle.kernel_core.specs.declared.error.Errno.TheVariants.{ENOTDIR}
use Rattle.kernel_model.specs.NodeRows as rows
use Rattle.kernel_model.specs.Paths.{Working}
use Rattle.kernel_model.specs.State.{Files}
use Rattle.native_files.specs.Answers.{Answers}
use Rattle.native_files.proofs.NameSteps.{seen}
use Rattle.native_files.proofs.NamedRows.{find-lost}
use Rattle.native_files.proofs.NodeRows.{change, change-row, fine, not_changed-row}
use Rattle.native_files.proofs.files.Files.change_directory_named.Goals as goal

pub returns-in-Err : goal.returns-in-Err
unfolding rows.change_directory
returns-in-Err c = record {
  row =
      let s = c.self.inside in
      subst (λ (f : Files). Answers (rows.change_directory f (Ok c.args.path.now)) (Err c.in-Err.error) f) c.self.view_is
      (find-lost s.table s.flow s.directory s.umask s.terminal s.vfs Working c.args.path.now true (change s.table s.flow s.directory s.umask s.terminal s.vfs) c.in-Err.error c.in-Err.ensures);
}

pub returns-in-Directory : goal.returns-in-Directory
unfolding rows.change_directory
returns-in-Directory c = record {
  row =
      let s = c.self.inside in
      subst (λ (f : Files). Answers (rows.change_directory f (Ok c.args.path.now)) fine (seen s.table s.flow c.in-Ok.to s.umask s.terminal c.move_home.new.vfs)) c.self.view_is
      (change-row s.table s.flow s.directory s.umask s.terminal s.vfs Working c.args.path.now true c.in-Ok.to c.in-Ok.ensures c.in-Directory.ensures c.move_home.new.vfs c.move_home.ensures.nodes c.move_home.ensures.home);
}

pub returns-in-File : goal.returns-in-File
unfolding rows.change_directory
returns-in-File c = record {
  row =
      let s = c.self.inside in
      subst (λ (f : Files). Answers (rows.change_directory f (Ok c.args.path.now)) (Err (Refused ENOTDIR)) f) c.self.view_is
      (not_changed-row s.table s.flow s.directory s.umask s.terminal s.vfs Working c.args.path.now true c.in-Ok.to c.in-Ok.ensures FileKind refl c.in-File.ensures);
}

pub returns-in-Link : goal.returns-in-Link
unfolding rows.change_directory
returns-in-Link c = record {
  row =
      let s = c.self.inside in
      subst (λ (f : Files). Answers (rows.change_directory f (Ok c.args.path.now)) (Err (Refused ENOTDIR)) f) c.self.view_is
      (not_changed-row s.table s.flow s.directory s.umask s.terminal s.vfs Working c.args.path.now true c.in-Ok.to c.in-Ok.ensures LinkKind refl c.in-Link.ensures);
}
