use Rattle.std.proofs.Common.{◌≡◌, Err, Ok, subst}
use Rattle.kernel_core.specs.Queries as queries
use Rattle.kernel_core.specs.declared.core_error.CoreError.TheVariants as errors
use Rattle.kernel_core.specs.declared.error.Errno.TheVariants.{EINVAL}
use Rattle.kernel_model.specs.State.{Files}
use Rattle.native_files.specs.Answers.{Answers, base_of}
use Rattle.native_files.specs.inside.Targets.{read_target}
use Rattle.native_files.proofs.TargetRows.{no-target, target-lost, target-none, target-read}
use Rattle.native_files.proofs.files.Files.read_link_named.Goals as goal
use Rattle.native_vfs.specs.Keyed.{number_at}

pub returns-in-Err : goal.returns-in-Err
returns-in-Err c = record {
  row =
      let s = c.self.inside in
      subst (λ (f : Files). Answers (read_target f (base_of c.args.base) c.args.path.now c.args.most) (Err c.in-Err.error) f) c.self.view_is
      (target-lost s.table s.flow s.directory s.umask s.terminal s.vfs (base_of c.args.base) c.args.path.now c.args.most c.in-Err.error c.in-Err.ensures);
}

pub returns-in-Link : goal.returns-in-Link
returns-in-Link c = record {
  row =
      let s = c.self.inside in
      subst (λ (f : Files). Answers (read_target f (base_of c.args.base) c.args.path.now c.args.most) (Ok c.first_bytes.result.now) f) c.self.view_is
      (target-read s.table s.flow s.directory s.umask s.terminal s.vfs (base_of c.args.base) c.args.path.now c.args.most c.in-Ok.node c.in-Ok.ensures c.target.result.now c.first_bytes.result.now c.target.ensures c.first_bytes.ensures);
}

pub returns-in-File : goal.returns-in-File
returns-in-File c = record {
  row =
      let s = c.self.inside in
      subst (λ (f : Files). Answers (read_target f (base_of c.args.base) c.args.path.now c.args.most) (Err (errors.Refused EINVAL)) f) c.self.view_is
      (target-none s.table s.flow s.directory s.umask s.terminal s.vfs (base_of c.args.base) c.args.path.now c.args.most c.in-Ok.node c.in-Ok.ensures (no-target s.vfs.nodes (number_at s.vfs c.in-Ok.node) queries.FileKind c.in-File.ensures (λ e. absurd (let bad : queries.FileKind ≡ queries.LinkKind = e in cc))));
}

pub returns-in-Directory : goal.returns-in-Directory
returns-in-Directory c = record {
  row =
      let s = c.self.inside in
      subst (λ (f : Files). Answers (read_target f (base_of c.args.base) c.args.path.now c.args.most) (Err (errors.Refused EINVAL)) f) c.self.view_is
      (target-none s.table s.flow s.directory s.umask s.terminal s.vfs (base_of c.args.base) c.args.path.now c.args.most c.in-Ok.node c.in-Ok.ensures (no-target s.vfs.nodes (number_at s.vfs c.in-Ok.node) queries.DirectoryKind c.in-Directory.ensures (λ e. absurd (let bad : queries.DirectoryKind ≡ queries.LinkKind = e in cc))));
}
