use Rattle.std.proofs.Common.{Err, true, refl, sym, subst}
use Rattle.std.specs.FinMap.{get}
use Rattle.std.specs.Prelude.{◌&&◌, Result}
use Rattle.kernel_core.specs.declared.core_error.CoreError.{CoreError}
use Rattle.kernel_model.specs.NodeRows.{is_not_executable}
use Rattle.kernel_model.specs.State.{Files}
use Rattle.native_files.specs.Answers.{Answers, base_of}
use Rattle.native_files.specs.inside.NodeSteps.{access_answer, access_by_path}
use Rattle.native_files.proofs.NamedRows.{find-lost}
use Rattle.native_files.proofs.NodeRows.{access-row, may_access}
use Rattle.native_files.proofs.files.Files.access_named.Goals as goal
use Rattle.native_vfs.specs.Keyed.{number_at}

pub returns-in-Err : goal.returns-in-Err
returns-in-Err c = record {
  row =
      let s = c.self.inside in
      subst (λ (f : Files). Answers (access_by_path f (base_of c.args.base) c.args.path.now c.args.execute) (Err c.in-Err.error) f) c.self.view_is
      (find-lost s.table s.flow s.directory s.umask s.terminal s.vfs (base_of c.args.base) c.args.path.now true (may_access s.table s.flow s.directory s.umask s.terminal s.vfs c.args.execute) c.in-Err.error c.in-Err.ensures);
}

pub returns-in-Ok : goal.returns-in-Ok
returns-in-Ok c = record {
  row =
      let s = c.self.inside in
      subst (λ (r : Result (Unit {0}) CoreError). Answers (access_by_path c.args.self.now (base_of c.args.base) c.args.path.now c.args.execute) r c.args.self.now) (sym c.access_to.ensures)
      (subst (λ (f : Files). Answers (access_by_path f (base_of c.args.base) c.args.path.now c.args.execute) (access_answer (c.args.execute && is_not_executable (get s.vfs.nodes (number_at s.vfs c.in-Ok.node)))) f) c.self.view_is
      (access-row s.table s.flow s.directory s.umask s.terminal s.vfs (base_of c.args.base) c.args.path.now true c.in-Ok.node c.in-Ok.ensures c.args.execute
      (c.args.execute && is_not_executable (get s.vfs.nodes (number_at s.vfs c.in-Ok.node))) refl));
}
