use Rattle.std.proofs.Common.{Err, Ok, of_z, refl, subst, sym, to_z}
use Rattle.std.proofs.Math.Facts.{to_z-of_z}
use Rattle.std.specs.Int.{w128}
use Rattle.kernel_core.specs.declared.core_error.CoreError.TheVariants as errors
use Rattle.kernel_core.specs.declared.error.Errno.TheVariants.{ENOENT}
use Rattle.kernel_model.specs.Came.{Did}
use Rattle.kernel_model.specs.NameRows as rows
use Rattle.kernel_model.specs.State.{Files}
use Rattle.native_files.specs.Answers.{Answers, base_of}
use Rattle.native_files.proofs.KeptLemmas.{AreKept-held, home-held}
use Rattle.native_files.proofs.NamedRows.{rename-lost, rename-lost_new, rename-missing, rename-row}
use Rattle.native_files.proofs.NameSteps.{seen}
use Rattle.native_files.proofs.files.Files.rename_named.Goals as goal

pub invariant_of-self : goal.invariant_of-self
invariant_of-self c =
    let s = c.self.inside in
    AreKept-held s.vfs c.rename_at.new.vfs s.table.live s.node_keys.items s.directory c.self.invariant c.rename_at.ensures.held c.rename_at.ensures.valid

pub returns-in-Err : goal.returns-in-Err
returns-in-Err c = record {
  row =
      let s = c.self.inside in
      subst (λ (f : Files). Answers (rows.rename f c.args.now (base_of c.args.old.base) (Ok c.args.old.path.now) (base_of c.args.new.base) (Ok c.args.new.path.now)) (Err c.in-Err.error) f) c.self.view_is
      (rename-lost s.table s.flow s.directory s.umask s.terminal s.vfs (base_of c.args.old.base) c.args.old.path.now (base_of c.args.new.base) c.args.new.path.now c.args.now c.in-Err.error c.in-Err.ensures);
}

pub returns-in-Err-walk : goal.returns-in-Err-walk
returns-in-Err-walk c = record {
  row =
      let s = c.self.inside in
      subst (λ (f : Files). Answers (rows.rename f c.args.now (base_of c.args.old.base) (Ok c.args.old.path.now) (base_of c.args.new.base) (Ok c.args.new.path.now)) (Err c.in-Err-walk.error) f) c.self.view_is
      (rename-lost_new s.table s.flow s.directory s.umask s.terminal s.vfs (base_of c.args.old.base) c.args.old.path.now (base_of c.args.new.base) c.args.new.path.now c.args.now c.in-Ok.from c.in-Ok.ensures c.in-Some.moved c.in-Some.is c.in-Err-walk.error c.in-Err-walk.ensures);
}

pub returns : goal.returns
returns c = record {
  row =
      let s = c.self.inside in
      let new = c.rename_at.new.vfs in
      let home = home-held s.vfs new s.table.live s.node_keys.items s.directory c.self.invariant c.rename_at.ensures.held in
      subst (λ (f : Files). Answers (rows.rename f c.args.now (base_of c.args.old.base) (Ok c.args.old.path.now) (base_of c.args.new.base) (Ok c.args.new.path.now)) c.rename_at.result (seen s.table s.flow s.directory s.umask s.terminal new)) c.self.view_is
      (rename-row s.table s.flow s.directory s.umask s.terminal s.vfs new home c.rename_at.result c.args.now (to_z w128 (of_z w128 c.args.now)) (to_z-of_z {w = w128} {z = c.args.now} c.ranges.now) (base_of c.args.new.base) c.args.new.path.now c.in-Ok-walk.to c.in-Ok-walk.ensures (base_of c.args.old.base) c.args.old.path.now c.in-Ok.from c.in-Some.moved c.in-Ok.ensures c.in-Some.is c.rename_at.ensures.changed);
}

pub returns-in-None : goal.returns-in-None
returns-in-None c = record {
  row =
      let s = c.self.inside in
      let files = seen s.table s.flow s.directory s.umask s.terminal s.vfs in
      subst (λ (f : Files). Answers (rows.rename f c.args.now (base_of c.args.old.base) (Ok c.args.old.path.now) (base_of c.args.new.base) (Ok c.args.new.path.now)) (Err (errors.Refused ENOENT)) f) c.self.view_is
      (subst (λ (step : Did Files (Unit {0})). Answers step (Err (errors.Refused ENOENT)) files)
      (sym (rename-missing s.table s.flow s.directory s.umask s.terminal s.vfs (base_of c.args.old.base) c.args.old.path.now (base_of c.args.new.base) c.args.new.path.now c.args.now c.in-Ok.from c.in-Ok.ensures c.in-None.is)) (refl, refl));
}
