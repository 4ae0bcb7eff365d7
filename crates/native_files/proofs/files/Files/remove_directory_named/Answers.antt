use Rattle.std.proofs.Common.{Err, Ok, Some, true, of_z, subst, to_z}
use Rattle.std.proofs.Math.Facts.{to_z-of_z}
use Rattle.std.specs.Int.{w128}
use Rattle.kernel_model.specs.NameRows as rows
use Rattle.kernel_model.specs.State.{Files}
use Rattle.native_files.specs.Answers.{Answers, base_of}
use Rattle.native_files.proofs.KeptLemmas.{AreKept-held, home-held}
use Rattle.native_files.proofs.NamedRows.{remove_directory-lost, remove_directory-row}
use Rattle.native_files.proofs.NameSteps.{seen}
use Rattle.native_files.proofs.files.Files.remove_directory_named.Goals as goal

pub invariant_of-self : goal.invariant_of-self
invariant_of-self c =
    let s = c.self.inside in
    AreKept-held s.vfs c.remove_directory_at.new.vfs s.table.live s.node_keys.items s.directory c.self.invariant c.remove_directory_at.ensures.held c.remove_directory_at.ensures.valid

pub returns-in-Err : goal.returns-in-Err
returns-in-Err c = record {
  row =
      let s = c.self.inside in
      subst (λ (f : Files). Answers (rows.remove_name f c.args.now (base_of c.args.base) (Ok c.args.path.now) (Some true)) (Err c.in-Err.error) f) c.self.view_is
      (remove_directory-lost s.table s.flow s.directory s.umask s.terminal s.vfs (base_of c.args.base) c.args.path.now c.args.now c.in-Err.error c.in-Err.ensures);
}

pub returns-in-Ok : goal.returns-in-Ok
returns-in-Ok c = record {
  row =
      let s = c.self.inside in
      let new = c.remove_directory_at.new.vfs in
      let home = home-held s.vfs new s.table.live s.node_keys.items s.directory c.self.invariant c.remove_directory_at.ensures.held in
      subst (λ (f : Files). Answers (rows.remove_name f c.args.now (base_of c.args.base) (Ok c.args.path.now) (Some true)) c.remove_directory_at.result (seen s.table s.flow s.directory s.umask s.terminal new)) c.self.view_is
      (remove_directory-row s.table s.flow s.directory s.umask s.terminal s.vfs new home c.remove_directory_at.result c.args.now (to_z w128 (of_z w128 c.args.now)) (to_z-of_z {w = w128} {z = c.args.now} c.ranges.now) (base_of c.args.base) c.args.path.now c.in-Ok.at c.in-Ok.ensures c.remove_directory_at.ensures.changed);
}
