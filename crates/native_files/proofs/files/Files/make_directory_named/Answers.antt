use Rattle.std.proofs.Common.{Err, Ok, of_z, subst, to_z}
use Rattle.std.proofs.Math.Facts.{to_z-of_z}
use Rattle.std.specs.Int.{w128}
use Rattle.kernel_model.specs.NameRows as rows
use Rattle.kernel_model.specs.State.{Files}
use Rattle.native_files.specs.Answers.{Answers, base_of}
use Rattle.native_files.proofs.KeptLemmas.{AreKept-held, home-held}
use Rattle.native_files.proofs.NameSteps.{make_directory-lost, make_directory-row, seen}
use Rattle.native_files.proofs.files.Files.make_directory_named.Goals as goal

pub invariant_of-self : goal.invariant_of-self
invariant_of-self c =
    AreKept-held c.self.inside.vfs c.make_directory_at.new.vfs c.self.inside.table.live c.self.inside.node_keys.items c.self.inside.directory c.self.invariant c.make_directory_at.ensures.held c.make_directory_at.ensures.valid

pub returns-in-Err : goal.returns-in-Err
returns-in-Err c = record {
  row =
      let s = c.self.inside in
      subst (λ (f : Files). Answers (rows.make_directory f c.args.now (base_of c.args.base) (Ok c.args.path.now) c.args.mode) (Err c.in-Err.error) f) c.self.view_is
      (make_directory-lost s.table s.flow s.directory s.umask s.terminal s.vfs (base_of c.args.base) c.args.path.now c.args.now c.args.mode c.in-Err.error c.in-Err.ensures);
}

pub returns-in-Ok : goal.returns-in-Ok
returns-in-Ok c = record {
  row =
      let s = c.self.inside in
      let new = c.make_directory_at.new.vfs in
      let home = home-held s.vfs new s.table.live s.node_keys.items s.directory c.self.invariant c.make_directory_at.ensures.held in
      subst (λ (f : Files). Answers (rows.make_directory f c.args.now (base_of c.args.base) (Ok c.args.path.now) c.args.mode) c.make_directory_at.result (seen s.table s.flow s.directory s.umask s.terminal new)) c.self.view_is
      (make_directory-row s.table s.flow s.directory s.umask s.terminal s.vfs new home (base_of c.args.base) c.args.path.now c.args.now c.args.mode c.in-Ok.at c.in-Ok.ensures
      (to_z w128 (of_z w128 c.args.now)) (to_z-of_z {w = w128} {z = c.args.now} c.ranges.now) c.permitted-mode.result c.permitted-mode.ensures.bits c.make_directory_at.result c.make_directory_at.ensures.changed);
}
