use Rattle.std.proofs.Common.{Err, Ok, Some, of_z, subst, to_z}
use Rattle.std.proofs.Math.Facts.{to_z-of_z}
use Rattle.std.specs.Int.{w128}
use Rattle.kernel_model.specs.NameRows as rows
use Rattle.kernel_model.specs.State.{Files}
use Rattle.native_files.specs.Answers.{Answers, base_of}
use Rattle.native_files.proofs.KeptLemmas.{AreKept-held, home-held}
use Rattle.native_files.proofs.NamedRows.{link-lost, link-lost_new, link-row}
use Rattle.native_files.proofs.NameSteps.{seen}
use Rattle.native_files.proofs.files.Files.link_named.Goals as goal

pub invariant_of-self : goal.invariant_of-self
invariant_of-self c =
    let s = c.self.inside in
    AreKept-held s.vfs c.link_at.new.vfs s.table.live s.node_keys.items s.directory c.self.invariant c.link_at.ensures.held c.link_at.ensures.valid

pub returns-in-Err : goal.returns-in-Err
returns-in-Err c = record {
  row =
      let s = c.self.inside in
      subst (λ (f : Files). Answers (rows.link f c.args.now (base_of c.args.old.base) (Ok c.args.old.path.now) (base_of c.args.new.base) (Ok c.args.new.path.now) (Some c.args.follow)) (Err c.in-Err.error) f) c.self.view_is
      (link-lost s.table s.flow s.directory s.umask s.terminal s.vfs (base_of c.args.old.base) c.args.old.path.now (base_of c.args.new.base) c.args.new.path.now c.args.now c.args.follow c.in-Err.error c.in-Err.ensures);
}

pub returns-in-Err-walk : goal.returns-in-Err-walk
returns-in-Err-walk c = record {
  row =
      let s = c.self.inside in
      subst (λ (f : Files). Answers (rows.link f c.args.now (base_of c.args.old.base) (Ok c.args.old.path.now) (base_of c.args.new.base) (Ok c.args.new.path.now) (Some c.args.follow)) (Err c.in-Err-walk.error) f) c.self.view_is
      (link-lost_new s.table s.flow s.directory s.umask s.terminal s.vfs (base_of c.args.old.base) c.args.old.path.now (base_of c.args.new.base) c.args.new.path.now c.args.now c.args.follow c.in-Ok.node c.in-Ok.ensures c.in-Err-walk.error c.in-Err-walk.ensures);
}

pub returns-in-Ok-walk : goal.returns-in-Ok-walk
returns-in-Ok-walk c = record {
  row =
      let s = c.self.inside in
      let new = c.link_at.new.vfs in
      let home = home-held s.vfs new s.table.live s.node_keys.items s.directory c.self.invariant c.link_at.ensures.held in
      subst (λ (f : Files). Answers (rows.link f c.args.now (base_of c.args.old.base) (Ok c.args.old.path.now) (base_of c.args.new.base) (Ok c.args.new.path.now) (Some c.args.follow)) c.link_at.result (seen s.table s.flow s.directory s.umask s.terminal new)) c.self.view_is
      (link-row s.table s.flow s.directory s.umask s.terminal s.vfs new home c.link_at.result c.args.now (to_z w128 (of_z w128 c.args.now)) (to_z-of_z {w = w128} {z = c.args.now} c.ranges.now) (base_of c.args.new.base) c.args.new.path.now c.in-Ok-walk.at c.in-Ok-walk.ensures (base_of c.args.old.base) c.args.old.path.now c.args.follow c.in-Ok.node c.in-Ok.ensures c.link_at.ensures.changed);
}
