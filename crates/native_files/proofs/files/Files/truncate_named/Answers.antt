use Rattle.std.proofs.Common.{ℤ, Err, true, sym, subst}
use Rattle.std.specs.Prelude.{Result}
use Rattle.std.proofs.Math.Facts.{to_z-of_z}
use Rattle.std.specs.Int.{w128}
use Rattle.kernel_core.specs.NodeCalls.{after_resize}
use Rattle.kernel_core.specs.declared.core_error.CoreError.{CoreError}
use Rattle.kernel_model.specs.Descriptions.{content_at}
use Rattle.kernel_model.specs.NodeRows as rows
use Rattle.kernel_model.specs.State.{Files}
use Rattle.native_files.specs.Answers.{Answers, base_of}
use Rattle.native_files.specs.inside.NodeSteps.{ChangesSurely, truncate_by_path, truncate_refusal, wide}
use Rattle.native_files.proofs.KeptLemmas.{AreKept-held, home-held}
use Rattle.native_files.proofs.NameSteps.{seen}
use Rattle.native_files.proofs.NamedRows.{find-lost}
use Rattle.native_files.proofs.NodeRows.{truncate-row}
use Rattle.native_files.proofs.files.Files.truncate_named.Goals as goal
use Rattle.native_vfs.specs.Keyed.{number_at}

pub invariant_of-self : goal.invariant_of-self
invariant_of-self c =
    AreKept-held c.self.inside.vfs c.truncate_at.new.vfs c.self.inside.table.live c.self.inside.node_keys.items c.self.inside.directory c.self.invariant c.truncate_at.ensures.held c.truncate_at.ensures.valid

pub returns-in-Err : goal.returns-in-Err
returns-in-Err c = record {
  row =
      let s = c.self.inside in
      let files = seen s.table s.flow s.directory s.umask s.terminal s.vfs in
      subst (λ (f : Files). Answers (truncate_by_path f c.args.now (base_of c.args.base) c.args.path.now c.args.size) (Err c.in-Err.error) f) c.self.view_is
      (find-lost s.table s.flow s.directory s.umask s.terminal s.vfs (base_of c.args.base) c.args.path.now true
      (λ node. rows.truncate_content files c.args.now node c.args.size (content_at s.vfs.nodes node)) c.in-Err.error c.in-Err.ensures);
}

pub returns-in-Ok : goal.returns-in-Ok
returns-in-Ok c = record {
  row =
      let s = c.self.inside in
      let new = c.truncate_at.new.vfs in
      let home = home-held s.vfs new s.table.live s.node_keys.items s.directory c.self.invariant c.truncate_at.ensures.held in
      let number = number_at s.vfs c.in-Ok.node in
      let changed = subst (λ (t : ℤ). ChangesSurely s.vfs.nodes (truncate_refusal c.args.size (content_at s.vfs.nodes number)) (after_resize s.vfs.nodes number c.args.size t) c.truncate_at.result new.nodes)
      (to_z-of_z {w = w128} {z = c.args.now} c.ranges.now) c.truncate_at.ensures.changed in
      subst (λ (r : Result (Unit {0}) CoreError). Answers (truncate_by_path c.args.self.now c.args.now (base_of c.args.base) c.args.path.now c.args.size) r (seen s.table s.flow s.directory s.umask s.terminal new)) (sym c.as_answer.ensures)
      (subst (λ (f : Files). Answers (truncate_by_path f c.args.now (base_of c.args.base) c.args.path.now c.args.size) (wide c.truncate_at.result) (seen s.table s.flow s.directory s.umask s.terminal new)) c.self.view_is
      (truncate-row s.table s.flow s.directory s.umask s.terminal s.vfs (base_of c.args.base) c.args.path.now true c.in-Ok.node c.in-Ok.ensures new home c.args.now c.args.size c.truncate_at.result changed));
}
