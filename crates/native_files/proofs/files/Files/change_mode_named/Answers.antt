use Rattle.std.proofs.Common.{ℤ, ℕ, Ok, Err, true, ◌%◌, ap, subst, ◌∙◌}
use Rattle.std.proofs.Math.Facts.{to_z-of_z}
use Rattle.std.specs.Int.{w128}
use Rattle.kernel_core.specs.NodeCalls.{with_mode}
use Rattle.kernel_core.specs.Nodes.{update}
use Rattle.kernel_model.specs.Came.{done}
use Rattle.kernel_model.specs.NodeRows as rows
use Rattle.kernel_model.specs.State.{Files}
use Rattle.native_files.specs.Answers.{Answers, base_of}
use Rattle.native_files.proofs.KeptLemmas.{AreKept-held, home-held}
use Rattle.native_files.proofs.NameSteps.{seen}
use Rattle.native_files.proofs.NamedRows.{find-lost}
use Rattle.native_files.proofs.NodeRows.{changed-row}
use Rattle.native_files.proofs.files.Files.change_mode_named.Goals as goal
use Rattle.native_vfs.specs.Keyed.{number_at}

pub invariant_of-self : goal.invariant_of-self
invariant_of-self c =
    AreKept-held c.self.inside.vfs c.set_mode.new.self c.self.inside.table.live c.self.inside.node_keys.items c.self.inside.directory c.self.invariant c.set_mode.ensures.held c.set_mode.ensures.valid

pub returns-in-Err : goal.returns-in-Err
unfolding rows.change_mode
returns-in-Err c = record {
  row =
      let s = c.self.inside in
      let files = seen s.table s.flow s.directory s.umask s.terminal s.vfs in
      subst (λ (f : Files). Answers (rows.change_mode f c.args.now (base_of c.args.base) (Ok c.args.path.now) c.args.mode) (Err c.in-Err.error) f) c.self.view_is
      (find-lost s.table s.flow s.directory s.umask s.terminal s.vfs (base_of c.args.base) c.args.path.now true (λ node. done (rows.after_mode files c.args.now c.args.mode node) tt) c.in-Err.error c.in-Err.ensures);
}

pub returns-in-Ok : goal.returns-in-Ok
unfolding rows.change_mode
returns-in-Ok c = record {
  row =
      let s = c.self.inside in
      let new = c.set_mode.new.self in
      let home = home-held s.vfs new s.table.live s.node_keys.items s.directory c.self.invariant c.set_mode.ensures.held in
      let number = number_at s.vfs c.in-Ok.node in
      let set = c.set_mode.ensures.nodes ∙ ap (λ (t : ℤ). update s.vfs.nodes number (with_mode (c.args.mode % 0x1000) t)) (to_z-of_z {w = w128} {z = c.args.now} c.ranges.now) in
      subst (λ (f : Files). Answers (rows.change_mode f c.args.now (base_of c.args.base) (Ok c.args.path.now) c.args.mode) (Ok tt) (seen s.table s.flow s.directory s.umask s.terminal new)) c.self.view_is
      (changed-row s.table s.flow s.directory s.umask s.terminal s.vfs (base_of c.args.base) c.args.path.now true c.in-Ok.node c.in-Ok.ensures new home
      (λ (node : ℕ). update s.vfs.nodes node (with_mode (c.args.mode % 0x1000) c.args.now)) set);
}
