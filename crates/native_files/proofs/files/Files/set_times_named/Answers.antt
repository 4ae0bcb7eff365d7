use Rattle.std.proofs.Common.{ℤ, ℕ, Err, ap, subst, ◌∙◌}
use Rattle.std.proofs.Math.Facts.{to_z-of_z}
use Rattle.std.specs.Int.{w128}
use Rattle.kernel_core.specs.NodeCalls.{with_times}
use Rattle.kernel_core.specs.Nodes.{update}
use Rattle.kernel_model.specs.Came.{done}
use Rattle.kernel_model.specs.State.{Files}
use Rattle.native_files.specs.Answers.{Answers, base_of}
use Rattle.native_files.specs.inside.NewTimes.{after_new_times, times_of_path}
use Rattle.native_files.proofs.KeptLemmas.{AreKept-held, home-held}
use Rattle.native_files.proofs.NameSteps.{seen}
use Rattle.native_files.proofs.NamedRows.{find-lost}
use Rattle.native_files.proofs.NodeRows.{changed-row, fine}
use Rattle.native_files.proofs.files.Files.set_times_named.Goals as goal
use Rattle.native_vfs.specs.Keyed.{number_at}

pub invariant_of-self : goal.invariant_of-self
invariant_of-self c =
    AreKept-held c.self.inside.vfs c.set_times.new.self c.self.inside.table.live c.self.inside.node_keys.items c.self.inside.directory c.self.invariant c.set_times.ensures.held c.set_times.ensures.valid

pub returns-in-Err : goal.returns-in-Err
returns-in-Err c = record {
  row =
      let s = c.self.inside in
      let files = seen s.table s.flow s.directory s.umask s.terminal s.vfs in
      subst (λ (f : Files). Answers (times_of_path f c.args.now (base_of c.args.base) c.args.path.now c.args.asked) (Err c.in-Err.error) f) c.self.view_is
      (find-lost s.table s.flow s.directory s.umask s.terminal s.vfs (base_of c.args.base) c.args.path.now c.args.asked.follow (λ node. done (after_new_times files c.args.now c.args.asked.times node) tt) c.in-Err.error c.in-Err.ensures);
}

pub returns-in-Ok : goal.returns-in-Ok
returns-in-Ok c = record {
  row =
      let s = c.self.inside in
      let new = c.set_times.new.self in
      let home = home-held s.vfs new s.table.live s.node_keys.items s.directory c.self.invariant c.set_times.ensures.held in
      let number = number_at s.vfs c.in-Ok.node in
      let times = c.args.asked.times in
      let set = c.set_times.ensures.nodes ∙ ap (λ (t : ℤ). update s.vfs.nodes number (with_times times.access times.modified t)) (to_z-of_z {w = w128} {z = c.args.now} c.ranges.now) in
      subst (λ (f : Files). Answers (times_of_path f c.args.now (base_of c.args.base) c.args.path.now c.args.asked) fine (seen s.table s.flow s.directory s.umask s.terminal new)) c.self.view_is
      (changed-row s.table s.flow s.directory s.umask s.terminal s.vfs (base_of c.args.base) c.args.path.now c.args.asked.follow c.in-Ok.node c.in-Ok.ensures new home
      (λ (node : ℕ). update s.vfs.nodes node (with_times times.access times.modified c.args.now)) set);
}
