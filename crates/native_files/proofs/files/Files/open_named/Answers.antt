use Rattle.std.proofs.Common.{Err, None, Ok, Some, of_z, subst, sym, to_z}
use Rattle.std.proofs.Math.Facts.{to_z-of_z}
use Rattle.std.specs.Int.{w128}
use Rattle.kernel_core.specs.declared.core_error.CoreError.TheVariants as errors
use Rattle.kernel_core.specs.declared.error.Errno.TheVariants.{EMFILE}
use Rattle.kernel_model.specs.Opening.{open_file}
use Rattle.kernel_model.specs.State.{Files}
use Rattle.native_files.specs.Answers.{Answers, base_of}
use Rattle.native_files.specs.inside.Kept.{AreKept}
use Rattle.native_files.specs.inside.Walks.{LeadsTo, walk_in}
use Rattle.native_files.proofs.NameSteps.{seen}
use Rattle.native_files.proofs.OpenRows.{open-full, open-lost, open-row}
use Rattle.native_files.proofs.files.Files.open_named.Goals as goal
use Rattle.native_vfs.specs.Keyed.{number_at}

pub returns-in_default : goal.returns-in_default
returns-in_default c = record {
  row =
      let s = c.self.inside in
      subst (λ (f : Files). Answers (open_file f None c.args.now (base_of c.args.base) (Ok c.args.path.now) (Some c.args.flags) c.args.mode) (Err (errors.Refused EMFILE)) f) c.self.view_is
      (open-full s.table s.flow s.directory s.umask s.terminal s.vfs (base_of c.args.base) c.args.path.now c.args.now c.args.flags c.args.mode c.requires.allowed (sym c.in_default.ensures.lowest));
}

pub returns-in-Err : goal.returns-in-Err
returns-in-Err c = record {
  row =
      let s = c.self.inside in
      let leads = subst (λ b. LeadsTo s.vfs (walk_in s.vfs.nodes s.table (number_at s.vfs s.directory) (base_of c.args.base) c.args.path.now b) (Err c.in-Err.error)) c.follows-follow.ensures c.in-Err.ensures in
      subst (λ (f : Files). Answers (open_file f None c.args.now (base_of c.args.base) (Ok c.args.path.now) (Some c.args.flags) c.args.mode) (Err c.in-Err.error) f) c.self.view_is
      (open-lost s.table s.flow s.directory s.umask s.terminal s.vfs (base_of c.args.base) c.args.path.now c.args.now c.args.flags c.args.mode c.requires.allowed c.in-Some.fd (sym c.in-Some.ensures.lowest) c.in-Err.error leads);
}

pub returns-in-Err-open_place : goal.returns-in-Err-open_place
returns-in-Err-open_place c = record {
  row =
      let s = c.self.inside in
      let new = c.open_place.new.vfs in
      let table = c.open_place.new.table in
      let leads = subst (λ b. LeadsTo s.vfs (walk_in s.vfs.nodes s.table (number_at s.vfs s.directory) (base_of c.args.base) c.args.path.now b) (Ok c.in-Ok.at)) c.follows-follow.ensures c.in-Ok.ensures in
      let are = subst (λ k. AreKept s.vfs s.table.live k s.directory) (sym c.as_mut_slice-keys.ensures.value) c.self.invariant in
      let home = (c.in-Err-open_place.ensures.kept s.directory are).home in
      subst (λ (f : Files). Answers (open_file f None c.args.now (base_of c.args.base) (Ok c.args.path.now) (Some c.args.flags) c.args.mode) (Err c.in-Err-open_place.error) (seen table s.flow s.directory s.umask s.terminal new)) c.self.view_is
      (open-row s.table s.flow s.directory s.umask s.terminal s.vfs (base_of c.args.base) c.args.path.now c.args.now c.args.flags c.args.mode c.requires.allowed c.in-Some.fd (sym c.in-Some.ensures.lowest) c.in-Ok.at leads
      c.permitted-mode.result c.permitted-mode.ensures.bits (to_z w128 (of_z w128 c.args.now)) (to_z-of_z {w = w128} {z = c.args.now} c.ranges.now) new table home (Err c.in-Err-open_place.error) c.in-Err-open_place.ensures.opened);
}

pub returns : goal.returns
returns c = record {
  row =
      let s = c.self.inside in
      let new = c.open_place.new.vfs in
      let table = c.open_place.new.table in
      let leads = subst (λ b. LeadsTo s.vfs (walk_in s.vfs.nodes s.table (number_at s.vfs s.directory) (base_of c.args.base) c.args.path.now b) (Ok c.in-Ok.at)) c.follows-follow.ensures c.in-Ok.ensures in
      let are = subst (λ k. AreKept s.vfs s.table.live k s.directory) (sym c.as_mut_slice-keys.ensures.value) c.self.invariant in
      let home = (c.in-Ok-open_place.ensures.kept s.directory are).home in
      subst (λ (f : Files). Answers (open_file f None c.args.now (base_of c.args.base) (Ok c.args.path.now) (Some c.args.flags) c.args.mode) (Ok c.in-Some.fd) (seen table s.flow s.directory s.umask s.terminal new)) c.self.view_is
      (open-row s.table s.flow s.directory s.umask s.terminal s.vfs (base_of c.args.base) c.args.path.now c.args.now c.args.flags c.args.mode c.requires.allowed c.in-Some.fd (sym c.in-Some.ensures.lowest) c.in-Ok.at leads
      c.permitted-mode.result c.permitted-mode.ensures.bits (to_z w128 (of_z w128 c.args.now)) (to_z-of_z {w = w128} {z = c.args.now} c.ranges.now) new table home (Ok tt) c.in-Ok-open_place.ensures.opened);
}
