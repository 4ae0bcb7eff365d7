use Rattle.std.proofs.Common.{◌-◌, ap, arith}
use Rattle.std.specs.Int.{w128}
use Rattle.std.proofs.Math.Facts.{to_z-of_z}
use Rattle.kernel_core.specs.NameCalls.{relisted, without_entry, one_link_less}
use Rattle.native_vfs.proofs.removals.Losses.{taken-changed, directory-has-links, directory-changed, directory-unnamed, directory-blocks, directory-nodes, directory-sound, directory-less}
use Rattle.native_vfs.proofs.tables.Reasons.{live-dir, live-node}
use Rattle.native_vfs.proofs.removals.Stages.{at-time, one-more, changed-distinct, changed-live, changed-pool, loss-settled}
use Rattle.native_vfs.proofs.removing.rmdir_at.Goals as goal

pub take_name-requires-clause-live : goal.take_name-requires-clause-live
take_name-requires-clause-live c = live-dir c.args.inodes.now.table c.args.at.now c.requires.agrees

pub drop_link-requires-clause-live : goal.drop_link-requires-clause-live
drop_link-requires-clause-live c =
    changed-live c.args.inodes.now.table c.take_name.new.table (taken-changed c.args.inodes.now.table c.args.inodes.now.entries c.requires.sound
    c.args.at.now c.requires.agrees c.args.node c.requires.node c.args.now c.requires.time
    c.take_name.new.table c.as_slice.result.now c.as_slice.ensures (at-time c.args.inodes.now.table c.take_name.new.table c.args.at.now.dir (λ time. relisted time (without_entry c.as_slice.result.now)) _ c.args.now
    (to_z-of_z {w = w128} {z = c.args.now} c.ranges.now) c.take_name.ensures.step)) c.args.at.now.dir
    (live-dir c.args.inodes.now.table c.args.at.now c.requires.agrees)

pub drop_link-requires-clause-distinct : goal.drop_link-requires-clause-distinct
drop_link-requires-clause-distinct c =
    changed-distinct c.args.inodes.now.table c.take_name.new.table (taken-changed c.args.inodes.now.table c.args.inodes.now.entries c.requires.sound
    c.args.at.now c.requires.agrees c.args.node c.requires.node c.args.now c.requires.time
    c.take_name.new.table c.as_slice.result.now c.as_slice.ensures (at-time c.args.inodes.now.table c.take_name.new.table c.args.at.now.dir (λ time. relisted time (without_entry c.as_slice.result.now)) _ c.args.now
    (to_z-of_z {w = w128} {z = c.args.now} c.ranges.now) c.take_name.ensures.step)) c.args.inodes.now.distinct

pub drop_link-requires-clause-some : goal.drop_link-requires-clause-some
drop_link-requires-clause-some c =
    directory-has-links c.args.inodes.now.table c.args.inodes.now.entries c.requires.sound c.args.at.now c.requires.agrees c.args.node c.requires.node c.args.now c.requires.time
    c.take_name.new.table c.as_slice.result.now c.as_slice.ensures (at-time c.args.inodes.now.table c.take_name.new.table c.args.at.now.dir (λ time. relisted time (without_entry c.as_slice.result.now)) _ c.args.now
    (to_z-of_z {w = w128} {z = c.args.now} c.ranges.now) c.take_name.ensures.step)
    c.requires.entry c.requires.directory c.requires.empty

pub orphan-requires-clause-live : goal.orphan-requires-clause-live
orphan-requires-clause-live c =
    changed-live c.args.inodes.now.table c.drop_link.new.table (one-more c.args.inodes.now.table c.take_name.new.table c.drop_link.new.table c.args.at.now.dir
    one_link_less (taken-changed c.args.inodes.now.table c.args.inodes.now.entries c.requires.sound c.args.at.now c.requires.agrees c.args.node
    c.requires.node c.args.now c.requires.time
    c.take_name.new.table c.as_slice.result.now c.as_slice.ensures (at-time c.args.inodes.now.table c.take_name.new.table c.args.at.now.dir (λ time. relisted time (without_entry c.as_slice.result.now)) _ c.args.now
    (to_z-of_z {w = w128} {z = c.args.now} c.ranges.now) c.take_name.ensures.step)) c.drop_link.ensures.step) c.args.node
    (live-node c.args.inodes.now.table c.args.at.now c.args.node c.requires.agrees c.requires.node)

pub orphan-requires-clause-distinct : goal.orphan-requires-clause-distinct
orphan-requires-clause-distinct c =
    changed-distinct c.args.inodes.now.table c.drop_link.new.table (one-more c.args.inodes.now.table c.take_name.new.table c.drop_link.new.table c.args.at.now.dir
    one_link_less (taken-changed c.args.inodes.now.table c.args.inodes.now.entries c.requires.sound c.args.at.now c.requires.agrees c.args.node
    c.requires.node c.args.now c.requires.time
    c.take_name.new.table c.as_slice.result.now c.as_slice.ensures (at-time c.args.inodes.now.table c.take_name.new.table c.args.at.now.dir (λ time. relisted time (without_entry c.as_slice.result.now)) _ c.args.now
    (to_z-of_z {w = w128} {z = c.args.now} c.ranges.now) c.take_name.ensures.step)) c.drop_link.ensures.step) c.args.inodes.now.distinct

pub settle-requires-clause-live : goal.settle-requires-clause-live
settle-requires-clause-live c =
    changed-live c.args.inodes.now.table c.orphan.new.table (directory-changed c.args.inodes.now.table c.args.inodes.now.entries c.requires.sound
    c.args.at.now c.requires.agrees c.args.node c.requires.node c.args.now c.requires.time
    c.take_name.new.table c.as_slice.result.now c.as_slice.ensures (at-time c.args.inodes.now.table c.take_name.new.table c.args.at.now.dir (λ time. relisted time (without_entry c.as_slice.result.now)) _ c.args.now
    (to_z-of_z {w = w128} {z = c.args.now} c.ranges.now) c.take_name.ensures.step)
    c.requires.entry c.requires.directory c.requires.empty c.drop_link.new.table c.orphan.new.table c.drop_link.ensures.step c.orphan.ensures.step) c.args.node
    (live-node c.args.inodes.now.table c.args.at.now c.args.node c.requires.agrees c.requires.node)

pub invariant_of-inodes : goal.invariant_of-inodes
invariant_of-inodes c = record {
  distinct = changed-distinct c.args.inodes.now.table c.orphan.new.table (directory-changed c.args.inodes.now.table c.args.inodes.now.entries c.requires.sound
      c.args.at.now c.requires.agrees c.args.node c.requires.node c.args.now c.requires.time
      c.take_name.new.table c.as_slice.result.now c.as_slice.ensures (at-time c.args.inodes.now.table c.take_name.new.table c.args.at.now.dir (λ time. relisted time (without_entry c.as_slice.result.now)) _ c.args.now
      (to_z-of_z {w = w128} {z = c.args.now} c.ranges.now) c.take_name.ensures.step)
      c.requires.entry c.requires.directory c.requires.empty c.drop_link.new.table c.orphan.new.table c.drop_link.ensures.step c.orphan.ensures.step) c.args.inodes.now.distinct;
  pool = changed-pool c.args.inodes.now.table c.orphan.new.table (directory-changed c.args.inodes.now.table c.args.inodes.now.entries c.requires.sound
      c.args.at.now c.requires.agrees c.args.node c.requires.node c.args.now c.requires.time
      c.take_name.new.table c.as_slice.result.now c.as_slice.ensures (at-time c.args.inodes.now.table c.take_name.new.table c.args.at.now.dir (λ time. relisted time (without_entry c.as_slice.result.now)) _ c.args.now
      (to_z-of_z {w = w128} {z = c.args.now} c.ranges.now) c.take_name.ensures.step)
      c.requires.entry c.requires.directory c.requires.empty c.drop_link.new.table c.orphan.new.table c.drop_link.ensures.step c.orphan.ensures.step) c.args.inodes.now.numbers c.args.inodes.now.pool;
  block_total = directory-blocks c.args.inodes.now.table c.args.inodes.now.entries c.requires.sound c.args.at.now c.requires.agrees c.args.node c.requires.node c.args.now c.requires.time
      c.take_name.new.table c.as_slice.result.now c.as_slice.ensures (at-time c.args.inodes.now.table c.take_name.new.table c.args.at.now.dir (λ time. relisted time (without_entry c.as_slice.result.now)) _ c.args.now
      (to_z-of_z {w = w128} {z = c.args.now} c.ranges.now) c.take_name.ensures.step)
      c.requires.entry c.requires.directory c.requires.empty c.drop_link.new.table c.orphan.new.table c.drop_link.ensures.step c.orphan.ensures.step
      c.args.inodes.now.blocks c.args.inodes.now.block_total;
}

pub settle-requires-clause-unnamed : goal.settle-requires-clause-unnamed
settle-requires-clause-unnamed c =
    directory-unnamed c.args.inodes.now.table c.args.inodes.now.entries c.requires.sound c.args.at.now c.requires.agrees c.args.node c.requires.node c.args.now c.requires.time
    c.take_name.new.table c.as_slice.result.now c.as_slice.ensures (at-time c.args.inodes.now.table c.take_name.new.table c.args.at.now.dir (λ time. relisted time (without_entry c.as_slice.result.now)) _ c.args.now
    (to_z-of_z {w = w128} {z = c.args.now} c.ranges.now) c.take_name.ensures.step)
    c.requires.entry c.requires.directory c.requires.empty c.drop_link.new.table c.orphan.new.table c.drop_link.ensures.step c.orphan.ensures.step

pub overflow_sub-inodes : goal.overflow_sub-inodes
overflow_sub-inodes c =
    let less =
    directory-less c.args.inodes.now.table c.args.inodes.now.entries c.requires.sound c.args.at.now c.requires.agrees c.args.node c.requires.node c.args.now c.requires.time
    c.take_name.new.table c.as_slice.result.now c.as_slice.ensures (at-time c.args.inodes.now.table c.take_name.new.table c.args.at.now.dir (λ time. relisted time (without_entry c.as_slice.result.now)) _ c.args.now
    (to_z-of_z {w = w128} {z = c.args.now} c.ranges.now) c.take_name.ensures.step)
    c.requires.entry c.requires.directory c.requires.empty c.drop_link.new.table c.orphan.new.table c.drop_link.ensures.step c.orphan.ensures.step
    c.settle.new.inodes.table c.settle.ensures.settled in
    let all = c.requires.sound.entry_total in
    let same = c.settle.ensures.entries in
    omega (arith, less, all, same)

pub returns-clause-nodes : goal.returns-clause-nodes
returns-clause-nodes c =
    directory-nodes c.args.inodes.now.table c.args.inodes.now.entries c.requires.sound c.args.at.now c.requires.agrees c.args.node c.requires.node c.args.now c.requires.time
    c.take_name.new.table c.as_slice.result.now c.as_slice.ensures (at-time c.args.inodes.now.table c.take_name.new.table c.args.at.now.dir (λ time. relisted time (without_entry c.as_slice.result.now)) _ c.args.now
    (to_z-of_z {w = w128} {z = c.args.now} c.ranges.now) c.take_name.ensures.step)
    c.requires.entry c.requires.directory c.requires.empty c.drop_link.new.table c.orphan.new.table c.drop_link.ensures.step c.orphan.ensures.step
    c.settle.new.inodes.table c.settle.ensures.settled

pub returns-clause-sound : goal.returns-clause-sound
returns-clause-sound c =
    directory-sound c.args.inodes.now.table c.args.inodes.now.entries c.requires.sound c.args.at.now c.requires.agrees c.args.node c.requires.node c.args.now c.requires.time
    c.take_name.new.table c.as_slice.result.now c.as_slice.ensures (at-time c.args.inodes.now.table c.take_name.new.table c.args.at.now.dir (λ time. relisted time (without_entry c.as_slice.result.now)) _ c.args.now
    (to_z-of_z {w = w128} {z = c.args.now} c.ranges.now) c.take_name.ensures.step)
    c.requires.entry c.requires.directory c.requires.empty c.drop_link.new.table c.orphan.new.table c.drop_link.ensures.step c.orphan.ensures.step
    c.settle.new.inodes.table c.settle.ensures.settled
    _ (ap (λ n. n - 1) c.settle.ensures.entries)

pub returns-clause-loss : goal.returns-clause-loss
returns-clause-loss c =
    loss-settled c.args.inodes.now.table c.orphan.new.table (directory-changed c.args.inodes.now.table c.args.inodes.now.entries c.requires.sound
    c.args.at.now c.requires.agrees c.args.node c.requires.node c.args.now c.requires.time
    c.take_name.new.table c.as_slice.result.now c.as_slice.ensures (at-time c.args.inodes.now.table c.take_name.new.table c.args.at.now.dir (λ time. relisted time (without_entry c.as_slice.result.now)) _ c.args.now
    (to_z-of_z {w = w128} {z = c.args.now} c.ranges.now) c.take_name.ensures.step)
    c.requires.entry c.requires.directory c.requires.empty c.drop_link.new.table c.orphan.new.table c.drop_link.ensures.step c.orphan.ensures.step) c.args.node
    c.settle.new.inodes.table c.settle.ensures.settled
