use Rattle.std.proofs.Common.{◌-◌, ap, arith}
use Rattle.std.specs.Int.{w128}
use Rattle.std.proofs.Math.Facts.{to_z-of_z}
use Rattle.kernel_core.specs.NameCalls.{relisted, without_entry, unlinked}
use Rattle.native_vfs.proofs.removals.Losses.{taken-changed, file-has-links, file-changed, file-unnamed, file-blocks, file-nodes, file-sound, file-less}
use Rattle.native_vfs.proofs.tables.Reasons.{live-dir, live-node}
use Rattle.native_vfs.proofs.removals.Stages.{at-time, changed-distinct, changed-live, changed-pool, loss-settled}
use Rattle.native_vfs.proofs.removing.unlink_at.Goals as goal

pub take_name-requires-clause-live : goal.take_name-requires-clause-live
take_name-requires-clause-live c = live-dir c.args.inodes.now.table c.args.at.now c.requires.agrees

pub unlink-requires-clause-live : goal.unlink-requires-clause-live
unlink-requires-clause-live c =
    changed-live c.args.inodes.now.table c.take_name.new.table (taken-changed c.args.inodes.now.table c.args.inodes.now.entries c.requires.sound
    c.args.at.now c.requires.agrees c.args.node c.requires.node c.args.now c.requires.time
    c.take_name.new.table c.as_slice.result.now c.as_slice.ensures (at-time c.args.inodes.now.table c.take_name.new.table c.args.at.now.dir (λ time. relisted time (without_entry c.as_slice.result.now)) _ c.args.now
    (to_z-of_z {w = w128} {z = c.args.now} c.ranges.now) c.take_name.ensures.step)) c.args.node
    (live-node c.args.inodes.now.table c.args.at.now c.args.node c.requires.agrees c.requires.node)

pub unlink-requires-clause-some : goal.unlink-requires-clause-some
unlink-requires-clause-some c =
    file-has-links c.args.inodes.now.table c.args.inodes.now.entries c.requires.sound c.args.at.now c.requires.agrees c.args.node c.requires.node c.args.now c.requires.time
    c.take_name.new.table c.as_slice.result.now c.as_slice.ensures (at-time c.args.inodes.now.table c.take_name.new.table c.args.at.now.dir (λ time. relisted time (without_entry c.as_slice.result.now)) _ c.args.now
    (to_z-of_z {w = w128} {z = c.args.now} c.ranges.now) c.take_name.ensures.step) c.requires.file

pub settle-requires-clause-live : goal.settle-requires-clause-live
settle-requires-clause-live c =
    changed-live c.args.inodes.now.table c.unlink.new.table (file-changed c.args.inodes.now.table c.args.inodes.now.entries c.requires.sound
    c.args.at.now c.requires.agrees c.args.node c.requires.node c.args.now c.requires.time
    c.take_name.new.table c.as_slice.result.now c.as_slice.ensures (at-time c.args.inodes.now.table c.take_name.new.table c.args.at.now.dir (λ time. relisted time (without_entry c.as_slice.result.now)) _ c.args.now
    (to_z-of_z {w = w128} {z = c.args.now} c.ranges.now) c.take_name.ensures.step) c.requires.file c.unlink.new.table
    (at-time c.take_name.new.table c.unlink.new.table c.args.node unlinked _ c.args.now
    (to_z-of_z {w = w128} {z = c.args.now} c.ranges.now) c.unlink.ensures.step)) c.args.node
    (live-node c.args.inodes.now.table c.args.at.now c.args.node c.requires.agrees c.requires.node)

pub invariant_of-inodes : goal.invariant_of-inodes
invariant_of-inodes c = record {
  distinct = changed-distinct c.args.inodes.now.table c.unlink.new.table (file-changed c.args.inodes.now.table c.args.inodes.now.entries c.requires.sound
      c.args.at.now c.requires.agrees c.args.node c.requires.node c.args.now c.requires.time
      c.take_name.new.table c.as_slice.result.now c.as_slice.ensures (at-time c.args.inodes.now.table c.take_name.new.table c.args.at.now.dir (λ time. relisted time (without_entry c.as_slice.result.now)) _ c.args.now
      (to_z-of_z {w = w128} {z = c.args.now} c.ranges.now) c.take_name.ensures.step) c.requires.file c.unlink.new.table
      (at-time c.take_name.new.table c.unlink.new.table c.args.node unlinked _ c.args.now
      (to_z-of_z {w = w128} {z = c.args.now} c.ranges.now) c.unlink.ensures.step)) c.args.inodes.now.distinct;
  pool = changed-pool c.args.inodes.now.table c.unlink.new.table (file-changed c.args.inodes.now.table c.args.inodes.now.entries c.requires.sound
      c.args.at.now c.requires.agrees c.args.node c.requires.node c.args.now c.requires.time
      c.take_name.new.table c.as_slice.result.now c.as_slice.ensures (at-time c.args.inodes.now.table c.take_name.new.table c.args.at.now.dir (λ time. relisted time (without_entry c.as_slice.result.now)) _ c.args.now
      (to_z-of_z {w = w128} {z = c.args.now} c.ranges.now) c.take_name.ensures.step) c.requires.file c.unlink.new.table
      (at-time c.take_name.new.table c.unlink.new.table c.args.node unlinked _ c.args.now
      (to_z-of_z {w = w128} {z = c.args.now} c.ranges.now) c.unlink.ensures.step)) c.args.inodes.now.numbers c.args.inodes.now.pool;
  block_total = file-blocks c.args.inodes.now.table c.args.inodes.now.entries c.requires.sound c.args.at.now c.requires.agrees c.args.node c.requires.node c.args.now c.requires.time
      c.take_name.new.table c.as_slice.result.now c.as_slice.ensures (at-time c.args.inodes.now.table c.take_name.new.table c.args.at.now.dir (λ time. relisted time (without_entry c.as_slice.result.now)) _ c.args.now
      (to_z-of_z {w = w128} {z = c.args.now} c.ranges.now) c.take_name.ensures.step) c.requires.file c.unlink.new.table
      (at-time c.take_name.new.table c.unlink.new.table c.args.node unlinked _ c.args.now (to_z-of_z {w = w128} {z = c.args.now} c.ranges.now) c.unlink.ensures.step)
      c.args.inodes.now.blocks c.args.inodes.now.block_total;
}

pub settle-requires-clause-unnamed : goal.settle-requires-clause-unnamed
settle-requires-clause-unnamed c =
    file-unnamed c.args.inodes.now.table c.args.inodes.now.entries c.requires.sound c.args.at.now c.requires.agrees c.args.node c.requires.node c.args.now c.requires.time
    c.take_name.new.table c.as_slice.result.now c.as_slice.ensures (at-time c.args.inodes.now.table c.take_name.new.table c.args.at.now.dir (λ time. relisted time (without_entry c.as_slice.result.now)) _ c.args.now
    (to_z-of_z {w = w128} {z = c.args.now} c.ranges.now) c.take_name.ensures.step) c.requires.file c.unlink.new.table
    (at-time c.take_name.new.table c.unlink.new.table c.args.node unlinked _ c.args.now (to_z-of_z {w = w128} {z = c.args.now} c.ranges.now) c.unlink.ensures.step)

pub overflow_sub-inodes : goal.overflow_sub-inodes
overflow_sub-inodes c =
    let less =
    file-less c.args.inodes.now.table c.args.inodes.now.entries c.requires.sound c.args.at.now c.requires.agrees c.args.node c.requires.node c.args.now c.requires.time
    c.take_name.new.table c.as_slice.result.now c.as_slice.ensures (at-time c.args.inodes.now.table c.take_name.new.table c.args.at.now.dir (λ time. relisted time (without_entry c.as_slice.result.now)) _ c.args.now
    (to_z-of_z {w = w128} {z = c.args.now} c.ranges.now) c.take_name.ensures.step) c.requires.file c.unlink.new.table
    (at-time c.take_name.new.table c.unlink.new.table c.args.node unlinked _ c.args.now
    (to_z-of_z {w = w128} {z = c.args.now} c.ranges.now) c.unlink.ensures.step) c.settle.new.inodes.table c.settle.ensures.settled in
    let all = c.requires.sound.entry_total in
    let same = c.settle.ensures.entries in
    omega (arith, less, all, same)

pub returns-clause-nodes : goal.returns-clause-nodes
returns-clause-nodes c =
    file-nodes c.args.inodes.now.table c.args.inodes.now.entries c.requires.sound c.args.at.now c.requires.agrees c.args.node c.requires.node c.args.now c.requires.time
    c.take_name.new.table c.as_slice.result.now c.as_slice.ensures (at-time c.args.inodes.now.table c.take_name.new.table c.args.at.now.dir (λ time. relisted time (without_entry c.as_slice.result.now)) _ c.args.now
    (to_z-of_z {w = w128} {z = c.args.now} c.ranges.now) c.take_name.ensures.step) c.requires.file c.unlink.new.table
    (at-time c.take_name.new.table c.unlink.new.table c.args.node unlinked _ c.args.now
    (to_z-of_z {w = w128} {z = c.args.now} c.ranges.now) c.unlink.ensures.step) c.settle.new.inodes.table c.settle.ensures.settled

pub returns-clause-sound : goal.returns-clause-sound
returns-clause-sound c =
    file-sound c.args.inodes.now.table c.args.inodes.now.entries c.requires.sound c.args.at.now c.requires.agrees c.args.node c.requires.node c.args.now c.requires.time
    c.take_name.new.table c.as_slice.result.now c.as_slice.ensures (at-time c.args.inodes.now.table c.take_name.new.table c.args.at.now.dir (λ time. relisted time (without_entry c.as_slice.result.now)) _ c.args.now
    (to_z-of_z {w = w128} {z = c.args.now} c.ranges.now) c.take_name.ensures.step) c.requires.file c.unlink.new.table
    (at-time c.take_name.new.table c.unlink.new.table c.args.node unlinked _ c.args.now
    (to_z-of_z {w = w128} {z = c.args.now} c.ranges.now) c.unlink.ensures.step) c.settle.new.inodes.table c.settle.ensures.settled
    _ (ap (λ n. n - 1) c.settle.ensures.entries)

pub returns-clause-loss : goal.returns-clause-loss
returns-clause-loss c =
    loss-settled c.args.inodes.now.table c.unlink.new.table (file-changed c.args.inodes.now.table c.args.inodes.now.entries c.requires.sound
    c.args.at.now c.requires.agrees c.args.node c.requires.node c.args.now c.requires.time
    c.take_name.new.table c.as_slice.result.now c.as_slice.ensures (at-time c.args.inodes.now.table c.take_name.new.table c.args.at.now.dir (λ time. relisted time (without_entry c.as_slice.result.now)) _ c.args.now
    (to_z-of_z {w = w128} {z = c.args.now} c.ranges.now) c.take_name.ensures.step) c.requires.file c.unlink.new.table
    (at-time c.take_name.new.table c.unlink.new.table c.args.node unlinked _ c.args.now
    (to_z-of_z {w = w128} {z = c.args.now} c.ranges.now) c.unlink.ensures.step)) c.args.node
    c.settle.new.inodes.table c.settle.ensures.settled
