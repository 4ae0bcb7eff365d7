-- The fields of the layout, one by one.
use Rattle.std.proofs.Common.{◌∙◌, lit<, pos, refl, to_z, of_z, arith}
use Rattle.std.specs.Prelude.{replicate}
use Rattle.std.proofs.lemmas.Int.{ints}
use mir.Syntax.{w128}
use Rattle.kernel_core.specs.LoadedTree.{whole_seconds}
use Rattle.native_calls.specs.Status.{part_of_second}
use Rattle.native_files.specs.Answers.{status_told}
use Rattle.native_kernel.proofs.StatusSteps.{number_same, one_more, time_same}
use Rattle.native_kernel.proofs.status.status_bytes.Goals as goal

pub returns : goal.returns
returns c =
    let given = c.args.status in
    let status = status_told given in
    let dev = one_more status 0 (to_z w128 (of_z w128 c.from.result)) (replicate 128 0) c.put_field.new.bytes (lit< tt) (number_same given.device c.from.result (omega arith) c.from.ensures) c.put_field.ensures in
    let ino = one_more status 1 (to_z w128 (of_z w128 c.from-2.result)) c.put_field.new.bytes c.put_field-2.new.bytes (lit< tt) (number_same given.number c.from-2.result (omega arith) c.from-2.ensures) c.put_field-2.ensures in
    let mode = one_more status 2 (to_z w128 (of_z w128 c.from-3.result)) c.put_field-2.new.bytes c.put_field-3.new.bytes (lit< tt) (number_same given.mode c.from-3.result (omega arith) c.from-3.ensures) c.put_field-3.ensures in
    let nlink = one_more status 3 (to_z w128 (of_z w128 c.from-4.result)) c.put_field-3.new.bytes c.put_field-4.new.bytes (lit< tt) (number_same given.links c.from-4.result (omega arith) c.from-4.ensures) c.put_field-4.ensures in
    let uid = one_more status 4 (pos 0) c.put_field-4.new.bytes c.put_field-5.new.bytes (lit< tt) refl c.put_field-5.ensures in
    let gid = one_more status 5 (pos 0) c.put_field-5.new.bytes c.put_field-6.new.bytes (lit< tt) refl c.put_field-6.ensures in
    let rdev = one_more status 6 (to_z w128 (of_z w128 c.from-5.result)) c.put_field-6.new.bytes c.put_field-7.new.bytes (lit< tt) (number_same given.terminal_device c.from-5.result (omega arith) c.from-5.ensures) c.put_field-7.ensures in
    let size = one_more status 7 (to_z w128 (of_z w128 c.from-6.result)) c.put_field-7.new.bytes c.put_field-8.new.bytes (lit< tt) (number_same given.size c.from-6.result (omega arith) c.from-6.ensures) c.put_field-8.ensures in
    let atime = one_more status 8 (to_z w128 (of_z w128 c.seconds.result)) c.put_field-8.new.bytes c.put_field-9.new.bytes (lit< tt) (time_same whole_seconds given.access c.seconds.result c.requires.access c.seconds.ensures (omega (arith, ints))) c.put_field-9.ensures in
    let atime_ns = one_more status 9 (to_z w128 (of_z w128 c.nanoseconds.result)) c.put_field-9.new.bytes c.put_field-10.new.bytes (lit< tt) (time_same part_of_second given.access c.nanoseconds.result c.requires.access c.nanoseconds.ensures (omega (arith, ints))) c.put_field-10.ensures in
    let mtime = one_more status 10 (to_z w128 (of_z w128 c.seconds-2.result)) c.put_field-10.new.bytes c.put_field-11.new.bytes (lit< tt) (time_same whole_seconds given.modified c.seconds-2.result c.requires.modified c.seconds-2.ensures (omega (arith, ints))) c.put_field-11.ensures in
    let mtime_ns = one_more status 11 (to_z w128 (of_z w128 c.nanoseconds-2.result)) c.put_field-11.new.bytes c.put_field-12.new.bytes (lit< tt) (time_same part_of_second given.modified c.nanoseconds-2.result c.requires.modified c.nanoseconds-2.ensures (omega (arith, ints))) c.put_field-12.ensures in
    let ctime = one_more status 12 (to_z w128 (of_z w128 c.seconds-3.result)) c.put_field-12.new.bytes c.put_field-13.new.bytes (lit< tt) (time_same whole_seconds given.changed c.seconds-3.result c.requires.changed c.seconds-3.ensures (omega (arith, ints))) c.put_field-13.ensures in
    let ctime_ns = one_more status 13 (to_z w128 (of_z w128 c.nanoseconds-3.result)) c.put_field-13.new.bytes c.put_field-14.new.bytes (lit< tt) (time_same part_of_second given.changed c.nanoseconds-3.result c.requires.changed c.nanoseconds-3.ensures (omega (arith, ints))) c.put_field-14.ensures in
    let blksize = one_more status 14 (pos 4096) c.put_field-14.new.bytes c.put_field-15.new.bytes (lit< tt) refl c.put_field-15.ensures in
    let blocks = one_more status 15 (to_z w128 (of_z w128 c.from-7.result)) c.put_field-15.new.bytes c.put_field-16.new.bytes (lit< tt) (number_same given.sectors c.from-7.result (omega arith) c.from-7.ensures) c.put_field-16.ensures in
    blocks ∙ blksize ∙ ctime_ns ∙ ctime ∙ mtime_ns ∙ mtime ∙ atime_ns ∙ atime ∙ size ∙ rdev ∙ gid ∙ uid ∙ nlink ∙ mode ∙ ino ∙ dev
