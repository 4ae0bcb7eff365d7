use Rattle.std.proofs.Common.{◌∙◌, sym, ap}
use Rattle.std.specs.Int.{w128}
use Rattle.std.proofs.Math.Facts.{to_z-of_z}
use Rattle.kernel_core.specs.NameCalls.{after_unlink, after_rmdir}
use Rattle.native_vfs.specs.Keyed.{place_at}
use Rattle.native_vfs.specs.inside.Stored.{nodes_of, keyed_of, number_of_key}
use Rattle.native_vfs.proofs.renames.Clearing.{cleared-none, cleared-loss, file-apart, directory-apart, gives-empty, replaces-directory, replaces-file}
use Rattle.native_vfs.proofs.tables.Reasons.{live-node}
use Rattle.native_vfs.proofs.renaming.clear.Goals as goal

pub returns-in_default-clause-cleared : goal.returns-in_default-clause-cleared
returns-in_default-clause-cleared c = cleared-none c.args.inodes.now.table c.args.at.now.dir c.args.inodes.now.distinct

pub is_directory-requires-clause-live : goal.is_directory-requires-clause-live
is_directory-requires-clause-live c = live-node c.args.inodes.now.table c.args.at.now c.in-Some.old c.requires.agrees c.in-Some.is

pub rmdir_at-requires-clause-empty : goal.rmdir_at-requires-clause-empty
rmdir_at-requires-clause-empty c = gives-empty c.args.inodes.now.table c.requires.sound.system c.args.at.now c.requires.agrees c.in-Some.old c.in-Some.is c.requires.gives (sym c.is_directory.ensures ∙ c.if-is_directory.true)

pub returns-then-is_directory-clause-nodes : goal.returns-then-is_directory-clause-nodes
returns-then-is_directory-clause-nodes c =
    c.rmdir_at.ensures.nodes ∙ ap (after_rmdir (nodes_of c.args.inodes.now.table)
    (place_at (keyed_of c.args.inodes.now.table) c.args.at.now) (number_of_key c.args.inodes.now.table c.in-Some.old)) (to_z-of_z {w = w128} {z = c.args.now} c.ranges.now)
    ∙ replaces-directory c.args.inodes.now.table c.requires.sound.system c.args.at.now c.requires.agrees c.in-Some.old c.in-Some.is c.args.now (sym c.is_directory.ensures ∙ c.if-is_directory.true)

pub returns-else-is_directory-clause-nodes : goal.returns-else-is_directory-clause-nodes
returns-else-is_directory-clause-nodes c =
    c.unlink_at.ensures.nodes ∙ ap (after_unlink (nodes_of c.args.inodes.now.table)
    (place_at (keyed_of c.args.inodes.now.table) c.args.at.now) (number_of_key c.args.inodes.now.table c.in-Some.old)) (to_z-of_z {w = w128} {z = c.args.now} c.ranges.now)
    ∙ replaces-file c.args.inodes.now.table c.requires.sound.system c.args.at.now c.requires.agrees c.in-Some.old c.in-Some.is c.args.now (sym c.is_directory.ensures ∙ c.if-is_directory.false)

pub returns-then-is_directory-clause-cleared : goal.returns-then-is_directory-clause-cleared
returns-then-is_directory-clause-cleared c =
    cleared-loss c.args.inodes.now.table c.rmdir_at.new.inodes.table c.in-Some.old c.args.at.now.dir c.rmdir_at.ensures.loss
    (directory-apart c.args.inodes.now.table c.requires.sound.system c.args.at.now c.requires.agrees c.in-Some.old c.in-Some.is c.requires.entry)

pub returns-else-is_directory-clause-cleared : goal.returns-else-is_directory-clause-cleared
returns-else-is_directory-clause-cleared c =
    cleared-loss c.args.inodes.now.table c.unlink_at.new.inodes.table c.in-Some.old c.args.at.now.dir c.unlink_at.ensures.loss
    (file-apart c.args.inodes.now.table c.requires.sound.system c.args.at.now c.requires.agrees c.in-Some.old c.in-Some.is (sym c.is_directory.ensures ∙ c.if-is_directory.false))
