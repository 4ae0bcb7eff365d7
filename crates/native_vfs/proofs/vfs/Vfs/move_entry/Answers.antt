use Rattle.std.proofs.Common.{◌≡◌, ◌∙◌, sym, ap, subst}
use Rattle.std.specs.Int.{w128}
use Rattle.std.specs.Prelude.{option_map}
use Rattle.std.proofs.Math.Facts.{to_z-of_z}
use Rattle.kernel_core.specs.Nodes.{listing_at}
use Rattle.kernel_core.specs.NameCalls.{replace_name, take_name}
use Rattle.native_vfs.specs.Keyed.{place_at, number_at}
use Rattle.native_vfs.specs.inside.Renames.{entry_moved, Becomes}
use Rattle.native_vfs.specs.inside.Stored.{nodes_of, keyed_of, number_of_key, CanAdd}
use Rattle.native_vfs.proofs.tables.Kept.{whole-of, kept-of, sound-of, pool-numbers, same-distinct, same-pool, same-blocks, IsWhole, valid-view, are-keys-view}
use Rattle.native_vfs.proofs.renames.MovedEntries.{IsRenaming, renaming-same, same-view, same-whole, agrees-to, entry-gives, entry-from, entry-moved-live, entry-some, entry-few, entry-can, entry-nodes, entry-whole, entry-keeps, becomes-blocks, after-error}
use Rattle.native_vfs.proofs.tables.Tables.{distinct-kept}
use Rattle.native_vfs.proofs.vfs.Vfs.move_entry.Goals as goal

-- memory runs out for the name: the table has the nodes that it had

pub invariant_of-self-inside : goal.invariant_of-self-inside
invariant_of-self-inside c = record {
  distinct = same-distinct c.self.inside.inodes.table c.new_name.new.table c.new_name.ensures.same c.self.inside.inodes.distinct;
  pool = same-pool c.self.inside.inodes.table c.new_name.new.table c.new_name.ensures.same c.self.inside.inodes.numbers c.self.inside.inodes.pool;
  block_total = same-blocks c.self.inside.inodes.table c.new_name.new.table c.new_name.ensures.same c.self.inside.inodes.blocks c.self.inside.inodes.block_total;
}

pub invariant_of-self : goal.invariant_of-self
invariant_of-self c =
    kept-of _ _ _ _ _ (same-whole c.self.inside.inodes.table c.new_name.new.table c.new_name.ensures.same c.self.inside.inodes.numbers c.self.inside.inodes.entries c.self.inside.inodes.blocks c.self.inside.root (whole-of c.self.inside.inodes c.self.inside.root c.self.invariant))

pub returns-in_err-name-clause-err : goal.returns-in_err-name-clause-err
returns-in_err-name-clause-err c = after-error c.from_residual.result _ (same-view c.self.inside.inodes.table c.new_name.new.table c.new_name.ensures.same ∙ c.self.view_is)

pub returns-in_err-name-clause-valid : goal.returns-in_err-name-clause-valid
returns-in_err-name-clause-valid c =
    valid-view _ _ _ _ _
    (same-whole c.self.inside.inodes.table c.new_name.new.table c.new_name.ensures.same c.self.inside.inodes.numbers c.self.inside.inodes.entries c.self.inside.inodes.blocks c.self.inside.root (whole-of c.self.inside.inodes c.self.inside.root c.self.invariant))

pub returns-in_err-name-clause-keys : goal.returns-in_err-name-clause-keys
returns-in_err-name-clause-keys c =
    are-keys-view _ _ _ _ _
    (same-whole c.self.inside.inodes.table c.new_name.new.table c.new_name.ensures.same c.self.inside.inodes.numbers c.self.inside.inodes.entries c.self.inside.inodes.blocks c.self.inside.root (whole-of c.self.inside.inodes c.self.inside.root c.self.invariant))

-- what stood under the new name is cleared away

begins : (c : goal.After-clear-arg-1) → IsRenaming c.new_name.new.table c.args.self.now c.args.from.now c.args.to.now c.args.moved c.args.now
begins c =
    renaming-same c.self.inside.inodes.table c.new_name.new.table c.new_name.ensures.same
    c.self.inside.inodes.numbers c.self.inside.inodes.entries c.self.inside.inodes.blocks c.self.inside.root (whole-of c.self.inside.inodes c.self.inside.root c.self.invariant)
    c.args.self.now c.args.from.now c.args.to.now c.args.moved c.args.now (record {
      view = c.self.view_is;
      system_is = c.self.invariant.sound.system;
      from_agrees = c.requires.from;
      to_agrees = c.requires.to;
      node = c.requires.node;
      other = c.requires.other;
      allowed = c.requires.allowed;
      time = c.requires.time;
    })

pub clear-requires-clause-sound : goal.clear-requires-clause-sound
clear-requires-clause-sound c =
    sound-of c.new_name.new.table c.self.inside.inodes.numbers c.self.inside.inodes.entries c.self.inside.inodes.blocks c.self.inside.root
    (same-whole c.self.inside.inodes.table c.new_name.new.table c.new_name.ensures.same c.self.inside.inodes.numbers c.self.inside.inodes.entries c.self.inside.inodes.blocks c.self.inside.root (whole-of c.self.inside.inodes c.self.inside.root c.self.invariant))

pub clear-requires-clause-agrees : goal.clear-requires-clause-agrees
clear-requires-clause-agrees c = agrees-to c.new_name.new.table c.args.self.now c.args.from.now c.args.to.now c.args.moved c.args.now (begins c)

pub clear-requires-clause-gives : goal.clear-requires-clause-gives
clear-requires-clause-gives c = entry-gives c.new_name.new.table c.args.self.now c.args.from.now c.args.to.now c.args.moved c.args.now (begins c)

-- the name moves

goes_on : (c : goal.After-move_name-arg-1) → IsRenaming c.new_name.new.table c.args.self.now c.args.from.now c.args.to.now c.args.moved c.args.now
goes_on c =
    renaming-same c.self.inside.inodes.table c.new_name.new.table c.new_name.ensures.same
    c.self.inside.inodes.numbers c.self.inside.inodes.entries c.self.inside.inodes.blocks c.self.inside.root (whole-of c.self.inside.inodes c.self.inside.root c.self.invariant)
    c.args.self.now c.args.from.now c.args.to.now c.args.moved c.args.now (record {
      view = c.self.view_is;
      system_is = c.self.invariant.sound.system;
      from_agrees = c.requires.from;
      to_agrees = c.requires.to;
      node = c.requires.node;
      other = c.requires.other;
      allowed = c.requires.allowed;
      time = c.requires.time;
    })

cleared : (c : goal.After-move_name-arg-1)
    → nodes_of c.clear.new.inodes.table
    ≡ replace_name (nodes_of c.new_name.new.table) (place_at (keyed_of c.new_name.new.table) c.args.to.now)
    (option_map (number_at (keyed_of c.new_name.new.table)) c.args.to.now.node) c.args.now
cleared c =
    c.clear.ensures.nodes
    ∙ ap (replace_name (nodes_of c.new_name.new.table) (place_at (keyed_of c.new_name.new.table) c.args.to.now)
    (option_map (number_at (keyed_of c.new_name.new.table)) c.args.to.now.node)) (to_z-of_z {w = w128} {z = c.args.now} c.ranges.now)

pub move_name-requires-clause-from : goal.move_name-requires-clause-from
move_name-requires-clause-from c =
    entry-from c.new_name.new.table c.args.self.now c.args.from.now c.args.to.now c.args.moved c.args.now (goes_on c)
    c.clear.new.inodes.table (cleared c) c.clear.ensures.cleared

pub move_name-requires-clause-moved : goal.move_name-requires-clause-moved
move_name-requires-clause-moved c =
    entry-moved-live c.new_name.new.table c.args.self.now c.args.from.now c.args.to.now c.args.moved c.args.now (goes_on c)
    c.clear.new.inodes.table (cleared c) c.clear.ensures.cleared

pub move_name-requires-clause-some : goal.move_name-requires-clause-some
move_name-requires-clause-some c =
    entry-some c.new_name.new.table c.args.self.now c.args.from.now c.args.to.now c.args.moved c.args.now (goes_on c)
    c.clear.new.inodes.table (cleared c) c.clear.ensures.cleared

pub move_name-requires-clause-few : goal.move_name-requires-clause-few
move_name-requires-clause-few c =
    entry-few c.new_name.new.table c.args.self.now c.args.from.now c.args.to.now c.args.moved c.args.now (goes_on c)
    c.clear.new.inodes.table (cleared c) c.clear.ensures.cleared

pub move_name-requires-clause-can : goal.move_name-requires-clause-can
move_name-requires-clause-can c =
    subst
    (λ time. CanAdd (listing_at (take_name (nodes_of c.clear.new.inodes.table) (number_of_key c.clear.new.inodes.table c.args.from.now.dir) c.args.from.now.name time)
    (number_of_key c.clear.new.inodes.table c.args.to.now.dir)) c.in_ok-name.name)
    (sym (to_z-of_z {w = w128} {z = c.args.now} c.ranges.now))
    (entry-can c.new_name.new.table c.args.self.now c.args.from.now c.args.to.now c.args.moved c.args.now (goes_on c)
    c.clear.new.inodes.table (cleared c) c.clear.ensures.cleared c.in_ok-name.name c.in_ok-name.ensures.name)

-- after it

ends : (c : goal.After-self-2-1) → IsRenaming c.new_name.new.table c.args.self.now c.args.from.now c.args.to.now c.args.moved c.args.now
ends c =
    renaming-same c.self.inside.inodes.table c.new_name.new.table c.new_name.ensures.same
    c.self.inside.inodes.numbers c.self.inside.inodes.entries c.self.inside.inodes.blocks c.self.inside.root (whole-of c.self.inside.inodes c.self.inside.root c.self.invariant)
    c.args.self.now c.args.from.now c.args.to.now c.args.moved c.args.now (record {
      view = c.self.view_is;
      system_is = c.self.invariant.sound.system;
      from_agrees = c.requires.from;
      to_agrees = c.requires.to;
      node = c.requires.node;
      other = c.requires.other;
      allowed = c.requires.allowed;
      time = c.requires.time;
    })

clear_before : (c : goal.After-self-2-1)
    → nodes_of c.clear.new.inodes.table
    ≡ replace_name (nodes_of c.new_name.new.table) (place_at (keyed_of c.new_name.new.table) c.args.to.now)
    (option_map (number_at (keyed_of c.new_name.new.table)) c.args.to.now.node) c.args.now
clear_before c =
    c.clear.ensures.nodes
    ∙ ap (replace_name (nodes_of c.new_name.new.table) (place_at (keyed_of c.new_name.new.table) c.args.to.now)
    (option_map (number_at (keyed_of c.new_name.new.table)) c.args.to.now.node)) (to_z-of_z {w = w128} {z = c.args.now} c.ranges.now)

becomes : (c : goal.After-self-2-1)
    → Becomes c.clear.new.inodes.table c.move_name.new.table
    (entry_moved (nodes_of c.clear.new.inodes.table) (number_of_key c.clear.new.inodes.table c.args.from.now.dir) c.args.from.now.name
    (number_of_key c.clear.new.inodes.table c.args.moved) (number_of_key c.clear.new.inodes.table c.args.to.now.dir) c.in_ok-name.name c.args.now)
becomes c =
    subst
    (λ time. Becomes c.clear.new.inodes.table c.move_name.new.table
    (entry_moved (nodes_of c.clear.new.inodes.table) (number_of_key c.clear.new.inodes.table c.args.from.now.dir) c.args.from.now.name
    (number_of_key c.clear.new.inodes.table c.args.moved) (number_of_key c.clear.new.inodes.table c.args.to.now.dir) c.in_ok-name.name time))
    (to_z-of_z {w = w128} {z = c.args.now} c.ranges.now) c.move_name.ensures.becomes

whole : (c : goal.After-self-2-1) → IsWhole c.move_name.new.table c.clear.new.inodes.numbers c.clear.new.inodes.entries c.clear.new.inodes.blocks c.self.inside.root
whole c =
    entry-whole c.new_name.new.table c.args.self.now c.args.from.now c.args.to.now c.args.moved c.args.now (ends c)
    c.clear.new.inodes.table (clear_before c) c.clear.ensures.cleared
    c.move_name.new.table c.in_ok-name.name c.in_ok-name.ensures.name (becomes c)
    c.clear.new.inodes.numbers c.clear.new.inodes.entries c.clear.new.inodes.blocks c.self.inside.root
    c.clear.new.inodes.distinct c.clear.new.inodes.pool c.clear.new.inodes.block_total c.clear.ensures.sound
    (same-whole c.self.inside.inodes.table c.new_name.new.table c.new_name.ensures.same c.self.inside.inodes.numbers c.self.inside.inodes.entries c.self.inside.inodes.blocks c.self.inside.root (whole-of c.self.inside.inodes c.self.inside.root c.self.invariant)).top

pub invariant_of-self-inside-2 : goal.invariant_of-self-inside-2
invariant_of-self-inside-2 c = record {
  distinct = distinct-kept c.clear.new.inodes.table c.move_name.new.table c.move_name.ensures.becomes.numbers c.clear.new.inodes.distinct;
  pool = pool-numbers c.clear.new.inodes.table c.move_name.new.table c.move_name.ensures.becomes.numbers c.clear.new.inodes.distinct c.clear.new.inodes.numbers c.clear.new.inodes.pool;
  block_total = becomes-blocks c.clear.new.inodes.table c.move_name.new.table c.args.from.now.dir c.args.moved c.args.to.now.dir c.args.from.now.name c.in_ok-name.name _ c.args.now
      (to_z-of_z {w = w128} {z = c.args.now} c.ranges.now) c.move_name.ensures.becomes c.clear.new.inodes.blocks c.clear.new.inodes.block_total;
}

pub invariant_of-self-2 : goal.invariant_of-self-2
invariant_of-self-2 c = kept-of _ _ _ _ _ (whole c)

pub returns-clause-ok : goal.returns-clause-ok
returns-clause-ok c =
    entry-nodes c.new_name.new.table c.args.self.now c.args.from.now c.args.to.now c.args.moved c.args.now (ends c)
    c.clear.new.inodes.table (clear_before c) c.clear.ensures.cleared
    c.move_name.new.table c.in_ok-name.name c.in_ok-name.ensures.name (becomes c)

pub returns-clause-kept : goal.returns-clause-kept
returns-clause-kept c =
    entry-keeps c.new_name.new.table c.args.self.now c.args.from.now c.args.to.now c.args.moved c.args.now (ends c)
    c.clear.new.inodes.table (clear_before c) c.clear.ensures.cleared
    c.move_name.new.table c.in_ok-name.name c.in_ok-name.ensures.name (becomes c)
    c.clear.new.inodes.distinct

pub returns-clause-valid : goal.returns-clause-valid
returns-clause-valid c = valid-view _ _ _ _ _ (whole c)

pub returns-clause-keys : goal.returns-clause-keys
returns-clause-keys c = are-keys-view _ _ _ _ _ (whole c)
