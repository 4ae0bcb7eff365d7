use Rattle.std.proofs.Common.{◌≡◌, ◌-◌, []}
use Rattle.kernel_core.specs.ValidTree.{all_blocks, all_entries}
use Rattle.fs_image.specs.Reading.{node_at, many}
use Rattle.fs_image.specs.inside.Valid.{AreNodes}
use Rattle.fs_image.proofs.FieldLaws.{IsBytes}
use Rattle.fs_image.proofs.nodes.nodes_at.Given as goal

-- what is left, behind the nodes so far, reads as all of it does; these keep the rules, and the totals are theirs
abbrev pub invariant-loop : goal.invariant-loop
invariant-loop l = record {
  reads : many node_at (l.count - l.counter) l.nodes.items l.file l.left ≡ many node_at l.count [] l.file l.rest;
  bytes : IsBytes l.left;
  nodes : AreNodes l.nodes.items;
  blocks : l.totals.blocks ≡ all_blocks l.nodes.items;
  entries : l.totals.entries ≡ all_entries l.nodes.items;
}
