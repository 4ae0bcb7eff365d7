-- A file's content changes, and the blocks of all files are counted.
use Rattle.std.proofs.Common.{◌≡◌, ℕ, ◌+◌, ◌≤◌, Bool, true, List, [], take, Option, Some, None, is_some, IsSome, IfSome, refl, sym, ap, subst, ◌∙◌, arith}
use Rattle.std.specs.Prelude.{ℤ, IsSomeAnd}
use Rattle.slab.specs.Slab.{get as slab_get, with_value}
use Rattle.slab.proofs.SlabLemmas.{Updates-with_value}
use Rattle.kernel_core.specs.FileContent.{FileContent, IsContent, written, with_bytes}
use Rattle.kernel_core.specs.Nodes.{Inode, in_inode, file_in, file_at}
use Rattle.kernel_core.specs.Totals.{content_blocks, live_blocks}
use Rattle.kernel_core.specs.ValidTree.{block_limit}
use Rattle.file_system_laws.proofs.Totals.{total-update, total-at_least}
use Rattle.native_vfs.specs.inside.Steps.{IsFileChange, IsFileStep, file_written}
use Rattle.native_vfs.specs.inside.Stored.{Table, nodes_of, inode_of, content_of, number_of_key, HasDistinctNumbers, KeepsNumbers, AgreesPool, ContentLeads, content_has_room, IsStep}
use Rattle.native_vfs.specs.declared.stored.Stored.{Stored}
use Rattle.native_vfs.specs.declared.stored.StoredContent.{StoredContent}
use Rattle.native_vfs.specs.declared.stored.StoredContent.TheVariants as kept
use Rattle.native_vfs.proofs.tables.Kept.{pool-numbers}
use Rattle.native_vfs.proofs.tables.Tables.{node-there, number-there, step-with_value, distinct-kept, updates-nodes, updates-numbers, update_same}

-- a write of no byte changes nothing
written-none : (content : FileContent) (at : ℕ) → written content at [] ≡ content
unfolding with_bytes
written-none content at = refl

pub unwritten : (before : Stored) (content after : FileContent) (at count : ℕ) (bytes : List ℕ) (now : ℤ) → before.content ≡ kept.File content → count ≤ 0
    → after ≡ written content at (take count bytes) → IsContent after → IsFileChange before (record before { content = kept.File after }) (file_written at (take count bytes) now)
unwritten before content after at count bytes now is none writes valid =
    let zero_count : count ≡ 0 = omega (arith, none) in
    let nothing : take count bytes ≡ [] = ap (λ n. take n bytes) zero_count in
    let same : after ≡ content = writes ∙ ap (written content at) nothing ∙ written-none content at in
    record {
      number = refl;
      inode = ap (λ c. record (inode_of before) { content = c }) (ap (λ c. content_of (kept.File c)) same ∙ sym (ap content_of is))
          ∙ sym (ap (λ bs. file_written at bs now (inode_of before)) nothing);
      file = valid;
    }

-- The step of a file

leads-file : (table : Table) (before after : StoredContent) → IsSomeAnd (file_in (content_of after)) IsContent → ContentLeads table before → ContentLeads table after
leads-file table before (kept.File content) file h = tt
leads-file table before (kept.Directory directory) file h = absurd file
leads-file table before (kept.Link target) file h = tt

room-file : (before after : StoredContent) → IsSome (file_in (content_of before)) → content_has_room before ≡ true → content_has_room after ≡ true
room-file (kept.File content) after file room = cc
room-file (kept.Directory directory) after file room = cc
room-file (kept.Link target) after file room = cc

if_and : (o : Option FileContent) → IsSomeAnd o IsContent → IfSome o IsContent
if_and None file = absurd file
if_and (Some content) file = file

module _ (table : Table) (key : ℕ) (before : Stored) (at : slab_get table key ≡ Some before) (distinct : HasDistinctNumbers table) where
  pub file-there : file_at (nodes_of table) (number_of_key table key) ≡ file_in (content_of before.content)
  file-there = ap (file_at (nodes_of table)) (number-there table key before at) ∙ ap (in_inode file_in) (node-there table key before distinct at)

  -- all files keep at least what one does
  pub blocks-there : content_blocks (content_of before.content) ≤ live_blocks (nodes_of table)
  blocks-there = total-at_least (λ i. content_blocks i.content) (nodes_of table) before.number (inode_of before) (node-there table key before distinct at)

  -- the node is written in its place
  pub numbers-there : (after : Stored) → after.number ≡ before.number → KeepsNumbers table (with_value table key after)
  numbers-there after same = updates-numbers table (with_value table key after) key before after at (Updates-with_value table key after (ap is_some at)) same

  pub distinct-there : (after : Stored) → after.number ≡ before.number → HasDistinctNumbers (with_value table key after)
  distinct-there after same = distinct-kept table (with_value table key after) (numbers-there after same) distinct

  pub pool-there : (after : Stored) → after.number ≡ before.number → (taken : List Bool) → AgreesPool (nodes_of table) taken → AgreesPool (nodes_of (with_value table key after)) taken
  pool-there after same = pool-numbers table (with_value table key after) (numbers-there after same) distinct

  -- what all files keep then
  pub blocks-changed : (after : Stored) → after.number ≡ before.number
      → live_blocks (nodes_of (with_value table key after)) + content_blocks (content_of before.content) ≡ live_blocks (nodes_of table) + content_blocks (content_of after.content)
  blocks-changed after same =
      let updates = Updates-with_value table key after (ap is_some at) in
      let is = ap live_blocks (updates-nodes table (with_value table key after) key before after at updates same (λ _. inode_of after) distinct refl) in
      let sums = total-update (λ i. content_blocks i.content) (nodes_of table) before.number (λ _. inode_of after) (inode_of before) (node-there table key before distinct at) in
      omega (arith, is, sums)

  -- the count of the blocks keeps up
  pub blocks-counted : (after : Stored) (blocks left : ℕ) → after.number ≡ before.number → blocks ≡ live_blocks (nodes_of table)
      → left + content_blocks (content_of before.content) ≡ blocks + content_blocks (content_of after.content) → left ≡ live_blocks (nodes_of (with_value table key after))
  blocks-counted after blocks left same counted moved = let sums = blocks-changed after same in omega (arith, sums, counted, moved)

  module _ (after : Stored) (change : Inode → Inode) (changes : IsFileChange before after change) (file : IsSome (file_in (content_of before.content))) where
    file_step : IsStep table (with_value table key after) key change
    file_step = step-with_value table key before after change at distinct changes.number changes.inode
        (leads-file table before.content after.content changes.file) (room-file before.content after.content file)

    there_after : slab_get (with_value table key after) key ≡ Some after
    there_after = (Updates-with_value table key after (ap is_some at)).changed

    pub file-step : live_blocks (nodes_of (with_value table key after)) ≤ block_limit → IsFileStep table (with_value table key after) key change
    file-step few = record {
      step = file_step;
      valid =
          let distinct_after = distinct-kept table (with_value table key after) file_step.numbers distinct in
          let found : file_at (nodes_of (with_value table key after)) (number_of_key table key) ≡ file_in (content_of after.content) =
          ap (file_at (nodes_of (with_value table key after))) (number-there table key before at ∙ sym changes.number)
          ∙ ap (in_inode file_in) (node-there (with_value table key after) key after distinct_after there_after) in
          subst (λ o. IfSome o IsContent) (sym found) (if_and (file_in (content_of after.content)) changes.file);
      few = few;
    }

-- A step that changes nothing
pub same-file-step : (table : Table) (key : ℕ) → IfSome (file_at (nodes_of table) (number_of_key table key)) IsContent → live_blocks (nodes_of table) ≤ block_limit
    → IsFileStep table table key (λ i. i)
same-file-step table key valid few = record {
  step = record {
    nodes = sym (update_same (nodes_of table) (number_of_key table key));
    numbers = λ other. refl;
    references = λ h. h;
    room = λ directory h. h;
  };
  valid = valid;
  few = few;
}
