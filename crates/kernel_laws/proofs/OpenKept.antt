-- A node that is held once more, and gets a description or is the working directory.
use Rattle.std.proofs.Common.{◌≡◌, ℕ, ◌+◌, ◌≤◌, Bool, true, false, ◌||◌, refl, sym, ◌∙◌, ap, subst, arith, inl, inr}
use Rattle.std.specs.Prelude.{Option, Some, None, is_some, count_by, option_map, unwrap_or, not, ◌==◌, ◌⊎◌, if◌then◌else◌}
use Rattle.std.specs.FinMap.{get}
use Rattle.std.proofs.lemmas.List.Sums.{count_by-le-length}
use Rattle.kernel_core.specs.NodeCalls.{held}
use Rattle.kernel_core.specs.Nodes.{Nodes, Inode, is_directory, update}
use Rattle.kernel_core.specs.Queries.{FileKind, DirectoryKind, NodeKind, holds_at, holds_in, kind_at, kind_of}
use Rattle.file_system_laws.proofs.HeldNodes.{hold_counts, update-kind}
use Rattle.file_system_laws.proofs.NodeLaws.{hold_keeps}
use Rattle.kernel_laws.proofs.Lists.{count_changed, either_way, one_if, one_or_none, or_false}
use Rattle.kernel_laws.proofs.NodesKept.{directory_still, fits_still, open_still, same_directory}
use Rattle.kernel_laws.proofs.Owing.{IsOwing, let_go_kept}
use Rattle.kernel_laws.specs.Ends.{HasEndsOnce}
use Rattle.kernel_model.proofs.Described.{any_set, count_set, slot_cases}
use Rattle.kernel_model.proofs.LeastFree.{least_free}
use Rattle.kernel_model.proofs.Pigeons.{description_place}
use Rattle.kernel_model.proofs.PipeKept.{inserted_table}
use Rattle.kernel_model.specs.Always.{IsFiles, IsOpen, any_open, fits_object, has_open, holders, is_node, is_read_end, is_write_end, only_reads}
use Rattle.kernel_model.specs.Descriptions.{description_of, kept_flags}
use Rattle.kernel_model.specs.Laws.{IsLeastFree}
use Rattle.kernel_model.specs.NodeRows.{after_change}
use Rattle.kernel_model.specs.Opening.{after_open}
use Rattle.kernel_model.specs.Shared.{OpenSet}
use Rattle.kernel_model.specs.State.{Files}
use Rattle.kernel_model.specs.Table.{inserted, lowest_free, new_place, slot}
use Rattle.kernel_model.specs.declared.descriptor.Description.{Description}
use Rattle.kernel_model.specs.declared.descriptor.Object.{Object}
use Rattle.kernel_model.specs.declared.descriptor.Object.TheVariants as objects

-- The node is held

few_holds : (files : Files) → IsFiles files → (node : ℕ) → holds_at files.nodes node ≤ 1025
few_holds files is node =
    omega (arith, is.holds node, count_by-le-length (has_open (is_node node)) files.table.live, is.table.live, one_or_none (files.directory == node))

holds_of : (o : Option Inode) (inode : Inode) → o ≡ Some inode → holds_in o ≡ inode.holds
holds_of None inode e = absurd cc
holds_of (Some other) inode e = let same : other ≡ inode = cc in ap (λ i. i.holds) same

module _ (files : Files) (is : IsFiles files) (node : ℕ) (live : is_some (get files.nodes node) ≡ true) where
  abbrev more : Nodes
  more = update files.nodes node held

  abbrev holding : Files
  holding = record files { nodes = more }

  kinds : (number : ℕ) → 1 ≤ holders files number → kind_at more number ≡ kind_at files.nodes number
  kinds number some = update-kind files.nodes node held (λ i. refl) number

  counted : (number : ℕ) → holds_at more number ≡ holders files number + one_if (node == number)
  counted number = hold_counts files.nodes node live number ∙ by (number == node) refl where
    by : (b : Bool) → (number == node) ≡ b → (if b then holds_at files.nodes number + 1 else holds_at files.nodes number) ≡ holders files number + one_if (node == number)
    by true e = let one : one_if (node == number) ≡ 1 = either_way node number ∙ ap one_if e in omega (arith, one, is.holds number)
    by false e = let none : one_if (node == number) ≡ 0 = either_way node number ∙ ap one_if e in omega (arith, none, is.holds number)

  pub hold_owing : IsOwing holding (objects.Node node)
  hold_owing = record {
    nodes = hold_keeps files.nodes node is.nodes (λ i e. omega (arith, few_holds files is node, holds_of (get files.nodes node) i e));
    table = is.table;
    places = is.places;
    pipes = λ at pipe h. let p = is.pipes at pipe h in record {
      small = p.small;
      are_bytes = p.are_bytes;
      used = p.used;
      readers = p.readers ∙ sym (or_false (any_open files (is_read_end at)));
      writers = p.writers ∙ sym (or_false (any_open files (is_write_end at)));
    };
    moved = is.moved;
    opens = λ at description h. open_still files more kinds at description h (is.opens at description h);
    kept = is.kept;
    fits = λ at description h. fits_still files more kinds at description h (is.fits at description h);
    directory = directory_still files more kinds is.directory;
    holds = counted;
    umask = is.umask;
    there = tt;
    reads_once = λ number h. absurd (let wrong : false ≡ true = h in cc);
    writes_once = λ number h. absurd (let wrong : false ≡ true = h in cc);
  }

-- The node gets a description

module _ (files : Files) (node : ℕ) (is : IsOwing files (objects.Node node)) (fd : ℕ) (free : lowest_free files.table.fds 0 ≡ Some fd) (flags : OpenSet)
    (kind : (kind_at files.nodes node ≡ Some FileKind) ⊎ (kind_at files.nodes node ≡ Some DirectoryKind))
    (fits : fits_object files.nodes flags.access (objects.Node node) ≡ true) where
  abbrev item : Description
  item = description_of (objects.Node node) flags

  abbrev opened_now : Files
  opened_now = record files { table = inserted files.table fd item flags.cloexec }

  first : IsLeastFree files.table.fds 0 fd
  first = least_free files.table.fds 0 fd free

  place : IsLeastFree files.table.live 0 (new_place files.table.live)
  place = description_place files.table is.table 0 fd free

  any_same : (test : Object → Bool) → test (objects.Node node) ≡ false → any_open opened_now test ≡ any_open files test
  any_same test denied = any_set (has_open test) files.table.live (new_place files.table.live) (Some item) None (denied ∙ sym (ap (λ o. has_open test o) place.free))

  count_more : (number : ℕ) → count_by (has_open (is_node number)) opened_now.table.live ≡ count_by (has_open (is_node number)) files.table.live + one_if (node == number)
  count_more number =
      let counts = count_changed (has_open (is_node number)) files.table.live (new_place files.table.live) (Some item) None place.within in
      let none : one_if (has_open (is_node number) (slot files.table.live (new_place files.table.live))) ≡ 0 = ap (λ o. one_if (has_open (is_node number) o)) place.free in
      omega (arith, counts, none)

  new_or_old : (P : Description → Type 0) → P item → (m : ℕ) (description : Description) → (slot files.table.live m ≡ Some description → P description)
      → slot opened_now.table.live m ≡ Some description → P description
  new_or_old P new m description old h =
      slot_cases files.table.live (new_place files.table.live) m (Some item) place.within (λ o. o ≡ Some description → P description)
      (λ e g. subst P (ap (λ o. unwrap_or o item) g) new) (λ e g. old g) h

  open_as : (description : Description) (object : Object) → IsOpen files description object → IsOpen opened_now description object
  open_as description (objects.Stream stream) h = h
  open_as description (objects.ReadEnd pipe) h = h
  open_as description (objects.WriteEnd pipe) h = h
  open_as description (objects.Node number) h = h

  pub described_node : IsFiles opened_now
  described_node = record {
    nodes = is.nodes;
    table = inserted_table files.table is.table fd item flags.cloexec first.within first.free place;
    places = is.places;
    pipes = λ at pipe h. let p = is.pipes at pipe h in record {
      small = p.small;
      are_bytes = p.are_bytes;
      used = p.used;
      readers = p.readers ∙ or_false (any_open files (is_read_end at)) ∙ sym (any_same (is_read_end at) refl);
      writers = p.writers ∙ or_false (any_open files (is_write_end at)) ∙ sym (any_same (is_write_end at) refl);
    };
    moved = is.moved;
    opens = λ m description. new_or_old (λ d. IsOpen opened_now d d.object) (omega arith, kind) m description (λ h. open_as description description.object (is.opens m description h));
    kept = λ m description. new_or_old (λ d. kept_flags d.flags ≡ d.flags) refl m description (is.kept m description);
    fits = λ m description. new_or_old (λ d. fits_object files.nodes d.flags.access d.object ≡ true) fits m description (is.fits m description);
    directory = is.directory;
    holds = λ number. omega (arith, is.holds number, count_more number);
    umask = is.umask;
  }

  pub described_ends : HasEndsOnce files → HasEndsOnce opened_now
  described_ends once = record { reads = λ k. same_count (is_read_end k) refl (once.reads k); writes = λ k. same_count (is_write_end k) refl (once.writes k) } where
    same_count : (test : Object → Bool) → test (objects.Node node) ≡ false → count_by (has_open test) files.table.live ≤ 1 → count_by (has_open test) opened_now.table.live ≤ 1
    same_count test denied few =
        let counts = count_set (has_open test) files.table.live (new_place files.table.live) (Some item) None place.within (denied ∙ sym (ap (λ o. has_open test o) place.free)) in
        omega (arith, counts, few)

-- both

live_kind : (o : Option Inode) (kind : NodeKind) → option_map (λ i. kind_of i.content) o ≡ Some kind → is_some o ≡ true
live_kind None kind e = absurd cc
live_kind (Some inode) kind e = refl

pub lives_of : (nodes : Nodes) (node : ℕ) → (kind_at nodes node ≡ Some FileKind) ⊎ (kind_at nodes node ≡ Some DirectoryKind) → is_some (get nodes node) ≡ true
lives_of nodes node (inl e) = live_kind (get nodes node) FileKind e
lives_of nodes node (inr e) = live_kind (get nodes node) DirectoryKind e

module _ (files : Files) (is : IsFiles files) (flags : OpenSet) (fd node : ℕ) (free : lowest_free files.table.fds 0 ≡ Some fd)
    (kind : (kind_at files.nodes node ≡ Some FileKind) ⊎ (kind_at files.nodes node ≡ Some DirectoryKind))
    (fits : fits_object files.nodes flags.access (objects.Node node) ≡ true) where
  same_kind : kind_at (update files.nodes node held) node ≡ kind_at files.nodes node
  same_kind = update-kind files.nodes node held (λ i. refl) node

  kind_now : (kind_at files.nodes node ≡ Some FileKind) ⊎ (kind_at files.nodes node ≡ Some DirectoryKind)
      → (kind_at (update files.nodes node held) node ≡ Some FileKind) ⊎ (kind_at (update files.nodes node held) node ≡ Some DirectoryKind)
  kind_now (inl e) = inl (same_kind ∙ e)
  kind_now (inr e) = inr (same_kind ∙ e)

  fits_now : fits_object (update files.nodes node held) flags.access (objects.Node node) ≡ true
  fits_now = subst (λ b. (only_reads flags.access || not b) ≡ true) (sym (same_directory files.nodes (update files.nodes node held) node same_kind)) fits

  owing : IsOwing (record files { nodes = update files.nodes node held }) (objects.Node node)
  owing = hold_owing files is node (lives_of files.nodes node kind)

  pub after_open_kept : IsFiles (after_open files flags fd node)
  after_open_kept = described_node (record files { nodes = update files.nodes node held }) node owing fd free flags (kind_now kind) fits_now

  pub after_open_ends : HasEndsOnce files → HasEndsOnce (after_open files flags fd node)
  after_open_ends once =
      described_ends (record files { nodes = update files.nodes node held }) node owing fd free flags (kind_now kind) fits_now (record { reads = once.reads; writes = once.writes })

-- The working directory: the new one is held, and what it was is owed.

module _ (files : Files) (node : ℕ) (is : IsOwing files (objects.Node node)) (directory : is_directory files.nodes node ≡ true) where
  abbrev moved_there : Files
  moved_there = record files { directory = node }

  open_there : (description : Description) (object : Object) → IsOpen files description object → IsOpen moved_there description object
  open_there description (objects.Stream stream) h = h
  open_there description (objects.ReadEnd pipe) h = h
  open_there description (objects.WriteEnd pipe) h = h
  open_there description (objects.Node number) h = h

  pub swapped : IsOwing moved_there (objects.Node files.directory)
  swapped = record {
    nodes = is.nodes;
    table = is.table;
    places = is.places;
    pipes = λ at pipe h. let p = is.pipes at pipe h in record { small = p.small; are_bytes = p.are_bytes; used = p.used; readers = p.readers; writers = p.writers };
    moved = is.moved;
    opens = λ m description h. open_there description description.object (is.opens m description h);
    kept = is.kept;
    fits = is.fits;
    directory = directory;
    holds = λ number. omega (arith, is.holds number);
    umask = is.umask;
    there = tt;
    reads_once = λ number h. absurd (let wrong : false ≡ true = h in cc);
    writes_once = λ number h. absurd (let wrong : false ≡ true = h in cc);
  }

module _ (files : Files) (is : IsFiles files) (node : ℕ) (kind : kind_at files.nodes node ≡ Some DirectoryKind) (directory : is_directory files.nodes node ≡ true) where
  held_directory : is_directory (update files.nodes node held) node ≡ true
  held_directory = same_directory files.nodes (update files.nodes node held) node (update-kind files.nodes node held (λ i. refl) node) ∙ directory

  pub after_change_kept : IsFiles (after_change files node)
  after_change_kept =
      let_go_kept (record files { nodes = update files.nodes node held; directory = node }) (objects.Node files.directory)
      (swapped (record files { nodes = update files.nodes node held }) node (hold_owing files is node (lives_of files.nodes node (inr kind))) held_directory)
