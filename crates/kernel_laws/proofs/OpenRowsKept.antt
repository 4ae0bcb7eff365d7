-- Opening, and another working directory, keep what files always are.
use Rattle.std.proofs.Common.{◌≡◌, ℕ, ◌%◌, List, Bool, true, false, ◌||◌, refl, sym, ◌∙◌, ap, arith, inl, inr}
use Rattle.std.specs.Prelude.{Option, Some, None, Ok, not, option_map, ℤ, ◌⊎◌, if◌then◌else◌}
use Rattle.std.specs.FinMap.{insert}
use Rattle.std.proofs.lemmas.Bool.{or_parts}
use Rattle.kernel_core.specs.FileContent.{resized}
use Rattle.kernel_core.specs.FileSystem.{IsTime}
use Rattle.kernel_core.specs.NameCalls.{after_create, in_directory, make_refusal, new_file, relisted, with_entry}
use Rattle.kernel_core.specs.NodeCalls.{after_resize, modified_at}
use Rattle.kernel_core.specs.Nodes.{Nodes, NodeContent, File, Directory, Link, Listing, is_directory}
use Rattle.kernel_core.specs.PathWalk.{Place}
use Rattle.kernel_core.specs.Queries.{DirectoryKind, FileKind, kind_at, kind_of, new_number}
use Rattle.kernel_core.specs.declared.error.Errno.TheVariants.{EISDIR, ELOOP, ENOTDIR}
use Rattle.kernel_core.specs.declared.open_flags.Access.TheVariants as accesses
use Rattle.file_system_laws.proofs.HeldNodes.{content_kind, create_keeps_holds, keeps-lost, resize_loses, update-kind}
use Rattle.file_system_laws.proofs.Lookups.{get-insert_same}
use Rattle.file_system_laws.proofs.Making.{create_keeps}
use Rattle.file_system_laws.proofs.NewNumbers.{new_number_is_new}
use Rattle.kernel_laws.proofs.FileContents.{resize_is}
use Rattle.kernel_laws.proofs.Keeps.{Keeps, keeps}
use Rattle.kernel_laws.proofs.NodesKept.{directory_has_kind, nodes_kept, plain_file, same_directory}
use Rattle.kernel_laws.proofs.OpenKept.{after_change_kept, after_open_ends, after_open_kept}
use Rattle.kernel_laws.proofs.WalkAgrees.{directory_of_is, walk_agrees}
use Rattle.kernel_laws.proofs.WalkedRows.{file_of, kind_by_content, text_is}
use Rattle.kernel_laws.specs.Arguments.{IsText, WhereRead}
use Rattle.kernel_laws.specs.Ends.{HasEndsOnce}
use Rattle.kernel_model.specs.Always.{IsFiles, fits_object, only_reads}
use Rattle.kernel_model.specs.Came.{Given}
use Rattle.kernel_model.specs.Descriptions.{content_at, opened, writes}
use Rattle.kernel_model.specs.Modes.{permitted}
use Rattle.kernel_model.specs.NodeRows.{after_change, change_directory, change_to_open}
use Rattle.kernel_model.specs.Opening.{after_open, create, follows, kind_refusal, open_file, open_place, truncated}
use Rattle.kernel_model.specs.Paths.{Base, directory_of, walk}
use Rattle.kernel_model.specs.Shared.{Access, OpenSet}
use Rattle.kernel_model.specs.State.{Files}
use Rattle.kernel_model.specs.Table.{lowest_free}
use Rattle.kernel_model.specs.declared.descriptor.Object.TheVariants as objects

abbrev IsOpened : Nodes → ℕ → Type 0
IsOpened nodes node = (kind_at nodes node ≡ Some FileKind) ⊎ (kind_at nodes node ≡ Some DirectoryKind)

or_true : (b : Bool) → (b || true) ≡ true
or_true true = refl
or_true false = refl

reads_alone : (access : Access) → writes access ≡ false → only_reads access ≡ true
reads_alone accesses.Read e = refl
reads_alone accesses.Write e = absurd cc
reads_alone accesses.ReadWrite e = absurd cc

file_fits : (nodes : Nodes) (access : Access) (node : ℕ) → kind_at nodes node ≡ Some FileKind → fits_object nodes access (objects.Node node) ≡ true
file_fits nodes access node e =
    let plain : is_directory nodes node ≡ false = plain_file nodes node e in
    ap (λ b. only_reads access || not b) plain ∙ or_true (only_reads access)

directory_fits : (nodes : Nodes) (access : Access) (node : ℕ) → writes access ≡ false → fits_object nodes access (objects.Node node) ≡ true
directory_fits nodes access node e = ap (λ b. b || not (is_directory nodes node)) (reads_alone access e)

-- what the kinds allow

module _ (limit : Option ℕ) (flags : OpenSet) (nodes : Nodes) (node : ℕ) where
  kind_opened : (found : Option NodeContent) → content_at nodes node ≡ found → kind_refusal limit flags found ≡ None → IsOpened nodes node
  kind_opened None e h = absurd cc
  kind_opened (Some (File content)) e h = inl (kind_by_content nodes node ∙ ap (λ o. option_map kind_of o) e)
  kind_opened (Some (Directory listing)) e h = inr (kind_by_content nodes node ∙ ap (λ o. option_map kind_of o) e)
  kind_opened (Some (Link target)) e h = by flags.directory h where
    by : (b : Bool) → (if b then Some ENOTDIR else Some ELOOP) ≡ None → IsOpened nodes node
    by true g = absurd cc
    by false g = absurd cc

  plain_directory : (if flags.creat || flags.trunc || writes flags.access then Some EISDIR else None) ≡ None → (flags.creat || flags.trunc || writes flags.access) ≡ false
  plain_directory = by (flags.creat || flags.trunc || writes flags.access) where
    by : (b : Bool) → (if b then Some EISDIR else None) ≡ None → b ≡ false
    by true h = absurd cc
    by false h = refl

  kind_fits : (found : Option NodeContent) → content_at nodes node ≡ found → kind_refusal limit flags found ≡ None → fits_object nodes flags.access (objects.Node node) ≡ true
  kind_fits None e h = absurd cc
  kind_fits (Some (File content)) e h = file_fits nodes flags.access node (kind_by_content nodes node ∙ ap (λ o. option_map kind_of o) e)
  kind_fits (Some (Directory listing)) e h = directory_fits nodes flags.access node (or_parts (flags.creat || flags.trunc) (writes flags.access) (plain_directory h)).1
  kind_fits (Some (Link target)) e h = by flags.directory h where
    by : (b : Bool) → (if b then Some ENOTDIR else Some ELOOP) ≡ None → fits_object nodes flags.access (objects.Node node) ≡ true
    by true g = absurd cc
    by false g = absurd cc

-- A new file

directory_kind : (change : Listing → Listing) (content : NodeContent) → kind_of (in_directory change content) ≡ kind_of content
directory_kind change (File content) = refl
directory_kind change (Directory listing) = refl
directory_kind change (Link target) = refl

created_kind : (nodes : Nodes) (place : Place) (number mode : ℕ) (now : ℤ) → kind_at (after_create nodes place number mode now) number ≡ Some FileKind
created_kind nodes place number mode now =
    update-kind (insert nodes number (new_file mode now)) place.directory (relisted now (with_entry place.name number)) (λ i. directory_kind (with_entry place.name number) i.content) number
    ∙ ap (λ o. option_map (λ i. kind_of i.content) o) (get-insert_same nodes number (new_file mode now))

module _ (files : Files) (is : IsFiles files) (now : ℤ) (time : IsTime now) (limit : Option ℕ) where
  created_is : (mode : ℕ) (place : Place) (base : Base) (path : List ℕ) (follow : Bool) → IsText path → walk files base path follow ≡ Ok place → make_refusal files.nodes place ≡ None
      → IsFiles (create files now mode place)
  created_is mode place base path follow text found free =
      let agrees = walk_agrees files is base path follow text place found in
      let new = new_number_is_new files.nodes in
      let kept = create_keeps_holds files.nodes place (new_number files.nodes) new now (permitted files.umask (mode % 0x1000)) in
      nodes_kept files _ is (create_keeps files.nodes place (new_number files.nodes) now is.nodes agrees free new time (permitted files.umask (mode % 0x1000)) (omega arith)) kept.holds kept.kinds

  module _ (flags : OpenSet) (mode : ℕ) (fd : ℕ) (unused : lowest_free files.table.fds 0 ≡ Some fd) where
    -- Where the name is missing

    module _ (place : Place) (base : Base) (path : List ℕ) (follow : Bool) (text : IsText path) (found : walk files base path follow ≡ Ok place) where
      made_kind : kind_at (create files now mode place).nodes (new_number files.nodes) ≡ Some FileKind
      made_kind = created_kind files.nodes place (new_number files.nodes) (permitted files.umask (mode % 0x1000)) now

      made_opened : make_refusal files.nodes place ≡ None → IsFiles (after_open (create files now mode place) flags fd (new_number files.nodes))
      made_opened free =
          after_open_kept (create files now mode place) (created_is mode place base path follow text found free) flags fd (new_number files.nodes) unused (inl made_kind)
          (file_fits (create files now mode place).nodes flags.access (new_number files.nodes) made_kind)

      made_ends : HasEndsOnce files → make_refusal files.nodes place ≡ None → HasEndsOnce (after_open (create files now mode place) flags fd (new_number files.nodes))
      made_ends once free =
          after_open_ends (create files now mode place) (created_is mode place base path follow text found free) flags fd (new_number files.nodes) unused (inl made_kind)
          (file_fits (create files now mode place).nodes flags.access (new_number files.nodes) made_kind) (record { reads = once.reads; writes = once.writes })

    -- Where it is there

    module _ (node : ℕ) (allowed : kind_refusal limit flags (content_at files.nodes node) ≡ None) where
      size_kind : (number : ℕ) → kind_at (truncated files now flags node).nodes number ≡ kind_at files.nodes number
      size_kind number = by flags.trunc where
        by : (b : Bool) → kind_at (if b then record files { nodes = after_resize files.nodes node 0 now } else files).nodes number ≡ kind_at files.nodes number
        by true = update-kind files.nodes node (modified_at now (λ c. resized c 0)) (λ i. content_kind (λ c. resized c 0) i.content) number
        by false = refl

      cut_is : (found : Option NodeContent) → content_at files.nodes node ≡ found → kind_refusal limit flags found ≡ None → flags.trunc ≡ true
          → IsFiles (record files { nodes = after_resize files.nodes node 0 now })
      cut_is None e h t = absurd cc
      cut_is (Some (File content)) e h t =
          let lost = keeps-lost files.nodes _ (resize_loses files.nodes node 0 now) in
          nodes_kept files _ is (resize_is files.nodes node content is.nodes (file_of files.nodes node content e) now time 0 (omega arith)) lost.holds lost.kinds
      cut_is (Some (Directory listing)) e h t =
          let plain = or_parts (flags.creat || flags.trunc) (writes flags.access) (plain_directory limit flags files.nodes node h) in
          absurd (let wrong : true ≡ false = sym t ∙ (or_parts flags.creat flags.trunc plain.0).1 in cc)
      cut_is (Some (Link target)) e h t = by flags.directory h where
        by : (b : Bool) → (if b then Some ENOTDIR else Some ELOOP) ≡ None → IsFiles (record files { nodes = after_resize files.nodes node 0 now })
        by true g = absurd cc
        by false g = absurd cc

      truncated_is : IsFiles (truncated files now flags node)
      truncated_is = by flags.trunc refl where
        by : (b : Bool) → flags.trunc ≡ b → IsFiles (if b then record files { nodes = after_resize files.nodes node 0 now } else files)
        by true t = cut_is (content_at files.nodes node) refl allowed t
        by false t = is

      kind_now : IsOpened files.nodes node → IsOpened (truncated files now flags node).nodes node
      kind_now (inl e) = inl (size_kind node ∙ e)
      kind_now (inr e) = inr (size_kind node ∙ e)

      fits_now : fits_object (truncated files now flags node).nodes flags.access (objects.Node node) ≡ true
      fits_now =
          ap (λ b. only_reads flags.access || not b) (same_directory files.nodes (truncated files now flags node).nodes node (size_kind node))
          ∙ kind_fits limit flags files.nodes node (content_at files.nodes node) refl allowed

      unused_now : lowest_free (truncated files now flags node).table.fds 0 ≡ Some fd
      unused_now = by flags.trunc where
        by : (b : Bool) → lowest_free (if b then record files { nodes = after_resize files.nodes node 0 now } else files).table.fds 0 ≡ Some fd
        by true = unused
        by false = unused

      node_opened : IsFiles (after_open (truncated files now flags node) flags fd node)
      node_opened =
          after_open_kept (truncated files now flags node) truncated_is flags fd node unused_now
          (kind_now (kind_opened limit flags files.nodes node (content_at files.nodes node) refl allowed)) fits_now

      ends_now : HasEndsOnce files → HasEndsOnce (truncated files now flags node)
      ends_now once = by flags.trunc where
        by : (b : Bool) → HasEndsOnce (if b then record files { nodes = after_resize files.nodes node 0 now } else files)
        by true = record { reads = once.reads; writes = once.writes }
        by false = once

      node_ends : HasEndsOnce files → HasEndsOnce (after_open (truncated files now flags node) flags fd node)
      node_ends once =
          after_open_ends (truncated files now flags node) truncated_is flags fd node unused_now
          (kind_now (kind_opened limit flags files.nodes node (content_at files.nodes node) refl allowed)) fits_now (ends_now once)

  module _ (base : Base) (given : Given (List ℕ)) (text : WhereRead IsText given) (mode : ℕ) where
    place_keeps : (flags : OpenSet) (path : List ℕ) → given ≡ Ok path → (fd : ℕ) → lowest_free files.table.fds 0 ≡ Some fd → (place : Place)
        → walk files base path (follows flags) ≡ Ok place → (found : Option ℕ) → Keeps IsFiles (open_place files limit now path flags mode fd place found)
    place_keeps flags path e fd unused place led None =
        search (keeps, made_opened flags mode fd unused place base path (follows flags) (text_is given text path e) led, is) depth 14
    place_keeps flags path e fd unused place led (Some node) = search (keeps, node_opened flags mode fd unused node, is) depth 14

    pub open_file_keeps : (flags : Option OpenSet) → Keeps IsFiles (open_file files limit now base given flags mode)
    unfolding open_file
    open_file_keeps flags = search (keeps, place_keeps, is) depth 18

    place_ends : HasEndsOnce files → (flags : OpenSet) (path : List ℕ) → given ≡ Ok path → (fd : ℕ) → lowest_free files.table.fds 0 ≡ Some fd → (place : Place)
        → walk files base path (follows flags) ≡ Ok place → (found : Option ℕ) → Keeps HasEndsOnce (open_place files limit now path flags mode fd place found)
    place_ends once flags path e fd unused place led None =
        search (keeps, made_ends flags mode fd unused place base path (follows flags) (text_is given text path e) led, once) depth 14
    place_ends once flags path e fd unused place led (Some node) = search (keeps, node_ends flags mode fd unused node, once) depth 14

    pub open_file_ends : HasEndsOnce files → (flags : Option OpenSet) → Keeps HasEndsOnce (open_file files limit now base given flags mode)
    unfolding open_file
    open_file_ends once flags = search (keeps, place_ends once, once) depth 18

-- The working directory

not_not : (b : Bool) → not b ≡ false → b ≡ true
not_not true e = refl
not_not false e = absurd cc

module _ (files : Files) (is : IsFiles files) where
  changed_to : (node : ℕ) → is_directory files.nodes node ≡ true → IsFiles (after_change files node)
  changed_to node e = after_change_kept files is node (directory_has_kind files.nodes node e) e

  changed_by_path : (node : ℕ) → not (is_directory files.nodes node) ≡ false → IsFiles (after_change files node)
  changed_by_path node e = changed_to node (not_not (is_directory files.nodes node) e)

  changed_by_open : (fd directory : ℕ) → directory_of files.nodes (opened files fd) ≡ Ok directory → IsFiles (after_change files directory)
  changed_by_open fd directory e = changed_to directory (directory_of_is files is (opened files fd) directory e)

  pub change_directory_keeps : (path : Given (List ℕ)) → Keeps IsFiles (change_directory files path)
  unfolding change_directory
  change_directory_keeps path = search (keeps, changed_by_path, is) depth 14

  pub change_to_open_keeps : (fd : ℕ) → Keeps IsFiles (change_to_open files fd)
  unfolding change_to_open
  change_to_open_keeps fd = search (keeps, changed_by_open, is) depth 14
