-- The rows on the node that a path names, from what the walk of the path and the call on the node gave.
use Rattle.std.proofs.Common.{◌≡◌, ℕ, ℤ, Bool, true, false, List, Option, Some, None, refl, sym, ap, subst, ◌∙◌}
use Rattle.std.specs.Prelude.{◌&&◌, not, is_some, option_map, Result, Ok, Err}
use Rattle.std.proofs.lemmas.Option.{same_Some}
use Rattle.std.specs.FinMap.{get}
use Rattle.kernel_core.specs.NodeCalls.{after_resize, held, released}
use Rattle.kernel_core.specs.Nodes.{Nodes, Inode, NodeContent, File, Directory, Link, in_inode, is_directory, listing_in, update}
use Rattle.kernel_core.specs.Queries.{NodeKind, FileKind, DirectoryKind, LinkKind, kind_at, kind_of}
use Rattle.kernel_core.specs.declared.core_error.CoreError.{CoreError}
use Rattle.kernel_core.specs.declared.core_error.CoreError.TheVariants as errors
use Rattle.kernel_core.specs.declared.error.Errno.{Errno}
use Rattle.kernel_core.specs.declared.error.Errno.TheVariants.{EACCES, ENOENT, ENOTDIR}
use Rattle.kernel_model.specs.Came.{Did, Done, done, refused_by, refused_if, with_given, with_some}
use Rattle.kernel_model.specs.ContentRows as contents
use Rattle.kernel_model.specs.Descriptions.{content_at}
use Rattle.kernel_model.specs.NameRows.{with_nodes}
use Rattle.kernel_model.specs.NodeRows as rows
use Rattle.kernel_model.specs.Paths.{Base, node_found, walk_to_node}
use Rattle.kernel_model.specs.State.{Descriptors, Files, Flow}
use Rattle.kernel_model.specs.declared.descriptor.Description.{Description}
use Rattle.kernel_model.specs.declared.terminal.Terminal.{Terminal}
use Rattle.native_vfs.specs.Keyed.{Keyed, number_at as node_at}
use Rattle.native_files.specs.Answers.{Answers}
use Rattle.native_files.specs.inside.NodeSteps.{ChangesSurely, access_answer, truncate_refusal, wide}
use Rattle.native_files.specs.inside.Walks.{FindsNode, walk_in}
use Rattle.native_files.proofs.NameSteps.{seen}
use Rattle.native_files.proofs.NamedRows.{found-at}

-- another size, as its reason to be refused and its effect
truncate-is : (files : Files) (time : ℤ) (node size : ℕ) (o : Option NodeContent)
    → rows.truncate_content files time node size o ≡ refused_by (truncate_refusal size o) files (done (rows.after_truncate files time node size) tt)
truncate-is files time node size None = refl
truncate-is files time node size (Some (File content)) = refl
truncate-is files time node size (Some (Directory listing)) = refl
truncate-is files time node size (Some (Link target)) = refl

-- whether a node is a directory, by its kind

abbrev pub is_directory_kind : NodeKind → Bool
is_directory_kind FileKind = false
is_directory_kind DirectoryKind = true
is_directory_kind LinkKind = false

pub kind-directory : (nodes : Nodes) (number : ℕ) (kind : NodeKind) → kind_at nodes number ≡ Some kind → is_directory nodes number ≡ is_directory_kind kind
kind-directory nodes number kind is = by (get nodes number) is
  where
    by_content : (content : NodeContent) → is_some (listing_in content) ≡ is_directory_kind (kind_of content)
    by_content (File content) = refl
    by_content (Directory listing) = refl
    by_content (Link target) = refl

    by : (o : Option Inode) → option_map (λ i. kind_of i.content) o ≡ Some kind → is_some (in_inode listing_in o) ≡ is_directory_kind kind
    by None is = absurd (cc)
    by (Some inode) is = by_content inode.content ∙ ap is_directory_kind (same_Some (kind_of inode.content) kind is)

abbrev pub fine : Result (Unit {0}) CoreError
fine = Ok tt

module _ (table : Descriptors Description) (flow : Flow) (directory umask : ℕ) (terminal : Option Terminal) where
  abbrev here : Keyed → Files
  here system = seen table flow directory umask terminal system

  module _ (system now : Keyed) (home : node_at now directory ≡ node_at system directory) where
    became : (after : Nodes) → now.nodes ≡ after → here now ≡ with_nodes (here system) after
    became after is = λ i. record { nodes = is i; table = table; flow = flow; directory = home i; umask = umask; terminal = terminal }

    pub surely-answers : (refusal : Option Errno) (after : Nodes) (result : Result (Unit {0}) Errno) → ChangesSurely system.nodes refusal after result now.nodes
        → Answers (refused_by refusal (here system) (done (with_nodes (here system) after) tt)) (wide result) (here now)
    surely-answers refusal after (Ok value) is =
        subst (λ (r : Option Errno). Answers (refused_by r (here system) (done (with_nodes (here system) after) tt)) (Ok value) (here now)) (sym is.0) (refl, became after is.1)
    surely-answers refusal after (Err error) is =
        subst (λ (r : Option Errno). Answers (refused_by r (here system) (done (with_nodes (here system) after) tt)) (Err (errors.Refused error)) (here now)) (sym is.0) (refl, became system.nodes is.1)

  -- whether it may be executed

  abbrev pub may_access : Keyed → Bool → ℕ → Did Files (Unit {0})
  may_access system execute node = refused_if (execute && rows.is_not_executable (get system.nodes node)) EACCES (here system) (done (here system) tt)

  -- another working directory

  abbrev pub change : Keyed → ℕ → Did Files (Unit {0})
  change system node = refused_if (not (is_directory system.nodes node)) ENOTDIR (here system) (done (rows.after_change (here system) node) tt)

  pub moved-home : (system now : Keyed) (to : ℕ) → now.nodes ≡ released (update system.nodes (node_at system to) held) (node_at system directory) → node_at now to ≡ node_at system to
      → seen table flow to umask terminal now ≡ rows.after_change (here system) (node_at system to)
  moved-home system now to nodes moved = λ i. record { nodes = nodes i; table = table; flow = flow; directory = moved i; umask = umask; terminal = terminal }

  module _ (system : Keyed) (base : Base) (path : List ℕ) (follow : Bool) (key : ℕ)
      (found : FindsNode system (node_found (walk_in system.nodes table (node_at system directory) base path follow)) (Ok key)) where
    abbrev node : ℕ
    node = node_at system key

    -- the row at the node that was found
    pub step-found : {V : Type 0} (rest : ℕ → Did Files V) → with_given (here system) (walk_to_node (here system) base path follow) rest ≡ rest node
    step-found rest = ap (λ (r : Result ℕ Errno). with_given (here system) r rest) (found-at table flow directory umask terminal system base path follow key found)

    pub found-answers : {V : Type 0} (rest : ℕ → Did Files V) (result : Result V CoreError) (state : Files) → Answers (rest node) result state
        → Answers (with_given (here system) (walk_to_node (here system) base path follow) rest) result state
    found-answers {V} rest result state is = subst (λ (step : Did Files V). Answers step result state) (sym (step-found rest)) is

    -- a change of the node
    pub changed-row : (now : Keyed) → node_at now directory ≡ node_at system directory → (after : ℕ → Nodes) → now.nodes ≡ after node
        → Answers (with_given (here system) (walk_to_node (here system) base path follow) (λ node. done (with_nodes (here system) (after node)) tt)) fine (here now)
    changed-row now home after is =
        found-answers (λ node. done (with_nodes (here system) (after node)) tt) fine (here now) (refl, became system now home (after node) is)

    -- another size
    pub truncate-row : (now : Keyed) → node_at now directory ≡ node_at system directory → (time : ℤ) (size : ℕ) (result : Result (Unit {0}) Errno)
        → ChangesSurely system.nodes (truncate_refusal size (content_at system.nodes node)) (after_resize system.nodes node size time) result now.nodes
        → Answers (with_given (here system) (walk_to_node (here system) base path follow) (λ node. rows.truncate_content (here system) time node size (content_at system.nodes node))) (wide result) (here now)
    truncate-row now home time size result changes =
        found-answers (λ node. rows.truncate_content (here system) time node size (content_at system.nodes node)) (wide result) (here now)
        (subst (λ (step : Did Files (Unit {0})). Answers step (wide result) (here now)) (sym (truncate-is (here system) time node size (content_at system.nodes node)))
        (surely-answers system now home (truncate_refusal size (content_at system.nodes node)) (after_resize system.nodes node size time) result changes))

    -- the status
    pub status-row : (inode : Inode) → get system.nodes node ≡ Some inode → (told : contents.Status) → told ≡ contents.node_status node inode
        → Answers (with_given (here system) (walk_to_node (here system) base path follow) (λ node. with_some (here system) ENOENT (contents.status_at system.nodes node) (λ status. done (here system) status))) (Ok told) (here system)
    status-row inode at told is =
        found-answers (λ node. with_some (here system) ENOENT (contents.status_at system.nodes node) (λ status. done (here system) status)) (Ok told) (here system)
        (subst (λ (o : Option Inode). Answers (with_some (here system) ENOENT (option_map (contents.node_status node) o) (λ status. done (here system) status)) (Ok told) (here system)) (sym at)
        (ap Done (sym is), refl))

    -- whether it may be executed
    pub access-row : (execute wrong : Bool) → (execute && rows.is_not_executable (get system.nodes node)) ≡ wrong
        → Answers (with_given (here system) (walk_to_node (here system) base path follow) (may_access system execute)) (access_answer wrong) (here system)
    access-row execute wrong is =
        found-answers (may_access system execute) (access_answer wrong) (here system)
        (subst (λ b. Answers (refused_if b EACCES (here system) (done (here system) tt)) (access_answer wrong) (here system)) (sym is) (by wrong))
      where
        by : (b : Bool) → Answers (refused_if b EACCES (here system) (done (here system) tt)) (access_answer b) (here system)
        by true = (refl, refl)
        by false = (refl, refl)

    -- another working directory

    pub change-row : kind_at system.nodes node ≡ Some DirectoryKind → (now : Keyed) → now.nodes ≡ released (update system.nodes node held) (node_at system directory) → node_at now key ≡ node
        → Answers (with_given (here system) (walk_to_node (here system) base path follow) (change system)) fine (seen table flow key umask terminal now)
    change-row kind now nodes moved =
        found-answers (change system) fine (seen table flow key umask terminal now)
        (subst (λ b. Answers (refused_if (not b) ENOTDIR (here system) (done (rows.after_change (here system) node) tt)) fine (seen table flow key umask terminal now)) (sym (kind-directory system.nodes node DirectoryKind kind))
        (refl, moved-home system now key nodes moved))

    pub not_changed-row : (kind : NodeKind) → is_directory_kind kind ≡ false → kind_at system.nodes node ≡ Some kind
        → Answers (with_given (here system) (walk_to_node (here system) base path follow) (change system)) (Err (errors.Refused ENOTDIR)) (here system)
    not_changed-row kind other is =
        found-answers (change system) (Err (errors.Refused ENOTDIR)) (here system)
        (subst (λ b. Answers {V = Unit {0}} (refused_if (not b) ENOTDIR (here system) (done (rows.after_change (here system) node) tt)) (Err (errors.Refused ENOTDIR)) (here system)) (sym (kind-directory system.nodes node kind is ∙ other))
        (refl, refl))
