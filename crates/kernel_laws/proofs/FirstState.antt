-- The first state is a kernel.
use Rattle.std.proofs.Common.{◌≡◌, ℕ, zero, suc, ◌+◌, ◌*◌, ◌^◌, ◌<◌, ◌≤◌, List, [], ◌∷◌, length, replicate, set, Bool, true, false, refl, sym, ◌∙◌, ap, subst, arith, inl}
use Rattle.std.specs.Prelude.{All, Option, Some, None, is_some, option_map, unwrap_or, count_by, ◌==◌, if◌then◌else◌}
use Rattle.std.specs.List.{list_any}
use Rattle.std.specs.FinMap.{get}
use Rattle.std.proofs.lemmas.List.{length-replicate, get_or-replicate}
use Rattle.std.proofs.lemmas.List.Elements.{All-replicate, All-set}
use Rattle.std.proofs.lemmas.List.Folds.{sum_by-replicate}
use Rattle.std.proofs.lemmas.List.Sums.{sum_by-cons}
use Rattle.kernel_core.specs.FileSystem.{IsFileSystem, parent_of}
use Rattle.kernel_core.specs.LoadedTree.{loaded, loaded_inode}
use Rattle.kernel_core.specs.NodeCalls.{held}
use Rattle.kernel_core.specs.Nodes.{Nodes, Inode, Listing, in_inode, is_directory, listing_at, listing_in, update}
use Rattle.kernel_core.specs.Queries.{holds_at, holds_in}
use Rattle.kernel_core.specs.ValidTree.{IsValidTree, root}
use Rattle.kernel_core.specs.declared.open_flags.Access.TheVariants as accesses
use Rattle.kernel_core.specs.declared.tree.Node.{Node}
use Rattle.kernel_core.specs.declared.tree.Tree.{Tree}
use Rattle.file_system_laws.proofs.HeldNodes.{hold_counts}
use Rattle.file_system_laws.proofs.KeyedLists.{element, get-keyed}
use Rattle.file_system_laws.proofs.Loading.{loaded_is_file_system}
use Rattle.file_system_laws.proofs.Lookups.{listing_kept}
use Rattle.file_system_laws.proofs.NodeLaws.{hold_keeps}
use Rattle.kernel_laws.proofs.Lists.{either_way, one_if}
use Rattle.kernel_laws.proofs.OtherKept.{unarmed_is}
use Rattle.kernel_laws.proofs.SignalsKept.{none_pending}
use Rattle.kernel_laws.specs.Ends.{HasEndsOnce, IsSoundKernel}
use Rattle.kernel_model.specs.Always.{AreSignals, IsFiles, IsKernel, IsLimit, IsMask, IsOpen, IsPendingAt, IsTable, fits_object, has_open, is_node, is_read_end, is_write_end}
use Rattle.kernel_model.specs.Begin.{Settings, first_files, first_limits, first_signals, first_state, first_table, free_places, nofile_limit, stack_limit, stream_description}
use Rattle.kernel_model.specs.Descriptions.{kept_flags}
use Rattle.kernel_model.specs.SignalRows.{no_action, queued}
use Rattle.kernel_model.specs.SignalSets.{no_signals}
use Rattle.kernel_model.specs.Shared.{Info}
use Rattle.kernel_model.specs.State.{Files, Pipe}
use Rattle.kernel_model.specs.System.{unlimited}
use Rattle.kernel_model.specs.Table.{descriptor_limit, leads_to, slot}
use Rattle.kernel_model.specs.declared.descriptor.Descriptor.{Descriptor}
use Rattle.kernel_model.specs.declared.descriptor.Description.{Description}
use Rattle.kernel_model.specs.declared.descriptor.Object.{Object}
use Rattle.kernel_model.specs.declared.stream.Stream.TheVariants as streams
use Rattle.kernel_model.specs.declared.terminal.Winsize.{Winsize}

-- Free places

all_free : {A : Type 0} (n k : ℕ) → slot (free_places {A = A} n) k ≡ None
unfolding free_places
all_free zero k = refl
all_free (suc n) zero = refl
all_free (suc n) (suc k) = all_free n k

places_long : (A : Type 0) (n : ℕ) → length (free_places {A = A} n) ≡ n
unfolding free_places
places_long A n = length-replicate {A = Option A} n None

none_there : (A : Type 0) (n k : ℕ) → is_some (slot (free_places {A = A} n) k) ≡ true → false ≡ true
none_there A n k h = sym (ap (λ o. is_some o) (all_free {A = A} n k)) ∙ h

no_one : {A : Type 0} (test : Option A → Bool) → test None ≡ false → (n : ℕ) → count_by test (free_places n) ≡ 0
unfolding free_places
no_one {A = A} test e n =
    let none : one_if (test None) ≡ 0 = ap one_if e in
    sum_by-replicate (λ x. one_if (test x)) n None ∙ ap (λ k. n * k) none ∙ omega arith

-- Descriptors

abbrev input : Description
input = stream_description streams.Input accesses.Read

abbrev output : Description
output = stream_description streams.Out accesses.Write

abbrev errors : Description
errors = stream_description streams.Err accesses.Write

leads : (fd : ℕ) (descriptor : Descriptor) → slot first_table.fds fd ≡ Some descriptor → is_some (slot first_table.live descriptor.number) ≡ true
leads zero descriptor h = subst (λ n. is_some (slot first_table.live n) ≡ true) (ap (λ o. unwrap_or (option_map (λ d. d.number) o) 0) h) refl
leads (suc zero) descriptor h = subst (λ n. is_some (slot first_table.live n) ≡ true) (ap (λ o. unwrap_or (option_map (λ d. d.number) o) 1) h) refl
leads (suc (suc zero)) descriptor h = subst (λ n. is_some (slot first_table.live n) ≡ true) (ap (λ o. unwrap_or (option_map (λ d. d.number) o) 2) h) refl
leads (suc (suc (suc fd))) descriptor h = absurd (let wrong : false ≡ true = none_there Descriptor 1021 fd (ap (λ o. is_some o) h) in cc)

used : (number : ℕ) → is_some (slot first_table.live number) ≡ true → list_any (leads_to number) first_table.fds ≡ true
used zero h = refl
used (suc zero) h = refl
used (suc (suc zero)) h = refl
used (suc (suc (suc number))) h = absurd (let wrong : false ≡ true = none_there Description 1021 number h in cc)

table_is : IsTable first_table
table_is = record {
  fds = ap (λ n. suc (suc (suc n))) (places_long Descriptor 1021);
  live = ap (λ n. suc (suc (suc n))) (places_long Description 1021);
  leads = leads;
  used = used;
}

-- what holds of the three streams holds of all that is open
each_stream : (P : Description → Type 0) → P input → P output → P errors → (number : ℕ) (description : Description)
    → slot first_table.live number ≡ Some description → P description
each_stream P a b c zero description h = subst P (ap (λ o. unwrap_or o input) h) a
each_stream P a b c (suc zero) description h = subst P (ap (λ o. unwrap_or o output) h) b
each_stream P a b c (suc (suc zero)) description h = subst P (ap (λ o. unwrap_or o errors) h) c
each_stream P a b c (suc (suc (suc number))) description h = absurd (let wrong : false ≡ true = none_there Description 1021 number (ap (λ o. is_some o) h) in cc)

none_open : (test : Object → Bool) → test input.object ≡ false → test output.object ≡ false → test errors.object ≡ false → count_by (has_open test) first_table.live ≡ 0
none_open test a b c =
    let first : one_if (has_open test (Some input)) ≡ 0 = ap one_if a in
    let second : one_if (has_open test (Some output)) ≡ 0 = ap one_if b in
    let third : one_if (has_open test (Some errors)) ≡ 0 = ap one_if c in
    omega (
      arith,
      first,
      second,
      third,
      sum_by-cons (λ o. one_if (has_open test o)) (Some input) (Some output ∷ Some errors ∷ free_places 1021),
      sum_by-cons (λ o. one_if (has_open test o)) (Some output) (Some errors ∷ free_places 1021),
      sum_by-cons (λ o. one_if (has_open test o)) (Some errors) (free_places 1021),
      no_one (has_open test) refl 1021,
    )

no_nodes : (node : ℕ) → count_by (has_open (is_node node)) first_table.live ≡ 0
no_nodes node = none_open (is_node node) refl refl refl

no_ends : (tree : Tree) (size : Option Winsize) → HasEndsOnce (first_files tree size)
no_ends tree size = record {
  reads = λ pipe. omega (arith, none_open (is_read_end pipe) refl refl refl);
  writes = λ pipe. omega (arith, none_open (is_write_end pipe) refl refl refl);
}

-- Nodes

has_listing : (listing : Option Listing) (parent : ℕ) → parent_of listing ≡ Some parent → is_some listing ≡ true
has_listing None parent e = absurd cc
has_listing (Some listing) parent e = refl

lives : (o : Option Inode) (n : ℕ) → holds_in o ≡ n → (i : Inode) → o ≡ Some i → i.holds ≡ n
lives None n e i h = absurd cc
lives (Some j) n e i h = let same : j ≡ i = cc in ap (λ k. k.holds) (sym same) ∙ e

module _ (tree : Tree) (valid : IsValidTree tree) where
  loaded_unheld : (number : ℕ) → holds_at (loaded tree) number ≡ 0
  unfolding loaded
  loaded_unheld number = ap (λ o. holds_in o) (get-keyed (λ n. n.number) (loaded_inode tree.nodes) tree.nodes number) ∙ by (element (λ n. n.number) (loaded_inode tree.nodes) tree.nodes number) where
    by : (found : Option Node) → holds_in (option_map (loaded_inode tree.nodes) found) ≡ 0
    by None = refl
    by (Some node) = refl

  fs : IsFileSystem (loaded tree)
  fs = loaded_is_file_system tree valid

  abbrev nodes : Nodes
  nodes = update (loaded tree) root held

  nodes_is : IsFileSystem nodes
  nodes_is = hold_keeps (loaded tree) root fs (λ i e. let none : i.holds ≡ 0 = lives (get (loaded tree) root) 0 (loaded_unheld root) i e in omega (arith, none))

  root_is : is_directory (loaded tree) root ≡ true
  root_is = has_listing (listing_at (loaded tree) root) root fs.top

  directory_is : is_directory nodes root ≡ true
  directory_is = ap (λ o. is_some o) (listing_kept (loaded tree) root held (λ i e. refl) root) ∙ root_is

  root_lives : (o : Option Inode) → o ≡ get (loaded tree) root → is_some (get (loaded tree) root) ≡ true
  root_lives None e = absurd (let wrong : false ≡ true = ap (λ o. is_some (in_inode listing_in o)) e ∙ root_is in cc)
  root_lives (Some i) e = ap (λ o. is_some o) (sym e)

  held_once : (node : ℕ) → holds_at nodes node ≡ 0 + one_if (root == node)
  held_once node =
      hold_counts (loaded tree) root (root_lives (get (loaded tree) root) refl) node ∙ by (node == root) refl where
        by : (b : Bool) → (node == root) ≡ b → (if b then holds_at (loaded tree) node + 1 else holds_at (loaded tree) node) ≡ 0 + one_if (root == node)
        by true e = let one : one_if (root == node) ≡ 1 = either_way root node ∙ ap one_if e in omega (arith, one, loaded_unheld node)
        by false e = let none : one_if (root == node) ≡ 0 = either_way root node ∙ ap one_if e in omega (arith, none, loaded_unheld node)

  module _ (size : Option Winsize) where
    abbrev files : Files
    files = first_files tree size

    files_is : IsFiles files
    files_is = record {
      nodes = nodes_is;
      table = table_is;
      places = places_long Pipe descriptor_limit;
      pipes = λ number pipe h. absurd (let wrong : false ≡ true = none_there Pipe descriptor_limit number (ap (λ o. is_some o) h) in cc);
      moved = (omega arith, omega arith, omega arith);
      opens = each_stream (λ d. IsOpen files d d.object) refl refl refl;
      kept = each_stream (λ d. kept_flags d.flags ≡ d.flags) refl refl refl;
      fits = each_stream (λ d. fits_object nodes d.flags.access d.object ≡ true) refl refl refl;
      directory = directory_is;
      holds = λ node. held_once node ∙ ap (λ n. n + one_if (root == node)) (sym (no_nodes node));
      umask = omega arith;
    }

-- Signals

no_set : IsMask no_signals
no_set = ((refl, words), refl) where
  words : All (λ word. word < 2 ^ 32) no_signals
  words = All-replicate (λ word. word < 2 ^ 32) 4 0 (omega arith)

signals_are : AreSignals first_signals
signals_are = record {
  actions = length-replicate 128 no_action;
  masks = All-replicate (λ action. IsMask action.mask) 128 no_action no_set;
  pending = length-replicate {A = List Info} 128 [];
  each = λ at low. subst (λ infos. IsPendingAt at infos) (sym (get_or-replicate {A = List Info} 128 at [] [] low)) (none_pending at);
  few = let none : queued first_signals ≡ 0 = refl in omega (arith, none);
  mask = no_set;
  stack = inl refl;
  kill = refl;
  stop = refl;
}

-- Limits

limits_are : All IsLimit first_limits
limits_are =
    All-set IsLimit (set (replicate 16 unlimited) 5 nofile_limit) 3 stack_limit (omega arith, omega arith)
    (All-set IsLimit (replicate 16 unlimited) 5 nofile_limit (omega arith, omega arith) (All-replicate IsLimit 16 unlimited (omega arith, omega arith)))

pub first_state_is : (tree : Tree) (settings : Settings) → IsValidTree tree → 1 ≤ length settings.random → All (λ byte. byte < 256) settings.random
    → IsKernel (first_state tree settings)
unfolding first_state
first_state_is tree settings valid some bytes = record {
  files = files_is tree valid settings.terminal;
  timer = unarmed_is;
  signals = signals_are;
  limits = refl;
  each_limit = limits_are;
  nofile = omega arith;
  chance = omega (arith, some);
  chance_bytes = bytes;
}

pub first_state_sound : (tree : Tree) (settings : Settings) → IsValidTree tree → 1 ≤ length settings.random → All (λ byte. byte < 256) settings.random
    → IsSoundKernel (first_state tree settings)
unfolding first_state
first_state_sound tree settings valid some bytes =
    let ends = no_ends tree settings.terminal in
    record { always = first_state_is tree settings valid some bytes; ends = record { reads = ends.reads; writes = ends.writes } }
