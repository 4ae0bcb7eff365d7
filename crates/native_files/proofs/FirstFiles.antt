-- What a process begins with.
use Rattle.std.proofs.Common.{◌≡◌, ◌≢◌, ℕ, zero, suc, ◌+◌, ◌<◌, ◌^◌, Bool, true, false, cond, ◌==◌, List, [], ◌∷◌, map, length, set, replicate, Option, Some, None, IfSome, refl, sym, ap, ◌∙◌, inl, inr, arith}
use Rattle.std.specs.Prelude.{is_some, count_by, unwrap_or, ◌⊎◌}
use Rattle.std.specs.Cmp.{nat_cmp_total}
use Rattle.std.specs.FinMap.{from_entries, get, get-empty, get-insert}
use Rattle.std.specs.Ordering.{nat_cmp, eq_by_cmp}
use Rattle.std.proofs.lemmas.Bool.{cases_eq}
use Rattle.std.proofs.lemmas.Bool.Decides.{nat_tests}
use Rattle.std.proofs.lemmas.List.{length-replicate}
use Rattle.std.proofs.lemmas.List.Folds.{sum_by-replicate}
use Rattle.kernel_core.specs.FileSystem.{IsFileSystem}
use Rattle.kernel_core.specs.LoadedTree.{loaded, loaded_inode}
use Rattle.kernel_core.specs.NodeCalls.{held}
use Rattle.kernel_core.specs.Nodes.{Inode, Nodes, is_directory, listing_in, update}
use Rattle.kernel_core.specs.Queries.{DirectoryKind, holds_at, holds_in, kind_at}
use Rattle.kernel_core.specs.ValidTree.{root}
use Rattle.kernel_core.specs.declared.tree.Node.{Node}
use Rattle.kernel_core.specs.declared.tree.Tree.{Tree}
use Rattle.file_system_laws.proofs.HeldNodes.{listing_kind, told, update-kind}
use Rattle.kernel_model.specs.Begin.{free_places, first_table, stream_description, stream_descriptor}
use Rattle.kernel_core.specs.declared.open_flags.Access.TheVariants as accesses
use Rattle.kernel_model.specs.declared.stream.Stream.TheVariants as streams
use Rattle.kernel_model.specs.State.{Descriptors}
use Rattle.kernel_model.specs.Table.{slot, new_place, inserted}
use Rattle.kernel_model.specs.declared.descriptor.Description.{Description}
use Rattle.native_fd.specs.Table.{no_descriptors}
use Rattle.native_fd.proofs.LinkLemmas.{length-free, slot-free}
use Rattle.native_fd.proofs.LowestLemmas.{lowest_free-is}
use Rattle.native_vfs.specs.Held.{ChangesHeld}
use Rattle.native_vfs.specs.Keyed.{Keyed, number_at as node_at, inode_at}
use Rattle.kernel_model.specs.Always.{has_open, is_node}
use Rattle.native_files.specs.inside.Kept.{AreKept, node_in, holders_in}
use Rattle.native_files.proofs.KeptLemmas.{one}

-- no node of a tree is held

loaded_holds : (all nodes : List Node) (number : ℕ) → holds_in (get (from_entries {R = nat_cmp} (map (λ (n : Node). (n.number, loaded_inode all n)) nodes)) number) ≡ 0
loaded_holds all [] number = ap holds_in (get-empty nat_cmp number)
loaded_holds all (node ∷ nodes) number =
    ap holds_in (get-insert nat_cmp_total (from_entries (map (λ (n : Node). (n.number, loaded_inode all n)) nodes)) node.number (loaded_inode all node) number)
    ∙ by (eq_by_cmp nat_cmp number node.number) (loaded_holds all nodes number)
  where
    by : (b : Bool) → holds_in (get (from_entries {R = nat_cmp} (map (λ (n : Node). (n.number, loaded_inode all n)) nodes)) number) ≡ 0
        → holds_in (cond b (Some (loaded_inode all node)) (get (from_entries {R = nat_cmp} (map (λ (n : Node). (n.number, loaded_inode all n)) nodes)) number)) ≡ 0
    by true rest = refl
    by false rest = rest

pub holds-loaded : (tree : Tree) (number : ℕ) → holds_at (loaded tree) number ≡ 0
unfolding loaded
holds-loaded tree number = loaded_holds tree.nodes tree.nodes number

few : (o : Option Inode) → holds_in o ≡ 0 → IfSome o (λ i. i.holds + 1 < 2 ^ 32)
few None none = tt
few (Some i) none = omega (arith, none)

pub few-holds : (system : Keyed) (tree : Tree) (key : ℕ) → system.nodes ≡ loaded tree → IfSome (inode_at system key) (λ i. i.holds + 1 < 2 ^ 32)
few-holds system tree key is = few (inode_at system key) (ap (λ (n : Nodes). holds_at n (node_at system key)) is ∙ holds-loaded tree (node_at system key))

-- nothing is open, and the root is held as the working directory

count-free : (node : ℕ) → count_by (has_open (is_node node)) (free_places 1024) ≡ 0
unfolding free_places
count-free node = sum_by-replicate {X = Option Description} (λ x. cond (has_open (is_node node) x) 1 0) 1024 None

pub first-kind : (system now : Keyed) (node : ℕ) → is_directory system.nodes root ≡ true → now.nodes ≡ update system.nodes node held → kind_at now.nodes root ≡ Some DirectoryKind
first-kind system now node is after =
    ap (λ (n : Nodes). kind_at n root) after ∙ update-kind system.nodes node held (λ i. refl) root
    ∙ (told listing_in DirectoryKind listing_kind (get system.nodes root)).1 is

pub AreKept-first : (system now : Keyed) (tree : Tree) (key : ℕ) → system.nodes ≡ loaded tree → get system.keys key ≡ Some root
    → now.keys ≡ system.keys → kind_at now.nodes root ≡ Some DirectoryKind → ChangesHeld system now (node_at system key) (λ holds. holds + 1)
    → IsFileSystem now.nodes → AreKept now (free_places 1024) (replicate 1024 0) key
AreKept-first system now tree key is at same kind changes valid = record {
  keyed = record {
    sized = length-replicate {A = ℕ} 1024 0;
    leads = λ number node there. absurd (let bad : None ≡ Some node = sym (ap (λ o. node_in o) (slot-free 1024 number)) ∙ there in cc);
  };
  valid = valid;
  home = ap (λ o. is_some o) (ap (λ keys. get keys key) same ∙ at);
  home_kind = ap (λ o. kind_at now.nodes (unwrap_or o 0)) (ap (λ keys. get keys key) same ∙ at) ∙ kind;
  holds = λ node.
      let none : holds_at system.nodes node ≡ 0 = ap (λ (n : Nodes). holds_at n node) is ∙ holds-loaded tree node in
      let there : node_at now key ≡ root = ap (λ o. unwrap_or o 0) (ap (λ keys. get keys key) same ∙ at) in
      let before : node_at system key ≡ root = ap (λ o. unwrap_or o 0) at in
      by node none there before (cases_eq node root);
}
  where
    by : (node : ℕ) → holds_at system.nodes node ≡ 0 → node_at now key ≡ root → node_at system key ≡ root → (node ≡ root) ⊎ (node ≢ root)
        → holds_at now.nodes node ≡ holders_in (free_places 1024) (node_at now key) node
    by node none there before (inl here) =
        let same : (node == root) ≡ true = grind (arith, nat_tests) in
        let back : (root == node) ≡ true = grind (arith, nat_tests) in
        let e : holds_at now.nodes node ≡ holds_at system.nodes node + 1 =
        changes.holds node ∙ ap (λ b. cond b (holds_at system.nodes node + 1) (holds_at system.nodes node)) (ap (λ n. node == n) before ∙ same) in
        let f : one (node_at now key == node) ≡ one true = ap one (ap (λ n. n == node) there ∙ back) in
        omega (arith, e, f, none, count-free node)
    by node none there before (inr apart) =
        let other : (node == root) ≡ false = grind (arith, nat_tests) in
        let back : (root == node) ≡ false = grind (arith, nat_tests) in
        let e : holds_at now.nodes node ≡ holds_at system.nodes node =
        changes.holds node ∙ ap (λ b. cond b (holds_at system.nodes node + 1) (holds_at system.nodes node)) (ap (λ n. node == n) before ∙ other) in
        let f : one (node_at now key == node) ≡ one false = ap one (ap (λ n. n == node) there ∙ back) in
        omega (arith, e, f, none, count-free node)

-- the three streams

new_place-at : {A : Type 0} (slots : List (Option A)) (k : ℕ) → k < length slots → slot slots k ≡ None → ((j : ℕ) → j < k → is_some (slot slots j) ≡ true) → new_place slots ≡ k
new_place-at slots k within free taken = ap (λ o. unwrap_or o (length slots)) (lowest_free-is slots 0 k (omega arith) within free (λ j _ below. taken j below))

inserted-at : {A : Type 0} (table : Descriptors A) (fd number : ℕ) (item : A) → new_place table.live ≡ number
    → inserted table fd item false ≡ record { fds = set table.fds fd (Some (stream_descriptor number)); live = set table.live number (Some item) }
inserted-at table fd number item is = ap (λ n. record { fds = set table.fds fd (Some (stream_descriptor n)); live = set table.live n (Some item) }) is

spread : {A : Type 0} → free_places {A = A} 1024 ≡ None ∷ None ∷ None ∷ free_places 1021
unfolding free_places
spread = refl

pub first_three : Description → Description → Description → Descriptors Description
first_three first second third = record {
  fds = Some (stream_descriptor 0) ∷ Some (stream_descriptor 1) ∷ Some (stream_descriptor 2) ∷ free_places 1021;
  live = Some first ∷ Some second ∷ Some third ∷ free_places 1021;
}

-- the table after the first descriptors

pub after_one : Description → Descriptors Description
after_one first = record {
  fds = Some (stream_descriptor 0) ∷ None ∷ None ∷ free_places 1021;
  live = Some first ∷ None ∷ None ∷ free_places 1021;
}

pub after_two : Description → Description → Descriptors Description
after_two first second = record {
  fds = Some (stream_descriptor 0) ∷ Some (stream_descriptor 1) ∷ None ∷ free_places 1021;
  live = Some first ∷ Some second ∷ None ∷ free_places 1021;
}

pub first-inserted : (first : Description) → inserted no_descriptors 0 first false ≡ after_one first
unfolding after_one
first-inserted first =
    inserted-at no_descriptors 0 0 first (new_place-at (free_places 1024) 0 (omega (arith, length-free Description 1024)) (slot-free 1024 0) (λ j below. absurd (omega arith)))
    ∙ ap (λ l. record { fds = set l 0 (Some (stream_descriptor 0)); live = set (free_places 1024) 0 (Some first) }) spread
    ∙ ap (λ l. record { fds = Some (stream_descriptor 0) ∷ None ∷ None ∷ free_places 1021; live = set l 0 (Some first) }) spread

pub second-inserted : (first second : Description) → inserted (after_one first) 1 second false ≡ after_two first second
unfolding after_one after_two
second-inserted first second =
    inserted-at (after_one first) 1 1 second (new_place-at (after_one first).live 1 (omega arith) refl (λ j below. taken j below))
  where
    taken : (j : ℕ) → j < 1 → is_some (slot (Some first ∷ None ∷ None ∷ free_places 1021) j) ≡ true
    taken zero below = refl
    taken (suc j) below = absurd (omega arith)

pub third-inserted : (first second third : Description) → inserted (after_two first second) 2 third false ≡ first_three first second third
unfolding after_two first_three
third-inserted first second third =
    inserted-at (after_two first second) 2 2 third (new_place-at (after_two first second).live 2 (omega arith) refl (λ j below. taken j below))
  where
    taken : (j : ℕ) → j < 2 → is_some (slot (Some first ∷ Some second ∷ None ∷ free_places 1021) j) ≡ true
    taken zero below = refl
    taken (suc zero) below = refl
    taken (suc (suc j)) below = absurd (omega arith)

pub first-three-free : (fd : ℕ) → fd < 3 → slot (no_descriptors {A = Description}).fds fd ≡ None
first-three-free fd below = slot-free 1024 fd

pub one-free : (first : Description) → slot (after_one first).fds 1 ≡ None
unfolding after_one
one-free first = refl

pub two-free : (first second : Description) → slot (after_two first second).fds 2 ≡ None
unfolding after_two
two-free first second = refl

three_streams : first_three (stream_description streams.Input accesses.Read) (stream_description streams.Out accesses.Write) (stream_description streams.Err accesses.Write) ≡ first_table
unfolding first_three
three_streams = refl

pub first-table : (first second third : Description) → first ≡ stream_description streams.Input accesses.Read → second ≡ stream_description streams.Out accesses.Write
    → third ≡ stream_description streams.Err accesses.Write
    → inserted (inserted (inserted no_descriptors 0 first false) 1 second false) 2 third false ≡ first_table
first-table first second third input out err =
    ap (λ t. inserted (inserted t 1 second false) 2 third false) (first-inserted first)
    ∙ ap (λ t. inserted t 2 third false) (second-inserted first second)
    ∙ third-inserted first second third
    ∙ ap (λ d. first_three d second third) input
    ∙ ap (λ d. first_three (stream_description streams.Input accesses.Read) d third) out
    ∙ ap (λ d. first_three (stream_description streams.Input accesses.Read) (stream_description streams.Out accesses.Write) d) err
    ∙ three_streams
