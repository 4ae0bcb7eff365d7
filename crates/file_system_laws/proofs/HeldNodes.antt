-- How often nodes are held, and of what kind they are, after each call.
use Rattle.std.proofs.Common.{◌≡◌, ◌≤◌, ◌+◌, ◌-◌, ℕ, Bool, true, false, cond, eqb, List, [], ◌∷◌, Option, Some, None, is_some, refl, sym, ap, subst, ◌∙◌, arith, inl, inr}
use Rattle.std.specs.Prelude.{ℤ, option_map, ◌↔◌, ◌==◌, if◌then◌else◌}
use Rattle.std.proofs.lemmas.Bool.{cases_eq, cases_Bool, eq-eqb, ne_eqb, eqb-true, and_parts, false≢true}
use Rattle.std.specs.FinMap.{get, insert, remove}
use Rattle.kernel_core.specs.FileContent.{FileContent, written, resized}
use Rattle.kernel_core.specs.NameCalls.{IsNewNumber, in_directory, relisted, one_link_more, one_link_less, changed_at, after_make, after_create, after_mkdir, after_symlink, after_link, take_name, unlinked, after_unlink, orphaned, after_rmdir, reparented, replace_name, move_parent, after_move, after_rename, is_node, with_entry, without_entry}
use Rattle.kernel_core.specs.NodeCalls.{with_mode, with_times, held, let_go, released, with_content, modified_at, after_write, after_resize}
use Rattle.kernel_core.specs.Nodes.{Nodes, Inode, NodeContent, File, Directory, Link, Listing, is_directory, file_in, listing_in, target_in, in_inode, update, settled, is_unused}
use Rattle.kernel_core.specs.PathWalk.{Place}
use Rattle.kernel_core.specs.Queries.{NodeKind, FileKind, DirectoryKind, LinkKind, kind_of, kind_at, holds_in, holds_at, KeepsHolds, ChangesHolds, KeepsKinds, LiveOn}
use Rattle.file_system_laws.proofs.Lookups.{get-insert_same, get-insert_other, get-remove_same, get-remove_other, get-update_same, get-update_other, settled-used, settled-unused}

-- the kind of a node that is looked up
abbrev kind_in : Option Inode → Option NodeKind
kind_in o = option_map (λ i. kind_of i.content) o

live_kind : (o : Option Inode) → is_some (kind_in o) ≡ is_some o
live_kind None = refl
live_kind (Some i) = refl

-- What lives afterwards is what it was: no node was made.
pub record Loses (old new : Nodes) : Type 0 where
  pub holds : KeepsHolds old new
  pub kinds : (number : ℕ) → is_some (get new number) ≡ true → kind_at new number ≡ kind_at old number

-- what lived is still as it was, where it lives
pub record Keeps (old new : Nodes) : Type 0 where
  pub holds : KeepsHolds old new
  pub kinds : KeepsKinds old new

pub loses-nothing : (nodes : Nodes) → Loses nodes nodes
loses-nothing nodes = record { holds = λ number. refl; kinds = λ number live. refl }

lived : (old new : Nodes) (number : ℕ) → kind_at new number ≡ kind_at old number → is_some (get new number) ≡ true → is_some (get old number) ≡ true
lived old new number same live = sym (live_kind (get old number)) ∙ sym (ap is_some same) ∙ live_kind (get new number) ∙ live

module _ (old middle new : Nodes) where
  followed_by : Loses old middle → Loses middle new → Loses old new
  followed_by first second = record {
    holds = λ number. second.holds number ∙ first.holds number;
    kinds = λ number live. let same = second.kinds number live in same ∙ first.kinds number (lived middle new number same live);
  }

  and_after : Keeps old middle → Loses middle new → Keeps old new
  and_after first second = record {
    holds = λ number. second.holds number ∙ first.holds number;
    kinds = λ number was live. let same = second.kinds number live in same ∙ first.kinds number was (lived middle new number same live);
  }

pub keeps-lost : (old new : Nodes) → Loses old new → Keeps old new
keeps-lost old new loses = record { holds = loses.holds; kinds = λ number was live. loses.kinds number live }

-- One node that changes

module _ (nodes : Nodes) (node : ℕ) (change : Inode → Inode) (same : (i : Inode) → kind_of ((change i).content) ≡ kind_of i.content) where
  mapped_kind : (o : Option Inode) → kind_in (option_map change o) ≡ kind_in o
  mapped_kind None = refl
  mapped_kind (Some i) = ap Some (same i)

  pub update-kind : (number : ℕ) → kind_at (update nodes node change) number ≡ kind_at nodes number
  update-kind number = elim (cases_eq number node) [
    | inl here ↦
        ap (kind_at (update nodes node change)) here ∙ ap kind_in (get-update_same nodes node change) ∙ mapped_kind (get nodes node)
        ∙ sym (ap (kind_at nodes) here)
    | inr apart ↦ ap kind_in (get-update_other nodes node change number apart)
  ]

  mapped_holds : ((i : Inode) → (change i).holds ≡ i.holds) → (o : Option Inode) → holds_in (option_map change o) ≡ holds_in o
  mapped_holds equal None = refl
  mapped_holds equal (Some i) = equal i

  pub loses-update : ((i : Inode) → (change i).holds ≡ i.holds) → Loses nodes (update nodes node change)
  loses-update equal = record {
    holds = λ number. elim (cases_eq number node) [
      | inl here ↦
          ap (holds_at (update nodes node change)) here ∙ ap holds_in (get-update_same nodes node change) ∙ mapped_holds equal (get nodes node)
          ∙ sym (ap (holds_at nodes) here)
      | inr apart ↦ ap holds_in (get-update_other nodes node change number apart)
    ];
    kinds = λ number live. update-kind number;
  }

directory_kind : (change : Listing → Listing) (content : NodeContent) → kind_of (in_directory change content) ≡ kind_of content
directory_kind change (File content) = refl
directory_kind change (Directory listing) = refl
directory_kind change (Link target) = refl

pub content_kind : (change : FileContent → FileContent) (content : NodeContent) → kind_of (with_content change content) ≡ kind_of content
content_kind change (File content) = refl
content_kind change (Directory listing) = refl
content_kind change (Link target) = refl

-- A node that goes

module _ (nodes : Nodes) (node : ℕ) where
  unheld : (o : Option Inode) → is_unused o ≡ true → holds_in o ≡ 0
  unheld None unused = refl
  unheld (Some i) unused = eqb-true _ _ ((and_parts _ _ unused).1)

  removed : is_unused (get nodes node) ≡ true → Loses nodes (remove nodes node)
  removed unused = record {
    holds = λ number. elim (cases_eq number node) [
      | inl here ↦
          ap (holds_at (remove nodes node)) here ∙ ap holds_in (get-remove_same nodes node) ∙ sym (unheld (get nodes node) unused)
          ∙ sym (ap (holds_at nodes) here)
      | inr apart ↦ ap holds_in (get-remove_other nodes node number apart)
    ];
    kinds = λ number live. elim (cases_eq number node) [
      | inl here ↦ absurd (false≢true (sym (ap (λ k. is_some (get (remove nodes node) k)) here ∙ ap is_some (get-remove_same nodes node)) ∙ live))
      | inr apart ↦ ap kind_in (get-remove_other nodes node number apart)
    ];
  }

  pub loses-settle : Loses nodes (settled nodes node)
  loses-settle = elim (cases_Bool (is_unused (get nodes node))) [
    | inl goes ↦ subst (Loses nodes) (sym (settled-unused nodes node goes)) (removed goes)
    | inr stays ↦ subst (Loses nodes) (sym (settled-used nodes node stays)) (loses-nothing nodes)
  ]

-- A node that is made

module _ (nodes : Nodes) (number : ℕ) (inode : Inode) (free : get nodes number ≡ None) (fresh : inode.holds ≡ 0) where
  inserted : Keeps nodes (insert nodes number inode)
  inserted = record {
    holds = λ other. elim (cases_eq other number) [
      | inl here ↦
          ap (holds_at (insert nodes number inode)) here ∙ ap holds_in (get-insert_same nodes number inode) ∙ fresh
          ∙ sym (ap (holds_at nodes) here ∙ ap holds_in free)
      | inr apart ↦ ap holds_in (get-insert_other nodes number inode other apart)
    ];
    kinds = λ other was live. elim (cases_eq other number) [
      | inl here ↦ absurd (false≢true (sym (ap (λ k. is_some (get nodes k)) here ∙ ap is_some free) ∙ was))
      | inr apart ↦ ap kind_in (get-insert_other nodes number inode other apart)
    ];
  }

-- Names

module _ (nodes : Nodes) (directory : ℕ) (change : Listing → Listing) (now : ℤ) where
  relists : Loses nodes (update nodes directory (relisted now change))
  relists = loses-update nodes directory (relisted now change) (λ i. directory_kind change i.content) (λ i. refl)

module _ (nodes : Nodes) (place : Place) (number : ℕ) (new : IsNewNumber nodes number) (now : ℤ) where
  made : (inode : Inode) → inode.holds ≡ 0 → Keeps nodes (after_make nodes place number inode now)
  made inode fresh =
      and_after nodes (insert nodes number inode) (after_make nodes place number inode now) (inserted nodes number inode new.unused fresh)
      (relists (insert nodes number inode) place.directory (with_entry place.name number) now)

  pub create_keeps_holds : (mode : ℕ) → Keeps nodes (after_create nodes place number mode now)
  create_keeps_holds mode = made _ refl

  pub symlink_keeps_holds : (target : List ℕ) → Keeps nodes (after_symlink nodes place number target now)
  symlink_keeps_holds target = made _ refl

  pub mkdir_keeps_holds : (mode : ℕ) → Keeps nodes (after_mkdir nodes place number mode now)
  mkdir_keeps_holds mode =
      and_after nodes _ _ (made _ refl) (loses-update _ place.directory one_link_more (λ i. refl) (λ i. refl))

module _ (nodes : Nodes) (place : Place) (node : ℕ) (now : ℤ) where
  pub link_loses : Loses nodes (after_link nodes node place now)
  link_loses =
      followed_by nodes _ _ (loses-update nodes node (λ i. changed_at now (one_link_more i)) (λ i. refl) (λ i. refl))
      (relists _ place.directory (with_entry place.name node) now)

  taken : Loses nodes (take_name nodes place.directory place.name now)
  taken = relists nodes place.directory (without_entry place.name) now

  pub unlink_loses : Loses nodes (after_unlink nodes place node now)
  unlink_loses =
      followed_by nodes _ _ taken
      (followed_by _ _ _ (loses-update _ node (unlinked now) (λ i. refl) (λ i. refl)) (loses-settle _ node))

  pub rmdir_loses : Loses nodes (after_rmdir nodes place node now)
  rmdir_loses =
      followed_by nodes _ _ taken
      (followed_by _ _ _ (loses-update _ place.directory one_link_less (λ i. refl) (λ i. refl))
      (followed_by _ _ _ (loses-update _ node orphaned (λ i. directory_kind (λ l. record l { parent = None }) i.content) (λ i. refl)) (loses-settle _ node)))

replace_loses : (nodes : Nodes) (to : Place) (node : Option ℕ) (now : ℤ) → Loses nodes (replace_name nodes to node now)
replace_loses nodes to None now = loses-nothing nodes
replace_loses nodes to (Some old) now = go (is_directory nodes old)
  where
    go : (directory : Bool) → Loses nodes (if directory then after_rmdir nodes to old now else after_unlink nodes to old now)
    go true = rmdir_loses nodes to old now
    go false = unlink_loses nodes to old now

parent_loses : (nodes : Nodes) (moved from to : ℕ) → Loses nodes (move_parent nodes moved from to)
parent_loses nodes moved from to = go (is_directory nodes moved)
  where
    go : (directory : Bool)
        → Loses nodes (if directory then update (update (update nodes from one_link_less) to one_link_more) moved (reparented to) else nodes)
    go true =
        followed_by nodes _ _ (loses-update nodes from one_link_less (λ i. refl) (λ i. refl))
        (followed_by _ _ _ (loses-update _ to one_link_more (λ i. refl) (λ i. refl))
        (loses-update _ moved (reparented to) (λ i. directory_kind (λ l. record l { parent = Some to }) i.content) (λ i. refl)))
    go false = loses-nothing nodes

module _ (nodes : Nodes) (from to : Place) (moved : ℕ) (now : ℤ) where
  move_loses : Loses nodes (after_move nodes from to moved now)
  move_loses =
      followed_by nodes _ _ (relists nodes from.directory (without_entry from.name) now)
      (followed_by _ _ _ (replace_loses _ to to.node now)
      (followed_by _ _ _ (relists _ to.directory (with_entry to.name moved) now)
      (followed_by _ _ _ (parent_loses _ moved from.directory to.directory)
      (loses-update _ moved (changed_at now) (λ i. refl) (λ i. refl)))))

  pub rename_loses : Loses nodes (after_rename nodes from to moved now)
  rename_loses = go (is_node to.node moved)
    where
      go : (same : Bool) → Loses nodes (if same then nodes else after_move nodes from to moved now)
      go true = loses-nothing nodes
      go false = move_loses

-- One node

module _ (nodes : Nodes) (number : ℕ) where
  pub mode_loses : (mode : ℕ) (now : ℤ) → Loses nodes (update nodes number (with_mode mode now))
  mode_loses mode now = loses-update nodes number (with_mode mode now) (λ i. refl) (λ i. refl)

  pub times_lose : (access modified : Option ℤ) (now : ℤ) → Loses nodes (update nodes number (with_times access modified now))
  times_lose access modified now = loses-update nodes number (with_times access modified now) (λ i. refl) (λ i. refl)

  pub resize_loses : (size : ℕ) (now : ℤ) → Loses nodes (after_resize nodes number size now)
  resize_loses size now = loses-update nodes number (modified_at now (λ c. resized c size)) (λ i. content_kind (λ c. resized c size) i.content) (λ i. refl)

  pub write_loses : (at : ℕ) (bytes : List ℕ) (now : ℤ) → Loses nodes (after_write nodes number at bytes now)
  write_loses at [] now = loses-nothing nodes
  write_loses at (byte ∷ bytes) now =
      loses-update nodes number (modified_at now (λ c. written c at (byte ∷ bytes))) (λ i. content_kind (λ c. written c at (byte ∷ bytes)) i.content) (λ i. refl)

  chosen_same : (change : ℕ → ℕ) (n : ℕ) → (if number == number then change n else n) ≡ change n
  chosen_same change n = ap (λ b. cond b (change n) n) (eq-eqb number number refl)

  -- the holds of the node are changed, and no others
  counts : (change : Inode → Inode) (count : ℕ → ℕ) → holds_in (option_map change (get nodes number)) ≡ count (holds_in (get nodes number))
      → ChangesHolds nodes (update nodes number change) number count
  counts change count equal other = elim (cases_eq other number) [
    | inl here ↦
        ap (holds_at (update nodes number change)) here ∙ ap holds_in (get-update_same nodes number change) ∙ equal
        ∙ sym (ap (λ k. cond (eqb k number) (count (holds_at nodes k)) (holds_at nodes k)) here ∙ chosen_same count (holds_at nodes number))
    | inr apart ↦
        ap holds_in (get-update_other nodes number change other apart)
        ∙ sym (ap (λ b. cond b (count (holds_at nodes other)) (holds_at nodes other)) (ne_eqb other number apart))
  ]

  more : (o : Option Inode) → is_some o ≡ true → holds_in (option_map held o) ≡ holds_in o + 1
  more None live = absurd (false≢true live)
  more (Some i) live = refl

  less : (o : Option Inode) → holds_in (option_map let_go o) ≡ holds_in o - 1
  less None = omega arith
  less (Some i) = refl

  pub hold_counts : is_some (get nodes number) ≡ true → ChangesHolds nodes (update nodes number held) number (λ n. n + 1)
  hold_counts live = counts held (λ n. n + 1) (more (get nodes number) live)

  pub release_counts : ChangesHolds nodes (released nodes number) number (λ n. n - 1)
  release_counts other =
      (loses-settle (update nodes number let_go) number).holds other ∙ counts let_go (λ n. n - 1) (less (get nodes number)) other

  pub hold_kinds : KeepsKinds nodes (update nodes number held)
  hold_kinds other was live = update-kind nodes number held (λ i. refl) other

  pub release_kinds : KeepsKinds nodes (released nodes number)
  release_kinds other was live =
      (loses-settle (update nodes number let_go) number).kinds other live ∙ update-kind nodes number let_go (λ i. refl) other

-- What it means

held_lives : (o : Option Inode) → 1 ≤ holds_in o → is_some o ≡ true
held_lives None some = absurd (omega (arith, some))
held_lives (Some i) some = refl

pub live_on : (old new : Nodes) → KeepsKinds old new → LiveOn old new
live_on old new kinds number before now =
    let lives = held_lives (get new number) now in
    (lives, kinds number (held_lives (get old number) before) lives)

-- a test of a content that is true of one kind alone
module _ {A : Type 0} (part : NodeContent → Option A) (kind : NodeKind)
    (tells : (content : NodeContent) → (kind_of content ≡ kind) ↔ (is_some (part content) ≡ true)) where
  pub told : (o : Option Inode) → (kind_in o ≡ Some kind) ↔ (is_some (in_inode part o) ≡ true)
  told None = (λ e. absurd (let f : None ≡ Some kind = e in cc), λ f. absurd (false≢true f))
  told (Some i) = (λ e. (tells i.content).0 (let f : Some (kind_of i.content) ≡ Some kind = e in cc), λ f. ap Some ((tells i.content).1 f))

pub file_kind : (content : NodeContent) → (kind_of content ≡ FileKind) ↔ (is_some (file_in content) ≡ true)
file_kind (File content) = (λ e. refl, λ f. refl)
file_kind (Directory listing) = (λ e. absurd (let f : DirectoryKind ≡ FileKind = e in cc), λ f. absurd (false≢true f))
file_kind (Link target) = (λ e. absurd (let f : LinkKind ≡ FileKind = e in cc), λ f. absurd (false≢true f))

pub listing_kind : (content : NodeContent) → (kind_of content ≡ DirectoryKind) ↔ (is_some (listing_in content) ≡ true)
listing_kind (File content) = (λ e. absurd (let f : FileKind ≡ DirectoryKind = e in cc), λ f. absurd (false≢true f))
listing_kind (Directory listing) = (λ e. refl, λ f. refl)
listing_kind (Link target) = (λ e. absurd (let f : LinkKind ≡ DirectoryKind = e in cc), λ f. absurd (false≢true f))

pub target_kind : (content : NodeContent) → (kind_of content ≡ LinkKind) ↔ (is_some (target_in content) ≡ true)
target_kind (File content) = (λ e. absurd (let f : FileKind ≡ LinkKind = e in cc), λ f. absurd (false≢true f))
target_kind (Directory listing) = (λ e. absurd (let f : DirectoryKind ≡ LinkKind = e in cc), λ f. absurd (false≢true f))
target_kind (Link target) = (λ e. refl, λ f. refl)
