-- A file system in which one node lacks one of its names: a name is taken from a directory, and is added to one again.
use Rattle.std.proofs.Common.{◌≡◌, ◌≢◌, ◌≤◌, ◌<◌, ◌+◌, zero, suc, ℕ, true, cond, eqb, ℤ, List, [], ◌∷◌, ◌++◌, length, All, get_or, Option, Some, None, is_some, refl, sym, ap, subst, ◌∙◌, arith, inl, inr}
use Rattle.std.proofs.lemmas.Bool.{cases_eq, eq-eqb, ne_eqb, true≢false}
use Rattle.std.proofs.lemmas.Option.{same_Some}
use Rattle.std.proofs.lemmas.List.{length_push}
use Rattle.std.proofs.lemmas.List.Elements.{All-filter, All-push}
use Rattle.std.proofs.lemmas.List.Sums.{sum_by_push}
use Rattle.std.specs.FinMap.{get}
use Rattle.kernel_core.specs.Nodes.{Nodes, Inode, Directory, Listing, listing_at, listing_in, in_inode, is_directory, entries_in, entry_named, update}
use Rattle.kernel_core.specs.Totals.{content_entries, content_blocks}
use Rattle.kernel_core.specs.ValidTree.{IsName, names_in, root, greatest_cookie}
use Rattle.kernel_core.specs.NameCalls.{with_entry, without_entry, in_directory}
use Rattle.kernel_core.specs.FileSystem.{name_count, IsTime, parent_of, parent_at, IsLiveEntry, IsBelowRootBy}
use Rattle.kernel_core.specs.declared.tree.DirEntry.{DirEntry}
use Rattle.file_system_laws.proofs.Lookups.{get-update_found, get-update_other}
use Rattle.file_system_laws.proofs.Totals.{total-update}
use Rattle.file_system_laws.proofs.Reach.{below_parent, below_none}
use Rattle.file_system_laws.proofs.Entries.{others, one_if, IsAmong, among, sum-others, All-among, length-others, AreEntries-others, AreEntries-push, names_in-push}
use Rattle.file_system_laws.proofs.Tallies.{Tally, names_at, own, IsSound, HasParentIn, IsListingIn, IsContentIn, IsLiveIn, IsTree, directory_found, listing_found, is_listed, IsAlike, IsSameNode, entry_carried, subdirectories_carried, parent_carried, changed_within, same_node}

-- the tally of nodes in which one lacks a name
abbrev pub lacking : Nodes → ℕ → Tally
lacking nodes loose = record {
  count = λ m. name_count nodes m + one_if (eqb loose m);
  within = λ p m. names_at nodes p m + one_if (eqb loose m);
  need = λ _. 1;
  spare = 1;
}

abbrev pub listed_as : ℤ → (Listing → Listing) → (ℕ → ℕ) → Inode → Inode
listed_as now change links inode = record inode { modified = now; changed = now; links = links inode.links; content = in_directory change inode.content }

-- a directory from which a name is taken, or to which one is added, and what that makes of its link count
abbrev pub taking : ℤ → List ℕ → (ℕ → ℕ) → Inode → Inode
taking now name links = listed_as now (without_entry name) links

abbrev pub adding : ℤ → List ℕ → ℕ → (ℕ → ℕ) → Inode → Inode
adding now name node links = listed_as now (with_entry name node) links

-- no directory but the root is its own parent
pub own_parent : (nodes : Nodes) (number steps : ℕ) → parent_at nodes number ≡ Some number → IsBelowRootBy steps nodes number → number ≡ root
own_parent nodes number zero up chain = below_none nodes number chain
own_parent nodes number (suc steps) up chain =
    let step = below_parent nodes steps number chain in
    let same : step.0 ≡ number = same_Some step.0 number (sym step.1 ∙ up) in
    own_parent nodes number steps up (subst (λ n. IsBelowRootBy steps nodes n) same step.2)

pub one_if-same : (a b : ℕ) → a ≡ b → one_if (eqb a b) ≡ 1
one_if-same a b same = ap one_if (eq-eqb a b same)

pub one_if-other : (a b : ℕ) → (a ≡ b → ⊥) → one_if (eqb a b) ≡ 0
one_if-other a b other = ap one_if (ne_eqb a b other)

-- The changed directory

module _ (nodes : Nodes) (directory : ℕ) (inode : Inode) (listing : Listing) (found : get nodes directory ≡ Some inode) (is : inode.content ≡ Directory listing)
    (now : ℤ) (change : Listing → Listing) (links : ℕ → ℕ) (keeps : (change listing).parent ≡ listing.parent) where
  abbrev f : Inode → Inode
  f = listed_as now change links

  abbrev after : Nodes
  after = update nodes directory f

  pub content_after : in_directory change inode.content ≡ Directory (change listing)
  content_after = ap (in_directory change) is

  pub kind_kept : is_some (listing_in (in_directory change inode.content)) ≡ is_some (listing_in inode.content)
  kind_kept = ap (λ c. is_some (listing_in c)) content_after ∙ sym (ap (λ c. is_some (listing_in c)) is)

  pub parent_kept : parent_of (listing_in (in_directory change inode.content)) ≡ parent_of (listing_in inode.content)
  parent_kept = ap (λ c. parent_of (listing_in c)) content_after ∙ keeps ∙ sym (ap (λ c. parent_of (listing_in c)) is)

  pub entries_after : content_entries (in_directory change inode.content) ≡ (change listing).entries
  entries_after = ap content_entries content_after

  pub entries_before : content_entries inode.content ≡ listing.entries
  entries_before = ap content_entries is

  pub blocks_kept : content_blocks (in_directory change inode.content) ≤ content_blocks inode.content
  blocks_kept = let a = ap content_blocks content_after in let b = ap content_blocks is in omega (arith, a, b)

  pub count_after : (m : ℕ) → name_count after m + names_in listing.entries m ≡ name_count nodes m + names_in (change listing).entries m
  count_after m =
      let a = total-update (λ i. names_in (content_entries i.content) m) nodes directory f inode found in
      let b = ap (λ es. names_in es m) entries_after in
      let c = ap (λ es. names_in es m) entries_before in
      omega (arith, a, b, c)

  pub listing_after : listing_at after directory ≡ Some (change listing)
  listing_after = ap (in_inode listing_in) (get-update_found nodes directory f inode found) ∙ ap listing_in content_after

  pub names_after_same : (p m : ℕ) → p ≡ directory → names_at after p m ≡ names_in (change listing).entries m
  names_after_same p m same = ap (λ k. names_at after k m) same ∙ ap (λ o. names_in (entries_in o) m) listing_after

  pub names_before_same : (p m : ℕ) → p ≡ directory → names_at nodes p m ≡ names_in listing.entries m
  names_before_same p m same = ap (λ k. names_at nodes k m) same ∙ ap (λ o. names_in (entries_in o) m) (ap (in_inode listing_in) found ∙ ap listing_in is)

  pub names_after_other : (p m : ℕ) → p ≢ directory → names_at after p m ≡ names_at nodes p m
  names_after_other p m other = ap (λ o. names_in (entries_in (in_inode listing_in o)) m) (get-update_other nodes directory f p other)

  pub sound_after : IsTime now → IsSound directory inode → IsSound directory (f inode)
  sound_after time s = record { low = s.low; high = s.high; mode = s.mode; access = s.access; modified = time; changed = time; held = s.held }

-- A name is taken

module _ (nodes : Nodes) (tree : IsTree (own nodes) nodes) (directory : ℕ) (name : List ℕ) (listing : Listing) (entry : DirEntry)
    (live : listing_at nodes directory ≡ Some listing) (named : entry_named listing.entries name ≡ Some entry)
    (now : ℤ) (time : IsTime now) (links : ℕ → ℕ) (fewer : (x : ℕ) → 1 ≤ x → links x + one_if (is_directory nodes entry.node) ≡ x) where
  abbrev taken : Nodes
  taken = update nodes directory (taking now name links)

  pub taken_tree : IsTree (lacking taken entry.node) taken
  taken_tree =
      let d = directory_found nodes directory listing live in
      changed_within w v nodes directory (taking now name links) d.0 d.1 (kind d) (parent d) (λ m other. alike d m) (live_after d) (blocks_kept nodes directory d.0 listing d.1 d.2 now (without_entry name) links refl)
      (few d) tree
    where
      w : Tally
      w = own nodes

      v : Tally
      v = lacking taken entry.node

      Found : Type 0
      Found = (inode : Inode) × (get nodes directory ≡ Some inode) × (inode.content ≡ Directory listing)

      kind : (d : Found) → is_some (listing_in (in_directory (without_entry name) (d.0).content)) ≡ is_some (listing_in (d.0).content)
      kind d = kind_kept nodes directory d.0 listing d.1 d.2 now (without_entry name) links refl

      parent : (d : Found) → parent_of (listing_in (in_directory (without_entry name) (d.0).content)) ≡ parent_of (listing_in (d.0).content)
      parent d = parent_kept nodes directory d.0 listing d.1 d.2 now (without_entry name) links refl

      here : (d : Found) → IsListingIn w nodes directory (d.0).links listing
      here d = is_listed nodes directory w d.0 listing (tree.each directory d.0 d.1) d.2

      split : (d : Found) → IsAmong name listing.entries entry
      split d = among name listing.entries entry (here d).entries.distinct named

      left : (d : Found) (m : ℕ) → names_in (others name listing.entries) m + one_if (eqb entry.node m) ≡ names_in listing.entries m
      left d m = sum-others (split d) (λ e. cond (eqb e.node m) 1 0)

      entry_is : (d : Found) → IsLiveEntry nodes directory listing.greatest entry
      entry_is d = All-among (split d) (IsLiveEntry nodes directory listing.greatest) (here d).each

      -- the entry's node is not named by another directory that is its parent
      within : (d : Found) (m p : ℕ) → parent_at nodes m ≡ Some p → names_at taken p m + one_if (eqb entry.node m) ≡ names_at nodes p m
      within d m p up = elim (cases_eq p directory) [
        | inl same ↦
            let a = names_after_same nodes directory d.0 listing d.1 d.2 now (without_entry name) links refl p m same in
            let b = names_before_same nodes directory d.0 listing d.1 d.2 now (without_entry name) links refl p m same in
            let c = left d m in
            omega (arith, a, b, c)
        | inr other ↦
            let a = names_after_other nodes directory d.0 listing d.1 d.2 now (without_entry name) links refl p m other in
            let b = one_if-other entry.node m (λ same.
            let l = listing_found nodes m p up in
            let is : is_directory nodes entry.node ≡ true = ap (is_directory nodes) same ∙ ap is_some l.1 in
            other (same_Some p directory (sym up ∙ ap (parent_at nodes) (sym same) ∙ (entry_is d).child is))) in
            omega (arith, a, b)
      ]

      alike : (d : Found) (m : ℕ) → IsAlike w v nodes taken m
      alike d m = record {
        count = (let a = count_after nodes directory d.0 listing d.1 d.2 now (without_entry name) links refl m in let b = left d m in omega (arith, a, b));
        within = λ p up. within d m p up;
        need = omega arith;
      }

      few : (d : Found) → length (content_entries (in_directory (without_entry name) (d.0).content)) + 1 ≤ length (content_entries (d.0).content) + 0
      few d =
          let a = ap length (entries_after nodes directory d.0 listing d.1 d.2 now (without_entry name) links refl) in
          let b = ap length (entries_before nodes directory d.0 listing d.1 d.2 now (without_entry name) links refl) in
          let c = length-others name listing.entries entry (split d) in
          omega (arith, a, b, c)

      -- an entry stands there, so the directory was not removed
      full : (d : Found) → (listing.entries ≡ []) → ⊥
      full d empty = absurd (let a = length-others name listing.entries entry (split d) in let b = ap length empty in omega (arith, a, b))

      parent_is : (d : Found) (o : Option ℕ) → parent_at nodes directory ≡ o → HasParentIn w nodes directory (d.0).links listing o
          → HasParentIn v taken directory (links (d.0).links) (without_entry name listing) o
      parent_is d None up h = absurd (full d h.0)
      parent_is d (Some p) up h =
          let same : All (λ e. IsSameNode w v nodes taken e.node) listing.entries = λ k x lt. same_node w v nodes directory (taking now name links) d.0 d.1 (kind d) (parent d) (get_or listing.entries k x).node in
          let sub = subdirectories_carried w v nodes taken (others name listing.entries) (All-filter _ (λ e. IsSameNode w v nodes taken e.node) listing.entries same) in
          let fewer_sub = sum-others (split d) (λ e. cond (is_directory nodes e.node) 1 0) in
          let some : 1 ≤ (d.0).links = (let e = h.0 in omega (arith, e)) in
          let less = fewer (d.0).links some in
          let rest = parent_carried w v nodes taken directory (alike d directory) (d.0).links listing (Some p) up same h in
          ((let e = h.0 in omega (arith, e, sub, fewer_sub, less)), rest.1, rest.2)

      live_after : (d : Found) → IsLiveIn v taken directory (taking now name links d.0)
      live_after d =
          let old = tree.each directory d.0 d.1 in
          let listed : IsListingIn v taken directory (links (d.0).links) (without_entry name listing) = record {
            low = (here d).low;
            high = (here d).high;
            entries = AreEntries-others name listing.entries (here d).entries;
            each = All-filter _ (IsLiveEntry taken directory listing.greatest) listing.entries (λ k x lt.
                entry_carried w v nodes taken directory listing.greatest (get_or listing.entries k x) (same_node w v nodes directory (taking now name links) d.0 d.1 (kind d) (parent d) (get_or listing.entries k x).node) ((here d).each k x lt));
            parent = parent_is d listing.parent (ap (λ o. parent_of o) live) (here d).parent;
          } in
          record {
            sound = sound_after nodes directory d.0 listing d.1 d.2 now (without_entry name) links refl time old.sound;
            used = used_by d listing.parent (here d).parent listed.parent;
            content = subst (λ c. IsContentIn v taken directory (links (d.0).links) c) (sym (content_after nodes directory d.0 listing d.1 d.2 now (without_entry name) links refl)) listed;
          }
        where
          used_by : (d : Found) (o : Option ℕ) → HasParentIn w nodes directory (d.0).links listing o → HasParentIn v taken directory (links (d.0).links) (without_entry name listing) o → 1 ≤ links (d.0).links + (d.0).holds
          used_by d None old h = absurd (full d old.0)
          used_by d (Some p) old h = (let e = h.0 in omega (arith, e))

-- A name is added

module _ (nodes : Nodes) (node : ℕ) (tree : IsTree (lacking nodes node) nodes) (directory : ℕ) (name : List ℕ) (listing : Listing)
    (live : listing_at nodes directory ≡ Some listing) (free : entry_named listing.entries name ≡ None) (room : listing.greatest < greatest_cookie)
    (has_parent : is_some listing.parent ≡ true) (is_name : IsName name) (lives : is_some (get nodes node) ≡ true)
    (child : is_directory nodes node ≡ true → parent_at nodes node ≡ Some directory)
    (now : ℤ) (time : IsTime now) (links : ℕ → ℕ) (more : (x : ℕ) → links x ≡ x + one_if (is_directory nodes node)) where
  abbrev added : Nodes
  added = update nodes directory (adding now name node links)

  abbrev new_entry : DirEntry
  new_entry = record { cookie = listing.greatest + 1; name = name; node = node }

  pub added_tree : IsTree (own added) added
  added_tree =
      let d = directory_found nodes directory listing live in
      changed_within w v nodes directory (adding now name node links) d.0 d.1 (kind d) (parent d) (λ m other. alike d m) (live_after d)
      (blocks_kept nodes directory d.0 listing d.1 d.2 now (with_entry name node) links refl) (few d) tree
    where
      w : Tally
      w = lacking nodes node

      v : Tally
      v = own added

      Found : Type 0
      Found = (inode : Inode) × (get nodes directory ≡ Some inode) × (inode.content ≡ Directory listing)

      kind : (d : Found) → is_some (listing_in (in_directory (with_entry name node) (d.0).content)) ≡ is_some (listing_in (d.0).content)
      kind d = kind_kept nodes directory d.0 listing d.1 d.2 now (with_entry name node) links refl

      parent : (d : Found) → parent_of (listing_in (in_directory (with_entry name node) (d.0).content)) ≡ parent_of (listing_in (d.0).content)
      parent d = parent_kept nodes directory d.0 listing d.1 d.2 now (with_entry name node) links refl

      here : (d : Found) → IsListingIn w nodes directory (d.0).links listing
      here d = is_listed nodes directory w d.0 listing (tree.each directory d.0 d.1) d.2

      one_more : (m : ℕ) → names_in (listing.entries ++ new_entry ∷ []) m ≡ names_in listing.entries m + one_if (eqb node m)
      one_more m = names_in-push listing.entries new_entry m

      within : (d : Found) (m p : ℕ) → parent_at nodes m ≡ Some p → names_at added p m ≡ names_at nodes p m + one_if (eqb node m)
      within d m p up = elim (cases_eq p directory) [
        | inl same ↦
            let a = names_after_same nodes directory d.0 listing d.1 d.2 now (with_entry name node) links refl p m same in
            let b = names_before_same nodes directory d.0 listing d.1 d.2 now (with_entry name node) links refl p m same in
            let c = one_more m in
            omega (arith, a, b, c)
        | inr other ↦
            let a = names_after_other nodes directory d.0 listing d.1 d.2 now (with_entry name node) links refl p m other in
            let b = one_if-other node m (λ same.
            let l = listing_found nodes m p up in
            let is : is_directory nodes node ≡ true = ap (is_directory nodes) same ∙ ap is_some l.1 in
            other (same_Some p directory (sym up ∙ ap (parent_at nodes) (sym same) ∙ child is))) in
            omega (arith, a, b)
      ]

      alike : (d : Found) (m : ℕ) → IsAlike w v nodes added m
      alike d m = record {
        count = (let a = count_after nodes directory d.0 listing d.1 d.2 now (with_entry name node) links refl m in let b = one_more m in omega (arith, a, b));
        within = λ p up. within d m p up;
        need = omega arith;
      }

      few : (d : Found) → length (content_entries (in_directory (with_entry name node) (d.0).content)) + 0 ≤ length (content_entries (d.0).content) + 1
      few d =
          let a = ap length (entries_after nodes directory d.0 listing d.1 d.2 now (with_entry name node) links refl) in
          let b = ap length (entries_before nodes directory d.0 listing d.1 d.2 now (with_entry name node) links refl) in
          let c = length_push listing.entries new_entry in
          omega (arith, a, b, c)

      same : (d : Found) (m : ℕ) → IsSameNode w v nodes added m
      same d m = same_node w v nodes directory (adding now name node links) d.0 d.1 (kind d) (parent d) m

      parent_is : (d : Found) (o : Option ℕ) → is_some o ≡ true → parent_at nodes directory ≡ o → HasParentIn w nodes directory (d.0).links listing o
          → HasParentIn v added directory (links (d.0).links) (with_entry name node listing) o
      parent_is d None some up h = absurd (true≢false (sym some))
      parent_is d (Some p) some up h =
          let all : All (λ e. IsSameNode w v nodes added e.node) listing.entries = λ k x lt. same d (get_or listing.entries k x).node in
          let sub = subdirectories_carried w v nodes added listing.entries all in
          let pushed = sum_by_push (λ e. cond (is_directory added e.node) 1 0) listing.entries new_entry in
          let one = ap one_if (same d node).kind in
          let m = more (d.0).links in
          let rest = parent_carried w v nodes added directory (alike d directory) (d.0).links listing (Some p) up all h in
          ((let e = h.0 in omega (arith, e, sub, pushed, one, m)), rest.1, rest.2)

      each_after : (d : Found) → All (IsLiveEntry added directory (listing.greatest + 1)) (listing.entries ++ new_entry ∷ [])
      each_after d = All-push (IsLiveEntry added directory (listing.greatest + 1)) listing.entries new_entry
          (λ k x lt.
          let e = entry_carried w v nodes added directory listing.greatest (get_or listing.entries k x) (same d (get_or listing.entries k x).node) ((here d).each k x lt) in
          record { past = (let p = e.past in omega (arith, p)); live = e.live; child = e.child })
          (record { past = omega arith; live = (same d node).live ∙ lives; child = λ is. (same d node).parent ∙ child (sym (same d node).kind ∙ is) })

      live_after : (d : Found) → IsLiveIn v added directory (adding now name node links d.0)
      live_after d =
          let old = tree.each directory d.0 d.1 in
          let low = (here d).low in
          let listed : IsListingIn v added directory (links (d.0).links) (with_entry name node listing) = record {
            low = omega (arith, low);
            high = omega arith;
            entries = AreEntries-push listing.entries new_entry (here d).entries
                (record { low = omega (arith, low); high = omega arith; name = is_name })
                (λ k x lt. let p = ((here d).each k x lt).past in omega (arith, p)) free;
            each = each_after d;
            parent = parent_is d listing.parent has_parent (ap (λ o. parent_of o) live) (here d).parent;
          } in
          record {
            sound = sound_after nodes directory d.0 listing d.1 d.2 now (with_entry name node) links refl time old.sound;
            used = (let u : 1 ≤ (d.0).links + (d.0).holds = old.used in let m = more (d.0).links in omega (arith, u, m));
            content = subst (λ c. IsContentIn v added directory (links (d.0).links) c) (sym (content_after nodes directory d.0 listing d.1 d.2 now (with_entry name node) links refl)) listed;
          }
