-- Changes of nodes that come in either order. What stood under the new name goes before the old name is taken, or after: that makes no
-- difference.
use Rattle.std.proofs.Common.{◌≡◌, ◌≢◌, ◌-◌, ℕ, Bool, true, false, cond, not, ℤ, List, [], ◌∷◌, filter, Some, None, is_some, option_map, refl, sym, ap, ◌∙◌, inl, inr, bytes_eq}
use Rattle.std.proofs.lemmas.Bool.{cases_eq}
use Rattle.std.specs.FinMap.{get}
use Rattle.kernel_core.specs.Nodes.{Nodes, Inode, NodeContent, File, Directory, Link, listing_in, in_inode, is_directory, update, settled, is_unused}
use Rattle.kernel_core.specs.PathWalk.{Place}
use Rattle.kernel_core.specs.NameCalls.{without_entry, in_directory, relisted, take_name, one_link_less, unlinked, orphaned, after_unlink, after_rmdir, replace_name}
use Rattle.kernel_core.specs.declared.tree.DirEntry.{DirEntry}
use Rattle.file_system_laws.proofs.Lookups.{same_nodes, get-update_other, get-update_same, get-settled_same, get-settled_other, update-update, update_comm}

-- two changes that come in either order at each node, also where they change one node
pub update_swap : (nodes : Nodes) (n m : ℕ) (f g : Inode → Inode) → ((i : Inode) → g (f i) ≡ f (g i)) → update (update nodes n f) m g ≡ update (update nodes m g) n f
update_swap nodes n m f g same = elim (cases_eq n m) [
  | inl here ↦
      let at : update (update nodes n f) n g ≡ update (update nodes n g) n f =
      update-update nodes n f g ∙ (λ j. update nodes n (λ i. same i j)) ∙ sym (update-update nodes n g f) in
      ap (λ k. update (update nodes n f) k g) (sym here) ∙ at ∙ ap (λ k. update (update nodes k g) n f) here
  | inr other ↦ update_comm nodes n m f g other
]

module _ (p q : DirEntry → Bool) where
  filter_yes : (t : DirEntry → Bool) (x : DirEntry) (xs : List DirEntry) → t x ≡ true → filter t (x ∷ xs) ≡ x ∷ filter t xs
  filter_yes t x xs e = ap (λ b. cond b (x ∷ filter t xs) (filter t xs)) e

  filter_no : (t : DirEntry → Bool) (x : DirEntry) (xs : List DirEntry) → t x ≡ false → filter t (x ∷ xs) ≡ filter t xs
  filter_no t x xs e = ap (λ b. cond b (x ∷ filter t xs) (filter t xs)) e

  pub filter_comm : (xs : List DirEntry) → filter p (filter q xs) ≡ filter q (filter p xs)
  filter_comm [] = refl
  filter_comm (x ∷ xs) = go (filter_comm xs) (p x) (q x) refl refl
    where
      go : filter p (filter q xs) ≡ filter q (filter p xs) → (b c : Bool) → p x ≡ b → q x ≡ c → filter p (filter q (x ∷ xs)) ≡ filter q (filter p (x ∷ xs))
      go rest true true one two =
          ap (filter p) (filter_yes q x xs two) ∙ filter_yes p x (filter q xs) one ∙ ap (λ s. x ∷ s) rest ∙ sym (ap (filter q) (filter_yes p x xs one) ∙ filter_yes q x (filter p xs) two)
      go rest true false one two = ap (filter p) (filter_no q x xs two) ∙ rest ∙ sym (ap (filter q) (filter_yes p x xs one) ∙ filter_no q x (filter p xs) two)
      go rest false true one two = ap (filter p) (filter_yes q x xs two) ∙ filter_no p x (filter q xs) one ∙ rest ∙ sym (ap (filter q) (filter_no p x xs one))
      go rest false false one two = ap (filter p) (filter_no q x xs two) ∙ rest ∙ sym (ap (filter q) (filter_no p x xs one))

without_swap : (one two : List ℕ) (content : NodeContent)
    → in_directory (without_entry one) (in_directory (without_entry two) content) ≡ in_directory (without_entry two) (in_directory (without_entry one) content)
without_swap one two (File c) = refl
without_swap one two (Directory l) = λ j. Directory (record l { entries = filter_comm (λ e. not (bytes_eq e.name one)) (λ e. not (bytes_eq e.name two)) l.entries j })
without_swap one two (Link c) = refl

-- a change of another node, before or after one goes
settled-update : (nodes : Nodes) (n old : ℕ) (f : Inode → Inode) → n ≢ old → settled (update nodes n f) old ≡ update (settled nodes old) n f
settled-update nodes n old f other = same_nodes _ _ (λ m. elim (cases_eq m old) [
  | inl here ↦
      let away : old ≢ n = λ e. other (sym e) in
      let kept : get (update nodes n f) old ≡ get nodes old = get-update_other nodes n f old away in
      ap (get (settled (update nodes n f) old)) here ∙ get-settled_same (update nodes n f) old
      ∙ ap (λ o. cond (is_unused o) None o) kept
      ∙ sym (ap (get (update (settled nodes old) n f)) here ∙ get-update_other (settled nodes old) n f old away ∙ get-settled_same nodes old)
  | inr apart ↦ get-settled_other (update nodes n f) old m apart ∙ elim (cases_eq m n) [
    | inl there ↦
        ap (get (update nodes n f)) there ∙ get-update_same nodes n f ∙ ap (option_map f) (sym (get-settled_other nodes old n other))
        ∙ sym (get-update_same (settled nodes old) n f) ∙ ap (get (update (settled nodes old) n f)) (sym there)
    | inr off ↦ get-update_other nodes n f m off ∙ sym (get-update_other (settled nodes old) n f m off ∙ get-settled_other nodes old m apart)
  ]
])

module _ (nodes : Nodes) (from : ℕ) (name : List ℕ) (to : Place) (now : ℤ) (old : ℕ) (other : from ≢ old) where
  abbrev takes : Inode → Inode
  takes = relisted now (without_entry name)

  removal_swap : (F G : Inode → Inode) → ((i : Inode) → F (takes i) ≡ takes (F i))
      → settled (update (update (update nodes from takes) to.directory F) old G) old ≡ update (settled (update (update nodes to.directory F) old G) old) from takes
  removal_swap F G same =
      ap (λ n. settled (update n old G) old) (update_swap nodes from to.directory takes F same)
      ∙ ap (λ n. settled n old) (update_comm (update nodes to.directory F) from old takes G other)
      ∙ settled-update (update (update nodes to.directory F) old G) from old takes other

  unlink_swap : after_unlink (take_name nodes from name now) to old now ≡ take_name (after_unlink nodes to old now) from name now
  unlink_swap = removal_swap (relisted now (without_entry to.name)) (unlinked now) (λ i. λ j. record i { modified = now; changed = now; content = without_swap to.name name i.content j })

  rmdir_swap : after_rmdir (take_name nodes from name now) to old now ≡ take_name (after_rmdir nodes to old now) from name now
  rmdir_swap =
      ap (λ n. settled (update n old orphaned) old) (update-update (take_name nodes from name now) to.directory (relisted now (without_entry to.name)) one_link_less)
      ∙ removal_swap (λ i. one_link_less (relisted now (without_entry to.name) i)) orphaned
      (λ i. λ j. record i { modified = now; changed = now; links = i.links - 1; content = without_swap to.name name i.content j })
      ∙ ap (λ n. update (settled (update n old orphaned) old) from takes) (sym (update-update nodes to.directory (relisted now (without_entry to.name)) one_link_less))

  pub replace_swap : replace_name (take_name nodes from name now) to (Some old) now ≡ take_name (replace_name nodes to (Some old) now) from name now
  replace_swap =
      ap (λ b. cond b (after_rmdir (take_name nodes from name now) to old now) (after_unlink (take_name nodes from name now) to old now))
      (ap (λ o. is_some (in_inode listing_in o)) (get-update_other nodes from takes old (λ e. other (sym e))))
      ∙ go (is_directory nodes old)
    where
      go : (b : Bool) → cond b (after_rmdir (take_name nodes from name now) to old now) (after_unlink (take_name nodes from name now) to old now)
          ≡ take_name (cond b (after_rmdir nodes to old now) (after_unlink nodes to old now)) from name now
      go true = rmdir_swap
      go false = unlink_swap
