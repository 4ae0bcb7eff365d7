-- What is found in nodes after a change.
use Rattle.std.proofs.Common.{◌≡◌, ◌≤◌, ◌+◌, ◌-◌, ℕ, Bool, true, false, cond, eqb, Option, Some, None, is_some, refl, sym, ap, ◌∙◌, arith, inl, inr}
use Rattle.std.specs.Prelude.{option_map}
use Rattle.std.proofs.lemmas.Bool.{cases_eq, eq-eqb, ne_eqb}
use Rattle.std.proofs.lemmas.Bool.Decides.{nat_tests}
use Rattle.std.specs.Ordering.{nat_cmp, eq_by_cmp}
use Rattle.std.specs.Cmp.{nat_cmp_total}
use Rattle.std.specs.FinMap.{FinMap, get, insert, remove, len, get-insert, get-remove, len-insert, len-remove, same_map, nat_cmp-IsAntisymmetric}
use Rattle.kernel_core.specs.Nodes.{Nodes, Inode, NodeContent, File, Directory, Link, Listing, listing_in, file_in, target_in, in_inode, listing_at, file_at, target_at, is_directory, update, changed_inode, settled, is_unused}
use Rattle.kernel_core.specs.FileContent.{FileContent}
use Rattle.kernel_core.specs.FileSystem.{parent_at, parent_of}

pub eqb_cmp : (a b : ℕ) → eq_by_cmp nat_cmp a b ≡ eqb a b
eqb_cmp a b = grind (arith, nat_tests)

module _ {X : Type 0} where
  -- at numbers
  pub get-insert_at : (m : FinMap nat_cmp X) (k : ℕ) (v : X) (q : ℕ) → get (insert m k v) q ≡ cond (eqb q k) (Some v) (get m q)
  get-insert_at m k v q = get-insert nat_cmp_total m k v q ∙ ap (λ b. cond b (Some v) (get m q)) (eqb_cmp q k)

  pub get-insert_same : (m : FinMap nat_cmp X) (k : ℕ) (v : X) → get (insert m k v) k ≡ Some v
  get-insert_same m k v = get-insert_at m k v k ∙ ap (λ b. cond b (Some v) (get m k)) (eq-eqb k k refl)

  pub get-insert_other : (m : FinMap nat_cmp X) (k : ℕ) (v : X) (q : ℕ) → (q ≡ k → ⊥) → get (insert m k v) q ≡ get m q
  get-insert_other m k v q apart = get-insert_at m k v q ∙ ap (λ b. cond b (Some v) (get m q)) (ne_eqb q k apart)

  pub get-remove_at : (m : FinMap nat_cmp X) (k q : ℕ) → get (remove m k) q ≡ cond (eqb q k) None (get m q)
  get-remove_at m k q = get-remove nat_cmp_total m k q ∙ ap (λ b. cond b None (get m q)) (eqb_cmp q k)

  pub get-remove_same : (m : FinMap nat_cmp X) (k : ℕ) → get (remove m k) k ≡ None
  get-remove_same m k = get-remove_at m k k ∙ ap (λ b. cond b None (get m k)) (eq-eqb k k refl)

  pub get-remove_other : (m : FinMap nat_cmp X) (k q : ℕ) → (q ≡ k → ⊥) → get (remove m k) q ≡ get m q
  get-remove_other m k q apart = get-remove_at m k q ∙ ap (λ b. cond b None (get m q)) (ne_eqb q k apart)

  -- maps that answer alike
  pub same_nodes : (m n : FinMap nat_cmp X) → ((q : ℕ) → get m q ≡ get n q) → m ≡ n
  same_nodes m n h = same_map nat_cmp_total nat_cmp-IsAntisymmetric m n h

  -- a map is what is left without a key, with that key's value put back
  pub put_back : (m : FinMap nat_cmp X) (k : ℕ) (v : X) → get m k ≡ Some v → m ≡ insert (remove m k) k v
  put_back m k v found = same_nodes _ _ (λ q. elim (cases_eq q k) [
    | inl here ↦ ap (get m) here ∙ found ∙ sym (get-insert_same (remove m k) k v) ∙ ap (get (insert (remove m k) k v)) (sym here)
    | inr apart ↦ sym (get-insert_other (remove m k) k v q apart ∙ get-remove_other m k q apart)
  ])

  -- to put a value where there is one is to take that away before
  pub insert_over : (m : FinMap nat_cmp X) (k : ℕ) (v : X) → insert m k v ≡ insert (remove m k) k v
  insert_over m k v = same_nodes _ _ (λ q. elim (cases_eq q k) [
    | inl here ↦ ap (get (insert m k v)) here ∙ get-insert_same m k v ∙ sym (get-insert_same (remove m k) k v) ∙ ap (get (insert (remove m k) k v)) (sym here)
    | inr apart ↦ get-insert_other m k v q apart ∙ sym (get-insert_other (remove m k) k v q apart ∙ get-remove_other m k q apart)
  ])

  pub remove_missing : (m : FinMap nat_cmp X) (k : ℕ) → get m k ≡ None → remove m k ≡ m
  remove_missing m k none = same_nodes _ _ (λ q. elim (cases_eq q k) [
    | inl here ↦ ap (get (remove m k)) here ∙ get-remove_same m k ∙ sym none ∙ ap (get m) (sym here)
    | inr apart ↦ get-remove_other m k q apart
  ])

  pub len-insert_new : (m : FinMap nat_cmp X) (k : ℕ) (v : X) → get m k ≡ None → len (insert m k v) ≡ len m + 1
  len-insert_new m k v none = len-insert nat_cmp_total m k v ∙ ap (λ o. cond (is_some o) (len m) (len m + 1)) none

  pub len-insert_old : (m : FinMap nat_cmp X) (k : ℕ) (v w : X) → get m k ≡ Some w → len (insert m k v) ≡ len m
  len-insert_old m k v w found = len-insert nat_cmp_total m k v ∙ ap (λ o. cond (is_some o) (len m) (len m + 1)) found

  pub len-remove_le : (m : FinMap nat_cmp X) (k : ℕ) → len (remove m k) ≤ len m
  len-remove_le m k = less (is_some (get m k)) (len m) _ (len-remove nat_cmp_total m k)
    where
      less : (b : Bool) (n l : ℕ) → l ≡ cond b (n - 1) n → l ≤ n
      less true n l e = omega arith
      less false n l e = omega arith

-- Updates

module _ (nodes : Nodes) (n : ℕ) (f : Inode → Inode) where
  pub update-found : (i : Inode) → get nodes n ≡ Some i → update nodes n f ≡ insert nodes n (f i)
  unfolding update
  update-found i found = ap (changed_inode nodes n f) found

  pub update-missing : get nodes n ≡ None → update nodes n f ≡ nodes
  unfolding update
  update-missing none = ap (changed_inode nodes n f) none

  get_changed : (m : ℕ) (o : Option Inode) → get nodes n ≡ o → get (changed_inode nodes n f o) m ≡ cond (eqb m n) (option_map f o) (get nodes m)
  get_changed m None e = elim (cases_eq m n) [
    | inl here ↦ ap (get nodes) here ∙ e ∙ sym (ap (λ b. cond b None (get nodes m)) (eq-eqb m n here))
    | inr apart ↦ sym (ap (λ b. cond b None (get nodes m)) (ne_eqb m n apart))
  ]
  get_changed m (Some i) e = get-insert_at nodes n (f i) m

  pub get-update : (m : ℕ) → get (update nodes n f) m ≡ cond (eqb m n) (option_map f (get nodes n)) (get nodes m)
  unfolding update
  get-update m = get_changed m (get nodes n) refl

  -- the node that is changed
  pub get-update_same : get (update nodes n f) n ≡ option_map f (get nodes n)
  get-update_same = get-update n ∙ ap (λ b. cond b (option_map f (get nodes n)) (get nodes n)) (eq-eqb n n refl)

  pub get-update_found : (i : Inode) → get nodes n ≡ Some i → get (update nodes n f) n ≡ Some (f i)
  get-update_found i found = get-update_same ∙ ap (option_map f) found

  -- every other node
  pub get-update_other : (m : ℕ) → (m ≡ n → ⊥) → get (update nodes n f) m ≡ get nodes m
  get-update_other m apart = get-update m ∙ ap (λ b. cond b (option_map f (get nodes n)) (get nodes m)) (ne_eqb m n apart)

  len_changed : (o : Option Inode) → get nodes n ≡ o → len (changed_inode nodes n f o) ≡ len nodes
  len_changed None e = refl
  len_changed (Some i) e = len-insert_old nodes n (f i) i e

  pub len-update : len (update nodes n f) ≡ len nodes
  unfolding update
  len-update = len_changed (get nodes n) refl

  -- a part of the content that the change keeps
  in_changed : {A : Type 0} (part : NodeContent → Option A) (o : Option Inode) → ((i : Inode) → o ≡ Some i → part ((f i).content) ≡ part (i.content)) → in_inode part (option_map f o) ≡ in_inode part o
  in_changed part None same = refl
  in_changed part (Some i) same = same i refl

  pub part_kept : {A : Type 0} (part : NodeContent → Option A) → ((i : Inode) → get nodes n ≡ Some i → part ((f i).content) ≡ part (i.content)) → (m : ℕ)
      → in_inode part (get (update nodes n f) m) ≡ in_inode part (get nodes m)
  part_kept part same m = elim (cases_eq m n) [
    | inl here ↦ ap (λ k. in_inode part (get (update nodes n f) k)) here ∙ ap (in_inode part) get-update_same ∙ in_changed part (get nodes n) same ∙ ap (λ k. in_inode part (get nodes k)) (sym here)
    | inr apart ↦ ap (in_inode part) (get-update_other m apart)
  ]

  pub listing_kept : ((i : Inode) → get nodes n ≡ Some i → listing_in ((f i).content) ≡ listing_in (i.content)) → (m : ℕ) → listing_at (update nodes n f) m ≡ listing_at nodes m
  listing_kept same = part_kept listing_in same

  pub file_kept : ((i : Inode) → get nodes n ≡ Some i → file_in ((f i).content) ≡ file_in (i.content)) → (m : ℕ) → file_at (update nodes n f) m ≡ file_at nodes m
  file_kept same = part_kept file_in same

  pub target_kept : ((i : Inode) → get nodes n ≡ Some i → target_in ((f i).content) ≡ target_in (i.content)) → (m : ℕ) → target_at (update nodes n f) m ≡ target_at nodes m
  target_kept same = part_kept target_in same

  -- a node lives after a change where it lived before
  pub is_some-update : (m : ℕ) → is_some (get (update nodes n f) m) ≡ is_some (get nodes m)
  is_some-update m = elim (cases_eq m n) [
    | inl here ↦ ap (λ k. is_some (get (update nodes n f) k)) here ∙ ap is_some get-update_same ∙ mapped (get nodes n) ∙ ap (λ k. is_some (get nodes k)) (sym here)
    | inr apart ↦ ap is_some (get-update_other m apart)
  ]
    where
      mapped : (o : Option Inode) → is_some (option_map f o) ≡ is_some o
      mapped None = refl
      mapped (Some i) = refl

-- two changes of one node are one
pub update-update : (nodes : Nodes) (n : ℕ) (f g : Inode → Inode) → update (update nodes n f) n g ≡ update nodes n (λ i. g (f i))
update-update nodes n f g = same_nodes _ _ (λ q. elim (cases_eq q n) [
  | inl here ↦
      ap (get (update (update nodes n f) n g)) here ∙ get-update_same (update nodes n f) n g
      ∙ ap (option_map g) (get-update_same nodes n f) ∙ mapped (get nodes n)
      ∙ sym (ap (get (update nodes n (λ i. g (f i)))) here ∙ get-update_same nodes n (λ i. g (f i)))
  | inr apart ↦
      get-update_other (update nodes n f) n g q apart ∙ get-update_other nodes n f q apart ∙ sym (get-update_other nodes n (λ i. g (f i)) q apart)
])
  where
    mapped : (o : Option Inode) → option_map g (option_map f o) ≡ option_map (λ i. g (f i)) o
    mapped None = refl
    mapped (Some i) = refl

-- changes of two nodes come in either order
pub update_comm : (nodes : Nodes) (n m : ℕ) (f g : Inode → Inode) → (n ≡ m → ⊥) → update (update nodes n f) m g ≡ update (update nodes m g) n f
update_comm nodes n m f g other = same_nodes _ _ (λ q. elim (cases_eq q n) [
  | inl here ↦
      let apart : q ≡ m → ⊥ = λ e. other (sym here ∙ e) in
      get-update_other (update nodes n f) m g q apart
      ∙ ap (get (update nodes n f)) here ∙ get-update_same nodes n f
      ∙ ap (option_map f) (sym (get-update_other nodes m g n other))
      ∙ sym (get-update_same (update nodes m g) n f) ∙ ap (get (update (update nodes m g) n f)) (sym here)
  | inr off ↦ elim (cases_eq q m) [
    | inl there ↦
        let apart : m ≡ n → ⊥ = λ e. other (sym e) in
        ap (get (update (update nodes n f) m g)) there ∙ get-update_same (update nodes n f) m g
        ∙ ap (option_map g) (get-update_other nodes n f m apart)
        ∙ sym (get-update_same nodes m g) ∙ sym (get-update_other (update nodes m g) n f m apart)
        ∙ ap (get (update (update nodes m g) n f)) (sym there)
    | inr apart ↦
        get-update_other (update nodes n f) m g q apart ∙ get-update_other nodes n f q off
        ∙ sym (get-update_other (update nodes m g) n f q off ∙ get-update_other nodes m g q apart)
  ]
])

-- Nodes that go

pub settled-used : (nodes : Nodes) (n : ℕ) → is_unused (get nodes n) ≡ false → settled nodes n ≡ nodes
unfolding settled
settled-used nodes n used = ap (λ b. cond b (remove nodes n) nodes) used

pub settled-unused : (nodes : Nodes) (n : ℕ) → is_unused (get nodes n) ≡ true → settled nodes n ≡ remove nodes n
unfolding settled
settled-unused nodes n unused = ap (λ b. cond b (remove nodes n) nodes) unused

pub get-settled : (nodes : Nodes) (n m : ℕ) → get (settled nodes n) m ≡ cond (eqb m n) (cond (is_unused (get nodes n)) None (get nodes n)) (get nodes m)
unfolding settled
get-settled nodes n m = go (is_unused (get nodes n))
  where
    go : (b : Bool) → get (cond b (remove nodes n) nodes) m ≡ cond (eqb m n) (cond b None (get nodes n)) (get nodes m)
    go true = get-remove_at nodes n m
    go false = elim (cases_eq m n) [
      | inl here ↦ ap (get nodes) here ∙ sym (ap (λ b. cond b (get nodes n) (get nodes m)) (eq-eqb m n here))
      | inr apart ↦ sym (ap (λ b. cond b (get nodes n) (get nodes m)) (ne_eqb m n apart))
    ]

pub get-settled_same : (nodes : Nodes) (n : ℕ) → get (settled nodes n) n ≡ cond (is_unused (get nodes n)) None (get nodes n)
get-settled_same nodes n = get-settled nodes n n ∙ ap (λ b. cond b (cond (is_unused (get nodes n)) None (get nodes n)) (get nodes n)) (eq-eqb n n refl)

pub get-settled_other : (nodes : Nodes) (n m : ℕ) → (m ≡ n → ⊥) → get (settled nodes n) m ≡ get nodes m
get-settled_other nodes n m apart = get-settled nodes n m ∙ ap (λ b. cond b (cond (is_unused (get nodes n)) None (get nodes n)) (get nodes m)) (ne_eqb m n apart)

pub len-settled : (nodes : Nodes) (n : ℕ) → len (settled nodes n) ≤ len nodes
unfolding settled
len-settled nodes n = go (is_unused (get nodes n))
  where
    go : (b : Bool) → len (cond b (remove nodes n) nodes) ≤ len nodes
    go true = len-remove_le nodes n
    go false = omega arith

-- What a look-up of a part tells

-- a directory that is found is a live node
pub directory_found : (nodes : Nodes) (n : ℕ) (listing : Listing) → listing_at nodes n ≡ Some listing → (i : Inode) × (get nodes n ≡ Some i) × (i.content ≡ Directory listing)
directory_found nodes n listing found = go (get nodes n) refl found
  where
    kind : (c : NodeContent) → listing_in c ≡ Some listing → c ≡ Directory listing
    kind (File content) e = absurd (let f : None ≡ Some listing = e in cc)
    kind (Directory l) e = let f : Some l ≡ Some listing = e in cc
    kind (Link target) e = absurd (let f : None ≡ Some listing = e in cc)

    go : (o : Option Inode) → get nodes n ≡ o → in_inode listing_in o ≡ Some listing → (i : Inode) × (get nodes n ≡ Some i) × (i.content ≡ Directory listing)
    go None e f = absurd (let f : None ≡ Some listing = f in cc)
    go (Some i) e f = (i, e, kind i.content f)

pub listing_found : (nodes : Nodes) (n : ℕ) (i : Inode) (listing : Listing) → get nodes n ≡ Some i → i.content ≡ Directory listing → listing_at nodes n ≡ Some listing
listing_found nodes n i listing found is = ap (in_inode listing_in) found ∙ ap listing_in is

pub file_found : (nodes : Nodes) (n : ℕ) (content : FileContent) → file_at nodes n ≡ Some content → (i : Inode) × (get nodes n ≡ Some i) × (i.content ≡ File content)
file_found nodes n content found = go (get nodes n) refl found
  where
    kind : (c : NodeContent) → file_in c ≡ Some content → c ≡ File content
    kind (File f) e = let f : Some f ≡ Some content = e in cc
    kind (Directory l) e = absurd (let f : None ≡ Some content = e in cc)
    kind (Link target) e = absurd (let f : None ≡ Some content = e in cc)

    go : (o : Option Inode) → get nodes n ≡ o → in_inode file_in o ≡ Some content → (i : Inode) × (get nodes n ≡ Some i) × (i.content ≡ File content)
    go None e f = absurd (let f : None ≡ Some content = f in cc)
    go (Some i) e f = (i, e, kind i.content f)

-- a directory with a parent is a directory
pub parent_found : (nodes : Nodes) (n parent : ℕ) → parent_at nodes n ≡ Some parent → (listing : Listing) × (listing_at nodes n ≡ Some listing) × (listing.parent ≡ Some parent)
parent_found nodes n parent found = go (listing_at nodes n) refl found
  where
    go : (o : Option Listing) → listing_at nodes n ≡ o → parent_of o ≡ Some parent → (listing : Listing) × (listing_at nodes n ≡ Some listing) × (listing.parent ≡ Some parent)
    go None e f = absurd (let f : None ≡ Some parent = f in cc)
    go (Some listing) e f = (listing, e, f)

-- Views of nodes that agree at a number

pub same_listing : (m n : Nodes) (q : ℕ) → get m q ≡ get n q → listing_at m q ≡ listing_at n q
same_listing m n q e = ap (in_inode listing_in) e

pub same_parent : (m n : Nodes) (q : ℕ) → listing_at m q ≡ listing_at n q → parent_at m q ≡ parent_at n q
same_parent m n q e = ap parent_of e

pub same_directory : (m n : Nodes) (q : ℕ) → listing_at m q ≡ listing_at n q → is_directory m q ≡ is_directory n q
same_directory m n q e = ap is_some e
