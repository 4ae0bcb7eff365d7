-- The holds of nodes and the keys of descriptions, as descriptions come, change and go.
use Rattle.std.proofs.Common.{◌≡◌, ◌≢◌, ℕ, ◌+◌, ◌-◌, ◌<◌, ◌≤◌, Bool, true, false, cond, ◌==◌, List, length, set, get_or, Option, Some, None, refl, sym, ap, subst, ◌∙◌, inl, inr, arith, IfSome, IsSome}
use Rattle.std.specs.Prelude.{is_some, option_map, option_and_then, count_by, unwrap_or}
use Rattle.std.specs.FinMap.{get}
use Rattle.std.specs.List.{list_any}
use Rattle.std.proofs.lemmas.Bool.{cases_eq, cases_lt}
use Rattle.std.proofs.lemmas.Bool.Decides.{nat_tests}
use Rattle.std.proofs.lemmas.List.{get_or_past, get_or-set_same, get_or-set_other, set_past, set-set, set-get_or, length-set}
use Rattle.std.proofs.lemmas.List.Sums.{sum_by-set}
use Rattle.std.proofs.lemmas.Option.{same_Some}
use Rattle.kernel_core.specs.FileSystem.{IsFileSystem}
use Rattle.kernel_core.specs.Nodes.{Inode}
use Rattle.kernel_core.specs.Queries.{holds_at, holds_in, kind_at}
use Rattle.kernel_model.specs.Always.{has_open, is_node, IsTable}
use Rattle.kernel_model.specs.Descriptions.{node_of}
use Rattle.kernel_model.specs.State.{Descriptors}
use Rattle.kernel_model.specs.Table.{slot, new_place, lowest_free, number_at, closed, closed_at, last_description, last_at, leads_to, inserted, shared, shared_at, with_cloexec, set_cloexec, changed_at, description_at, with_description}
use Rattle.kernel_model.specs.declared.descriptor.Descriptor.{Descriptor}
use Rattle.kernel_model.specs.declared.descriptor.Description.{Description}
use Rattle.kernel_model.specs.declared.descriptor.Object.{Object}
use Rattle.kernel_model.specs.declared.descriptor.Object.TheVariants as objects
use Rattle.kernel_model.proofs.LeastFree.{least_free}
use Rattle.native_vfs.specs.Held.{ChangesHeld, KeepsHeld, StaysKey}
use Rattle.native_vfs.specs.Keyed.{Keyed, number_at as node_at, inode_at, IsLiveKey}
use Rattle.native_files.specs.inside.Kept.{AreKept, node_in}

abbrev pub one : Bool → ℕ
one b = cond b 1 0

-- whether this is the node that is open
abbrev is_held : ℕ → Option ℕ → Bool
is_held node None = false
is_held node (Some number) = number == node

object_node : (node : ℕ) (object : Object) → is_node node object ≡ is_held node (node_of object)
object_node node (objects.Stream stream) = refl
object_node node (objects.ReadEnd pipe) = refl
object_node node (objects.WriteEnd pipe) = refl
object_node node (objects.Node number) = refl

has_node : (node : ℕ) (o : Option Description) → has_open (is_node node) o ≡ is_held node (node_in o)
has_node node None = refl
has_node node (Some description) = object_node node description.object

-- how many descriptions have a node open, when one of them changes
count_changed : (live : List (Option Description)) (number node : ℕ) (o : Option Description) → number < length live
    → count_by (has_open (is_node node)) (set live number o) + one (is_held node (node_in (slot live number)))
    ≡ count_by (has_open (is_node node)) live + one (is_held node (node_in o))
count_changed live number node o within =
    ap (λ b. count_by (has_open (is_node node)) (set live number o) + one b) (sym (has_node node (slot live number)))
    ∙ sum_by-set (λ x. one (has_open (is_node node) x)) live number o None within
    ∙ ap (λ b. count_by (has_open (is_node node)) live + one b) (has_node node o)

pub count_some : (live : List (Option Description)) (number node : ℕ) → node_in (slot live number) ≡ Some node → 1 ≤ count_by (has_open (is_node node)) live
count_some live number node at = elim (cases_lt number (length live)) [
  | inl within ↦
      let same : (node == node) ≡ true = grind (arith, nat_tests) in
      let e = count_changed live number node None within in
      let f : one (is_held node (node_in (slot live number))) ≡ one true = ap one (ap (is_held node) at ∙ same) in
      omega (arith, e, f)
  | inr past ↦ absurd (let bad : None ≡ Some node = sym (ap (λ o. node_in o) (get_or_past live number None past)) ∙ at in cc)
]

node_set : (live : List (Option Description)) (number : ℕ) (o : Option Description) → node_in o ≡ node_in (slot live number) → (n : ℕ) → node_in (slot (set live number o) n) ≡ node_in (slot live n)
node_set live number o same n =
    elim (cases_eq n number) [
      | inl here ↦ elim (cases_lt number (length live)) [
        | inl within ↦ ap (λ k. node_in (slot (set live number o) k)) here ∙ ap (λ x. node_in x) (get_or-set_same live number o None within) ∙ same ∙ ap (λ k. node_in (slot live k)) (sym here)
        | inr past ↦ ap (λ l. node_in (slot l n)) (set_past live number o past)
      ]
      | inr apart ↦ ap (λ x. node_in x) (get_or-set_other live number n o None apart)
    ]

-- where a key leads
pub key_found : (o : Option ℕ) → IsSome o → o ≡ Some (unwrap_or o 0)
key_found None some = absurd (let bad : false ≡ true = some in cc)
key_found (Some n) some = refl

module _ (system : Keyed) (live : List (Option Description)) (keys : List ℕ) (directory : ℕ) (are : AreKept system live keys directory) where
  -- a description comes, changes or goes, and no other node is open
  pub AreKept-set : (number : ℕ) (o : Option Description) → node_in o ≡ node_in (slot live number) → AreKept system (set live number o) keys directory
  AreKept-set number o same = record {
    keyed = record { sized = are.keyed.sized; leads = λ n node at. are.keyed.leads n node (sym (node_set live number o same n) ∙ at) };
    home = are.home;
    home_kind = are.home_kind;
    holds = λ node. are.holds node ∙ ap (λ c. c + one (node_at system directory == node)) (sym (count node));
    valid = are.valid;
  }
    where
      count : (node : ℕ) → count_by (has_open (is_node node)) (set live number o) ≡ count_by (has_open (is_node node)) live
      count node = elim (cases_lt number (length live)) [
        | inl within ↦
            let e = count_changed live number node o within in
            let f : one (is_held node (node_in o)) ≡ one (is_held node (node_in (slot live number))) = ap (λ x. one (is_held node x)) same in
            omega (arith, e, f)
        | inr past ↦ ap (λ l. count_by (has_open (is_node node)) l) (set_past live number o past)
      ]

  -- The last descriptor of a description goes that has a node open.
  module _ (number node : ℕ) (at : node_in (slot live number) ≡ Some node) where
    pub key-leads : get system.keys (get_or keys number 0) ≡ Some node
    key-leads = are.keyed.leads number node at

    pub key-live : IsLiveKey system (get_or keys number 0)
    key-live = ap (λ o. is_some o) key-leads

    pub key-node : node_at system (get_or keys number 0) ≡ node
    key-node = ap (λ o. unwrap_or o 0) key-leads

    inside : number < length live
    inside = elim (cases_lt number (length live)) [
      | inl within ↦ within
      | inr past ↦ absurd (let bad : None ≡ Some node = sym (ap (λ o. node_in o) (get_or_past live number None past)) ∙ at in cc)
    ]

    count_left : (m : ℕ) → count_by (has_open (is_node m)) (set live number None) + one (node == m) ≡ count_by (has_open (is_node m)) live
    count_left m =
        let e = count_changed live number m None inside in
        let f : one (is_held m (node_in (slot live number))) ≡ one (node == m) = ap (λ o. one (is_held m o)) at in
        omega (arith, e, f)

    held_once : 1 ≤ holds_at system.nodes node
    held_once =
        let same : (node == node) ≡ true = grind (arith, nat_tests) in
        let c = count_left node in
        let one_more : one (node == node) ≡ one true = ap one same in
        omega (arith, are.holds node, c, one_more)

    held_some : (o : Option Inode) → 1 ≤ holds_in o → IfSome o (λ i. 0 < i.holds)
    held_some None held = tt
    held_some (Some i) held = held

    pub key-held : IfSome (inode_at system (get_or keys number 0)) (λ i. 0 < i.holds)
    key-held = subst (λ n. IfSome (get system.nodes n) (λ (i : Inode). 0 < i.holds)) (sym key-node) (held_some (get system.nodes node) held_once)

    module _ (now : Keyed) (changes : ChangesHeld system now (node_at system (get_or keys number 0)) (λ holds. holds - 1)) where
      holds_now : (m : ℕ) → holds_at now.nodes m ≡ cond (m == node) (holds_at system.nodes m - 1) (holds_at system.nodes m)
      holds_now m = changes.holds m ∙ ap (λ n. cond (m == n) (holds_at system.nodes m - 1) (holds_at system.nodes m)) key-node

      holds_left : (m : ℕ) → holds_at now.nodes m ≡ count_by (has_open (is_node m)) (set live number None) + one (node_at system directory == m)
      holds_left m = elim (cases_eq m node) [
        | inl here ↦
            let same : (m == node) ≡ true = grind (arith, nat_tests) in
            let back : (node == m) ≡ true = grind (arith, nat_tests) in
            let e : holds_at now.nodes m ≡ holds_at system.nodes m - 1 = holds_now m ∙ ap (λ b. cond b (holds_at system.nodes m - 1) (holds_at system.nodes m)) same in
            let f : one (node == m) ≡ one true = ap one back in
            omega (arith, e, f, count_left m, are.holds m)
        | inr apart ↦
            let other : (m == node) ≡ false = grind (arith, nat_tests) in
            let back : (node == m) ≡ false = grind (arith, nat_tests) in
            let e : holds_at now.nodes m ≡ holds_at system.nodes m = holds_now m ∙ ap (λ b. cond b (holds_at system.nodes m - 1) (holds_at system.nodes m)) other in
            let f : one (node == m) ≡ one false = ap one back in
            omega (arith, e, f, count_left m, are.holds m)
      ]

      home_kept : StaysKey system now directory (node_at system directory)
      home_kept =
          let h = node_at system directory in
          let same : (h == h) ≡ true = grind (arith, nat_tests) in
          let more : one (h == h) ≡ one true = ap one same in
          changes.keys directory h (key_found (get system.keys directory) are.home) (omega (arith, are.holds h, more)) (omega (arith, holds_left h, more))

      pub home-now : node_at now directory ≡ node_at system directory
      home-now = ap (λ o. unwrap_or o 0) home_kept.0

      stays : (n m : ℕ) → node_in (slot (set live number None) n) ≡ Some m → n ≢ number
      stays n m there here =
          let bad : None ≡ Some m = sym (ap (λ o. node_in o) (ap (slot (set live number None)) here ∙ get_or-set_same live number None None inside)) ∙ there in cc

      pub AreKept-released : IsFileSystem now.nodes → AreKept now (set live number None) keys directory
      AreKept-released valid = record {
        keyed = record {
          sized = are.keyed.sized;
          leads = λ n m there.
              let before : node_in (slot live n) ≡ Some m = sym (ap (λ o. node_in o) (get_or-set_other live number n None None (stays n m there))) ∙ there in
              let some = count_some (set live number None) n m there in
              (changes.keys (get_or keys n 0) m (are.keyed.leads n m before) (omega (arith, are.holds m, count_left m, some)) (omega (arith, holds_left m, some))).0;
        };
        valid = valid;
        home = ap (λ o. is_some o) home_kept.0;
        home_kind = ap (kind_at now.nodes) home-now ∙ home_kept.1 ∙ are.home_kind;
        holds = λ m. holds_left m ∙ ap (λ h. count_by (has_open (is_node m)) (set live number None) + one (h == m)) (sym home-now);
      }

-- The table's words

-- a descriptor that is not open closes nothing
pub closed-not_open : {A : Type 0} (table : Descriptors A) (fd : ℕ) → slot table.fds fd ≡ None → closed table fd ≡ table
unfolding closed
closed-not_open table fd free = ap (λ o. closed_at table fd (option_map (λ d. d.number) o)) free

-- closing a descriptor that is not the last one, or is not open
pub live-closed_kept : {A : Type 0} (table : Descriptors A) → IsTable table → (fd : ℕ) → last_description table fd ≡ None → (closed table fd).live ≡ table.live
unfolding closed last_description
live-closed_kept {A} table valid fd last = by (slot table.fds fd) refl last
  where
    by_any : (d : Descriptor) → slot table.fds fd ≡ Some d → (b : Bool) → list_any (leads_to d.number) (set table.fds fd None) ≡ b → cond b None (slot table.live d.number) ≡ None
        → (closed_at table fd (Some d.number)).live ≡ table.live
    by_any d at true any last = ap (λ b. cond b table.live (set table.live d.number None)) any
    by_any d at false any last = absurd (let bad : false ≡ true = sym (ap (λ o. is_some o) last) ∙ valid.leads fd d at in cc)

    by : (o : Option Descriptor) → slot table.fds fd ≡ o → last_at table fd (option_map (λ d. d.number) o) ≡ None → (closed_at table fd (option_map (λ d. d.number) o)).live ≡ table.live
    by None at last = refl
    by (Some d) at last = by_any d at (list_any (leads_to d.number) (set table.fds fd None)) refl last

-- what closing the last descriptor of a description takes along
pub record Goes {A : Type 0} (table : Descriptors A) (fd : ℕ) (item : A) : Type 0 where
  pub number : ℕ
  pub is : number_at table fd ≡ Some number
  pub at : slot table.live number ≡ Some item
  pub left : (closed table fd).live ≡ set table.live number None

pub closed-goes : {A : Type 0} (table : Descriptors A) (fd : ℕ) (item : A) → last_description table fd ≡ Some item → Goes table fd item
unfolding closed last_description
closed-goes {A} table fd item last = by (slot table.fds fd) refl last
  where
    by_any : (d : Descriptor) → slot table.fds fd ≡ Some d → (b : Bool) → list_any (leads_to d.number) (set table.fds fd None) ≡ b → cond b None (slot table.live d.number) ≡ Some item → Goes table fd item
    by_any d at true any last = absurd (let bad : None ≡ Some item = last in cc)
    by_any d at false any last = record {
      number = d.number;
      is = ap (option_map (λ d. d.number)) at;
      at = last;
      left = ap (λ o. (closed_at table fd (option_map (λ d. d.number) o)).live) at ∙ ap (λ b. cond b table.live (set table.live d.number None)) any;
    }

    by : (o : Option Descriptor) → slot table.fds fd ≡ o → last_at table fd (option_map (λ d. d.number) o) ≡ Some item → Goes table fd item
    by None at last = absurd (let bad : None ≡ Some item = last in cc)
    by (Some d) at last = by_any d at (list_any (leads_to d.number) (set table.fds fd None)) refl last

-- the same where the description's number is known
pub closed-takes : {A : Type 0} (table : Descriptors A) (fd number : ℕ) (item : A) → number_at table fd ≡ Some number → last_description table fd ≡ Some item
    → (slot table.live number ≡ Some item) × ((closed table fd).live ≡ set table.live number None)
closed-takes table fd number item is last =
    let goes = closed-goes table fd item last in
    let same : goes.number ≡ number = same_Some goes.number number (sym goes.is ∙ is) in
    (ap (slot table.live) (sym same) ∙ goes.at, goes.left ∙ ap (λ n. set table.live n None) same)

-- the place of a new description is free
pub new_place-free : {A : Type 0} (slots : List (Option A)) → slot slots (new_place slots) ≡ None
new_place-free {A} slots = by (lowest_free slots 0) refl
  where
    by : (o : Option ℕ) → lowest_free slots 0 ≡ o → slot slots (unwrap_or o (length slots)) ≡ None
    by None is = get_or_past slots (length slots) None (omega arith)
    by (Some number) is = (least_free slots 0 number is).free

-- close-on-exec of a descriptor that was just opened
cloexec_set : (fds : List (Option Descriptor)) (fd number : ℕ) (cloexec : Bool) → slot fds fd ≡ None
    → set (set fds fd (Some (record { number = number; cloexec = false }))) fd (option_map (set_cloexec cloexec) (slot (set fds fd (Some (record { number = number; cloexec = false }))) fd))
    ≡ set fds fd (Some (record { number = number; cloexec = cloexec }))
cloexec_set fds fd number cloexec free = elim (cases_lt fd (length fds)) [
  | inl within ↦
      ap (λ o. set (set fds fd (Some (record { number = number; cloexec = false }))) fd (option_map (set_cloexec cloexec) o)) (get_or-set_same fds fd (Some (record { number = number; cloexec = false })) None within)
      ∙ set-set fds fd (Some (record { number = number; cloexec = false })) (Some (record { number = number; cloexec = cloexec }))
  | inr past ↦
      set_past _ fd _ (omega (arith, past, length-set fds fd (Some (record { number = number; cloexec = false }))))
      ∙ set_past fds fd _ past ∙ sym (set_past fds fd _ past)
]

pub inserted-cloexec : {A : Type 0} (table : Descriptors A) (fd : ℕ) (item : A) (cloexec : Bool) → slot table.fds fd ≡ None
    → with_cloexec (inserted table fd item false) fd cloexec ≡ inserted table fd item cloexec
inserted-cloexec {A} table fd item cloexec free =
    ap (λ l. record { fds = l; live = set table.live (new_place table.live) (Some item) }) (cloexec_set table.fds fd (new_place table.live) cloexec free)

pub shared-cloexec : {A : Type 0} (table : Descriptors A) (fd onto : ℕ) (cloexec : Bool) → slot table.fds onto ≡ None
    → with_cloexec (shared table fd onto false) onto cloexec ≡ shared table fd onto cloexec
shared-cloexec {A} table fd onto cloexec free = by (number_at table fd)
  where
    by : (o : Option ℕ) → with_cloexec (shared_at table onto false o) onto cloexec ≡ shared_at table onto cloexec o
    by None =
        ap (λ o. record { fds = set table.fds onto (option_map (set_cloexec cloexec) o); live = table.live }) free
        ∙ ap (λ l. record { fds = l; live = table.live }) (ap (set table.fds onto) (sym free) ∙ set-get_or table.fds onto None)
    by (Some number) = ap (λ l. record { fds = l; live = table.live }) (cloexec_set table.fds onto number cloexec free)

-- a description that is changed and has the same object open
pub node-changed : (live : List (Option Description)) (number : ℕ) (description : Description) → option_map (λ d. d.object) (slot live number) ≡ Some description.object
    → node_in (Some description) ≡ node_in (slot live number)
node-changed live number description same = by (slot live number) same
  where
    by : (o : Option Description) → option_map (λ d. d.object) o ≡ Some description.object → node_in (Some description) ≡ node_in o
    by None same = absurd (cc)
    by (Some d) same = sym (ap (λ o. option_and_then node_of o) same)

pub AreKept-changed : (system : Keyed) (table : Descriptors Description) (keys : List ℕ) (directory fd : ℕ) (description : Description)
    → option_map (λ d. d.object) (description_at table fd) ≡ Some description.object
    → AreKept system table.live keys directory → AreKept system (with_description table fd description).live keys directory
AreKept-changed system table keys directory fd description same are = by (number_at table fd) same
  where
    by : (o : Option ℕ) → option_map (λ d. d.object) (option_and_then (λ number. slot table.live number) o) ≡ Some description.object
        → AreKept system (changed_at table o description).live keys directory
    by None same = are
    by (Some number) same = AreKept-set system table.live keys directory are number (Some description) (node-changed table.live number description same)

pub live-shared : {A : Type 0} (table : Descriptors A) (fd onto : ℕ) (cloexec : Bool) → (shared table fd onto cloexec).live ≡ table.live
live-shared {A} table fd onto cloexec = by (number_at table fd)
  where
    by : (o : Option ℕ) → (shared_at table onto cloexec o).live ≡ table.live
    by None = refl
    by (Some number) = refl

-- a call that keeps how often nodes are held
module _ (system now : Keyed) (live : List (Option Description)) (keys : List ℕ) (directory : ℕ) (are : AreKept system live keys directory) (held : KeepsHeld system now) where
  home_stays : StaysKey system now directory (node_at system directory)
  home_stays =
      let h = node_at system directory in
      let same : (h == h) ≡ true = grind (arith, nat_tests) in
      let more : one (h == h) ≡ one true = ap one same in
      held.keys directory h (key_found (get system.keys directory) are.home) (omega (arith, are.holds h, more))

  pub home-held : node_at now directory ≡ node_at system directory
  home-held = ap (λ o. unwrap_or o 0) home_stays.0

  pub AreKept-held : IsFileSystem now.nodes → AreKept now live keys directory
  AreKept-held valid = record {
    keyed = record {
      sized = are.keyed.sized;
      leads = λ n node at.
          let some = count_some live n node at in
          (held.keys (get_or keys n 0) node (are.keyed.leads n node at) (omega (arith, are.holds node, some))).0;
    };
    home = ap (λ o. is_some o) home_stays.0;
    home_kind = ap (kind_at now.nodes) home-held ∙ home_stays.1 ∙ are.home_kind;
    holds = λ node. held.holds node ∙ are.holds node ∙ ap (λ h. count_by (has_open (is_node node)) live + one (h == node)) (sym home-held);
    valid = valid;
  }
