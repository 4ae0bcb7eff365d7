-- The holds of nodes and the keys of descriptions, as a description comes that has a node open.
use Rattle.std.proofs.Common.{◌≡◌, ℕ, ◌+◌, ◌<◌, ◌^◌, Bool, true, false, cond, ◌==◌, List, length, set, get_or, Option, Some, None, refl, sym, ap, ◌∙◌, inl, inr, arith, IfSome, IsSome}
use Rattle.std.specs.Prelude.{is_some, count_by, unwrap_or}
use Rattle.std.specs.FinMap.{get}
use Rattle.std.proofs.lemmas.Bool.{cases_eq}
use Rattle.std.proofs.lemmas.Bool.Decides.{nat_tests}
use Rattle.std.proofs.lemmas.List.{get_or-set_same, get_or-set_other, length-set}
use Rattle.std.proofs.lemmas.List.Sums.{count_by-le-length, sum_by-set}
use Rattle.kernel_core.specs.FileSystem.{IsFileSystem}
use Rattle.kernel_core.specs.Nodes.{Inode}
use Rattle.kernel_core.specs.Queries.{holds_at, holds_in, kind_at}
use Rattle.kernel_model.specs.Always.{has_open, is_node}
use Rattle.kernel_model.specs.Descriptions.{description_of, node_of}
use Rattle.kernel_model.specs.Shared.{OpenSet}
use Rattle.kernel_model.specs.State.{Descriptors}
use Rattle.kernel_model.specs.Table.{inserted, slot, with_cloexec}
use Rattle.kernel_model.specs.declared.descriptor.Description.{Description}
use Rattle.kernel_model.specs.declared.descriptor.Object.TheVariants as objects
use Rattle.native_vfs.specs.Held.{ChangesHeld, StaysKey}
use Rattle.native_vfs.specs.Keyed.{Keyed, number_at as node_at}
use Rattle.native_files.specs.inside.Kept.{AreKept, node_in}
use Rattle.native_files.specs.inside.Openings.{StaysKept}
use Rattle.native_files.proofs.KeptLemmas.{inserted-cloexec, one}

-- where a key leads
pub key_is : (o : Option ℕ) → IsSome o → o ≡ Some (unwrap_or o 0)
key_is None some = absurd (let bad : false ≡ true = some in cc)
key_is (Some n) some = refl

-- there are so few descriptions that a node may be held once more
module _ (system : Keyed) (live : List (Option Description)) (keys : List ℕ) (directory : ℕ) (are : AreKept system live keys directory) (sized : length live ≡ 1024) where
  pub holds-few : (node : ℕ) → holds_at system.nodes node + 1 < 2 ^ 32
  holds-few node =
      let most = count_by-le-length (has_open (is_node node)) live in
      by (node_at system directory == node) (are.holds node)
    where
      by : (b : Bool) → holds_at system.nodes node ≡ count_by (has_open (is_node node)) live + cond b 1 0 → holds_at system.nodes node + 1 < 2 ^ 32
      by true e = let most = count_by-le-length (has_open (is_node node)) live in omega (arith, e, most, sized)
      by false e = let most = count_by-le-length (has_open (is_node node)) live in omega (arith, e, most, sized)

pub few-held : (o : Option Inode) → holds_in o + 1 < 2 ^ 32 → IfSome o (λ i. i.holds + 1 < 2 ^ 32)
few-held None few = tt
few-held (Some i) few = few

module _ (system now : Keyed) (live : List (Option Description)) (keys : List ℕ) (directory : ℕ) (are : AreKept system live keys directory)
    (number key node : ℕ) (within : number < length live) (small : number < 1024) (free : slot live number ≡ None)
    (leads : get system.keys key ≡ Some node) (same : now.keys ≡ system.keys) (changes : ChangesHeld system now node (λ holds. holds + 1)) (valid : IsFileSystem now.nodes)
    (description : Description) (object : description.object ≡ objects.Node node) where
  is_open : (m : ℕ) → has_open (is_node m) (Some description) ≡ (node == m)
  is_open m = ap (is_node m) object

  count_more : (m : ℕ) → count_by (has_open (is_node m)) (set live number (Some description)) ≡ count_by (has_open (is_node m)) live + one (node == m)
  count_more m =
      let e : count_by (has_open (is_node m)) (set live number (Some description)) + one (has_open (is_node m) (slot live number)) ≡ count_by (has_open (is_node m)) live + one (has_open (is_node m) (Some description))
      = sum_by-set (λ x. one (has_open (is_node m) x)) live number (Some description) None within in
      let none : one (has_open (is_node m) (slot live number)) ≡ 0 = ap (λ o. one (has_open (is_node m) o)) free in
      let some : one (has_open (is_node m) (Some description)) ≡ one (node == m) = ap one (is_open m) in
      omega (arith, e, none, some)

  holds_more : (m : ℕ) → holds_at now.nodes m ≡ holds_at system.nodes m + one (node == m)
  holds_more m = elim (cases_eq m node) [
    | inl here ↦
        let test : (m == node) ≡ true = grind (arith, nat_tests) in
        let back : (node == m) ≡ true = grind (arith, nat_tests) in
        let e : holds_at now.nodes m ≡ holds_at system.nodes m + 1 = changes.holds m ∙ ap (λ b. cond b (holds_at system.nodes m + 1) (holds_at system.nodes m)) test in
        let f : one (node == m) ≡ one true = ap one back in
        omega (arith, e, f)
    | inr apart ↦
        let test : (m == node) ≡ false = grind (arith, nat_tests) in
        let back : (node == m) ≡ false = grind (arith, nat_tests) in
        let e : holds_at now.nodes m ≡ holds_at system.nodes m = changes.holds m ∙ ap (λ b. cond b (holds_at system.nodes m + 1) (holds_at system.nodes m)) test in
        let f : one (node == m) ≡ one false = ap one back in
        omega (arith, e, f)
  ]

  home_stays : StaysKey system now directory (node_at system directory)
  home_stays =
      let h = node_at system directory in
      let test : (h == h) ≡ true = grind (arith, nat_tests) in
      let more : one (h == h) ≡ one true = ap one test in
      changes.keys directory h (key_is (get system.keys directory) are.home) (omega (arith, are.holds h, more)) (omega (arith, are.holds h, more, holds_more h))

  home_now : node_at now directory ≡ node_at system directory
  home_now = ap (λ o. unwrap_or o 0) home_stays.0

  key_leads : (n m : ℕ) → node_in (slot (set live number (Some description)) n) ≡ Some m → get now.keys (get_or (set keys number key) n 0) ≡ Some m
  key_leads n m at = elim (cases_eq n number) [
    | inl here ↦
        let placed : get_or (set keys number key) n 0 ≡ key = ap (λ k. get_or (set keys number key) k 0) here ∙ get_or-set_same keys number key 0 (omega (arith, are.keyed.sized, small)) in
        let opened : Some node ≡ Some m =
        sym (ap (λ k. node_in (slot (set live number (Some description)) k)) here ∙ ap node_in (get_or-set_same live number (Some description) None within) ∙ ap node_of object) ∙ at in
        ap (λ k. get k (get_or (set keys number key) n 0)) same ∙ ap (get system.keys) placed ∙ leads ∙ opened
    | inr apart ↦
        let before : node_in (slot live n) ≡ Some m = sym (ap node_in (get_or-set_other live number n (Some description) None apart)) ∙ at in
        ap (λ k. get k (get_or (set keys number key) n 0)) same ∙ ap (get system.keys) (get_or-set_other keys number n key 0 apart) ∙ are.keyed.leads n m before
  ]

  pub StaysKept-opened : StaysKept system now (set live number (Some description)) (set keys number key) directory
  StaysKept-opened = record {
    kept = record {
      keyed = record { sized = length-set keys number key ∙ are.keyed.sized; leads = key_leads };
      home = ap (λ o. is_some o) home_stays.0;
      home_kind = ap (kind_at now.nodes) home_now ∙ home_stays.1 ∙ are.home_kind;
      holds = λ m.
          let e = holds_more m in
          let f = count_more m in
          let g : one (node_at now directory == m) ≡ one (node_at system directory == m) = ap (λ h. one (h == m)) home_now in
          omega (arith, are.holds m, e, f, g);
      valid = valid;
    };
    home = home_now;
  }

-- the table with a new description of a node
pub opened-table : (table middle after : Descriptors Description) (fd number node : ℕ) (flags : OpenSet) (cloexec : Bool) (description : Description) → slot table.fds fd ≡ None
    → middle ≡ inserted table fd description false → after ≡ with_cloexec middle fd cloexec → cloexec ≡ flags.cloexec
    → description ≡ description_of (objects.Node number) flags → number ≡ node → after ≡ inserted table fd (description_of (objects.Node node) flags) flags.cloexec
opened-table table middle after fd number node flags cloexec description free is then cloexec_is description_is number_is =
    then ∙ ap (λ t. with_cloexec t fd cloexec) is ∙ inserted-cloexec table fd description cloexec free
    ∙ ap (λ b. inserted table fd description b) cloexec_is
    ∙ ap (λ d. inserted table fd d flags.cloexec) (description_is ∙ ap (λ n. description_of (objects.Node n) flags) number_is)
