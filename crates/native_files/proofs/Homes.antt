-- How often nodes are held, as another directory becomes the working directory.
use Rattle.std.proofs.Common.{◌≡◌, ℕ, ◌+◌, ◌-◌, ◌<◌, ◌≤◌, ◌^◌, Bool, true, false, cond, ◌==◌, List, length, get_or, Option, Some, None, refl, sym, ap, subst, ◌∙◌, inl, inr, arith, IfSome, is_some}
use Rattle.std.specs.Prelude.{count_by, option_map, unwrap_or}
use Rattle.std.specs.FinMap.{get}
use Rattle.std.proofs.lemmas.Bool.{cases_eq}
use Rattle.std.proofs.lemmas.Bool.Decides.{nat_tests}
use Rattle.std.proofs.lemmas.List.Sums.{count_by-le-length}
use Rattle.kernel_core.specs.FileSystem.{IsFileSystem}
use Rattle.kernel_core.specs.NodeCalls.{held}
use Rattle.kernel_core.specs.Nodes.{Nodes, Inode, NodeContent, File, Directory, Link, is_directory, listing_in, in_inode, update}
use Rattle.kernel_core.specs.Queries.{DirectoryKind, holds_at, holds_in, kind_at, kind_of}
use Rattle.kernel_model.specs.Always.{has_open, is_node}
use Rattle.kernel_model.specs.declared.descriptor.Description.{Description}
use Rattle.file_system_laws.proofs.HeldNodes.{update-kind}
use Rattle.native_vfs.specs.Held.{ChangesHeld, StaysKey}
use Rattle.native_vfs.specs.Keyed.{Keyed, number_at as node_at, inode_at, IsLiveKey}
use Rattle.native_files.specs.inside.Kept.{AreKept}
use Rattle.native_files.proofs.KeptLemmas.{count_some, key_found, one}

-- a hold of one node and a release of another
home_count : (m from to before mid now count : ℕ) → mid ≡ cond (m == to) (before + 1) before → now ≡ cond (m == from) (mid - 1) mid → before ≡ count + one (from == m)
    → now ≡ count + one (to == m)
home_count m from to before mid now count more less is = elim (cases_eq m to) [
  | inl new ↦
      let a : mid ≡ before + 1 = more ∙ ap (λ b. cond b (before + 1) before) (let t : (m == to) ≡ true = grind (arith, nat_tests) in t) in
      let b : one (to == m) ≡ one true = ap one (let t : (to == m) ≡ true = grind (arith, nat_tests) in t) in
      elim (cases_eq m from) [
        | inl old ↦
            let c : now ≡ mid - 1 = less ∙ ap (λ b. cond b (mid - 1) mid) (let t : (m == from) ≡ true = grind (arith, nat_tests) in t) in
            let d : one (from == m) ≡ one true = ap one (let t : (from == m) ≡ true = grind (arith, nat_tests) in t) in
            omega (arith, a, b, c, d, is)
        | inr apart ↦
            let c : now ≡ mid = less ∙ ap (λ b. cond b (mid - 1) mid) (let t : (m == from) ≡ false = grind (arith, nat_tests) in t) in
            let d : one (from == m) ≡ one false = ap one (let t : (from == m) ≡ false = grind (arith, nat_tests) in t) in
            omega (arith, a, b, c, d, is)
      ]
  | inr other ↦
      let a : mid ≡ before = more ∙ ap (λ b. cond b (before + 1) before) (let t : (m == to) ≡ false = grind (arith, nat_tests) in t) in
      let b : one (to == m) ≡ one false = ap one (let t : (to == m) ≡ false = grind (arith, nat_tests) in t) in
      elim (cases_eq m from) [
        | inl old ↦
            let c : now ≡ mid - 1 = less ∙ ap (λ b. cond b (mid - 1) mid) (let t : (m == from) ≡ true = grind (arith, nat_tests) in t) in
            let d : one (from == m) ≡ one true = ap one (let t : (from == m) ≡ true = grind (arith, nat_tests) in t) in
            omega (arith, a, b, c, d, is)
        | inr apart ↦
            let c : now ≡ mid = less ∙ ap (λ b. cond b (mid - 1) mid) (let t : (m == from) ≡ false = grind (arith, nat_tests) in t) in
            let d : one (from == m) ≡ one false = ap one (let t : (from == m) ≡ false = grind (arith, nat_tests) in t) in
            omega (arith, a, b, c, d, is)
      ]
]

-- what is held lives
held_some : (o : Option Inode) → 1 ≤ holds_in o → IfSome o (λ i. 0 < i.holds)
held_some None is = tt
held_some (Some inode) is = is

few_some : (o : Option Inode) (most : ℕ) → holds_in o ≤ most → most < 4096 → IfSome o (λ i. i.holds + 1 < 2 ^ 32)
few_some None most is small = tt
few_some (Some inode) most is small = omega (arith, is, small)

one_small : (b : Bool) → one b ≤ 1
one_small true = omega arith
one_small false = omega arith

-- a directory, by its kind and by its listing
pub directory-kind : (nodes : Nodes) (number : ℕ) → is_directory nodes number ≡ true → kind_at nodes number ≡ Some DirectoryKind
directory-kind nodes number is = by (get nodes number) is
  where
    by_content : (content : NodeContent) → is_some (listing_in content) ≡ true → Some (kind_of content) ≡ Some DirectoryKind
    by_content (File content) is = absurd (let bad : false ≡ true = is in cc)
    by_content (Directory listing) is = refl
    by_content (Link target) is = absurd (let bad : false ≡ true = is in cc)

    by : (o : Option Inode) → is_some (in_inode listing_in o) ≡ true → option_map (λ i. kind_of i.content) o ≡ Some DirectoryKind
    by None is = absurd (let bad : false ≡ true = is in cc)
    by (Some inode) is = by_content inode.content is

module _ (system : Keyed) (live : List (Option Description)) (keys : List ℕ) (from : ℕ) (are : AreKept system live keys from) where
  -- every node may be held once more
  pub may-hold : length live ≡ 1024 → (key : ℕ) → IfSome (inode_at system key) (λ (i : Inode). i.holds + 1 < 2 ^ 32)
  may-hold sized key =
      let n = node_at system key in
      let within = count_by-le-length (has_open (is_node n)) live in
      let small = one_small (node_at system from == n) in
      few_some (get system.nodes n) 1025 (omega (arith, are.holds n, within, sized, small)) (omega arith)

  module _ (to : ℕ) (there : IsLiveKey system to) (kind : kind_at system.nodes (node_at system to) ≡ Some DirectoryKind)
      (mid : Keyed) (nodes : mid.nodes ≡ update system.nodes (node_at system to) held) (same : mid.keys ≡ system.keys)
      (more : ChangesHeld system mid (node_at system to) (λ h. h + 1)) where
    is_home : one (node_at system from == node_at system from) ≡ 1
    is_home = ap one (let t : (node_at system from == node_at system from) ≡ true = grind (arith, nat_tests) in t)

    no_less : (m before mid : ℕ) (b : Bool) → mid ≡ cond b (before + 1) before → before ≤ mid
    no_less m before mid true is = omega (arith, is)
    no_less m before mid false is = omega (arith, is)

    pub home-mid : node_at mid from ≡ node_at system from
    home-mid = ap (λ k. unwrap_or (get k from) 0) same

    -- the old one is still held
    pub home-held_still : IfSome (inode_at mid from) (λ (i : Inode). 0 < i.holds)
    home-held_still =
        let f = node_at system from in
        let least = no_less f (holds_at system.nodes f) (holds_at mid.nodes f) (f == node_at system to) (more.holds f) in
        subst (λ n. IfSome (get mid.nodes n) (λ (i : Inode). 0 < i.holds)) (sym home-mid)
        (held_some (get mid.nodes f) (omega (arith, least, are.holds f, is_home)))

    module _ (now : Keyed) (less : ChangesHeld mid now (node_at mid from) (λ h. h - 1)) where
      holds_now : (m : ℕ) → holds_at now.nodes m ≡ count_by (has_open (is_node m)) live + one (node_at system to == m)
      holds_now m =
          home_count m (node_at system from) (node_at system to) (holds_at system.nodes m) (holds_at mid.nodes m) (holds_at now.nodes m) (count_by (has_open (is_node m)) live)
          (more.holds m) (less.holds m ∙ ap (λ n. cond (m == n) (holds_at mid.nodes m - 1) (holds_at mid.nodes m)) home-mid) (are.holds m)

      new_stays : StaysKey mid now to (node_at system to)
      new_stays =
          let t = node_at system to in
          let at : get mid.keys to ≡ Some t = ap (λ k. get k to) same ∙ key_found (get system.keys to) there in
          let here : one (t == t) ≡ 1 = ap one (let e : (t == t) ≡ true = grind (arith, nat_tests) in e) in
          let up : holds_at mid.nodes t ≡ holds_at system.nodes t + 1
          = more.holds t ∙ ap (λ b. cond b (holds_at system.nodes t + 1) (holds_at system.nodes t)) (let e : (t == t) ≡ true = grind (arith, nat_tests) in e) in
          less.keys to t at (omega (arith, up)) (omega (arith, holds_now t, here))

      pub home-moved : node_at now to ≡ node_at system to
      home-moved = ap (λ o. unwrap_or o 0) new_stays.0

      pub AreKept-moved : IsFileSystem now.nodes → AreKept now live keys to
      AreKept-moved valid = record {
        keyed = record {
          sized = are.keyed.sized;
          leads = λ n m at.
              let some = count_some live n m at in
              let least = no_less m (holds_at system.nodes m) (holds_at mid.nodes m) (m == node_at system to) (more.holds m) in
              let stays = more.keys (get_or keys n 0) m (are.keyed.leads n m at) (omega (arith, are.holds m, some)) (omega (arith, least, are.holds m, some)) in
              (less.keys (get_or keys n 0) m stays.0 (omega (arith, least, are.holds m, some)) (omega (arith, holds_now m, some))).0;
        };
        home = ap (λ o. is_some o) new_stays.0;
        home_kind = ap (kind_at now.nodes) home-moved ∙ new_stays.1 ∙ ap (λ n. kind_at n (node_at system to)) nodes ∙ update-kind system.nodes (node_at system to) held (λ i. refl) (node_at system to) ∙ kind;
        holds = λ m. holds_now m ∙ ap (λ h. count_by (has_open (is_node m)) live + one (h == m)) (sym home-moved);
        valid = valid;
      }
