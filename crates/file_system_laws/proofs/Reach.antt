-- Chains of parents: how far the root lies above a directory, and what a change of parents leaves of it.
use Rattle.std.proofs.Common.{◌≡◌, ◌≢◌, ◌≤◌, ◌+◌, ◌&&◌, ◌⊎◌, not, zero, suc, ℕ, Bool, false, eqb, Option, Some, None, is_some, refl, sym, ap, subst, ◌∙◌, arith, inl, inr}
use Rattle.std.proofs.lemmas.Bool.{cases_eq, or_parts, and_cases, eqb-true, eqb-false, not-false, true≢false}
use Rattle.std.specs.FinMap.{get, remove, len}
use Rattle.kernel_core.specs.Nodes.{Nodes, Inode, Listing, listing_at, listing_in, in_inode}
use Rattle.kernel_core.specs.ValidTree.{root}
use Rattle.kernel_core.specs.NameCalls.{is_below, is_in_subtree, parent_passes, passes}
use Rattle.kernel_core.specs.FileSystem.{parent_at, parent_of, IsBelowRoot, IsBelowRootBy}
use Rattle.file_system_laws.proofs.Lookups.{get-remove_other, get-remove_same, put_back, len-insert_new}

-- One step at a time

module _ (nodes : Nodes) where
  pub below_more : (steps number parent : ℕ) → parent_at nodes number ≡ Some parent → IsBelowRootBy steps nodes parent → IsBelowRootBy (suc steps) nodes number
  unfolding IsBelowRootBy
  below_more steps number parent up rest = (parent, up, rest)

  pub below_parent : (steps number : ℕ) → IsBelowRootBy (suc steps) nodes number → (parent : ℕ) × (parent_at nodes number ≡ Some parent) × IsBelowRootBy steps nodes parent
  unfolding IsBelowRootBy
  below_parent steps number chain = chain

  pub below_none : (number : ℕ) → IsBelowRootBy zero nodes number → number ≡ root
  unfolding IsBelowRootBy
  below_none number chain = chain

  pub at_root : (number : ℕ) → number ≡ root → IsBelowRootBy zero nodes number
  unfolding IsBelowRootBy
  at_root number is = is

-- Changes that leave the parents on the chain as they are

module _ (nodes changed : Nodes) (Stays : ℕ → Type 0) where
  -- a chain through numbers that keep their parents, each of them again such a number
  pub below_kept : ((number parent : ℕ) → Stays number → parent_at nodes number ≡ Some parent → (parent_at changed number ≡ Some parent) × Stays parent)
      → (steps number : ℕ) → Stays number → IsBelowRootBy steps nodes number → IsBelowRootBy steps changed number
  below_kept keeps zero number stays chain = at_root changed number (below_none nodes number chain)
  below_kept keeps (suc steps) number stays chain =
      let step = below_parent nodes steps number chain in
      let kept = keeps number step.0 stays step.1 in
      below_more changed steps number step.0 kept.0 (below_kept keeps steps step.0 kept.1 step.2)

-- all parents stay
pub below_same : (nodes changed : Nodes) → ((number : ℕ) → parent_at changed number ≡ parent_at nodes number)
    → (steps number : ℕ) → IsBelowRootBy steps nodes number → IsBelowRootBy steps changed number
below_same nodes changed same steps number chain =
    below_kept nodes changed (λ _. Unit {0}) (λ m parent stays up. (same m ∙ up, tt)) steps number tt chain

-- A change of one directory's parent

-- a chain to the root that does not pass a directory below the root
unfoldable pub IsApartBy : ℕ → Nodes → ℕ → ℕ → Type 0
IsApartBy zero nodes apart number = number ≡ root
IsApartBy (suc steps) nodes apart number =
    (number ≢ apart) × ((parent : ℕ) × (parent_at nodes number ≡ Some parent) × IsApartBy steps nodes apart parent)

abbrev pub IsApart : Nodes → ℕ → ℕ → Type 0
IsApart nodes apart number = (steps : ℕ) × IsApartBy steps nodes apart number

apart_kept : (nodes changed : Nodes) (moved : ℕ) → ((number : ℕ) → number ≢ moved → parent_at changed number ≡ parent_at nodes number)
    → (steps number : ℕ) → IsApartBy steps nodes moved number → IsBelowRootBy steps changed number
unfolding IsApartBy
apart_kept nodes changed moved others zero number chain = at_root changed number chain
apart_kept nodes changed moved others (suc steps) number chain =
    below_more changed steps number chain.1.0 (others number chain.0 ∙ chain.1.1) (apart_kept nodes changed moved others steps chain.1.0 chain.1.2)

-- a directory that gets a parent whose own chain does not pass it hangs below the root
pub moved_hangs : (nodes changed : Nodes) (moved parent : ℕ) → parent_at changed moved ≡ Some parent
    → ((number : ℕ) → number ≢ moved → parent_at changed number ≡ parent_at nodes number)
    → IsApart nodes moved parent → IsBelowRoot changed moved
moved_hangs nodes changed moved parent up others apart =
    (suc apart.0, below_more changed apart.0 moved parent up (apart_kept nodes changed moved others apart.0 parent apart.1))

-- a directory gets a parent whose own chain does not pass it: every chain still reaches the root
pub below_moved : (nodes changed : Nodes) (moved parent : ℕ) → parent_at changed moved ≡ Some parent
    → ((number : ℕ) → number ≢ moved → parent_at changed number ≡ parent_at nodes number)
    → IsApart nodes moved parent
    → (steps number : ℕ) → IsBelowRootBy steps nodes number → IsBelowRoot changed number
below_moved nodes changed moved parent up others apart zero number chain = (zero, at_root changed number (below_none nodes number chain))
below_moved nodes changed moved parent up others apart (suc steps) number chain =
    elim (cases_eq number moved) [
      | inl here ↦ subst (λ n. IsBelowRoot changed n) (sym here) (moved_hangs nodes changed moved parent up others apart)
      | inr other ↦
          let step = below_parent nodes steps number chain in
          let rest = below_moved nodes changed moved parent up others apart steps step.0 step.2 in
          (suc rest.0, below_more changed rest.0 number step.0 (others number other ∙ step.1) rest.1)
    ]

-- The length of a chain: no longer than there are nodes

abbrev Leads : Nodes → ℕ → ℕ → Type 0
Leads nodes steps number = IsBelowRootBy steps nodes number

parent_without : (nodes : Nodes) (gone number : ℕ) → number ≢ gone → parent_at (remove nodes gone) number ≡ parent_at nodes number
parent_without nodes gone number other = ap (λ o. parent_of (in_inode listing_in o)) (get-remove_other nodes gone number other)

-- a chain either stands without a node, or passes it
passing : (nodes : Nodes) (gone steps number : ℕ) → Leads nodes steps number
    → Leads (remove nodes gone) steps number ⊎ ((fewer : ℕ) × (fewer ≤ steps) × Leads nodes fewer gone)
passing nodes gone zero number chain = inl (at_root (remove nodes gone) number (below_none nodes number chain))
passing nodes gone (suc steps) number chain =
    elim (cases_eq number gone) [
      | inl here ↦ inr (suc steps, omega arith, subst (λ n. Leads nodes (suc steps) n) here chain)
      | inr other ↦
          let step = below_parent nodes steps number chain in
          elim (passing nodes gone steps step.0 step.2) [
            | inl rest ↦ inl (below_more (remove nodes gone) steps number step.0 (parent_without nodes gone number other ∙ step.1) rest)
            | inr found ↦ inr (found.0, (let le : found.0 ≤ suc steps = omega (arith, found.1) in le), found.2)
          ]
    ]

-- a chain without a node is one with it
below_again : (nodes : Nodes) (gone steps number : ℕ) → Leads (remove nodes gone) steps number → Leads nodes steps number
below_again nodes gone steps number chain =
    below_kept (remove nodes gone) nodes (λ _. Unit {0}) (λ m parent stays up. (back m parent up (cases_eq m gone), tt)) steps number tt chain
  where
    back : (m parent : ℕ) → parent_at (remove nodes gone) m ≡ Some parent → ((m ≡ gone) ⊎ (m ≡ gone → ⊥)) → parent_at nodes m ≡ Some parent
    back m parent up (inl here) =
        let none : parent_at (remove nodes gone) m ≡ None =
        ap (λ n. parent_at (remove nodes gone) n) here ∙ ap (λ o. parent_of (in_inode listing_in o)) (get-remove_same nodes gone) in
        absurd (true≢false (ap is_some (sym up ∙ none)))
    back m parent up (inr other) = sym (parent_without nodes gone m other) ∙ up

lives : (nodes : Nodes) (number parent : ℕ) → parent_at nodes number ≡ Some parent → (inode : Inode) × (get nodes number ≡ Some inode)
lives nodes number parent up = go (get nodes number) refl up
  where
    go : (o : Option Inode) → get nodes number ≡ o → parent_of (in_inode listing_in o) ≡ Some parent → (inode : Inode) × (get nodes number ≡ Some inode)
    go None found e = absurd (true≢false (ap is_some (sym e)))
    go (Some i) found e = (i, found)

-- a node that lives counts as one
len_without : (nodes : Nodes) (number parent : ℕ) → parent_at nodes number ≡ Some parent → len nodes ≡ len (remove nodes number) + 1
len_without nodes number parent up =
    let live = lives nodes number parent up in
    ap len (put_back nodes number live.0 live.1) ∙ len-insert_new (remove nodes number) number live.0 (get-remove_same nodes number)

pub short_chain : (fuel steps : ℕ) (nodes : Nodes) (number : ℕ) → steps ≤ fuel → Leads nodes steps number → (fewer : ℕ) × (fewer ≤ len nodes) × Leads nodes fewer number
short_chain fuel zero nodes number le chain = (zero, omega arith, chain)
short_chain zero (suc steps) nodes number le chain = absurd (omega arith)
short_chain (suc fuel) (suc steps) nodes number le chain =
    let step = below_parent nodes steps number chain in
    let le' : steps ≤ fuel = omega arith in
    elim (passing nodes number steps step.0 step.2) [
      | inl rest ↦
          let short = short_chain fuel steps (remove nodes number) step.0 le' rest in
          let size : len nodes ≡ len (remove nodes number) + 1 = len_without nodes number step.0 step.1 in
          let short-le : short.0 ≤ len (remove nodes number) = short.1 in
          (suc short.0, (let l : suc short.0 ≤ len nodes = omega arith in l), below_more nodes short.0 number step.0 step.1 (below_again nodes number short.0 step.0 short.2))
      | inr found ↦
          let le'' : found.0 ≤ fuel = omega (arith, found.1) in
          short_chain fuel found.0 nodes number le'' found.2
    ]

-- What the test for a subtree says

-- where no directory within so many parents is `above`, the chain to the root does not pass it
not_below : (nodes : Nodes) (above : ℕ) (steps room number : ℕ) → steps ≤ room → is_below room nodes above number ≡ false → Leads nodes steps number → IsApart nodes above number
unfolding IsApartBy is_below
not_below nodes above zero room number le none chain = (zero, below_none nodes number chain)
not_below nodes above (suc steps) zero number le none chain = absurd (omega arith)
not_below nodes above (suc steps) (suc room) number le none chain =
    let le' : steps ≤ room = omega arith in
    let parts = or_parts (eqb number above) (not (eqb number root) && parent_passes (is_below room nodes above) (listing_at nodes number)) none in
    let step = below_parent nodes steps number chain in
    elim (and_cases (not (eqb number root)) (parent_passes (is_below room nodes above) (listing_at nodes number)) parts.1) [
      | inl at ↦ (zero, eqb-true number root (not-false (eqb number root) at))
      | inr fails ↦
          let rest = not_below nodes above steps room step.0 le' (passed (is_below room nodes above) (listing_at nodes number) step.0 step.1 fails) step.2 in
          (suc rest.0, (eqb-false number above parts.0, (step.0, step.1, rest.1)))
    ]
  where
    passed : (test : ℕ → Bool) (o : Option Listing) (parent : ℕ) → parent_of o ≡ Some parent → parent_passes test o ≡ false → test parent ≡ false
    passed test None parent up fails = absurd (true≢false (ap is_some (sym up)))
    passed test (Some listing) parent up fails = sym (ap (passes test) up) ∙ fails

-- a directory that hangs below the root, and lies in no subtree of another, hangs there apart from it
pub apart_from_subtree : (nodes : Nodes) (above number : ℕ) → is_in_subtree nodes above number ≡ false → IsBelowRoot nodes number → IsApart nodes above number
apart_from_subtree nodes above number none below =
    let short = short_chain below.0 below.0 nodes number (omega arith) below.1 in
    not_below nodes above short.0 (len nodes) number short.1 none short.2

-- Such a chain after another change

module _ (nodes changed : Nodes) (Stays : ℕ → Type 0) where
  pub apart_carried : ((number parent : ℕ) → Stays number → parent_at nodes number ≡ Some parent → (parent_at changed number ≡ Some parent) × Stays parent)
      → (apart steps number : ℕ) → Stays number → IsApartBy steps nodes apart number → IsApartBy steps changed apart number
  unfolding IsApartBy
  apart_carried keeps apart zero number stays chain = chain
  apart_carried keeps apart (suc steps) number stays chain =
      let kept = keeps number chain.1.0 stays chain.1.1 in
      (chain.0, (chain.1.0, kept.0, apart_carried keeps apart steps chain.1.0 kept.1 chain.1.2))

pub apart_itself : (nodes : Nodes) (apart steps number : ℕ) → apart ≢ root → IsApartBy steps nodes apart number → number ≢ apart
unfolding IsApartBy
apart_itself nodes apart zero number below chain is = below (sym is ∙ chain)
apart_itself nodes apart (suc steps) number below chain is = chain.0 is

-- a directory moves below one that lies outside its subtree: each directory that hung below the root still does
pub hangs_after_move : (nodes changed : Nodes) (moved parent : ℕ) → IsBelowRoot nodes parent → is_in_subtree nodes moved parent ≡ false → parent_at changed moved ≡ Some parent
    → ((number : ℕ) → number ≢ moved → parent_at changed number ≡ parent_at nodes number)
    → (number : ℕ) → IsBelowRoot nodes number → IsBelowRoot changed number
hangs_after_move nodes changed moved parent hangs outside up others number below =
    below_moved nodes changed moved parent up others (apart_from_subtree nodes moved parent outside hangs) below.0 number below.1
