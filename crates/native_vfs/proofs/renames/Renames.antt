-- The steps of a renaming on the table of nodes.
use Rattle.std.proofs.Common.{◌≡◌, ◌≤◌, ◌<◌, ◌+◌, ◌^◌, ℕ, true, false, cond, ℤ, List, Option, Some, None, refl, sym, ap, subst, ◌∙◌, arith, inl, inr}
use Rattle.std.specs.Prelude.{option_map}
use Rattle.std.proofs.lemmas.Bool.{cases_eq}
use Rattle.std.specs.FinMap.{get}
use Rattle.kernel_core.specs.NameCalls.{with_entry, without_entry, relisted, take_name, add_name, one_link_less, one_link_more, changed_at, reparented, move_parent}
use Rattle.kernel_core.specs.Nodes.{Nodes, Inode, is_directory, update}
use Rattle.file_system_laws.proofs.Lookups.{get-update_same, get-update_other}
use Rattle.native_vfs.specs.inside.Renames.{entry_moved, Becomes}
use Rattle.native_vfs.specs.inside.Steps.{IsAddition, links_in, links_at}
use Rattle.native_vfs.specs.inside.Stored.{Table, nodes_of, number_of_key, HasDistinctNumbers, IsStep}
use Rattle.native_vfs.proofs.tables.Tables.{number-kept, distinct-kept}

-- Links

links_mapped : (f : Inode → Inode) → ((i : Inode) → (f i).links ≡ i.links) → (o : Option Inode) → links_in (option_map f o) ≡ links_in o
links_mapped f same None = refl
links_mapped f same (Some i) = same i

links_kept : (nodes : Nodes) (n m : ℕ) (f : Inode → Inode) → ((i : Inode) → (f i).links ≡ i.links) → links_in (get (update nodes n f) m) ≡ links_in (get nodes m)
links_kept nodes n m f same = elim (cases_eq m n) [
  | inl here ↦ ap (λ k. links_in (get (update nodes n f) k)) here ∙ ap links_in (get-update_same nodes n f) ∙ links_mapped f same (get nodes n) ∙ ap (λ k. links_in (get nodes k)) (sym here)
  | inr other ↦ ap links_in (get-update_other nodes n f m other)
]

links_less : (nodes : Nodes) (n m : ℕ) → links_in (get (update nodes n one_link_less) m) ≤ links_in (get nodes m)
links_less nodes n m = elim (cases_eq m n) [
  | inl here ↦
      (let a = ap (λ k. links_in (get (update nodes n one_link_less) k)) here ∙ ap links_in (get-update_same nodes n one_link_less) in
      let b = fewer (get nodes n) in let c = ap (λ k. links_in (get nodes k)) here in omega (arith, a, b, c))
  | inr other ↦ (let a = ap links_in (get-update_other nodes n one_link_less m other) in omega (arith, a))
]
  where
    fewer : (o : Option Inode) → links_in (option_map one_link_less o) ≤ links_in o
    fewer None = omega arith
    fewer (Some i) = omega arith

-- One step after another

pub nothing-yet : (table : Table) → Becomes table table (nodes_of table)
nothing-yet table = record { nodes = refl; numbers = λ key. refl; references = λ h. h }

module _ (old mid : Table) (nodes : Nodes) (so_far : Becomes old mid nodes) where
  pub becomes-distinct : HasDistinctNumbers old → HasDistinctNumbers mid
  becomes-distinct = distinct-kept old mid so_far.numbers

  -- the links of the node at a key
  pub becomes-links : (key : ℕ) → links_at mid key ≡ links_in (get nodes (number_of_key old key))
  becomes-links key = ap (λ n. links_in (get (nodes_of mid) n)) (number-kept old mid so_far.numbers key) ∙ ap (λ m. links_in (get m (number_of_key old key))) so_far.nodes

  module _ (new : Table) where
    pub then-step : (key : ℕ) (change : Inode → Inode) → IsStep mid new key change → Becomes old new (update nodes (number_of_key old key) change)
    then-step key change step = record {
      nodes = step.nodes ∙ ap (λ n. update (nodes_of mid) n change) (number-kept old mid so_far.numbers key) ∙ ap (λ m. update m (number_of_key old key) change) so_far.nodes;
      numbers = λ other. step.numbers other ∙ so_far.numbers other;
      references = λ h. step.references (so_far.references h);
    }

    pub then-addition : (key : ℕ) (change : Inode → Inode) → IsAddition mid new key change → Becomes old new (update nodes (number_of_key old key) change)
    then-addition key change step = record {
      nodes = step.nodes ∙ ap (λ n. update (nodes_of mid) n change) (number-kept old mid so_far.numbers key) ∙ ap (λ m. update m (number_of_key old key) change) so_far.nodes;
      numbers = λ other. step.numbers other ∙ so_far.numbers other;
      references = λ h. step.references (so_far.references h);
    }

    pub then-parent : (moved from to : ℕ) → Becomes mid new (move_parent (nodes_of mid) (number_of_key mid moved) (number_of_key mid from) (number_of_key mid to))
        → Becomes old new (move_parent nodes (number_of_key old moved) (number_of_key old from) (number_of_key old to))
    then-parent moved from to step = record {
      nodes = step.nodes
          ∙ ap (λ n. move_parent (nodes_of mid) n (number_of_key mid from) (number_of_key mid to)) (number-kept old mid so_far.numbers moved)
          ∙ ap (λ n. move_parent (nodes_of mid) (number_of_key old moved) n (number_of_key mid to)) (number-kept old mid so_far.numbers from)
          ∙ ap (λ n. move_parent (nodes_of mid) (number_of_key old moved) (number_of_key old from) n) (number-kept old mid so_far.numbers to)
          ∙ ap (λ m. move_parent m (number_of_key old moved) (number_of_key old from) (number_of_key old to)) so_far.nodes;
      numbers = λ other. step.numbers other ∙ so_far.numbers other;
      references = λ h. step.references (so_far.references h);
    }

-- A directory's new parent

module _ (old one two : Table) (from to : ℕ) (less : IsStep old one from one_link_less) (more : IsStep one two to one_link_more) where
  first : Becomes old one (update (nodes_of old) (number_of_key old from) one_link_less)
  first = then-step old old (nodes_of old) (nothing-yet old) one from one_link_less less

  second : Becomes old two (update (update (nodes_of old) (number_of_key old from) one_link_less) (number_of_key old to) one_link_more)
  second = then-step old one _ first two to one_link_more more

  pub linked-distinct : HasDistinctNumbers old → HasDistinctNumbers two
  linked-distinct = becomes-distinct old two _ second

  pub parent-becomes : (new : Table) (moved parent : ℕ) → IsStep two new moved (reparented parent) → parent ≡ number_of_key old to → is_directory (nodes_of old) (number_of_key old moved) ≡ true
      → Becomes old new (move_parent (nodes_of old) (number_of_key old moved) (number_of_key old from) (number_of_key old to))
  parent-becomes new moved parent step same kind =
      let third = then-step old two _ second new moved (reparented parent) step in
      let lasts = update (update (nodes_of old) (number_of_key old from) one_link_less) (number_of_key old to) one_link_more in
      record {
        nodes = third.nodes ∙ ap (λ p. update lasts (number_of_key old moved) (reparented p)) same
            ∙ sym (ap (λ b. cond b (update lasts (number_of_key old moved) (reparented (number_of_key old to))) (nodes_of old)) kind);
        numbers = third.numbers;
        references = third.references;
      }

pub parent-few : (old one : Table) (from to : ℕ) → IsStep old one from one_link_less → links_at old to + 1 < 2 ^ 32 → links_at one to + 1 < 2 ^ 32
parent-few old one from to less few =
    let step = then-step old old (nodes_of old) (nothing-yet old) one from one_link_less less in
    let a = becomes-links old one _ step to in
    let b = links_less (nodes_of old) (number_of_key old from) (number_of_key old to) in
    omega (arith, a, b, few)

-- what is no directory keeps its parent
pub parent-none : (old : Table) (moved from to : ℕ) → is_directory (nodes_of old) (number_of_key old moved) ≡ false
    → Becomes old old (move_parent (nodes_of old) (number_of_key old moved) (number_of_key old from) (number_of_key old to))
parent-none old moved from to plain = record {
  nodes = sym (ap (λ b. cond b (update (update (update (nodes_of old) (number_of_key old from) one_link_less) (number_of_key old to) one_link_more) (number_of_key old moved)
      (reparented (number_of_key old to))) (nodes_of old)) plain);
  numbers = λ key. refl;
  references = λ h. h;
}

-- The name moves

-- an addition at a time that is shown in another way
pub addition-at : (old new : Table) (key : ℕ) (change : ℤ → Inode → Inode) (shown now : ℤ) → shown ≡ now → IsAddition old new key (change shown) → IsAddition old new key (change now)
addition-at old new key change shown now same step = subst (λ time. IsAddition old new key (change time)) same step

pub name-distinct : (old new : Table) (key : ℕ) (change : Inode → Inode) → IsStep old new key change → HasDistinctNumbers old → HasDistinctNumbers new
name-distinct old new key change step = distinct-kept old new step.numbers

module _ (old one two : Table) (from moved to : ℕ) (name shown new : List ℕ) (number : ℕ) (now : ℤ)
    (same_name : shown ≡ name) (same_number : number ≡ number_of_key old moved)
    (take : IsStep old one from (relisted now (without_entry shown))) (add : IsAddition one two to (relisted now (with_entry new number))) where
  name_taken : Becomes old one (take_name (nodes_of old) (number_of_key old from) name now)
  name_taken = subst (λ (n : List ℕ). Becomes old one (take_name (nodes_of old) (number_of_key old from) n now)) same_name
      (then-step old old (nodes_of old) (nothing-yet old) one from (relisted now (without_entry shown)) take)

  name_added : Becomes old two (add_name (take_name (nodes_of old) (number_of_key old from) name now) (number_of_key old to) new (number_of_key old moved) now)
  name_added = subst (λ (n : ℕ). Becomes old two (add_name (take_name (nodes_of old) (number_of_key old from) name now) (number_of_key old to) new n now)) same_number
      (then-addition old one _ name_taken two to (relisted now (with_entry new number)) add)

  pub added-distinct : HasDistinctNumbers old → HasDistinctNumbers two
  added-distinct = becomes-distinct old two _ name_added

  -- names count no links
  pub added-links : (key : ℕ) → links_at two key ≡ links_at old key
  added-links key =
      becomes-links old two _ name_added key
      ∙ links_kept (take_name (nodes_of old) (number_of_key old from) name now) (number_of_key old to) (number_of_key old key)
      (relisted now (with_entry new (number_of_key old moved))) (λ i. refl)
      ∙ links_kept (nodes_of old) (number_of_key old from) (number_of_key old key) (relisted now (without_entry name)) (λ i. refl)

  module _ (three : Table) (parent : Becomes two three (move_parent (nodes_of two) (number_of_key two moved) (number_of_key two from) (number_of_key two to))) where
    parent_given : Becomes old three
        (move_parent (add_name (take_name (nodes_of old) (number_of_key old from) name now) (number_of_key old to) new (number_of_key old moved) now)
        (number_of_key old moved) (number_of_key old from) (number_of_key old to))
    parent_given = then-parent old two _ name_added three moved from to parent

    pub parent-distinct : HasDistinctNumbers old → HasDistinctNumbers three
    parent-distinct = becomes-distinct old three _ parent_given

    pub entry-moved : (last : Table) → IsStep three last moved (changed_at now)
        → Becomes old last (entry_moved (nodes_of old) (number_of_key old from) name (number_of_key old moved) (number_of_key old to) new now)
    entry-moved last mark = then-step old three _ parent_given last moved (changed_at now) mark
