-- What the walk over a tree keeps: how often each number is named, and which numbers were not reached yet.
use Rattle.std.specs.Prelude.{◌≡◌, ℕ, ◌+◌, ◌≤◌, ◌⊎◌, ◌==◌, ◌&&◌, Bool, true, false, not, List, length, Contains, unwrap_or, nat_eq}
use Rattle.std.specs.HashMap as map
use Rattle.std.specs.HashSet as set
use Rattle.kernel_core.specs.declared.tree.Node.{Node}
use Rattle.kernel_core.specs.declared.tree.DirEntry.{DirEntry}
use Rattle.kernel_core.specs.ValidTree.{names_in}
use Rattle.fs_image.specs.Naming.{is_reached}

-- how often a number is named, by a map of counts
abbrev pub count_of : {S : Type 0} → map.HashMap ℕ ℕ S → ℕ → ℕ
count_of counts number = unwrap_or (map.get nat_eq counts number) 0

abbrev pub is_in : {S : Type 0} → set.HashSet ℕ S → ℕ → Bool
is_in numbers number = set.contains nat_eq numbers number

-- the numbers that entries name are taken out of a set, and those that were in it wait on a stack
pub record Spreads {S : Type 0} (entries : List DirEntry) (old : set.HashSet ℕ S) (stack : List ℕ) (new : set.HashSet ℕ S) (stack' : List ℕ) : Type 0 where
  pub taken : (q : ℕ) → is_in new q ≡ (is_in old q && (names_in entries q == 0))
  pub waits : (q : ℕ) → is_in old q ≡ true → is_in new q ≡ false → Contains stack' q
  pub kept : (q : ℕ) → Contains stack q → Contains stack' q
  pub only : (q : ℕ) → Contains stack' q → Contains stack q ⊎ (1 ≤ names_in entries q)
  pub measure : set.hash_set_len new + length stack' ≡ set.hash_set_len old + length stack

-- a set has, of the nodes' numbers, those that are not reached
abbrev pub AreUnreached : {S : Type 0} → List Node → set.HashSet ℕ S → Type 0
AreUnreached nodes numbers = (n : Node) → Contains nodes n → is_reached nodes n.number ≡ not (is_in numbers n.number)
