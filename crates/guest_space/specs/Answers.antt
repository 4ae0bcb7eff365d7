-- Which answer a call that writes may give, and what it leaves after one that is not success.
use Rattle.std.specs.Prelude.{◌≡◌, ◌≤◌, ◌<◌, ℕ, Bool, false, List, length, take, Option, Some, None, Result, Ok, Err}
use Rattle.guest_space.specs.declared.access.StoreError.{StoreError}
use Rattle.guest_space.specs.declared.access.StoreError.TheVariants as store
use Rattle.guest_space.specs.declared.access.MapError.{MapError}
use Rattle.guest_space.specs.declared.access.MapError.TheVariants.{Full, NoPlace, NoMemory}
use Rattle.guest_space.specs.Access.{Denied}
use Rattle.guest_space.specs.Memory.{Memory}
use Rattle.guest_space.specs.Bytes.{copied_out}
use Rattle.guest_space.specs.Mapping.{with_zeros}

-- Success exactly where no byte is denied, unless memory runs out. A denial names the first denied
-- byte. Memory runs out only where no byte is denied and some byte's page is not ready.
abbrev pub IsStoreAnswer : Option Denied → Bool → Result Unit StoreError → Type 0
IsStoreAnswer denied ready (Ok _) = denied ≡ None
IsStoreAnswer denied ready (Err (store.Denied d)) = denied ≡ Some d
IsStoreAnswer denied ready (Err store.NoMemory) = (denied ≡ None) × (ready ≡ false)

-- A denial changes nothing; after want of memory a first part of the bytes is written.
abbrev pub LeavesPrefix : StoreError → Memory → Memory → ℕ → List ℕ → Type 0
LeavesPrefix (store.Denied d) before after address bytes = after ≡ before
LeavesPrefix store.NoMemory before after address bytes =
    (k : ℕ) × (k ≤ length bytes) × (after ≡ copied_out before address (take k bytes))

-- Full changes nothing; NoPlace never comes; after want of memory a first part of the pages was mapped.
abbrev pub LeavesMapped : MapError → Memory → Memory → ℕ → ℕ → ℕ → Type 0
LeavesMapped Full before after first count protection = after ≡ before
LeavesMapped NoPlace before after first count protection = ⊥
LeavesMapped NoMemory before after first count protection =
    (k : ℕ) × (k < count) × (after ≡ record before { pages = with_zeros before.pages first k protection })
