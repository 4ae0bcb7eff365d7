-- Which answer a call gives, and what it leaves.
use Rattle.std.specs.Prelude.{◌≡◌, ◌⊎◌, ◌≤◌, ℕ, ⊤, true, List, [], take, Option, Some, None, Result, Ok, Err, Bool}
use Rattle.std.specs.FinMap.{get, insert}
use Rattle.kernel_core.specs.FileContent.{written}
use Rattle.kernel_core.specs.NameCalls.{IsNewNumber}
use Rattle.kernel_core.specs.NodeCalls.{with_content}
use Rattle.kernel_core.specs.Nodes.{Nodes, update, is_directory}
use Rattle.kernel_core.specs.PathWalk.{Walks, begins_with_slash}
use Rattle.kernel_core.specs.declared.error.Errno.{Errno}
use Rattle.kernel_core.specs.declared.core_error.CoreError.{CoreError}
use Rattle.kernel_core.specs.declared.core_error.CoreError.TheVariants.{Refused, Stop}
use Rattle.kernel_core.specs.declared.core_error.Stop.TheVariants.{NoMemory, ReadFault, WriteFault}
use Rattle.native_vfs.specs.Keyed.{Keyed, place_at, AgreesAt, IsLiveKey, number_at}
use Rattle.native_vfs.specs.declared.place.Place.{Place as KeyedPlace}

-- A call is refused exactly where there is a reason, and with it. Memory runs out only where there is none.
abbrev pub IsAnswer : {A : Type 0} → Option Errno → Result A CoreError → Type 0
IsAnswer refusal (Ok _) = refusal ≡ None
IsAnswer refusal (Err (Refused error)) = refusal ≡ Some error
IsAnswer refusal (Err (Stop NoMemory)) = refusal ≡ None
IsAnswer refusal (Err (Stop ReadFault)) = ⊥
IsAnswer refusal (Err (Stop WriteFault)) = ⊥

-- The same of a call that takes no memory: it is refused exactly where there is a reason, and nothing else ends it.
abbrev pub IsSureAnswer : {A : Type 0} → Option Errno → Result A CoreError → Type 0
IsSureAnswer refusal (Ok _) = refusal ≡ None
IsSureAnswer refusal (Err (Refused error)) = refusal ≡ Some error
IsSureAnswer refusal (Err (Stop stop)) = ⊥

-- Where a walk may start: at a live directory, also a removed one, or, by a path that is empty or begins with a slash, anywhere.
abbrev pub MayStart : Keyed → ℕ → List ℕ → Type 0
MayStart system from path =
    (begins_with_slash path ≡ true) ⊎ ((path ≡ []) ⊎ (IsLiveKey system from × is_directory system.nodes (number_at system from) ≡ true))

-- What the walk of a path answers: the place or the error that the walk ends with. The place agrees with the file system.
abbrev pub IsWalked : Keyed → ℕ → List ℕ → Bool → Result KeyedPlace CoreError → Type 0
IsWalked system from path follow (Ok place) = AgreesAt system place × Walks system.nodes from path follow (Ok (place_at system place))
IsWalked system from path follow (Err (Refused error)) = Walks system.nodes from path follow (Err error)
IsWalked system from path follow (Err (Stop NoMemory)) = ⊤
IsWalked system from path follow (Err (Stop ReadFault)) = ⊥
IsWalked system from path follow (Err (Stop WriteFault)) = ⊥

-- A call makes a node: it gets the least free number and a key that stood for none, and the other keys stay.
pub record Makes (old new : Keyed) (key : ℕ) (after : ℕ → Nodes) : Type 0 where
  pub number : ℕ
  pub least : IsNewNumber old.nodes number
  pub nodes : new.nodes ≡ after number
  pub fresh : get old.keys key ≡ None
  pub keys : new.keys ≡ insert old.keys key number

-- the node of a place, where there is one
abbrev pub with_node : Option ℕ → Nodes → (ℕ → Nodes) → Nodes
with_node None nodes after = nodes
with_node (Some node) nodes after = after node

-- After a refusal nothing has changed. After want of memory a first part of the bytes may be written, and the times are as they
-- were.
abbrev pub LeavesWritten : CoreError → Keyed → Keyed → ℕ → ℕ → List ℕ → ℕ → Type 0
LeavesWritten (Refused error) old new number at bytes most = new ≡ old
LeavesWritten (Stop stop) old new number at bytes most =
    (k : ℕ) × (k ≤ most)
    × (new ≡ record old { nodes = update old.nodes number (λ i. record i { content = with_content (λ c. written c at (take k bytes)) i.content }) })
