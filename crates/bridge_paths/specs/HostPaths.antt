-- What stands in host memory. (The form is this project's own.)
use Rattle.std.specs.Prelude.{◌≡◌, ℕ, ◌-◌, ◌≤◌, List, ◌∷◌, ◌++◌, drop, replicate}
use Rattle.host_mem.specs.Memory.{end_address, first_address}

-- a path stands from an address on, and a NUL behind it
pub record HasPath (memory : List ℕ) (address : ℕ) (path : List ℕ) : Type 0 where
  pub from : first_address ≤ address
  pub behind : List ℕ
  pub stands : drop (address - first_address) memory ≡ path ++ 0 ∷ behind

-- memory ends with so many zeros, from an address on
pub record HasRoom (memory : List ℕ) (address room : ℕ) : Type 0 where
  pub front : List ℕ
  pub stands : memory ≡ front ++ replicate room 0
  pub from : address ≡ end_address front

-- memory begins with these bytes
pub record BeginsWith (front memory : List ℕ) : Type 0 where
  pub rest : List ℕ
  pub stands : memory ≡ front ++ rest
