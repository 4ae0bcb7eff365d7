-- The kept blocks of a file one after another, by rising index. (This project's own.)
use Rattle.std.specs.Prelude.{◌≡◌, ℕ, ◌<◌, ◌≤◌, List, Some, None}
use Rattle.std.specs.FinMap.{get}
use Rattle.kernel_core.specs.FileContent.{Blocks}

-- no block from an index on is kept
abbrev pub NoneFrom : Blocks → ℕ → Type 0
NoneFrom blocks from = (index : ℕ) → from ≤ index → get blocks index ≡ None

-- the kept block of the least index that is not below `from`
pub record IsFirstFrom (blocks : Blocks) (from : ℕ) (index : ℕ) (block : List ℕ) : Type 0 where
  pub from_there : from ≤ index
  pub kept : get blocks index ≡ Some block
  pub none_before : (other : ℕ) → from ≤ other → other < index → get blocks other ≡ None
