-- A count that rose in a part of a call rose in the whole of it.
use Rattle.std.proofs.Common.{ℕ, ◌≤◌, arith}
use Rattle.outside.specs.Count.{Rose}

-- it rose, and did not fall after that
pub Rose-then-later : (before middle now : ℕ) → Rose before middle → middle ≤ now → Rose before now
Rose-then-later before middle now rose later = omega arith

-- it did not fall, and rose after that
pub later-then-Rose : (before middle now : ℕ) → before ≤ middle → Rose middle now → Rose before now
later-then-Rose before middle now later rose = omega arith
