use Rattle.std.proofs.Common.{◌≡◌, ◌++◌, length, IsTrue}
use Rattle.std.specs.List.{list_all}
use Rattle.schedule.specs.Text.{bytes_of, is_hexadecimal}
use Rattle.schedule.proofs.statement.bytes_of.Given as goal

-- the bytes so far, and those of the digits that are left, which are all hexadecimal
abbrev pub invariant-loop-left : goal.invariant-loop-left
invariant-loop-left l = (l.bytes.items ++ bytes_of l.left ≡ bytes_of l.fn.digits) × IsTrue (list_all is_hexadecimal l.left)

abbrev pub decreases-loop-left : goal.decreases-loop-left
decreases-loop-left l = length l.left
