use Rattle.std.proofs.Common.{◌≡◌, ◌+◌, ◌≤◌, length}
use Rattle.elf_image.specs.inside.Taken.{AreApart}
use Rattle.elf_image.proofs.Counting.{Near, pages_from}
use Rattle.elf_image.proofs.taken.page_count.Given as goal

-- the pages counted so far and those from the next on are all of them
abbrev pub invariant-loop-start : goal.invariant-loop-start
invariant-loop-start l = record {
  apart : AreApart l.taken.entries;
  near : Near l.next l.taken.entries;
  sum : l.count + pages_from l.next l.taken.entries ≡ pages_from 0 l.fn.taken.entries;
  bound : l.count + pages_from l.next l.taken.entries ≤ 1048576;
}

abbrev pub decreases-loop-start : goal.decreases-loop-start
decreases-loop-start l = length l.taken.entries
