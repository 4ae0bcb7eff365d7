use Rattle.std.proofs.Common.{◌≡◌, [], map, take}
use Rattle.elf_image.specs.inside.Taken.{AreApart, SameSpans}
use Rattle.elf_image.specs.Fields.{span_of}
use Rattle.elf_image.specs.Rules.{first_broken, loads_rules}
use Rattle.elf_image.proofs.Judging.{rules_from}
use Rattle.elf_image.proofs.rules.taken_by.Given as goal

-- what is taken is what the headers so far ask for, and the headers from here on decide
abbrev pub invariant-loop-load : goal.invariant-loop-load
invariant-loop-load l = record {
  apart : AreApart l.taken.entries;
  same : SameSpans (map span_of (take l.load-index l.loads)) l.taken.entries;
  decides : first_broken (rules_from l.size l.loads l.load-index) ≡ first_broken (loads_rules l.size [] l.loads);
}
