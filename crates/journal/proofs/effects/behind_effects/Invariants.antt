use Rattle.std.proofs.Common.{◌≡◌, ◌-◌}
use Rattle.journal.specs.Reading.{effect_at, many}
use Rattle.journal.specs.inside.Reads.{behind}
use Rattle.journal.proofs.effects.behind_effects.Given as goal

-- what stands behind those that are left stands behind all
abbrev pub invariant-loop : goal.invariant-loop
invariant-loop l = behind (many effect_at (l.count - l.counter) l.file l.left) ≡ behind (many effect_at l.count l.file l.rest)
