use Rattle.std.proofs.Common.{◌≡◌, ℕ, ◌<◌, get_or, pos}
use Rattle.layouts.specs.Number.{field_at, field_value}
use Rattle.layouts.proofs.record.get_record.Given as goal

-- the fields so far are read
abbrev pub invariant-loop-place : goal.invariant-loop-place
invariant-loop-place l =
    (k : ℕ) → k < l.place → get_or l.values k (pos 0) ≡ field_value l.layout.big (field_at l.layout.fields.now k) l.bytes
