use Rattle.std.proofs.Common.{◌≡◌, true, drop, length}
use Rattle.std.specs.Prelude.{replicate}
use Rattle.layouts.specs.Shape.{with_values, are_in_range}
use Rattle.layouts.proofs.record.write_values.Given as goal

-- the fields that are left give the whole record
abbrev pub invariant-loop-place : goal.invariant-loop-place
invariant-loop-place l =
    (with_values l.layout.big (drop l.place l.layout.fields.now) (drop l.place l.values) l.bytes
    ≡ with_values l.layout.big l.layout.fields.now l.values (replicate l.layout.size 0))
    × (are_in_range (drop l.place l.layout.fields.now) (drop l.place l.values) ≡ true)
    × (length l.bytes ≡ l.layout.size)
