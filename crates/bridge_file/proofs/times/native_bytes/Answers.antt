-- Each time is in the range of its field, and is read back.
use Rattle.std.specs.Prelude.{FitsSigned, ℤ, List, [], ◌∷◌}
use Rattle.std.specs.Int.{w64}
use Rattle.std.proofs.Common.{rules, ◌∙◌, ap, replicate}
use Rattle.layouts.specs.Shape.{Shape, after_put_record}
use Rattle.native_calls.specs.Nodes.{times_in}
use Rattle.bridge_file.proofs.TimeRows.{both_written, passed, times_again}
use Rattle.bridge_file.proofs.times.native_bytes.Goals as goal

pub returns-clause-bytes : goal.returns-clause-bytes
returns-clause-bytes c =
    let one : FitsSigned w64 c.args.times.access.seconds = search rules in
    let two : FitsSigned w64 c.args.times.access.nanoseconds = search rules in
    let three : FitsSigned w64 c.args.times.modified.seconds = search rules in
    let four : FitsSigned w64 c.args.times.modified.nanoseconds = search rules in
    let values : List ℤ = passed c.from.result ∷ passed c.from-2.result ∷ passed c.from-3.result ∷ passed c.from-4.result ∷ [] in
    both_written c.args.times c.from.result c.from-2.result c.from-3.result c.from-4.result c.put_record.new.bytes one two three four c.from.ensures c.from-2.ensures c.from-3.ensures c.from-4.ensures
    (c.put_record.ensures.bytes ∙ ap (λ (s : Shape). after_put_record s values (replicate 32 0)) c.native_layout.ensures.table)

pub returns-clause-times : goal.returns-clause-times
returns-clause-times c =
    let one : FitsSigned w64 c.args.times.access.seconds = search rules in
    let two : FitsSigned w64 c.args.times.access.nanoseconds = search rules in
    let three : FitsSigned w64 c.args.times.modified.seconds = search rules in
    let four : FitsSigned w64 c.args.times.modified.nanoseconds = search rules in
    let values : List ℤ = passed c.from.result ∷ passed c.from-2.result ∷ passed c.from-3.result ∷ passed c.from-4.result ∷ [] in
    ap times_in
    (both_written c.args.times c.from.result c.from-2.result c.from-3.result c.from-4.result c.put_record.new.bytes one two three four c.from.ensures c.from-2.ensures c.from-3.ensures c.from-4.ensures
    (c.put_record.ensures.bytes ∙ ap (λ (s : Shape). after_put_record s values (replicate 32 0)) c.native_layout.ensures.table))
    ∙ times_again c.args.times one two three four
