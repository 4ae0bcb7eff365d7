use Rattle.std.proofs.Common.{◌≡◌, ◌∙◌, to_z, of_z, arith}
use Rattle.std.proofs.lemmas.Int.{ints}
use mir.Syntax.{w64, w128}
use Rattle.bridge_acceptance.proofs.HostRooms.{time_written}
use Rattle.bridge_acceptance.proofs.rooms.native_time.Goals as goal

pub returns-clause-time : goal.returns-clause-time
returns-clause-time c =
    let seconds : to_z w64 (of_z w64 c.args.seconds) ≡ c.args.seconds = omega (arith, ints) in
    let nanoseconds : to_z w64 (of_z w64 c.args.nanoseconds) ≡ c.args.nanoseconds = omega (arith, ints) in
    let first : to_z w128 (of_z w128 c.from.result) ≡ c.from.result = omega (arith, ints) in
    let second : to_z w128 (of_z w128 c.from-2.result) ≡ c.from-2.result = omega (arith, ints) in
    time_written _ _ c.put_record.new.bytes _ _ c.args.seconds c.args.nanoseconds c.native_layout.ensures.table c.native_layout.ensures.sound
    (first ∙ c.from.ensures ∙ seconds) (second ∙ c.from-2.ensures ∙ nanoseconds) c.ranges.seconds.sfits c.ranges.nanoseconds.sfits c.a_record_reads_back.ensures c.put_record.ensures.bytes
