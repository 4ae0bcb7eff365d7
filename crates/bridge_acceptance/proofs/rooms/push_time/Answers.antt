-- The set stays before the time.
use Rattle.std.proofs.Common.{◌≡◌, ℤ, ap, ◌∙◌, to_z, of_z, arith}
use Rattle.std.proofs.lemmas.Int.{ints}
use mir.Syntax.{w64}
use Rattle.bridge_acceptance.proofs.HostRooms.{first_there, time_pushed, told}
use Rattle.bridge_acceptance.proofs.rooms.push_time.Goals as goal

pub returns-clause-before : goal.returns-clause-before
returns-clause-before c = first_there c.push.new.self c.args.mem.now c.native_time-native.result c.requires c.in_ok-place.ensures.ok

pub returns-clause-time : goal.returns-clause-time
returns-clause-time c =
    let seconds : to_z w64 (of_z w64 c.args.time.seconds) ≡ c.args.time.seconds = omega (arith, ints) in
    let nanoseconds : to_z w64 (of_z w64 c.args.time.nanoseconds) ≡ c.args.time.nanoseconds = omega (arith, ints) in
    time_pushed c.push.new.self c.args.mem.now c.native_time-native.result c.in_ok-place.place (told c.args.time.seconds c.args.time.nanoseconds) c.requires c.native_time-native.ensures.sized
    c.in_ok-place.ensures.ok c.in_ok-place.ensures.address
    (c.native_time-native.ensures.time
    ∙ ap (λ (z : ℤ). told z (to_z w64 (of_z w64 c.args.time.nanoseconds))) seconds
    ∙ ap (told c.args.time.seconds) nanoseconds)
