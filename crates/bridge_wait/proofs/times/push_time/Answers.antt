use Rattle.std.proofs.Common.{◌≡◌, List, ℕ, ℤ, ◌++◌, ap, ◌∙◌, to_z, of_z, arith}
use Rattle.std.proofs.lemmas.Int.{ints}
use mir.Syntax.{w64}
use Rattle.host_mem.specs.Memory.{end_address, padded}
use Rattle.bridge_wait.proofs.HostTimes.{time_pushed, told}
use Rattle.bridge_wait.proofs.times.push_time.Goals as goal

pub returns : goal.returns
returns c =
    let seconds : to_z w64 (of_z w64 c.args.seconds) ≡ c.args.seconds = omega (arith, ints) in
    let nanoseconds : to_z w64 (of_z w64 c.args.nanoseconds) ≡ c.args.nanoseconds = omega (arith, ints) in
    time_pushed c.push.new.self c.native_time-native.result c.in_ok-place.place (told c.args.seconds c.args.nanoseconds) c.native_time-native.ensures.sized
    (c.in_ok-place.ensures.ok ∙ ap (λ (m : List ℕ). padded m ++ c.native_time-native.result) c.requires)
    (c.in_ok-place.ensures.address ∙ ap (λ (m : List ℕ). end_address (padded m)) c.requires)
    (c.native_time-native.ensures.time
    ∙ ap (λ (z : ℤ). told z (to_z w64 (of_z w64 c.args.nanoseconds))) seconds
    ∙ ap (told c.args.seconds) nanoseconds)
