use Rattle.std.proofs.Common.{◌≡◌, List, ℕ, ◌++◌, ap, ◌∙◌, to_z, of_z, arith}
use Rattle.std.proofs.lemmas.Int.{ints}
use mir.Syntax.{w64}
use Rattle.host_mem.specs.Memory.{end_address, padded}
use Rattle.bridge_timer.proofs.HostSettings.{setting_pushed, told}
use Rattle.bridge_timer.proofs.settings.push_setting.Goals as goal

pub returns : goal.returns
returns c =
    let one : to_z w64 (of_z w64 c.args.period_seconds) ≡ c.args.period_seconds = omega (arith, ints) in
    let two : to_z w64 (of_z w64 c.args.period_part) ≡ c.args.period_part = omega (arith, ints) in
    let three : to_z w64 (of_z w64 c.args.value_seconds) ≡ c.args.value_seconds = omega (arith, ints) in
    let four : to_z w64 (of_z w64 c.args.value_part) ≡ c.args.value_part = omega (arith, ints) in
    setting_pushed c.push.new.self c.native_setting-native.result c.in_ok-place.place (told c.args.period_seconds c.args.period_part c.args.value_seconds c.args.value_part) c.native_setting-native.ensures.sized
    (c.in_ok-place.ensures.ok ∙ ap (λ (m : List ℕ). padded m ++ c.native_setting-native.result) c.requires)
    (c.in_ok-place.ensures.address ∙ ap (λ (m : List ℕ). end_address (padded m)) c.requires)
    (c.native_setting-native.ensures.setting ∙ (λ i. told (one i) (two i) (three i) (four i)))
