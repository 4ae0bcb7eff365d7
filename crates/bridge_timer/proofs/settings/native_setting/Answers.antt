use Rattle.std.proofs.Common.{◌≡◌, ◌∙◌, [], ◌∷◌, to_z, of_z, arith}
use Rattle.std.proofs.lemmas.Int.{ints}
use mir.Syntax.{w64, w128}
use Rattle.bridge_timer.proofs.HostSettings.{setting_written}
use Rattle.bridge_timer.proofs.settings.native_setting.Goals as goal

pub returns-clause-setting : goal.returns-clause-setting
returns-clause-setting c =
    let one : to_z w64 (of_z w64 c.args.period_seconds) ≡ c.args.period_seconds = omega (arith, ints) in
    let two : to_z w64 (of_z w64 c.args.period_part) ≡ c.args.period_part = omega (arith, ints) in
    let three : to_z w64 (of_z w64 c.args.value_seconds) ≡ c.args.value_seconds = omega (arith, ints) in
    let four : to_z w64 (of_z w64 c.args.value_part) ≡ c.args.value_part = omega (arith, ints) in
    let first : to_z w128 (of_z w128 c.from.result) ≡ c.from.result = omega (arith, ints) in
    let second : to_z w128 (of_z w128 c.from-2.result) ≡ c.from-2.result = omega (arith, ints) in
    let third : to_z w128 (of_z w128 c.from-3.result) ≡ c.from-3.result = omega (arith, ints) in
    let fourth : to_z w128 (of_z w128 c.from-4.result) ≡ c.from-4.result = omega (arith, ints) in
    let first_is = first ∙ c.from.ensures ∙ one in
    let second_is = second ∙ c.from-2.ensures ∙ two in
    let third_is = third ∙ c.from-3.ensures ∙ three in
    let fourth_is = fourth ∙ c.from-4.ensures ∙ four in
    setting_written _ _ c.put_record.new.bytes _ c.args.period_seconds c.args.period_part c.args.value_seconds c.args.value_part c.native_layout.ensures.table c.native_layout.ensures.sound
    (λ i. first_is i ∷ second_is i ∷ third_is i ∷ fourth_is i ∷ [])
    c.ranges.period_seconds.sfits c.ranges.period_part.sfits c.ranges.value_seconds.sfits c.ranges.value_part.sfits c.a_record_reads_back.ensures c.put_record.ensures.bytes
