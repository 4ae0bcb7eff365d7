-- What was read is what is pushed.
use Rattle.std.proofs.Common.{◌≡◌, ◌∙◌, ℕ, List, Ok, Some, IfOk, true, ap, subst, sym, to_z, of_z, arith}
use Rattle.std.proofs.lemmas.Int.{ints}
use Rattle.std.proofs.lemmas.List.{drop-drop}
use mir.Syntax.{w64}
use Rattle.kernel_model.specs.Clock.{TimerSetting}
use Rattle.layouts.specs.Number.{unsigned, value_of}
use Rattle.native_calls.specs.Clocks.{setting_at}
use Rattle.native_calls.specs.HostBytes.{unless_null}
use Rattle.bridge_timer.proofs.HostSettings.{told}
use Rattle.bridge_timer.proofs.settings.push_read.Goals as goal

pub returns : goal.returns
returns c =
    let one : to_z w64 (of_z w64 c.signed_word_at-period_seconds.result) ≡ c.signed_word_at-period_seconds.result = omega (arith, ints) in
    let two : to_z w64 (of_z w64 c.signed_word_at-period_part.result) ≡ c.signed_word_at-period_part.result = omega (arith, ints) in
    let three : to_z w64 (of_z w64 c.signed_word_at-value_seconds.result) ≡ c.signed_word_at-value_seconds.result = omega (arith, ints) in
    let four : to_z w64 (of_z w64 c.signed_word_at-value_part.result) ≡ c.signed_word_at-value_part.result = omega (arith, ints) in
    let first = one ∙ c.signed_word_at-period_seconds.ensures in
    let second = two ∙ c.signed_word_at-period_part.ensures in
    let third = three ∙ c.signed_word_at-value_seconds.ensures in
    let fourth = four ∙ c.signed_word_at-value_part.ensures ∙ ap (λ (l : List ℕ). value_of true 4 (unsigned true 4 l)) (sym (drop-drop 4 8 c.args.bytes.now)) in
    subst (λ (t : TimerSetting). IfOk c.push_setting.result (λ place. unless_null place (setting_at c.push_setting.new.mem place) ≡ Some (Ok t)))
    (λ i. told (first i) (second i) (third i) (fourth i))
    c.push_setting.ensures
