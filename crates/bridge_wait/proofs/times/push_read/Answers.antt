-- What was read is what is pushed.
use Rattle.std.proofs.Common.{◌≡◌, ◌∙◌, ℤ, Ok, IfOk, ap, subst, to_z, of_z, arith}
use Rattle.std.proofs.lemmas.Int.{ints}
use mir.Syntax.{w64}
use Rattle.kernel_model.specs.declared.time.TimeSpec.{TimeSpec}
use Rattle.native_calls.specs.Times.{time_at}
use Rattle.o32_model.specs.Times.{spec_in}
use Rattle.bridge_wait.proofs.HostTimes.{told}
use Rattle.bridge_wait.proofs.times.push_read.Goals as goal

pub returns : goal.returns
returns c =
    let first : to_z w64 (of_z w64 c.signed_word_at-seconds.result) ≡ c.signed_word_at-seconds.result = omega (arith, ints) in
    let second : to_z w64 (of_z w64 c.signed_word_at-nanoseconds.result) ≡ c.signed_word_at-nanoseconds.result = omega (arith, ints) in
    subst (λ (t : TimeSpec). IfOk c.push_time.result (λ place. time_at c.push_time.new.mem place ≡ Ok t))
    (ap (λ (z : ℤ). told z (to_z w64 (of_z w64 c.signed_word_at-nanoseconds.result))) (first ∙ c.signed_word_at-seconds.ensures)
    ∙ ap (λ (z : ℤ). told (spec_in c.args.bytes.now).seconds z) (second ∙ c.signed_word_at-nanoseconds.ensures))
    c.push_time.ensures
