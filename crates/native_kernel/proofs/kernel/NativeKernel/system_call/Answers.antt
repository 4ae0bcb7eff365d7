use Rattle.std.proofs.Common.{◌≡◌, rules, arith, ◌∷◌, w32, to_z, of_z}
use Rattle.std.proofs.lemmas.Bool.Decides.{nat_tests}
use Rattle.std.proofs.lemmas.Int.{to_z-of_z}
use Rattle.native_calls.specs.Arguments.{word, signed_word}
use Rattle.native_calls.specs.Clocks.{clock_calls}
use Rattle.native_calls.specs.System.{system_calls}
use Rattle.native_kernel.proofs.LimitCall.{limit_call}
use Rattle.native_kernel.proofs.OtherNumbers.{later_call}
use Rattle.native_kernel.proofs.kernel.NativeKernel.system_call.Goals as goal
use Rattle.native_kernel.specs.Built.{signal_groups}

pub returns-in-261-clause-row : goal.returns-in-261-clause-row
returns-in-261-clause-row c =
    let who : to_z w32 (of_z w32 c.cast_signed.result) ≡ signed_word c.args.args 0 = first_of (search rules, grind (arith, to_z-of_z)) in
    let what : c.low_word-in-261.result ≡ word c.args.args 1 = cc in
    limit_call c.args.nr c.args.args c.args.self.now c.prlimit.new.self c.args.mem.now c.prlimit.new.mem (to_z w32 (of_z w32 c.cast_signed.result)) c.low_word-in-261.result c.prlimit.result
    c.in-261.is who what c.prlimit.ensures.row

pub returns-in_default-clause-row : goal.returns-in_default-clause-row
returns-in_default-clause-row c =
    later_call c.args.nr system_calls (clock_calls ∷ signal_groups) c.args.args c.args.self.now c.signal_call.new.self c.args.mem.now c.signal_call.new.mem c.signal_call.result
    (λ e. grind (arith, nat_tests), (λ e. grind (arith, nat_tests), (λ e. grind (arith, nat_tests), tt)))
    (later_call c.args.nr clock_calls signal_groups c.args.args c.args.self.now c.signal_call.new.self c.args.mem.now c.signal_call.new.mem c.signal_call.result
    (λ e. grind (arith, nat_tests), (λ e. grind (arith, nat_tests), (λ e. grind (arith, nat_tests), (λ e. grind (arith, nat_tests), (λ e. grind (arith, nat_tests), (λ e. grind (arith, nat_tests), tt))))))
    c.signal_call.ensures.row)
