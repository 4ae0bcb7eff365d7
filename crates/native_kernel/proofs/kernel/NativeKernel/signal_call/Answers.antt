use Rattle.std.proofs.Common.{Ok, arith}
use Rattle.std.proofs.lemmas.Bool.Decides.{nat_tests}
use Rattle.native_calls.specs.Signals.{signal_calls}
use Rattle.native_kernel.proofs.OtherNumbers.{later_call}
use Rattle.native_kernel.proofs.kernel.NativeKernel.signal_call.Goals as goal
use Rattle.native_kernel.specs.Built.{poll_groups}

pub returns-in_default-clause-row : goal.returns-in_default-clause-row
returns-in_default-clause-row c =
    later_call c.args.nr signal_calls poll_groups c.args.args c.args.self.now c.args.self.now c.args.mem.now c.poll_call.new.mem (Ok c.poll_call.result)
    (λ e. grind (arith, nat_tests), (λ e. grind (arith, nat_tests), (λ e. grind (arith, nat_tests), (λ e. grind (arith, nat_tests), (λ e. grind (arith, nat_tests), (λ e. grind (arith, nat_tests), (λ e. grind (arith, nat_tests), (λ e. grind (arith, nat_tests), (λ e. grind (arith, nat_tests), (λ e. grind (arith, nat_tests), tt))))))))))
    c.poll_call.ensures
