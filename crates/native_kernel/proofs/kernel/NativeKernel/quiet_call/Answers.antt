use Rattle.std.proofs.Common.{arith}
use Rattle.std.proofs.lemmas.Bool.Decides.{nat_tests}
use Rattle.native_calls.specs.Transfers.{transfer_calls}
use Rattle.native_kernel.proofs.OtherNumbers.{later_call}
use Rattle.native_kernel.proofs.kernel.NativeKernel.quiet_call.Goals as goal
use Rattle.native_kernel.specs.Built.{descriptor_groups}

pub returns-in_default-clause-row : goal.returns-in_default-clause-row
returns-in_default-clause-row c =
    later_call c.args.nr transfer_calls descriptor_groups c.args.args c.args.self.now c.descriptor_call.new.self c.args.mem.now c.descriptor_call.new.mem c.descriptor_call.result
    (λ e. grind (arith, nat_tests), (λ e. grind (arith, nat_tests), (λ e. grind (arith, nat_tests), (λ e. grind (arith, nat_tests), (λ e. grind (arith, nat_tests), (λ e. grind (arith, nat_tests), tt))))))
    c.descriptor_call.ensures.row
