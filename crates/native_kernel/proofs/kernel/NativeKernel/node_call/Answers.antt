use Rattle.std.proofs.Common.{arith}
use Rattle.std.proofs.lemmas.Bool.Decides.{nat_tests}
use Rattle.native_calls.specs.Nodes.{node_calls}
use Rattle.native_kernel.proofs.OtherNumbers.{later_call}
use Rattle.native_kernel.proofs.kernel.NativeKernel.node_call.Goals as goal
use Rattle.native_kernel.specs.Built.{system_groups}

pub returns-in_default-clause-row : goal.returns-in_default-clause-row
returns-in_default-clause-row c =
    later_call c.args.nr node_calls system_groups c.args.args c.args.self.now c.system_call.new.self c.args.mem.now c.system_call.new.mem c.system_call.result
    (λ e. grind (arith, nat_tests), (λ e. grind (arith, nat_tests), (λ e. grind (arith, nat_tests), (λ e. grind (arith, nat_tests), (λ e. grind (arith, nat_tests), (λ e. grind (arith, nat_tests), (λ e. grind (arith, nat_tests), (λ e. grind (arith, nat_tests), (λ e. grind (arith, nat_tests), (λ e. grind (arith, nat_tests), (λ e. grind (arith, nat_tests), tt)))))))))))
    c.system_call.ensures.row
