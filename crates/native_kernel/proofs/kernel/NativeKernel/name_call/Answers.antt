use Rattle.std.proofs.Common.{arith}
use Rattle.std.proofs.lemmas.Bool.Decides.{nat_tests}
use Rattle.native_calls.specs.Names.{name_calls}
use Rattle.native_kernel.proofs.OtherNumbers.{later_call}
use Rattle.native_kernel.proofs.kernel.NativeKernel.name_call.Goals as goal
use Rattle.native_kernel.specs.Built.{node_groups}

pub returns-in_default-clause-row : goal.returns-in_default-clause-row
returns-in_default-clause-row c =
    later_call c.args.nr name_calls node_groups c.args.args c.args.self.now c.node_call.new.self c.args.mem.now c.node_call.new.mem c.node_call.result
    (λ e. grind (arith, nat_tests), (λ e. grind (arith, nat_tests), (λ e. grind (arith, nat_tests), (λ e. grind (arith, nat_tests), (λ e. grind (arith, nat_tests), (λ e. grind (arith, nat_tests), (λ e. grind (arith, nat_tests), tt)))))))
    c.node_call.ensures.row
