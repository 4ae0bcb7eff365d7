use Rattle.std.proofs.Common.{arith, ◌∷◌}
use Rattle.std.proofs.lemmas.Bool.Decides.{nat_tests}
use Rattle.native_calls.specs.Descriptors.{descriptor_calls}
use Rattle.native_calls.specs.Terminal.{terminal_calls}
use Rattle.native_kernel.proofs.OtherNumbers.{later_call}
use Rattle.native_kernel.proofs.kernel.NativeKernel.descriptor_call.Goals as goal
use Rattle.native_kernel.specs.Built.{status_groups}

pub returns-in_default-clause-row : goal.returns-in_default-clause-row
returns-in_default-clause-row c =
    later_call c.args.nr descriptor_calls (terminal_calls ∷ status_groups) c.args.args c.args.self.now c.status_call.new.self c.args.mem.now c.status_call.new.mem c.status_call.result
    (λ e. grind (arith, nat_tests), (λ e. grind (arith, nat_tests), (λ e. grind (arith, nat_tests), (λ e. grind (arith, nat_tests), (λ e. grind (arith, nat_tests), tt)))))
    (later_call c.args.nr terminal_calls status_groups c.args.args c.args.self.now c.status_call.new.self c.args.mem.now c.status_call.new.mem c.status_call.result
    (λ e. grind (arith, nat_tests), tt)
    c.status_call.ensures.row)
