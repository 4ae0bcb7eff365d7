use Rattle.std.proofs.Common.{arith, ◌∷◌}
use Rattle.std.proofs.lemmas.Bool.Decides.{nat_tests}
use Rattle.native_calls.specs.Ids.{id_calls}
use Rattle.native_calls.specs.Status.{status_calls}
use Rattle.native_kernel.proofs.OtherNumbers.{later_call}
use Rattle.native_kernel.proofs.kernel.NativeKernel.status_call.Goals as goal
use Rattle.native_kernel.specs.Built.{name_groups}

pub returns-in_default-clause-row : goal.returns-in_default-clause-row
returns-in_default-clause-row c =
    later_call c.args.nr status_calls (id_calls ∷ name_groups) c.args.args c.args.self.now c.name_call.new.self c.args.mem.now c.name_call.new.mem c.name_call.result
    (λ e. grind (arith, nat_tests), (λ e. grind (arith, nat_tests), (λ e. grind (arith, nat_tests), (λ e. grind (arith, nat_tests), (λ e. grind (arith, nat_tests), tt)))))
    (later_call c.args.nr id_calls name_groups c.args.args c.args.self.now c.name_call.new.self c.args.mem.now c.name_call.new.mem c.name_call.result
    (λ e. grind (arith, nat_tests), (λ e. grind (arith, nat_tests), tt))
    c.name_call.ensures.row)
