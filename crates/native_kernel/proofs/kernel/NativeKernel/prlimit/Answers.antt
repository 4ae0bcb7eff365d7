use Rattle.std.proofs.Common.{◌≡◌, ap, ◌∙◌, to_z, of_z, arith}
use Rattle.std.proofs.lemmas.Int.{ints}
use mir.Syntax.{w32}
use Rattle.number_tables.specs.Resources.{resource_of_native}
use Rattle.native_kernel.proofs.SystemLemmas.{limit_told}
use Rattle.native_kernel.proofs.kernel.NativeKernel.prlimit.Goals as goal

pub returns-in-Ok-clause-row : goal.returns-in-Ok-clause-row
returns-in-Ok-clause-row c = λ left.
    let given : to_z w32 (of_z w32 c.args.pid) ≡ c.args.pid = omega (arith, ints) in
    limit_told c.args.self.now c.set_limit.new.self c.args.mem.now c.store_unless_null.new.mem c.limit_bytes.result left
    (to_z w32 (of_z w32 c.args.pid)) c.args.pid c.args.resource c.args.limit c.args.old c.of_native.result c.limit_unless_null-limit.result c.in-Ok.limit
    c.store_unless_null.result
    given (c.of_native.ensures ∙ ap resource_of_native c.from.ensures) c.limit_unless_null-limit.ensures
    c.in-Ok.ensures.came c.set_limit.ensures.state c.limit_bytes.ensures c.store_unless_null.ensures.reply c.store_unless_null.ensures.written
