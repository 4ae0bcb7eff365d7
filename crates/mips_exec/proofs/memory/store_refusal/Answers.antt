use Rattle.std.proofs.Common.{sym, ◌∙◌}
use Rattle.mips_exec.proofs.Refusing.{first_denied_of_writable, first_denied_of_loaded, first_denied_of_denied}
use Rattle.mips_exec.proofs.memory.store_refusal.Goals as goal

pub returns-then-writable-eq4 : goal.returns-then-writable-eq4
returns-then-writable-eq4 c =
    first_denied_of_writable _ c.args.address c.requires (sym c.writable.ensures.value ∙ c.if-writable-eq4.true)

pub returns-in-Ok : goal.returns-in-Ok
returns-in-Ok c =
    first_denied_of_loaded _ c.args.address c.in-Ok.field-0 c.requires (λ e. c.if-writable-eq4.false (c.writable.ensures.value ∙ e)) (sym c.in-Ok.is ∙ c.load.ensures.value)

pub returns-in-Err : goal.returns-in-Err
returns-in-Err c =
    first_denied_of_denied _ c.args.address c.in-Err.denied c.requires (sym c.in-Err.is ∙ c.load.ensures.value)
