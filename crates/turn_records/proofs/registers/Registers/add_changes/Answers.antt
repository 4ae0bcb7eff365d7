use Rattle.std.proofs.Common.{ℕ, ap, refl, subst, sym}
use Rattle.std.specs.Prelude.{None}
use Rattle.mips_exec.specs.Processor.{Processor}
use Rattle.turn_records.proofs.Stepwise.{sets_then, sets_to}
use Rattle.turn_records.specs.inside.Setting.{Sets}
use Rattle.turn_records.proofs.registers.Registers.add_changes.Goals as goal

-- one part of the registers after the other
pub returns : goal.returns
returns c =
    let was = c.self.inside in
    let now = c.now.inside in
    let before : Processor = record { registers = was.general; hi = was.hi; lo = was.lo; pc = was.pc; slot = None; link = None; thread_pointer = was.thread_pointer } in
    let general : Processor = record before { registers = now.general } in
    let high : Processor = record general { hi = now.hi } in
    let low : Processor = record high { lo = now.lo } in
    let counter : Processor = record low { pc = now.pc } in
    let after : Processor = record counter { thread_pointer = now.thread_pointer } in
    subst (λ (p : Processor). Sets c.args.effects.now.items c.add_change-4.new.effects.items p c.args.now.now) c.self.view_is
    (sets_to c.now.view_is
    (sets_then (c.in_ok-add_general.ensures before refl)
    (sets_then (c.in_ok-add_change.ensures general high refl (λ same. ap (λ (n : ℕ). let p : Processor = record general { hi = n } in p) (sym same)))
    (sets_then (c.in_ok-add_change-2.ensures high low refl (λ same. ap (λ (n : ℕ). let p : Processor = record high { lo = n } in p) (sym same)))
    (sets_then (c.in_ok-add_change-3.ensures low counter refl (λ same. ap (λ (n : ℕ). let p : Processor = record low { pc = n } in p) (sym same)))
    (c.in_ok-add_change-4.ensures counter after refl (λ same. ap (λ (n : ℕ). let p : Processor = record counter { thread_pointer = n } in p) (sym same))))))))
