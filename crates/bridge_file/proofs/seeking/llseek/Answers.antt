-- The native call tells the place, or none is made where the origin can't be read.
use Rattle.std.proofs.Common.{arith, rules, ◌<◌, ◌^◌, ℕ, [], ◌∷◌, Option, sym, subst, ◌∙◌}
use Rattle.guest_space.specs.Memory.{Memory}
use Rattle.kernel_core.specs.declared.error.Errno.TheVariants.{EFAULT}
use Rattle.native_calls.specs.Table.{native_call}
use Rattle.o32_model.specs.Answered.{Called}
use Rattle.o32_model.specs.Opening.{llseek_row}
use Rattle.o32_model.specs.Words.{argument, pair, stack_word}
use Rattle.o32_model.specs.declared.outcome.Outcome.TheVariants.{Error}
use Rattle.outside.specs.Streams.{contents}
use Rattle.bridge_paths.proofs.Passed.{Still, still_called, still_keeps}
use Rattle.bridge_file.proofs.SizeRows.{llseek_tells, llseek_unplaced}
use Rattle.bridge_file.specs.declared.telling.Told.TheVariants.{Place}
use Rattle.bridge_file.specs.inside.Tells.{Tells}
use Rattle.bridge_file.proofs.seeking.llseek.Goals as goal

pub returns-in-None-clause-row : goal.returns-in-None-clause-row
returns-in-None-clause-row g c = λ guest same memory left told.
    let at = contents g.I.Source.left g.O.Sink.written g.E.Sink.written c.args.dev.now in
    let step = llseek_row c.args.below.now.kernel.now guest (argument c.args.words.now 0) (pair (argument c.args.words.now 1) (argument c.args.words.now 2)) (argument c.args.words.now 3) (stack_word c.args.words.now 0) left in
    subst (λ (m : Memory). Called step (Error EFAULT) c.args.below.now.kernel.now m guest.processor at at) memory
    (still_called guest c.args.below.now.kernel.now left (Error EFAULT) step at told
    (subst (λ (o : Option ℕ). Still guest c.args.below.now.kernel.now left (Error EFAULT) (llseek_row c.args.below.now.kernel.now guest (argument c.args.words.now 0) (pair (argument c.args.words.now 1) (argument c.args.words.now 2)) (argument c.args.words.now 3) o left)) (sym c.in-None.is ∙ c.fifth.ensures)
    (llseek_unplaced guest c.args.below.now.kernel.now left (argument c.args.words.now 0) (pair (argument c.args.words.now 1) (argument c.args.words.now 2)) (argument c.args.words.now 3))))

pub returns-in-None-clause-kept : goal.returns-in-None-clause-kept
returns-in-None-clause-kept g c = λ guest same memory left told.
    still_keeps guest c.args.below.now.kernel.now left (Error EFAULT) (llseek_row c.args.below.now.kernel.now guest (argument c.args.words.now 0) (pair (argument c.args.words.now 1) (argument c.args.words.now 2)) (argument c.args.words.now 3) (stack_word c.args.words.now 0) left) c.args.below.now.log.now
    (subst (λ (o : Option ℕ). Still guest c.args.below.now.kernel.now left (Error EFAULT) (llseek_row c.args.below.now.kernel.now guest (argument c.args.words.now 0) (pair (argument c.args.words.now 1) (argument c.args.words.now 2)) (argument c.args.words.now 3) o left)) (sym c.in-None.is ∙ c.fifth.ensures)
    (llseek_unplaced guest c.args.below.now.kernel.now left (argument c.args.words.now 0) (pair (argument c.args.words.now 1) (argument c.args.words.now 2)) (argument c.args.words.now 3)))

pub returns-in-Some-clause-row : goal.returns-in-Some-clause-row
returns-in-Some-clause-row g c = λ guest same memory.
    let small : c.in-Some.origin < 2 ^ 32 = search rules in
    c.tell_call.ensures.row guest (llseek_row c.args.below.now.kernel.now guest (argument c.args.words.now 0) (pair (argument c.args.words.now 1) (argument c.args.words.now 2)) (argument c.args.words.now 3) (stack_word c.args.words.now 0)) same memory
    (λ left. subst (λ (o : Option ℕ). Tells guest (argument c.args.words.now 3) Place (native_call 62 (c.from.result ∷ c.pair.result ∷ c.from-in-Some.result ∷ 0 ∷ 0 ∷ 0 ∷ []) c.args.below.now.kernel.now c.clear.new.self left)
    (llseek_row c.args.below.now.kernel.now guest (argument c.args.words.now 0) (pair (argument c.args.words.now 1) (argument c.args.words.now 2)) (argument c.args.words.now 3) o left)) (sym c.in-Some.is ∙ c.fifth.ensures)
    (llseek_tells guest c.args.below.now.kernel.now (argument c.args.words.now 3) c.clear.new.self left _ _ _ (argument c.args.words.now 0) c.in-Some.origin (pair (argument c.args.words.now 1) (argument c.args.words.now 2)) c.from.ensures c.from-in-Some.ensures c.pair.ensures (omega arith) small))

pub returns-in-Some-clause-kept : goal.returns-in-Some-clause-kept
returns-in-Some-clause-kept g c = λ guest same memory.
    let small : c.in-Some.origin < 2 ^ 32 = search rules in
    c.tell_call.ensures.kept guest (llseek_row c.args.below.now.kernel.now guest (argument c.args.words.now 0) (pair (argument c.args.words.now 1) (argument c.args.words.now 2)) (argument c.args.words.now 3) (stack_word c.args.words.now 0)) same memory
    (λ left. subst (λ (o : Option ℕ). Tells guest (argument c.args.words.now 3) Place (native_call 62 (c.from.result ∷ c.pair.result ∷ c.from-in-Some.result ∷ 0 ∷ 0 ∷ 0 ∷ []) c.args.below.now.kernel.now c.clear.new.self left)
    (llseek_row c.args.below.now.kernel.now guest (argument c.args.words.now 0) (pair (argument c.args.words.now 1) (argument c.args.words.now 2)) (argument c.args.words.now 3) o left)) (sym c.in-Some.is ∙ c.fifth.ensures)
    (llseek_tells guest c.args.below.now.kernel.now (argument c.args.words.now 3) c.clear.new.self left _ _ _ (argument c.args.words.now 0) c.in-Some.origin (pair (argument c.args.words.now 1) (argument c.args.words.now 2)) c.from.ensures c.from-in-Some.ensures c.pair.ensures (omega arith) small))
