-- The native call fills for the row.
use Rattle.std.proofs.Common.{ℕ, [], ◌∷◌, replicate, subst, Option, sym, ◌∙◌, arith}
use Rattle.guest_space.specs.Access.{writable_prefix}
use Rattle.guest_space.specs.Memory.{Memory}
use Rattle.native_calls.specs.Table.{native_call}
use Rattle.kernel_core.specs.declared.error.Errno.TheVariants.{EFAULT}
use Rattle.o32_model.specs.Answered.{Called}
use Rattle.o32_model.specs.Transfers.{pread_row}
use Rattle.o32_model.specs.Words.{argument, stack_pair}
use Rattle.o32_model.specs.declared.outcome.Outcome.TheVariants.{Error}
use Rattle.outside.specs.Streams.{contents}
use Rattle.bridge_io.proofs.ReadFills.{pread_fills, pread_still}
use Rattle.bridge_log.proofs.Ends.{Still, still_called, still_keeps}
use Rattle.bridge_log.specs.Fills.{Fills}
use Rattle.bridge_io.proofs.reading.pread.Goals as goal

pub returns-clause-row : goal.returns-clause-row
returns-clause-row g c = λ guest same memory.
    c.fill_call.ensures.row guest (pread_row c.args.below.now.kernel.now guest (argument c.args.words.now 0) (argument c.args.words.now 1) (argument c.args.words.now 2) (stack_pair c.args.words.now)) same memory
    (λ left. subst (λ (m : Memory). let room = replicate {A = ℕ} (writable_prefix m.pages (argument c.args.words.now 1) (argument c.args.words.now 2)) 0 in
    Fills guest (argument c.args.words.now 1) room (native_call 67 (c.from.result ∷ 65536 ∷ c.from-2.result ∷ c.in-Some.place ∷ 0 ∷ 0 ∷ []) c.args.below.now.kernel.now room left) (pread_row c.args.below.now.kernel.now guest (argument c.args.words.now 0) (argument c.args.words.now 1) (argument c.args.words.now 2) (stack_pair c.args.words.now) left)) memory
    (subst (λ (p : Option ℕ). let room = replicate {A = ℕ} (writable_prefix guest.memory.pages (argument c.args.words.now 1) (argument c.args.words.now 2)) 0 in
    Fills guest (argument c.args.words.now 1) room (native_call 67 (c.from.result ∷ 65536 ∷ c.from-2.result ∷ c.in-Some.place ∷ 0 ∷ 0 ∷ []) c.args.below.now.kernel.now room left) (pread_row c.args.below.now.kernel.now guest (argument c.args.words.now 0) (argument c.args.words.now 1) (argument c.args.words.now 2) p left)) (sym c.in-Some.is ∙ c.stack_pair.ensures)
    (pread_fills guest c.args.below.now.kernel.now left _ _ (argument c.args.words.now 0) (argument c.args.words.now 1) (argument c.args.words.now 2) c.in-Some.place c.from.ensures c.from-2.ensures (omega arith))))

pub returns-clause-kept : goal.returns-clause-kept
returns-clause-kept g c = λ guest same memory.
    c.fill_call.ensures.kept guest (pread_row c.args.below.now.kernel.now guest (argument c.args.words.now 0) (argument c.args.words.now 1) (argument c.args.words.now 2) (stack_pair c.args.words.now)) same memory
    (λ left. subst (λ (m : Memory). let room = replicate {A = ℕ} (writable_prefix m.pages (argument c.args.words.now 1) (argument c.args.words.now 2)) 0 in
    Fills guest (argument c.args.words.now 1) room (native_call 67 (c.from.result ∷ 65536 ∷ c.from-2.result ∷ c.in-Some.place ∷ 0 ∷ 0 ∷ []) c.args.below.now.kernel.now room left) (pread_row c.args.below.now.kernel.now guest (argument c.args.words.now 0) (argument c.args.words.now 1) (argument c.args.words.now 2) (stack_pair c.args.words.now) left)) memory
    (subst (λ (p : Option ℕ). let room = replicate {A = ℕ} (writable_prefix guest.memory.pages (argument c.args.words.now 1) (argument c.args.words.now 2)) 0 in
    Fills guest (argument c.args.words.now 1) room (native_call 67 (c.from.result ∷ 65536 ∷ c.from-2.result ∷ c.in-Some.place ∷ 0 ∷ 0 ∷ []) c.args.below.now.kernel.now room left) (pread_row c.args.below.now.kernel.now guest (argument c.args.words.now 0) (argument c.args.words.now 1) (argument c.args.words.now 2) p left)) (sym c.in-Some.is ∙ c.stack_pair.ensures)
    (pread_fills guest c.args.below.now.kernel.now left _ _ (argument c.args.words.now 0) (argument c.args.words.now 1) (argument c.args.words.now 2) c.in-Some.place c.from.ensures c.from-2.ensures (omega arith))))

-- a place that can't be read is refused before any native call

pub returns-in_default-clause-row : goal.returns-in_default-clause-row
returns-in_default-clause-row g c = λ guest same memory left told.
    let at = contents g.I.Source.left g.O.Sink.written g.E.Sink.written c.args.dev.now in
    let step = pread_row c.args.below.now.kernel.now guest (argument c.args.words.now 0) (argument c.args.words.now 1) (argument c.args.words.now 2) (stack_pair c.args.words.now) left in
    let still = subst (λ (p : Option ℕ). Still guest c.args.below.now.kernel.now left (Error EFAULT) (pread_row c.args.below.now.kernel.now guest (argument c.args.words.now 0) (argument c.args.words.now 1) (argument c.args.words.now 2) p left)) (sym c.in_default.is ∙ c.stack_pair.ensures)
    (pread_still guest c.args.below.now.kernel.now left (argument c.args.words.now 0) (argument c.args.words.now 1) (argument c.args.words.now 2)) in
    subst (λ (m : Memory). Called step (Error EFAULT) c.args.below.now.kernel.now m guest.processor at at) memory
    (still_called guest c.args.below.now.kernel.now left (Error EFAULT) step at told still)

pub returns-in_default-clause-kept : goal.returns-in_default-clause-kept
returns-in_default-clause-kept g c = λ guest same memory left told.
    still_keeps guest c.args.below.now.kernel.now left (Error EFAULT) _ c.args.below.now.log.now
    (subst (λ (p : Option ℕ). Still guest c.args.below.now.kernel.now left (Error EFAULT) (pread_row c.args.below.now.kernel.now guest (argument c.args.words.now 0) (argument c.args.words.now 1) (argument c.args.words.now 2) p left)) (sym c.in_default.is ∙ c.stack_pair.ensures)
    (pread_still guest c.args.below.now.kernel.now left (argument c.args.words.now 0) (argument c.args.words.now 1) (argument c.args.words.now 2)))
