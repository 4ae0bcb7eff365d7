-- The native call fills for the row.
use Rattle.std.proofs.Common.{ℕ, [], ◌∷◌, replicate, subst, arith}
use Rattle.guest_space.specs.Access.{writable_prefix}
use Rattle.guest_space.specs.Memory.{Memory}
use Rattle.native_calls.specs.Table.{native_call}
use Rattle.o32_model.specs.Small.{getrandom_row}
use Rattle.o32_model.specs.Words.{argument}
use Rattle.bridge_io.specs.Passed.{Fills}
use Rattle.bridge_system.proofs.ChanceFills.{random_fills}
use Rattle.bridge_system.proofs.chance.getrandom.Goals as goal

pub returns-clause-row : goal.returns-clause-row
returns-clause-row g c = λ guest same memory.
    c.fill_call.ensures.row guest (getrandom_row c.args.below.now.kernel.now guest (argument c.args.words.now 0) (argument c.args.words.now 1) (argument c.args.words.now 2)) same memory
    (λ left. subst (λ (m : Memory). let room = replicate {A = ℕ} (writable_prefix m.pages (argument c.args.words.now 0) (argument c.args.words.now 1)) 0 in
    Fills guest (argument c.args.words.now 0) room (native_call 278 (65536 ∷ c.from.result ∷ c.from-2.result ∷ 0 ∷ 0 ∷ 0 ∷ []) c.args.below.now.kernel.now room left) (getrandom_row c.args.below.now.kernel.now guest (argument c.args.words.now 0) (argument c.args.words.now 1) (argument c.args.words.now 2) left)) memory
    (random_fills guest c.args.below.now.kernel.now left _ _ (argument c.args.words.now 0) (argument c.args.words.now 1) (argument c.args.words.now 2) c.from.ensures c.from-2.ensures (omega arith)))

pub returns-clause-kept : goal.returns-clause-kept
returns-clause-kept g c = λ guest same memory.
    c.fill_call.ensures.kept guest (getrandom_row c.args.below.now.kernel.now guest (argument c.args.words.now 0) (argument c.args.words.now 1) (argument c.args.words.now 2)) same memory
    (λ left. subst (λ (m : Memory). let room = replicate {A = ℕ} (writable_prefix m.pages (argument c.args.words.now 0) (argument c.args.words.now 1)) 0 in
    Fills guest (argument c.args.words.now 0) room (native_call 278 (65536 ∷ c.from.result ∷ c.from-2.result ∷ 0 ∷ 0 ∷ 0 ∷ []) c.args.below.now.kernel.now room left) (getrandom_row c.args.below.now.kernel.now guest (argument c.args.words.now 0) (argument c.args.words.now 1) (argument c.args.words.now 2) left)) memory
    (random_fills guest c.args.below.now.kernel.now left _ _ (argument c.args.words.now 0) (argument c.args.words.now 1) (argument c.args.words.now 2) c.from.ensures c.from-2.ensures (omega arith)))
