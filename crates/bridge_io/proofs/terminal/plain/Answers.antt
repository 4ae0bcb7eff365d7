-- The descriptor is the native call's first argument.
use Rattle.std.proofs.Common.{ℕ, List, [], ◌∷◌, subst, sym}
use Rattle.native_calls.specs.Table.{native_call}
use Rattle.bridge_log.specs.Mirrors.{Mirrors}
use Rattle.bridge_log.specs.Outcomes.{by_reply}
use Rattle.bridge_io.proofs.terminal.plain.Goals as goal

pub returns-clause-row : goal.returns-clause-row
returns-clause-row g c = λ guest step same mirrors.
    c.number_call.ensures.row guest step same
    (λ left. subst (λ (n : ℕ). Mirrors guest (by_reply guest.words) (native_call 29 (n ∷ c.args.number ∷ 0 ∷ 0 ∷ 0 ∷ 0 ∷ []) c.args.below.now.kernel.now c.clear.new.self left) (step left)) (sym c.from.ensures)
    (subst (λ (m : List ℕ). Mirrors guest (by_reply guest.words) (native_call 29 (c.args.fd ∷ c.args.number ∷ 0 ∷ 0 ∷ 0 ∷ 0 ∷ []) c.args.below.now.kernel.now m left) (step left)) (sym c.clear.ensures.empty) (mirrors left)))

pub returns-clause-kept : goal.returns-clause-kept
returns-clause-kept g c = λ guest step same mirrors.
    c.number_call.ensures.kept guest step same
    (λ left. subst (λ (n : ℕ). Mirrors guest (by_reply guest.words) (native_call 29 (n ∷ c.args.number ∷ 0 ∷ 0 ∷ 0 ∷ 0 ∷ []) c.args.below.now.kernel.now c.clear.new.self left) (step left)) (sym c.from.ensures)
    (subst (λ (m : List ℕ). Mirrors guest (by_reply guest.words) (native_call 29 (c.args.fd ∷ c.args.number ∷ 0 ∷ 0 ∷ 0 ∷ 0 ∷ []) c.args.below.now.kernel.now m left) (step left)) (sym c.clear.ensures.empty) (mirrors left)))
