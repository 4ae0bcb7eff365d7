-- The native call tells for the row.
use Rattle.std.proofs.Common.{ℕ, List, [], ◌∷◌, sym, subst}
use Rattle.native_calls.specs.Table.{native_call}
use Rattle.o32_model.specs.Small.{uname_row}
use Rattle.bridge_system.proofs.LimitMirrors.{uname_tells}
use Rattle.bridge_system.specs.declared.telling.Told.TheVariants.{Names}
use Rattle.bridge_system.specs.inside.Tells.{Tells}
use Rattle.bridge_system.proofs.names.uname.Goals as goal

pub returns-clause-row : goal.returns-clause-row
returns-clause-row g c = λ guest same memory.
    c.tell_call.ensures.row guest (uname_row c.args.below.now.kernel.now guest c.args.address) same memory
    (λ left. subst (λ (m : List ℕ). Tells guest c.args.address Names (native_call 160 (65536 ∷ 0 ∷ 0 ∷ 0 ∷ 0 ∷ 0 ∷ []) c.args.below.now.kernel.now m left) (uname_row c.args.below.now.kernel.now guest c.args.address left)) (sym c.in_ok-fresh_room.ensures)
    (uname_tells guest c.args.below.now.kernel.now left c.args.address))

pub returns-clause-kept : goal.returns-clause-kept
returns-clause-kept g c = λ guest same memory.
    c.tell_call.ensures.kept guest (uname_row c.args.below.now.kernel.now guest c.args.address) same memory
    (λ left. subst (λ (m : List ℕ). Tells guest c.args.address Names (native_call 160 (65536 ∷ 0 ∷ 0 ∷ 0 ∷ 0 ∷ 0 ∷ []) c.args.below.now.kernel.now m left) (uname_row c.args.below.now.kernel.now guest c.args.address left)) (sym c.in_ok-fresh_room.ensures)
    (uname_tells guest c.args.below.now.kernel.now left c.args.address))
