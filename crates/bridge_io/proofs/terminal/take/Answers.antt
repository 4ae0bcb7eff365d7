-- The native call mirrors the row, over the structure that was taken.
use Rattle.std.proofs.Common.{ℕ, [], ◌∷◌, subst, sym}
use Rattle.guest_space.specs.Memory.{Memory}
use Rattle.native_calls.specs.Table.{native_call}
use Rattle.o32_model.specs.Answered.{Answers}
use Rattle.o32_model.specs.Words.{argument}
use Rattle.outside.specs.Streams.{contents}
use Rattle.bridge_log.proofs.Ends.{fails_before}
use Rattle.bridge_log.specs.Mirrors.{Mirrors}
use Rattle.bridge_log.specs.Outcomes.{by_reply}
use Rattle.bridge_io.specs.inside.Takes.{IsTaken}
use Rattle.bridge_io.proofs.terminal.take.Goals as goal

pub returns-in_err-place-clause-row : goal.returns-in_err-place-clause-row
returns-in_err-place-clause-row g c = λ guest step same memory mirrors left told.
    fails_before (step left) c.from_residual.result _ _ _ _ c.from_residual.ensures.0

pub returns-clause-row : goal.returns-clause-row
returns-clause-row g c = λ guest step same memory mirrors left told.
    subst (λ (m : Memory). Answers (step left) c.number_call.result c.number_call.new.self.kernel.now m guest.processor (contents g.I.Source.left g.O.Sink.written g.E.Sink.written c.args.dev.now) (contents g.I.Source.left g.O.Sink.written g.E.Sink.written c.number_call.new.dev)) memory
    (c.number_call.ensures.row guest step same
    (λ left. subst (λ (n : ℕ). Mirrors guest (by_reply guest.words) (native_call 29 (n ∷ c.args.number ∷ c.in_ok-place.place ∷ 0 ∷ 0 ∷ 0 ∷ []) c.args.below.now.kernel.now c.take_structure.new.mem left) (step left)) (sym c.from.ensures)
    (mirrors left c.take_structure.new.mem c.in_ok-place.place (subst (λ (m : Memory). IsTaken m (argument c.args.words.now 2) c.args.structure c.take_structure.new.mem c.in_ok-place.place) (sym memory) c.in_ok-place.ensures))) left told)

pub returns-clause-kept : goal.returns-clause-kept
returns-clause-kept g c = λ guest step same memory mirrors.
    c.number_call.ensures.kept guest step same
    (λ left. subst (λ (n : ℕ). Mirrors guest (by_reply guest.words) (native_call 29 (n ∷ c.args.number ∷ c.in_ok-place.place ∷ 0 ∷ 0 ∷ 0 ∷ []) c.args.below.now.kernel.now c.take_structure.new.mem left) (step left)) (sym c.from.ensures)
    (mirrors left c.take_structure.new.mem c.in_ok-place.place (subst (λ (m : Memory). IsTaken m (argument c.args.words.now 2) c.args.structure c.take_structure.new.mem c.in_ok-place.place) (sym memory) c.in_ok-place.ensures)))
