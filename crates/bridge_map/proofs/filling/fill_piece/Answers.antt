-- The native call fills for the piece.
use Rattle.std.proofs.Common.{ℕ, List, ap, arith, refl, ◌∙◌}
use Rattle.kernel_model.specs.Transfers.{file_bytes}
use Rattle.mips_exec.specs.Processor.{Processor, fresh}
use Rattle.bridge_map.proofs.Pieces.{fills_stop, piece_filled, piece_fills, piece_silent, piece_step}
use Rattle.bridge_map.specs.Rows.{guest_of}
use Rattle.bridge_map.specs.Shown.{count_of}
use Rattle.bridge_map.proofs.filling.fill_piece.Goals as goal

pub returns-in_err-outcome-clause-filled : goal.returns-in_err-outcome-clause-filled
returns-in_err-outcome-clause-filled g c = λ left told content shows free.
    let bytes = file_bytes content c.args.part.offset c.args.part.count in
    let guest = guest_of c.args.args.now (fresh 0) c.args.space.now in
    fills_stop _ c.from_residual.result _ _ _ _ _ _ _ _ _ _ _ c.from_residual.ensures.0
    (piece_silent c.args.args.now c.args.below.now.kernel.now left c.args.space.now c.args.part.address bytes _ _ told
    (c.in_err-outcome.ensures.row guest (piece_step c.args.below.now.kernel.now guest c.args.part.address bytes) refl refl
    (λ (l : List ℕ). piece_fills guest c.args.below.now.kernel.now l content c.from.result c.from-2.result c.args.part.fd c.args.part.address c.args.part.count c.args.part.offset c.from.ensures c.from-2.ensures (omega arith) c.requires.offset c.requires.some c.requires.few shows free)
    left told))

pub returns-clause-filled : goal.returns-clause-filled
returns-clause-filled g c = λ left told content shows free.
    let bytes = file_bytes content c.args.part.offset c.args.part.count in
    let guest = λ (processor : Processor). guest_of c.args.args.now processor c.args.space.now in
    let fills = λ (processor : Processor) (l : List ℕ). piece_fills (guest processor) c.args.below.now.kernel.now l content c.from.result c.from-2.result c.args.part.fd c.args.part.address c.args.part.count c.args.part.offset c.from.ensures c.from-2.ensures (omega arith) c.requires.offset c.requires.some c.requires.few shows free in
    let called = c.in_ok-outcome.ensures.row (guest (fresh 0)) (piece_step c.args.below.now.kernel.now (guest (fresh 0)) c.args.part.address bytes) refl refl (fills (fresh 0)) left told in (
      c.count_of.ensures ∙ ap count_of called.came,
      piece_filled c.args.args.now c.args.below.now.kernel.now left c.args.space.now c.args.part.address bytes c.in_ok-outcome.outcome _ _ _ _ _ _ told called
          (λ processor. c.in_ok-outcome.ensures.kept (guest processor) (piece_step c.args.below.now.kernel.now (guest processor) c.args.part.address bytes) refl refl (fills processor) left told),
    )
