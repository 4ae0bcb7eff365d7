use Rattle.std.proofs.Common.{get_or}
use Rattle.std.proofs.lemmas.Result.{err_from_is_err_and}
use Rattle.journal.proofs.Gains.{adds_nothing, adds_fails}
use Rattle.std.proofs.lemmas.List.{get_or_default}
use denote.Ref.{Bor}
use Rattle.std.specs.Prelude.{List, ℕ, []}
use Rattle.journal.proofs.writing.put.Goals as goal

-- what an index past the end would give
abbrev no_piece : Bor (List ℕ)
no_piece = record { ref_ptr = (0, 0); now = [] }

pub returns-in_err-extend_from_slice : goal.returns-in_err-extend_from_slice
returns-in_err-extend_from_slice c =
    let p = err_from_is_err_and c.from_residual.result c.from_residual.ensures.1 in
    let i = c.loop-piece.piece-index in
    let piece = get_or c.args.pieces.now i no_piece in
    let kept = adds_nothing piece.now c.loop-piece.out.items c.extend_from_slice.new.self.items c.in_err-extend_from_slice.ensures.items in
    rw p.1 (adds_fails (λ (x : Bor (List ℕ)). x.now) c.args.pieces.now i piece c.args.out.now.items c.loop-piece.out.items c.extend_from_slice.new.self.items c.loop-piece-test.true (get_or_default c.args.pieces.now i no_piece piece c.loop-piece-test.true) c.loop-piece.invariant kept)
