use Rattle.std.proofs.Common.{ap, ◌∙◌, ◌++◌, List, arith}
use Rattle.o32_model.specs.Results.{Piece, piece_unless_null}
use Rattle.o32_model.specs.Selecting.{fds_bytes, word_count}
use Rattle.bridge_select.specs.inside.FdSets.{words_bytes}
use Rattle.bridge_select.proofs.Pieces.{piece_shown}
use Rattle.bridge_select.proofs.telling.sets_in.Goals as goal

pub returns : goal.returns
returns c = λ asked sets shows.
    let words = word_count asked.count in
    let memory = c.args.mem.now in
    let read = piece_shown memory c.set_in.result sets.read asked.read c.args.places.read words (omega arith) (omega arith) c.set_in.ensures shows.read in
    let write = piece_shown memory c.set_in-2.result sets.write asked.write c.args.places.write words (omega arith) (omega arith) c.set_in-2.ensures shows.write in
    let except = piece_shown memory c.set_in-3.result sets.except asked.except c.args.places.except words (omega arith) (omega arith) c.set_in-3.ensures shows.except in
    ap (λ (p : List Piece). (p ++ piece_unless_null asked.write (words_bytes words c.set_in-2.result)) ++ piece_unless_null asked.except (words_bytes words c.set_in-3.result)) read
    ∙ ap (λ (p : List Piece). (piece_unless_null asked.read (fds_bytes sets.read words) ++ p) ++ piece_unless_null asked.except (words_bytes words c.set_in-3.result)) write
    ∙ ap (λ (p : List Piece). (piece_unless_null asked.read (fds_bytes sets.read words) ++ piece_unless_null asked.write (fds_bytes sets.write words)) ++ p) except
