use Rattle.std.proofs.Common.{ap, ◌++◌, List, ℕ, arith}
use Rattle.o32_model.specs.Results.{piece_unless_null}
use Rattle.o32_model.specs.Selecting.{word_count}
use Rattle.bridge_select.proofs.Pieces.{nothing_stored}
use Rattle.bridge_select.proofs.ends.empty_sets.Goals as goal

pub returns : goal.returns
returns c = λ asked.
    let words = word_count asked.count in
    let same = nothing_stored words (omega arith) in
    ap (λ (bytes : List ℕ). (piece_unless_null asked.read bytes ++ piece_unless_null asked.write bytes) ++ piece_unless_null asked.except bytes) same
