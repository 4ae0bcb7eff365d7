use Rattle.std.proofs.Common.{◌+◌, arith, sym, ◌∙◌}
use Rattle.std.proofs.lemmas.List.{take_rest, length-drop}
use Rattle.schedule.proofs.Pieces.{pieces_at, pieces_none}
use Rattle.schedule.proofs.text.split_once.Goals as goal

pub returns-in-Some : goal.returns-in-Some
returns-in-Some c =
    let at = pieces_at _ c.args.bytes.now c.in-Some.place (sym c.place_of.ensures ∙ c.in-Some.is) in
    rw (take_rest c.args.bytes.now (c.in-Some.place + 1)) (at.1, rw length-drop (omega arith))

pub returns-in-None : goal.returns-in-None
returns-in-None c = pieces_none _ c.args.bytes.now (sym c.place_of.ensures ∙ c.in-None.is)
