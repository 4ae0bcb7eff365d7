use Rattle.bridge_select.proofs.Pieces.{set_answer, set_stored}
use Rattle.bridge_select.proofs.telling.store_set.Goals as goal

pub returns-clause-answer : goal.returns-clause-answer
returns-clause-answer c =
    set_answer c.put.result c.args.space.now c.args.address c.args.words c.args.set.now c.program_bytes-bytes.result c.if-address-eq0.false c.program_bytes-bytes.ensures c.put.ensures.answer

pub returns-clause-stored : goal.returns-clause-stored
returns-clause-stored c =
    set_stored c.put.result c.args.space.now c.put.new.space c.args.address c.args.words c.args.set.now c.program_bytes-bytes.result c.if-address-eq0.false c.program_bytes-bytes.ensures c.put.ensures.stored
