use Rattle.bridge_mem.proofs.Iovecs.{word-value, word-error, word-inside}
use Rattle.bridge_mem.proofs.vectors.read_word.Goals as goal

pub returns-in-Ok-clause-value : goal.returns-in-Ok-clause-value
returns-in-Ok-clause-value c = word-value c.args.space.now c.args.at c.in-Ok.word c.in-Ok.ensures.value

pub returns-in-Ok-clause-inside : goal.returns-in-Ok-clause-inside
returns-in-Ok-clause-inside c = word-inside c.args.space.now c.args.at c.in-Ok.word c.in-Ok.ensures.value

pub returns-in-Err-clause-value : goal.returns-in-Err-clause-value
returns-in-Err-clause-value c = word-error c.args.space.now c.args.at _ c.in-Err.ensures.value
