use Rattle.std.proofs.Common.{arith}
use Rattle.guest_space.proofs.Prefixes.{refusal-same_page}
use Rattle.bridge_mem.proofs.words.stack_arguments.Goals as goal

pub word_in_page-requires-in-Some-clause-usable : goal.word_in_page-requires-in-Some-clause-usable
word_in_page-requires-in-Some-clause-usable c = refusal-same_page _ _ _ 4 c.in-Some.ensures.usable.0 (omega arith)

pub word_in_page-requires-in-Some-2-clause-usable : goal.word_in_page-requires-in-Some-2-clause-usable
word_in_page-requires-in-Some-2-clause-usable c = refusal-same_page _ _ _ 8 c.in-Some.ensures.usable.0 (omega arith)

pub word_in_page-requires-in-Some-3-clause-usable : goal.word_in_page-requires-in-Some-3-clause-usable
word_in_page-requires-in-Some-3-clause-usable c = refusal-same_page _ _ _ 12 c.in-Some.ensures.usable.0 (omega arith)
