use Rattle.std.proofs.Common.{◌≡◌, ◌++◌, drop}
use Rattle.start_stack.specs.Stack.{word_bytes}
use Rattle.start_stack.proofs.words.push_words.Given as goal

-- the whole is what stands there, and the words to come
abbrev pub invariant-loop-word : goal.invariant-loop-word
invariant-loop-word l =
    l.fn.bytes.items ++ word_bytes l.words ≡ l.bytes.items ++ word_bytes (drop l.word-index l.words)
