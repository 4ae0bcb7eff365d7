use Rattle.std.proofs.Common.{◌≡◌, ◌++◌, map, string_bytes, drop}
use Rattle.start_stack.specs.Stack.{strings}
use Rattle.start_stack.proofs.strings.push_strings.Given as goal

-- the whole is what stands there, and the texts to come
abbrev pub invariant-loop-text : goal.invariant-loop-text
invariant-loop-text l =
    l.fn.bytes.items ++ strings (map string_bytes l.texts)
    ≡ l.bytes.items ++ strings (map string_bytes (drop l.text-index l.texts))
