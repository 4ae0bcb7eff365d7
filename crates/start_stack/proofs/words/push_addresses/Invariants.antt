use Rattle.std.proofs.Common.{◌≡◌, ◌+◌, ◌++◌, length, map, string_bytes, drop}
use Rattle.start_stack.specs.Stack.{strings, addresses, word_bytes}
use Rattle.start_stack.proofs.words.push_addresses.Given as goal

-- the whole is what stands there, and the addresses to come; the end stays where it is
abbrev pub invariant-loop-text : goal.invariant-loop-text
invariant-loop-text l =
    let rest = map string_bytes (drop l.text-index l.texts) in
    (l.fn.bytes.items ++ word_bytes (addresses l.first (map string_bytes l.texts))
    ≡ l.bytes.items ++ word_bytes (addresses l.at rest))
    × (l.at + length (strings rest) ≡ l.first + length (strings (map string_bytes l.texts)))
