use Rattle.std.proofs.Common.{◌≡◌, ◌+◌, ◌*◌, length, map, string_bytes, drop}
use Rattle.start_stack.specs.Stack.{strings}
use Rattle.start_stack.proofs.strings.room_left.Given as goal

-- what all texts take of the room is what has been taken, and what those to come take
abbrev pub invariant-loop-text : goal.invariant-loop-text
invariant-loop-text l =
    let rest = drop l.text-index l.texts in
    l.room + (length (strings (map string_bytes rest)) + 4 * length rest)
    ≡ l.left + (length (strings (map string_bytes l.texts)) + 4 * length l.texts)
