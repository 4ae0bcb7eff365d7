use Rattle.std.proofs.Common.{◌≡◌, ◌++◌, drop}
use Rattle.o32_runner.specs.NativeText.{entry_lines}
use Rattle.o32_runner.proofs.lines.entry_lines.Given as goal

-- the whole is what stands there, and the lines to come
abbrev pub invariant-loop-entry : goal.invariant-loop-entry
invariant-loop-entry l = entry_lines l.turn l.entries ≡ l.text.items ++ entry_lines l.turn (drop l.entry-index l.entries)
