use Rattle.std.proofs.Common.{◌≡◌, ◌++◌, take}
use Rattle.std.specs.List.{flat_map}
use Rattle.std.proofs.Common.{string_bytes}
use Rattle.journal.specs.Text.{counted}
use Rattle.journal.proofs.writing.put_texts.Given as goal

abbrev pub invariant-loop-text : goal.invariant-loop-text
invariant-loop-text l = l.out.items ≡ l.fn.out.items ++ flat_map (λ text. counted (string_bytes text)) (take l.text-index l.texts)
