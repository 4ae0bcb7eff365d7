-- The answer of a part of the rules.
use Rattle.std.specs.Prelude.{◌≡◌, Option, None, Result, Ok, Err}
use Rattle.elf_image.specs.Rules.{IsCause}
use Rattle.elf_image.specs.declared.refusal.ElfError.{ElfError}
use Rattle.elf_image.specs.declared.refusal.ElfRefusal.{ElfRefusal}

-- what a check of rules answers: Ok where none is broken, else the first that is, unless memory runs out
abbrev pub Judges : {X : Type 0} → Option ElfRefusal → Result X ElfError → Type 0
Judges failure (Ok x) = failure ≡ None
Judges failure (Err e) = IsCause failure e
