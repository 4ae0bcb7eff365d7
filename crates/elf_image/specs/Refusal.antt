-- The numbers of the refusals, which are this project's own: the place of the rule in the order in which the rules are tried.
use Rattle.std.specs.Prelude.{ℕ}
use Rattle.elf_image.specs.declared.refusal.ElfRefusal.{ElfRefusal}
use Rattle.elf_image.specs.declared.refusal.ElfRefusal.TheVariants.{Short, Magic, Class, Order, Version, «Type», Machine, Abi, Table, Interp, Outside, Sizes, Address, Offset, Overlap, NoLoad, Pages}

-- the place of a rule among the seventeen
abbrev pub elf_rule_number : ElfRefusal → ℕ
elf_rule_number Short = 1
elf_rule_number Magic = 2
elf_rule_number Class = 3
elf_rule_number Order = 4
elf_rule_number Version = 5
elf_rule_number «Type» = 6
elf_rule_number Machine = 7
elf_rule_number Abi = 8
elf_rule_number Table = 9
elf_rule_number Interp = 10
elf_rule_number Outside = 11
elf_rule_number Sizes = 12
elf_rule_number Address = 13
elf_rule_number Offset = 14
elf_rule_number Overlap = 15
elf_rule_number NoLoad = 16
elf_rule_number Pages = 17
