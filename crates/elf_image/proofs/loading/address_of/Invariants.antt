use Rattle.std.proofs.Common.{◌≡◌, drop}
use Rattle.std.specs.List.{find}
use Rattle.elf_image.specs.Loading.{holds}
use Rattle.elf_image.proofs.loading.address_of.Given as goal

-- none so far holds the table
abbrev pub invariant-loop-load : goal.invariant-loop-load
invariant-loop-load l = find (holds l.place l.size) (drop l.load-index l.loads) ≡ find (holds l.place l.size) l.loads
