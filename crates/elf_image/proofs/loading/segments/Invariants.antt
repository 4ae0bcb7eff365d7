use Rattle.std.proofs.Common.{◌≡◌, map, take}
use Rattle.elf_image.specs.Loading.{segment_of}
use Rattle.elf_image.proofs.loading.segments.Given as goal

abbrev pub invariant-loop-load : goal.invariant-loop-load
invariant-loop-load l = l.items.items ≡ map (segment_of l.bytes) (take l.load-index l.loads)
