-- How many bytes of a vector's buffers may be loaded, up to the first that may not. Only the private parts of the crate cite this.
use Rattle.std.specs.Prelude.{ℕ, ◌+◌, ◌==◌, List, [], ◌∷◌, if◌then◌else◌}
use Rattle.guest_space.specs.Access.{readable_prefix}
use Rattle.guest_space.specs.Memory.{Memory}
use Rattle.o32_model.specs.declared.range.Range.{Range}

abbrev pub all_readable : Memory → List Range → ℕ
all_readable memory [] = 0
all_readable memory (range ∷ ranges) =
    let there = readable_prefix memory.pages range.address range.length in
    if there == range.length then there + all_readable memory ranges else there
