-- Flags, of which a call takes a few and refuses any other (EINVAL of unlinkat(2), linkat(2), fstatat(2), utimensat(2)).
use Rattle.std.specs.Prelude.{ℕ, ◌*◌, ◌==◌, Bool, List, [], ◌∷◌, sum_by, Option, Some, None, if◌then◌else◌}
use Rattle.kernel_core.specs.Bits.{one_if, has}

-- a number has no flags but some of these
abbrev pub are_listed : List ℕ → ℕ → Bool
are_listed flags number = sum_by (λ flag. flag * one_if (has number flag)) flags == number

-- whether a number has a flag, which is the only one that it may have
abbrev pub only_flag : ℕ → ℕ → Option Bool
only_flag flag number = if are_listed (flag ∷ []) number then Some (has number flag) else None
