-- Mode bits (chmod(2), umask(2)).
use Rattle.std.specs.Prelude.{ℕ, ◌-◌, bit_and}

-- the mode bits that the umask leaves
abbrev pub permitted : ℕ → ℕ → ℕ
permitted umask mode = mode - bit_and mode umask
