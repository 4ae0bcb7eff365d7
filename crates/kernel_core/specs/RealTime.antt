-- The range of the real-time signals.
use Rattle.std.specs.Prelude.{ℕ, Bool, nat_le, ◌&&◌}

-- a real-time signal has one of the numbers 32 to 128, in both worlds
-- (SIGRTMIN of the kernel and _NSIG of Linux arch/mips/include/uapi/asm/signal.h)
abbrev pub is_real_time : ℕ → Bool
is_real_time n = nat_le 32 n && nat_le n 128
