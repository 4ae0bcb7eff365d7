use Rattle.std.proofs.Common.{◌≡◌, ℕ, ◌+◌, ◌^◌, ◌<◌, ◌++◌, get_or, map, take}
use Rattle.arrayvec.specs.ArrayVec.{array_vec_len}
use Rattle.layouts.specs.Frames.{sign_extended}
use Rattle.signal_frames.proofs.values.push_words.Given as goal

-- the registers so far are added, and are words
abbrev pub invariant-loop-register : goal.invariant-loop-register
invariant-loop-register l =
    (l.values.items ≡ l.initial.values.items ++ map sign_extended (take l.register-index l.registers))
    × (array_vec_len l.values ≡ array_vec_len l.initial.values + l.register-index)
    × ((k : ℕ) → k < l.register-index → get_or l.registers k 0 < 2 ^ 32)
