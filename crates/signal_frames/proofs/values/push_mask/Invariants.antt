use Rattle.std.proofs.Common.{◌≡◌, ◌+◌, ◌++◌, map, take, pos}
use Rattle.arrayvec.specs.ArrayVec.{array_vec_len}
use Rattle.signal_frames.proofs.values.push_mask.Given as goal

-- the words so far are added
abbrev pub invariant-loop-word : goal.invariant-loop-word
invariant-loop-word l =
    (l.values.items ≡ l.initial.values.items ++ map pos (take l.word-index l.word-items))
    × (array_vec_len l.values ≡ array_vec_len l.initial.values + l.word-index)
