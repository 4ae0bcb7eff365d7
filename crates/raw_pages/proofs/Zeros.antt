-- Parts of a page of zeros.
use Rattle.std.proofs.Common.{◌≡◌, ◌≤◌, ◌<◌, ◌+◌, ◌-◌, ℕ, length, replicate, take, drop, slice_range, slice_index, ap, ◌∙◌, arith}
use Rattle.std.proofs.lemmas.List.{take-replicate, drop-replicate, get_or-replicate, length-replicate}
use Rattle.raw_pages.specs.Pages.{zero_bytes}

-- a part of zeros is zeros
range-replicate : (size at n : ℕ) → at + n ≤ size → slice_range {X = ℕ} (replicate size 0) at (at + n) ≡ replicate n 0
range-replicate size at n room =
    let exact : at + n - at ≡ n = omega arith in
    let rest : n ≤ size - at = omega arith in
    ap (λ k. take k (drop at (replicate size 0))) exact
    ∙ ap (take n) (drop-replicate at size 0)
    ∙ take-replicate n (size - at) 0 rest

pub zeros_range : (at n : ℕ) → at + n ≤ 4096 → slice_range zero_bytes at (at + n) ≡ replicate n 0
unfolding zero_bytes
zeros_range at n room = range-replicate 4096 at n room

pub zeros_index : (at : ℕ) → at < 4096 → slice_index zero_bytes at ≡ 0
unfolding zero_bytes
zeros_index at room = get_or-replicate 4096 at 0 0 room

pub zeros_whole : length zero_bytes ≡ 4096
unfolding zero_bytes
zeros_whole = length-replicate {A = ℕ} 4096 0
