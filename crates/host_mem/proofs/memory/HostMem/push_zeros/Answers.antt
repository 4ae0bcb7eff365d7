use Rattle.std.proofs.Common.{ℕ, ◌≡◌, ◌+◌, ◌-◌, ◌++◌, ◌∙◌, List, ap, sym, arith, length, take, replicate, append_assoc, vec_len}
use Rattle.std.proofs.lemmas.List.{replicate-append-replicate, take_all}
use Rattle.host_mem.proofs.memory.HostMem.push_zeros.Goals as goal

-- a list that is filled up with zeros in two steps
zeros_behind : (xs : List ℕ) (n m pad count : ℕ) → n ≡ length xs → m ≡ length xs
    → take (n + pad + count) xs ++ replicate (n + pad + count - m) 0 ≡ (xs ++ replicate pad 0) ++ replicate count 0
zeros_behind xs n m pad count long same =
    let whole : take (n + pad + count) xs ≡ xs = take_all (n + pad + count) xs (omega arith) in
    let more : n + pad + count - m ≡ pad + count = omega arith in
    (λ i. whole i ++ replicate (more i) 0)
    ∙ ap (λ s. xs ++ s) (sym (replicate-append-replicate pad count 0))
    ∙ sym (append_assoc xs (replicate pad 0) (replicate count 0))

pub returns-clause-ok : goal.returns-clause-ok
returns-clause-ok c =
    c.in_ok-resize.ensures.items
    ∙ zeros_behind c.self.inside.bytes.items c.len.result (vec_len c.self.inside.bytes) c.padding.result c.args.count (omega arith) (omega arith)
    ∙ ap (λ n. (c.self.inside.bytes.items ++ replicate n 0) ++ replicate c.args.count 0) c.padding.ensures
    ∙ cc
