use Rattle.std.proofs.Common.{◌≡◌, ℕ, ◌+◌, ◌-◌, ◌≤◌, ◌++◌, ◌∙◌, List, Option, None, ap, length, take, replicate, vec_len, arith}
use Rattle.std.proofs.lemmas.List.{take_all}
use Rattle.native_fd.specs.inside.Descriptions.{all_keys}
use Rattle.native_fd.proofs.DescriptionLemmas.{all-more}
use Rattle.native_fd.proofs.descriptions.make_room.Goals as goal

-- a list that gets longer, and as long as that at the end
longer : (keys now : List (Option ℕ)) (count had : ℕ) → had ≡ length keys → length keys ≤ count → count ≤ 1024 → now ≡ take count keys ++ replicate (count - had) None → all_keys now ≡ all_keys keys
longer keys now count had long more few is =
    ap all_keys is
    ∙ ap (λ l. all_keys (l ++ replicate (count - had) None)) (take_all count keys more)
    ∙ all-more keys (count - had) (omega arith)

pub returns-in_ok-resize-clause-same : goal.returns-in_ok-resize-clause-same
returns-in_ok-resize-clause-same c =
    longer c.args.keys.now.items c.resize.new.self.items (c.args.number + 1) (vec_len c.args.keys.now) (omega arith) (omega arith) (omega (arith, c.requires.within)) c.in_ok-resize.ensures.items
