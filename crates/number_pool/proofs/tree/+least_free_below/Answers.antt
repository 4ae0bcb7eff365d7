use Rattle.std.proofs.Common.{◌≡◌, ◌+◌, ◌-◌, ◌*◌, ◌^◌, ◌/◌, ◌%◌, ◌<◌, length, ap, subst, arith}
use Rattle.std.proofs.lemmas.Nat.{pow_pos, one_shl}
use Rattle.number_pool.specs.inside.Tree.{AreFullFrom, IsLeastNode}
use Rattle.number_pool.proofs.Below.{first_left, first_right, end_right, end_whole, full_below_node, least_left, joined, halved}
use Rattle.number_pool.proofs.tree.+least_free_below.Goals as goal
use Rattle.number_pool.proofs.tree.+least_free_below.Goals.{then-end-from-via-then-end-from, then-end-from-via-else-end-from+then-flags-node}
use Rattle.std.specs.Option.{MatchOption}

pub returns-then-end-from : goal.returns-then-end-from
returns-then-end-from t c = λ leaf low there high.
    let node = c.args.node in
    let height = c.args.height in
    let flags = c.args.flags.now in
    let positive : 0 < 2 ^ height = pow_pos height in
    let shifted : (1 * 2 ^ height) % 4294967296 ≡ 2 ^ height = one_shl height 32 (omega (arith, c.requires.height)) in
    let end : (node + 1) * ((1 * 2 ^ height) % 4294967296) ≡ (node + 1) * 2 ^ height = ap (λ k. (node + 1) * k) shifted in
    elim c.then-end-from.branch [
      | then-end-from-via-then-end-from w ↦ absurd (omega (arith, end, low, there, high, w.if-end-from.true))
      | then-end-from-via-else-end-from+then-flags-node w ↦
          full_below_node (length flags / 2) flags c.requires.tree (omega (arith, positive, c.requires.high, c.requires.tree.sized)) height node c.requires.low
          (omega (arith, c.requires.high, c.requires.tree.sized)) w.if-flags-node.true leaf low high
    ]

pub least_free_below-requires : goal.least_free_below-requires
least_free_below-requires t c =
    let node = c.args.node in
    let half = 2 ^ (c.args.height - 1) in
    let is = halved c.args.height c.if-height-eq0.false in
    let left = first_left node half (2 ^ c.args.height) is in
    let right = first_right node half (2 ^ c.args.height) is in
    let whole = end_whole node half (2 ^ c.args.height) is in
    let smaller = c.decreases in
    (omega (arith, smaller), (c.requires.tree, (c.requires.small, (omega (arith, left, c.requires.low), (omega (arith, right, whole, c.requires.high), omega (arith, c.requires.height))))))

pub least_free_below-requires-in-None : goal.least_free_below-requires-in-None
least_free_below-requires-in-None t c =
    let node = c.args.node in
    let half = 2 ^ (c.args.height - 1) in
    let is = halved c.args.height c.if-height-eq0.false in
    let right = first_right node half (2 ^ c.args.height) is in
    let end = end_right node half (2 ^ c.args.height) is in
    let smaller = c.decreases in
    (omega (arith, smaller), (c.requires.tree, (c.requires.small, (omega (arith, right, c.requires.low), (omega (arith, end, c.requires.high), omega (arith, c.requires.height))))))

pub returns-in-Some : goal.returns-in-Some
returns-in-Some t c =
    let node = c.args.node in
    let half = 2 ^ (c.args.height - 1) in
    let is = halved c.args.height c.if-height-eq0.false in
    let left = first_left node half (2 ^ c.args.height) is in
    let right = first_right node half (2 ^ c.args.height) is in
    let whole = end_whole node half (2 ^ c.args.height) is in
    least_left c.args.flags.now (node * 2 ^ c.args.height) ((2 * node + 1) * half) ((node + 1) * 2 ^ c.args.height) c.args.from c.in-Some.leaf
    (omega (arith, right, whole))
    (subst (λ first. IsLeastNode c.args.flags.now first ((2 * node + 1) * half) c.args.from c.in-Some.leaf) left c.in-Some.ensures)

pub returns-in-None : goal.returns-in-None
returns-in-None t c =
    let flags = c.args.flags.now in
    let from = c.args.from in
    let node = c.args.node in
    let half = 2 ^ (c.args.height - 1) in
    let middle = (2 * node + 1) * half in
    let is = halved c.args.height c.if-height-eq0.false in
    let left = first_left node half (2 ^ c.args.height) is in
    let right = first_right node half (2 ^ c.args.height) is in
    let end = end_right node half (2 ^ c.args.height) is in
    joined flags (node * 2 ^ c.args.height) middle ((node + 1) * 2 ^ c.args.height) from c.least_free_below-in-None.result (omega (arith, right))
    (subst (λ first. AreFullFrom flags first middle from) left c.in-None.ensures)
    (subst (λ e. MatchOption c.least_free_below-in-None.result (AreFullFrom flags middle e from) (IsLeastNode flags middle e from)) end c.least_free_below-in-None.ensures)
