use Rattle.std.proofs.Common.{None, ◌≡◌, ◌<◌, ◌≤◌, length, ap, sym, subst, ◌∙◌, arith}
use Rattle.std.specs.Prelude.{IfSome}
use Rattle.kernel_model.specs.Table.{slot, lowest_free}
use Rattle.native_fd.proofs.LowestLemmas.{found-free, found-within, lowest-is}
use Rattle.native_fd.proofs.links.Links.lowest.Goals as goal

pub returns-clause-lowest : goal.returns-clause-lowest
returns-clause-lowest c =
    let fds = c.self.inside.fds.items in
    let pool = c.self.inside.fds_taken in
    let small : length fds ≤ length pool = omega (arith, c.self.invariant.fds_sized, c.least_free_from.ensures.whole) in
    let same : length pool ≤ length fds = omega (arith, c.self.invariant.fds_sized, c.least_free_from.ensures.whole) in
    lowest-is fds pool small c.self.invariant.fds_pool c.args.from same c.least_free_from.result c.least_free_from.ensures.least
    ∙ ap (λ l. lowest_free l c.args.from) c.self.view_is

pub returns-clause-within : goal.returns-clause-within
returns-clause-within c =
    let fds = c.self.inside.fds.items in
    let pool = c.self.inside.fds_taken in
    let small : length fds ≤ length pool = omega (arith, c.self.invariant.fds_sized, c.least_free_from.ensures.whole) in
    let same : length pool ≤ length fds = omega (arith, c.self.invariant.fds_sized, c.least_free_from.ensures.whole) in
    subst (λ n. IfSome c.least_free_from.result (λ fd. fd < n)) c.self.invariant.fds_sized
    (found-within fds pool small c.self.invariant.fds_pool c.args.from same c.least_free_from.result c.least_free_from.ensures.least)

pub returns-clause-free : goal.returns-clause-free
returns-clause-free c =
    let fds = c.self.inside.fds.items in
    let pool = c.self.inside.fds_taken in
    let small : length fds ≤ length pool = omega (arith, c.self.invariant.fds_sized, c.least_free_from.ensures.whole) in
    let same : length pool ≤ length fds = omega (arith, c.self.invariant.fds_sized, c.least_free_from.ensures.whole) in
    subst (λ l. IfSome c.least_free_from.result (λ fd. slot l fd ≡ None)) c.self.view_is
    (found-free fds pool small c.self.invariant.fds_pool c.args.from same c.least_free_from.result c.least_free_from.ensures.least)
