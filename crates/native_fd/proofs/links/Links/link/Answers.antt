use Rattle.std.proofs.Common.{◌+◌, true, Some, length, set, get_or, sym, ap, subst, ◌∙◌, arith}
use Rattle.std.proofs.Math.ListN.{length-set}
use Rattle.std.proofs.lemmas.List.{get_or_read}
use Rattle.kernel_model.specs.Table.{slot}
use Rattle.native_fd.specs.inside.Links.{AreLinks}
use Rattle.native_fd.proofs.LinkLemmas.{new, count-small, AreLinks-linked}
use Rattle.native_fd.proofs.links.Links.link.Goals as goal

pub overflow_add-index_mut : goal.overflow_add-index_mut
overflow_add-index_mut c =
    let counts = c.self.inside.counts.items in
    let value = get_or_read counts c.args.number c.index_mut-2.result.now (omega (arith, c.self.invariant.counts_sized, c.requires.number)) c.index_mut-2.ensures.value 0 in
    let small = count-small c.self.inside.fds.items counts c.self.inside.fds_taken c.self.inside.numbers_taken c.self.invariant c.args.number c.requires.number in
    omega (arith, value, small)

pub invariant_of-self : goal.invariant_of-self
invariant_of-self c =
    let fds = c.self.inside.fds.items in
    let counts = c.self.inside.counts.items in
    let fd = c.args.fd in
    let number = c.args.number in
    let value = get_or_read counts number c.index_mut-2.result.now (omega (arith, c.self.invariant.counts_sized, c.requires.number)) c.index_mut-2.ensures.value 0 in
    let free = ap (λ l. slot l fd) c.self.view_is ∙ c.requires.free in
    let fds_long = sym (length-set c.self.inside.fds_taken fd true) ∙ sym (ap length c.take.ensures.taken) ∙ c.take.ensures.whole in
    let numbers_long = sym (length-set c.self.inside.numbers_taken number true) ∙ sym (ap length c.take-2.ensures.taken) ∙ c.take-2.ensures.whole in
    let linked = AreLinks-linked fds counts c.self.inside.fds_taken c.self.inside.numbers_taken c.self.invariant fd number c.requires.within c.requires.number free fds_long numbers_long in
    subst (λ n. AreLinks (set fds fd (Some (new number))) (set counts number (n + 1)) c.take.new.self c.take-2.new.self) (sym value)
    (subst (λ a. AreLinks (set fds fd (Some (new number))) (set counts number (get_or counts number 0 + 1)) a c.take-2.new.self) (sym c.take.ensures.taken)
    (subst (λ b. AreLinks (set fds fd (Some (new number))) (set counts number (get_or counts number 0 + 1)) (set c.self.inside.fds_taken fd true) b) (sym c.take-2.ensures.taken) linked))
