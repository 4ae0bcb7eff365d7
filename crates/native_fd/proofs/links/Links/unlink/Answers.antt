use Rattle.std.proofs.Common.{◌≡◌, ◌-◌, ◌<◌, false, None, length, set, get_or, sym, ap, subst, ◌∙◌, arith}
use Rattle.std.proofs.Math.ListN.{length-set}
use Rattle.std.proofs.lemmas.List.{get_or_read, get_or-set_same}
use Rattle.kernel_model.specs.Table.{slot}
use Rattle.native_fd.specs.inside.Links.{AreLinks, left_alone}
use Rattle.native_fd.proofs.LinkLemmas.{leading-some, AreLinks-shared, AreLinks-alone, alone-shared, alone-last}
use Rattle.native_fd.proofs.links.Links.unlink.Goals as goal

pub overflow_sub-index_mut : goal.overflow_sub-index_mut
overflow_sub-index_mut c =
    let counts = c.self.inside.counts.items in
    let d = c.in_ok-descriptor.descriptor in
    let small = c.in_ok-descriptor.ensures.small in
    let at = ap (λ l. slot l c.args.fd) c.self.view_is ∙ sym c.in_ok-descriptor.ensures.found in
    let value = get_or_read counts d.number c.index_mut-2.result.now (omega (arith, c.self.invariant.counts_sized, small)) c.index_mut-2.ensures.value 0 in
    omega (arith, value, c.self.invariant.counted d.number small, leading-some c.self.inside.fds.items c.args.fd d at)

pub invariant_of-self : goal.invariant_of-self
invariant_of-self c =
    let fds = c.self.inside.fds.items in
    let counts = c.self.inside.counts.items in
    let fd = c.args.fd in
    let d = c.in_ok-descriptor.descriptor in
    let small = c.in_ok-descriptor.ensures.small in
    let inside : d.number < length counts = omega (arith, c.self.invariant.counts_sized, small) in
    let at = ap (λ l. slot l fd) c.self.view_is ∙ sym c.in_ok-descriptor.ensures.found in
    let value = get_or_read counts d.number c.index_mut-2.result.now inside c.index_mut-2.ensures.value 0 in
    let now = get_or_read (set counts d.number (c.index_mut-2.result.now - 1)) d.number c.index.result.now (omega (arith, length-set counts d.number (c.index_mut-2.result.now - 1), inside)) c.index.ensures 0
    ∙ get_or-set_same counts d.number (c.index_mut-2.result.now - 1) 0 inside in
    let more : 0 < get_or counts d.number 0 - 1 = omega (arith, value, now, c.if-index-gt0.true) in
    let fds_long = sym (length-set c.self.inside.fds_taken fd false) ∙ sym (ap length c.give_back.ensures.free) ∙ c.give_back.ensures.whole in
    subst (λ n. AreLinks (set fds fd None) (set counts d.number (n - 1)) c.give_back.new.self c.self.inside.numbers_taken) (sym value)
    (subst (λ a. AreLinks (set fds fd None) (set counts d.number (get_or counts d.number 0 - 1)) a c.self.inside.numbers_taken) (sym c.give_back.ensures.free)
    (AreLinks-shared fds counts c.self.inside.fds_taken c.self.inside.numbers_taken c.self.invariant fd d at fds_long more))

pub returns-then-index-gt0-clause-alone : goal.returns-then-index-gt0-clause-alone
returns-then-index-gt0-clause-alone c =
    let fds = c.self.inside.fds.items in
    let counts = c.self.inside.counts.items in
    let fd = c.args.fd in
    let d = c.in_ok-descriptor.descriptor in
    let inside : d.number < length counts = omega (arith, c.self.invariant.counts_sized, c.in_ok-descriptor.ensures.small) in
    let at = ap (λ l. slot l fd) c.self.view_is ∙ sym c.in_ok-descriptor.ensures.found in
    let value = get_or_read counts d.number c.index_mut-2.result.now inside c.index_mut-2.ensures.value 0 in
    let now = get_or_read (set counts d.number (c.index_mut-2.result.now - 1)) d.number c.index.result.now (omega (arith, length-set counts d.number (c.index_mut-2.result.now - 1), inside)) c.index.ensures 0
    ∙ get_or-set_same counts d.number (c.index_mut-2.result.now - 1) 0 inside in
    let more : 0 < get_or counts d.number 0 - 1 = omega (arith, value, now, c.if-index-gt0.true) in
    alone-shared fds counts c.self.inside.fds_taken c.self.inside.numbers_taken c.self.invariant fd d at more
    ∙ ap (left_alone fds fd) (sym at)
    ∙ ap (λ l. left_alone l fd (slot l fd)) c.self.view_is

pub invariant_of-self-2 : goal.invariant_of-self-2
invariant_of-self-2 c =
    let fds = c.self.inside.fds.items in
    let counts = c.self.inside.counts.items in
    let fd = c.args.fd in
    let d = c.in_ok-descriptor.descriptor in
    let inside : d.number < length counts = omega (arith, c.self.invariant.counts_sized, c.in_ok-descriptor.ensures.small) in
    let at = ap (λ l. slot l fd) c.self.view_is ∙ sym c.in_ok-descriptor.ensures.found in
    let value = get_or_read counts d.number c.index_mut-2.result.now inside c.index_mut-2.ensures.value 0 in
    let now = get_or_read (set counts d.number (c.index_mut-2.result.now - 1)) d.number c.index.result.now (omega (arith, length-set counts d.number (c.index_mut-2.result.now - 1), inside)) c.index.ensures 0
    ∙ get_or-set_same counts d.number (c.index_mut-2.result.now - 1) 0 inside in
    let none : get_or counts d.number 0 - 1 ≡ 0 = omega (arith, value, now, c.if-index-gt0.false) in
    let fds_long = sym (length-set c.self.inside.fds_taken fd false) ∙ sym (ap length c.give_back.ensures.free) ∙ c.give_back.ensures.whole in
    let numbers_long = sym (length-set c.self.inside.numbers_taken d.number false) ∙ sym (ap length c.give_back-2.ensures.free) ∙ c.give_back-2.ensures.whole in
    subst (λ n. AreLinks (set fds fd None) (set counts d.number (n - 1)) c.give_back.new.self c.give_back-2.new.self) (sym value)
    (subst (λ a. AreLinks (set fds fd None) (set counts d.number (get_or counts d.number 0 - 1)) a c.give_back-2.new.self) (sym c.give_back.ensures.free)
    (subst (λ b. AreLinks (set fds fd None) (set counts d.number (get_or counts d.number 0 - 1)) (set c.self.inside.fds_taken fd false) b) (sym c.give_back-2.ensures.free)
    (AreLinks-alone fds counts c.self.inside.fds_taken c.self.inside.numbers_taken c.self.invariant fd d at fds_long numbers_long none)))

pub returns-clause-alone : goal.returns-clause-alone
returns-clause-alone c =
    let fds = c.self.inside.fds.items in
    let counts = c.self.inside.counts.items in
    let fd = c.args.fd in
    let d = c.in_ok-descriptor.descriptor in
    let inside : d.number < length counts = omega (arith, c.self.invariant.counts_sized, c.in_ok-descriptor.ensures.small) in
    let at = ap (λ l. slot l fd) c.self.view_is ∙ sym c.in_ok-descriptor.ensures.found in
    let value = get_or_read counts d.number c.index_mut-2.result.now inside c.index_mut-2.ensures.value 0 in
    let now = get_or_read (set counts d.number (c.index_mut-2.result.now - 1)) d.number c.index.result.now (omega (arith, length-set counts d.number (c.index_mut-2.result.now - 1), inside)) c.index.ensures 0
    ∙ get_or-set_same counts d.number (c.index_mut-2.result.now - 1) 0 inside in
    let none : get_or counts d.number 0 - 1 ≡ 0 = omega (arith, value, now, c.if-index-gt0.false) in
    alone-last fds counts c.self.inside.fds_taken c.self.inside.numbers_taken c.self.invariant fd d at none
    ∙ ap (left_alone fds fd) (sym at)
    ∙ ap (λ l. left_alone l fd (slot l fd)) c.self.view_is
