use Rattle.std.proofs.Common.{ap, sym, ◌∙◌, refl}
use Rattle.kernel_model.specs.Table.{slot}
use Rattle.native_fd.proofs.LinkLemmas.{AreLinks-same}
use Rattle.native_fd.proofs.links.Links.set_cloexec.Goals as goal

pub invariant_of-self : goal.invariant_of-self
invariant_of-self c =
    AreLinks-same c.self.inside.fds.items c.self.inside.counts.items c.self.inside.fds_taken c.self.inside.numbers_taken c.self.invariant c.args.fd c.in-Some.descriptor
    (record { number = c.in-Some.descriptor.number; cloexec = c.args.on }) (ap (λ l. slot l c.args.fd) c.self.view_is ∙ sym c.in-Some.ensures.found) refl
