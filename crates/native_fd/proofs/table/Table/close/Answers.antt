use Rattle.std.proofs.Common.{None, set, sym, ap, subst, ◌∙◌}
use Rattle.kernel_model.specs.Table.{closed, last_description}
use Rattle.native_fd.specs.inside.Links.{AreLive}
use Rattle.native_fd.proofs.TableLemmas.{AreLive-kept, AreLive-last, closed-kept, closed-last, last-kept, last-gone}
use Rattle.native_fd.proofs.table.Table.close.Goals as goal

pub invariant_of-self : goal.invariant_of-self
invariant_of-self g c =
    subst (λ l. AreLive l c.self.inside.descriptions) (sym c.unlink.ensures.unlinked)
    (AreLive-kept c.self.inside.links c.self.inside.descriptions c.self.invariant c.args.fd (sym c.in_err-number.ensures.alone))

pub returns-in_err-number-clause-last : goal.returns-in_err-number-clause-last
returns-in_err-number-clause-last g c =
    c.from_residual.ensures
    ∙ sym (last-kept c.self.inside.links c.self.inside.descriptions c.self.invariant c.args.fd (sym c.in_err-number.ensures.alone))
    ∙ ap (λ t. last_description t c.args.fd) c.self.view_is

pub returns-in_err-number-clause-closed : goal.returns-in_err-number-clause-closed
returns-in_err-number-clause-closed g c =
    ap (λ l. record { fds = l; live = c.self.inside.descriptions }) c.unlink.ensures.unlinked
    ∙ sym (closed-kept c.self.inside.links c.self.inside.descriptions c.self.invariant c.args.fd (sym c.in_err-number.ensures.alone))
    ∙ ap (λ t. closed t c.args.fd) c.self.view_is

pub invariant_of-self-2 : goal.invariant_of-self-2
invariant_of-self-2 g c =
    subst (λ l. AreLive l c.remove.new.self) (sym c.unlink.ensures.unlinked)
    (subst (λ l. AreLive (set c.self.inside.links c.args.fd None) l) (sym c.remove.ensures.left)
    (AreLive-last c.self.inside.links c.self.inside.descriptions c.self.invariant c.args.fd c.in_ok-number.number (sym c.in_ok-number.ensures.alone)))

pub returns-clause-last : goal.returns-clause-last
returns-clause-last g c =
    c.remove.ensures.removed
    ∙ sym (last-gone c.self.inside.links c.self.inside.descriptions c.self.invariant c.args.fd c.in_ok-number.number (sym c.in_ok-number.ensures.alone))
    ∙ ap (λ t. last_description t c.args.fd) c.self.view_is

pub returns-clause-closed : goal.returns-clause-closed
returns-clause-closed g c =
    ap (λ l. record { fds = l; live = c.remove.new.self }) c.unlink.ensures.unlinked
    ∙ ap (λ l. record { fds = set c.self.inside.links c.args.fd None; live = l }) c.remove.ensures.left
    ∙ sym (closed-last c.self.inside.links c.self.inside.descriptions c.self.invariant c.args.fd c.in_ok-number.number (sym c.in_ok-number.ensures.alone))
    ∙ ap (λ t. closed t c.args.fd) c.self.view_is
