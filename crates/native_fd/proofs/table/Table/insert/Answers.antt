use Rattle.std.proofs.Common.{◌≡◌, false, None, Some, set, sym, ap, subst, ◌∙◌, arith}
use Rattle.kernel_model.specs.State.{Descriptors}
use Rattle.kernel_model.specs.Table.{slot, inserted}
use Rattle.native_fd.specs.inside.Links.{AreLive}
use Rattle.native_fd.proofs.LinkLemmas.{new}
use Rattle.native_fd.proofs.TableLemmas.{AreLive-inserted, new_place-unused, number-free}
use Rattle.native_fd.proofs.table.Table.insert.Goals as goal

pub unused_number-number-requires : goal.unused_number-number-requires
unused_number-number-requires g c =
    (c.args.fd, c.requires.within, ap (λ (t : Descriptors g.row.T.Denot). slot t.fds c.args.fd) c.self.view_is ∙ c.requires.free)

pub insert-requires-clause-within : goal.insert-requires-clause-within
insert-requires-clause-within g c =
    let free : slot c.self.inside.links c.args.fd ≡ None = ap (λ (t : Descriptors g.row.T.Denot). slot t.fds c.args.fd) c.self.view_is ∙ c.requires.free in
    let unused = c.unused_number-number.ensures.unused c.args.fd c.requires.within free in
    omega (arith, unused.small, c.self.invariant.sized)

pub insert-requires-clause-free : goal.insert-requires-clause-free
insert-requires-clause-free g c =
    let free : slot c.self.inside.links c.args.fd ≡ None = ap (λ (t : Descriptors g.row.T.Denot). slot t.fds c.args.fd) c.self.view_is ∙ c.requires.free in
    let unused = c.unused_number-number.ensures.unused c.args.fd c.requires.within free in
    number-free c.self.inside.links c.self.inside.descriptions c.self.invariant c.unused_number-number.result unused

pub link-requires-clause-number : goal.link-requires-clause-number
link-requires-clause-number g c =
    let free : slot c.self.inside.links c.args.fd ≡ None = ap (λ (t : Descriptors g.row.T.Denot). slot t.fds c.args.fd) c.self.view_is ∙ c.requires.free in
    let unused = c.unused_number-number.ensures.unused c.args.fd c.requires.within free in
    unused.small

pub invariant_of-self-2 : goal.invariant_of-self-2
invariant_of-self-2 g c =
    let free : slot c.self.inside.links c.args.fd ≡ None = ap (λ (t : Descriptors g.row.T.Denot). slot t.fds c.args.fd) c.self.view_is ∙ c.requires.free in
    let unused = c.unused_number-number.ensures.unused c.args.fd c.requires.within free in
    subst (λ l. AreLive l c.insert.new.self) (sym c.link.ensures)
    (subst (λ l. AreLive (set c.self.inside.links c.args.fd (Some (new c.unused_number-number.result))) l) (sym c.in_ok-insert.ensures.ok)
    (AreLive-inserted c.self.inside.links c.self.inside.descriptions c.self.invariant c.args.fd c.unused_number-number.result c.args.item
    (omega (arith, c.requires.within, c.unused_number-number.ensures.sized)) free unused.small))

pub returns-clause-ok : goal.returns-clause-ok
returns-clause-ok g c =
    let free : slot c.self.inside.links c.args.fd ≡ None = ap (λ (t : Descriptors g.row.T.Denot). slot t.fds c.args.fd) c.self.view_is ∙ c.requires.free in
    let unused = c.unused_number-number.ensures.unused c.args.fd c.requires.within free in
    let place = new_place-unused c.self.inside.links c.self.inside.descriptions c.self.invariant c.unused_number-number.result unused in
    ap (λ l. record { fds = l; live = c.insert.new.self }) c.link.ensures
    ∙ ap (λ l. record { fds = set c.self.inside.links c.args.fd (Some (new c.unused_number-number.result)); live = l }) c.in_ok-insert.ensures.ok
    ∙ ap (λ n. record { fds = set c.self.inside.links c.args.fd (Some (new n)); live = set c.self.inside.descriptions n (Some c.args.item) }) (sym place)
    ∙ ap (λ t. inserted t c.args.fd c.args.item false) c.self.view_is
