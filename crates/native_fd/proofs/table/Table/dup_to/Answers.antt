use Rattle.std.proofs.Common.{◌≡◌, None, length, sym, ap, subst, ◌∙◌, arith, true}
use Rattle.std.specs.Prelude.{is_some}
use Rattle.kernel_model.specs.State.{Descriptors}
use Rattle.kernel_model.specs.Table.{slot}
use Rattle.native_fd.specs.inside.Links.{AreLive}
use Rattle.native_fd.proofs.TableLemmas.{AreLive-shared, closed-free, leading-lives, number-lives, number-small}
use Rattle.native_fd.proofs.table.Table.dup_to.Goals as goal

pub link-requires-clause-free : goal.link-requires-clause-free
link-requires-clause-free g c =
    ap (λ (t : Descriptors g.row.T.Denot). slot t.fds c.args.onto) (c.self.view_is ∙ c.close-last.ensures.closed) ∙ closed-free c.args.self.now c.args.onto

pub link-requires-clause-number : goal.link-requires-clause-number
link-requires-clause-number g c = number-small c.close-last.new.self c.in-Some.ensures.valid c.args.fd c.in-Some.number (sym c.in-Some.ensures.number)

pub invariant_of-self : goal.invariant_of-self
invariant_of-self g c =
    let free : slot c.self.inside.links c.args.onto ≡ None =
    ap (λ (t : Descriptors g.row.T.Denot). slot t.fds c.args.onto) (c.self.view_is ∙ c.close-last.ensures.closed) ∙ closed-free c.args.self.now c.args.onto in
    let lives : is_some (slot c.self.inside.descriptions c.in-Some.number) ≡ true =
    ap (λ (t : Descriptors g.row.T.Denot). is_some (slot t.live c.in-Some.number)) c.self.view_is
    ∙ number-lives c.close-last.new.self c.in-Some.ensures.valid c.args.fd c.in-Some.number (sym c.in-Some.ensures.number) in
    let long = ap (λ (t : Descriptors g.row.T.Denot). length t.fds) c.self.view_is ∙ c.in-Some.ensures.valid.fds in
    subst (λ l. AreLive l c.self.inside.descriptions) (sym c.link.ensures)
    (AreLive-shared c.self.inside.links c.self.inside.descriptions c.self.invariant c.args.onto c.in-Some.number
    (omega (arith, long, c.requires.within)) free (leading-lives c.self.inside.links c.self.inside.descriptions c.self.invariant c.in-Some.number lives))
