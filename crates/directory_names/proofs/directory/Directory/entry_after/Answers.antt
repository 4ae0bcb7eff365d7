use Rattle.std.proofs.Common.{Some, ap, sym, ◌∙◌}
use Rattle.std.specs.Option.{option_map}
use Rattle.directory_names.specs.inside.Index.{named}
use Rattle.directory_names.specs.Names.{Names, shown, entry_after}
use Rattle.directory_names.proofs.IndexLemmas.{at_index, entry_after-index}
use Rattle.directory_names.proofs.directory.Directory.entry_after.Goals as goal

pub returns-in_err-index-clause-entry : goal.returns-in_err-index-clause-entry
returns-in_err-index-clause-entry c =
    let es = c.self.inside.names.entries in
    ap (option_map shown) c.from_residual.ensures
    ∙ ap (at_index es) (sym c.in_err-index.was ∙ c.after.ensures)
    ∙ entry_after-index es c.args.cookie c.self.inside.order.seats c.self.invariant.1
    ∙ ap (λ (n : Names). entry_after n.entries c.args.cookie) c.self.view_is

pub returns-in_err-name-clause-entry : goal.returns-in_err-name-clause-entry
returns-in_err-name-clause-entry c =
    let es = c.self.inside.names.entries in
    ap (option_map shown) c.from_residual-in_err-name.ensures
    ∙ ap (option_map named) c.in_err-name.ensures.entry
    ∙ ap (at_index es) (sym c.in_ok-index.was ∙ c.after.ensures)
    ∙ entry_after-index es c.args.cookie c.self.inside.order.seats c.self.invariant.1
    ∙ ap (λ (n : Names). entry_after n.entries c.args.cookie) c.self.view_is

pub returns-clause-entry : goal.returns-clause-entry
returns-clause-entry c =
    let es = c.self.inside.names.entries in
    let place = c.in_ok-name.place.now in
    let told = ap (λ name. Some (record { cookie = place.cookie; name = name; number = place.node.number; key = place.node.key })) c.as_slice.ensures.value in
    told
    ∙ ap (option_map named) c.in_ok-name.ensures.entry
    ∙ ap (at_index es) (sym c.in_ok-index.was ∙ c.after.ensures)
    ∙ entry_after-index es c.args.cookie c.self.inside.order.seats c.self.invariant.1
    ∙ ap (λ (n : Names). entry_after n.entries c.args.cookie) c.self.view_is
