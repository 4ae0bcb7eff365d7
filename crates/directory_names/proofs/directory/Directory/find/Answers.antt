use Rattle.std.proofs.Common.{◌≡◌, ap, subst, ◌∙◌, rules}
use Rattle.std.specs.Option.{option_map, option_copied}
use Rattle.directory_names.specs.Names.{AreNames}
use Rattle.directory_names.proofs.IndexLemmas.{find_name-lookup}
use Rattle.directory_names.proofs.directory.Directory.find.Goals as goal

pub returns-clause-node : goal.returns-clause-node
returns-clause-node c =
    let shown : c.map.result ≡ option_map (λ p. p.node) (option_copied c.get.result) = search rules in
    shown ∙ ap (option_map (λ p. p.node)) c.get.ensures.value
    ∙ find_name-lookup c.args.self.now c.self.inside.names.entries c.self.inside.order.seats (ap (λ n. n.entries) c.self.view_is)
    (subst AreNames c.self.view_is c.self.invariant.0) c.self.invariant.1 c.args.name.now
