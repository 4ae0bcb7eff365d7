use Rattle.std.proofs.Common.{ap, sym, ◌∙◌, length}
use Rattle.directory_names.specs.Names.{Names}
use Rattle.directory_names.proofs.IndexLemmas.{length-listed}
use Rattle.directory_names.proofs.directory.Directory.len.Goals as goal

pub returns-clause-count : goal.returns-clause-count
returns-clause-count c =
    c.len.ensures ∙ sym (length-listed c.self.inside.names.entries c.self.inside.order.seats c.self.invariant.1)
    ∙ ap (λ (n : Names). length n.entries) c.self.view_is
