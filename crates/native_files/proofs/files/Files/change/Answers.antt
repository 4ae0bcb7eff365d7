use Rattle.std.proofs.Common.{sym, ap, subst, ◌∙◌}
use Rattle.std.specs.Prelude.{option_map}
use Rattle.kernel_model.specs.State.{Files}
use Rattle.kernel_model.specs.Table.{description_at}
use Rattle.native_files.specs.inside.Kept.{AreKept}
use Rattle.native_files.proofs.KeptLemmas.{AreKept-changed}
use Rattle.native_files.proofs.files.Files.change.Goals as goal

pub invariant_of-self : goal.invariant_of-self
invariant_of-self c =
    subst (λ t. AreKept c.self.inside.vfs t.live c.self.inside.node_keys.items c.self.inside.directory) (sym c.set.ensures.changed)
    (AreKept-changed c.self.inside.vfs c.self.inside.table c.self.inside.node_keys.items c.self.inside.directory c.args.fd c.args.description
    (ap (λ (f : Files). option_map (λ d. d.object) (description_at f.table c.args.fd)) c.self.view_is ∙ c.requires.same) c.self.invariant)
