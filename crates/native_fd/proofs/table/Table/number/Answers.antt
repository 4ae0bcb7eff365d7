use Rattle.std.proofs.Common.{subst}
use Rattle.kernel_model.specs.Always.{IsTable}
use Rattle.native_fd.proofs.TableLemmas.{IsTable-links}
use Rattle.native_fd.proofs.table.Table.number.Goals as goal

pub returns-clause-valid : goal.returns-clause-valid
returns-clause-valid g c = subst (λ t. IsTable t) c.self.view_is (IsTable-links c.self.inside.links c.self.inside.descriptions c.self.invariant c.descriptor.ensures.sized)

pub returns-in_err-descriptor-clause-valid : goal.returns-in_err-descriptor-clause-valid
returns-in_err-descriptor-clause-valid g c = subst (λ t. IsTable t) c.self.view_is (IsTable-links c.self.inside.links c.self.inside.descriptions c.self.invariant c.descriptor.ensures.sized)
