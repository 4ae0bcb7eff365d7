use Rattle.kernel_laws.proofs.Led.{open_leads}
use Rattle.kernel_laws.proofs.effects.an_opened_descriptor_leads_to_its_node.Goals as goal

pub returns : goal.returns
returns c = open_leads
