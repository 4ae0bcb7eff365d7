use Rattle.kernel_laws.proofs.Opened.{close_closes, close_leaves_others}
use Rattle.kernel_laws.proofs.effects.a_closed_descriptor_leads_nowhere.Goals as goal

pub returns : goal.returns
returns c = record { closed = close_closes; others = close_leaves_others }
