use Rattle.kernel_laws.proofs.Opened.{duplicate_leads_there, onto_leads_there, onto_with_leads_there}
use Rattle.kernel_laws.proofs.effects.a_duplicate_leads_where_the_first_does.Goals as goal

pub returns : goal.returns
returns c = record {
  duplicate = duplicate_leads_there;
  duplicate_onto = λ files fd description open_as is onto done. onto_leads_there files fd description open_as is.table.fds onto done;
  duplicate_onto_with = λ files fd description open_as is onto cloexec done. onto_with_leads_there files fd description open_as is.table.fds onto cloexec done;
}
