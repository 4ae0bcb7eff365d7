use Rattle.kernel_laws.proofs.OpenThingsKept.{read_at_keeps}
use Rattle.kernel_laws.proofs.transfers.reading_at_a_place_keeps_files.Goals as goal

pub returns : goal.returns
returns c = λ files fd place asked room is. (read_at_keeps files is fd place asked room).kept
