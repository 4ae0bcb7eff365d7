use Rattle.kernel_laws.proofs.NamesKept.{rename_keeps}
use Rattle.kernel_laws.proofs.names.renaming_keeps_files.Goals as goal

pub returns : goal.returns
returns c = λ files now old_base old_path new_base new_path is time old_text new_text. (rename_keeps files is now time old_base old_path old_text new_base new_path new_text).kept
