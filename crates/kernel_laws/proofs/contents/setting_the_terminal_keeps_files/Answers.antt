use Rattle.kernel_laws.proofs.OpenThingsKept.{set_terminal_settings_keeps}
use Rattle.kernel_laws.proofs.contents.setting_the_terminal_keeps_files.Goals as goal

pub returns : goal.returns
returns c = λ files fd settings is. (set_terminal_settings_keeps files is fd settings).kept
