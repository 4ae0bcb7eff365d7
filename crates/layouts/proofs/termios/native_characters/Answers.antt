use Rattle.std.proofs.Common.{refl}
use Rattle.layouts.proofs.termios.native_characters.Goals as goal

pub returns : goal.returns
returns c = refl
