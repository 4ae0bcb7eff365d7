use Rattle.std.proofs.Common.{refl}
use Rattle.layouts.proofs.SoundTables.{sound_from_test}
use Rattle.layouts.proofs.native.native_layout.Goals as goal

pub returns-in-Stat-clause-sound : goal.returns-in-Stat-clause-sound
returns-in-Stat-clause-sound c = sound_from_test _ refl

pub returns-in-Utsname-clause-sound : goal.returns-in-Utsname-clause-sound
returns-in-Utsname-clause-sound c = sound_from_test _ refl

pub returns-in-Termios-clause-sound : goal.returns-in-Termios-clause-sound
returns-in-Termios-clause-sound c = sound_from_test _ refl
