use Rattle.std.proofs.Common.{refl}
use Rattle.layouts.proofs.SoundTables.{sound_from_test}
use Rattle.layouts.proofs.o32.o32_layout.Goals as goal

pub returns-in-Stat-clause-sound : goal.returns-in-Stat-clause-sound
returns-in-Stat-clause-sound c = sound_from_test _ refl

pub returns-in-Stat64-clause-sound : goal.returns-in-Stat64-clause-sound
returns-in-Stat64-clause-sound c = sound_from_test _ refl

pub returns-in-Utsname-clause-sound : goal.returns-in-Utsname-clause-sound
returns-in-Utsname-clause-sound c = sound_from_test _ refl

pub returns-in-Termios-clause-sound : goal.returns-in-Termios-clause-sound
returns-in-Termios-clause-sound c = sound_from_test _ refl

pub returns-in-Sigcontext-clause-sound : goal.returns-in-Sigcontext-clause-sound
returns-in-Sigcontext-clause-sound c = sound_from_test _ refl

pub returns-in-Frame-clause-sound : goal.returns-in-Frame-clause-sound
returns-in-Frame-clause-sound c = sound_from_test _ refl

pub returns-in-RtFrame-clause-sound : goal.returns-in-RtFrame-clause-sound
returns-in-RtFrame-clause-sound c = sound_from_test _ refl

pub returns-in-RtFrameFault-clause-sound : goal.returns-in-RtFrameFault-clause-sound
returns-in-RtFrameFault-clause-sound c = sound_from_test _ refl
