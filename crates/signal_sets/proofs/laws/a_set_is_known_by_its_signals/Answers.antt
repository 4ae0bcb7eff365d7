use Rattle.signal_sets.proofs.Known.{same_set, same_native_set}
use Rattle.signal_sets.proofs.laws.a_set_is_known_by_its_signals.Goals as goal

pub returns-clause-o32 : goal.returns-clause-o32
returns-clause-o32 c = λ left right one two same. same_set left right same one two

pub returns-clause-native : goal.returns-clause-native
returns-clause-native c = λ left right one two same. same_native_set left right same one two
