use Rattle.signal_sets.proofs.Turned.{set_again, native_again}
use Rattle.signal_sets.proofs.laws.a_set_turned_and_back_is_the_same.Goals as goal

pub returns-clause-o32 : goal.returns-clause-o32
returns-clause-o32 c = set_again

pub returns-clause-native : goal.returns-clause-native
returns-clause-native c = native_again
