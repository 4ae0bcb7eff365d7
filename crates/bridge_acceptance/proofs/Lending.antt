-- What the references are left with is what the value that they were lent in is left with.
use Rattle.std.proofs.Common.{◌≡◌, Result, sym, subst}
use Rattle.kernel_core.specs.declared.core_error.Stop.{Stop}
use Rattle.kernel_model.specs.State.{Kernel}
use Rattle.o32_model.specs.Logs.{Kept}
use Rattle.outside.specs.Streams.{Contents}
use Rattle.bridge_signal_state.specs.Passed.{LooksFor}

pub looks_lent : {A : Type 0} (IsThere : A → Type 0) (result : Result A Stop) (kernel lent became : Kernel) (before after : Contents) (old lent_log new : Kept)
    → became ≡ lent → new ≡ lent_log → LooksFor IsThere result kernel lent before after old lent_log → LooksFor IsThere result kernel became before after old new
looks_lent IsThere result kernel lent became before after old lent_log new same kept looks =
    subst (λ (k : Kernel). LooksFor IsThere result kernel k before after old new) (sym same)
    (subst (λ (n : Kept). LooksFor IsThere result kernel lent before after old n) (sym kept) looks)
