-- Zeros stand behind the set, which ends at a multiple of 8.
use Rattle.std.proofs.Common.{ℕ, List, ◌++◌, ◌∙◌, ap, replicate}
use Rattle.host_mem.specs.Memory.{padded}
use Rattle.kernel_model.specs.SignalSets as spec
use Rattle.native_calls.specs.SignalBytes.{set_bytes}
use Rattle.bridge_signal_state.proofs.Rooms.{set_padded}
use Rattle.bridge_signal_state.proofs.filling.put_taking.Goals as goal

pub returns : goal.returns
returns c =
    c.in_ok-push_zeros.ensures.ok
    ∙ ap (λ (m : List ℕ). padded m ++ replicate 144 0) (c.in_ok-put_set.ensures ∙ ap set_bytes c.only.ensures)
    ∙ ap (λ (m : List ℕ). m ++ replicate 144 0) (set_padded (spec.only c.args.sig))
