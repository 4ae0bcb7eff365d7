-- A fault is taken, or the first that pends of a signal.
use Rattle.std.proofs.Common.{◌≡◌, ◌∙◌, ℕ, List, [], ◌∷◌, drop, set, refl, sym, ap, Some, None}
use Rattle.std.specs.Prelude.{slice_get}
use Rattle.std.proofs.lemmas.List.{set-get_or}
use Rattle.guest_space.specs.Memory.{Memory}
use Rattle.kernel_core.specs.declared.signal.Sig.{Sig}
use Rattle.kernel_model.specs.Shared.{Info}
use Rattle.kernel_model.specs.SignalRows.{action_at, pending_at, with_pending, with_signals}
use Rattle.kernel_model.specs.SignalSets.{place}
use Rattle.kernel_model.specs.State.{Kernel}
use Rattle.kernel_model.specs.declared.signal.Action.{Action}
use Rattle.mips_exec.specs.Processor.{Processor}
use Rattle.o32_turns.specs.Closing.{whole_end}
use Rattle.o32_turns.specs.Delivering.{delivered, fault_delivered, fault_taken, signal_taken}
use Rattle.o32_turns.specs.Going.{Standing, within_of}
use Rattle.schedule.specs.declared.events.Due.{Due}

some_is : {A : Type 0} {a b : A} → Some a ≡ Some b → a ≡ b
some_is same = cc

module _ (standing : Standing) (processor : Processor) (memory : Memory) (kernel became : Kernel) (signal : Sig) (coming : List Due) (idle : ℕ) where
  pub taken_none : None ≡ slice_get (pending_at kernel.signals signal) 0
      → became ≡ with_signals kernel (with_pending kernel.signals signal (drop 1 (pending_at kernel.signals signal)))
      → within_of standing processor memory became coming idle
      ≡ signal_taken whole_end (within_of standing processor memory kernel coming idle) signal (pending_at kernel.signals signal)
  taken_none = by (pending_at kernel.signals signal) refl where
    by : (queue : List Info) → pending_at kernel.signals signal ≡ queue → None ≡ slice_get queue 0
        → became ≡ with_signals kernel (with_pending kernel.signals signal (drop 1 queue))
        → within_of standing processor memory became coming idle ≡ signal_taken whole_end (within_of standing processor memory kernel coming idle) signal queue
    by [] at none is =
        let same : set kernel.signals.pending (place signal) [] ≡ kernel.signals.pending =
        ap (λ (q : List Info). set kernel.signals.pending (place signal) q) (sym at) ∙ set-get_or kernel.signals.pending (place signal) [] in
        ap (λ (k : Kernel). within_of standing processor memory k coming idle) is
        ∙ ap (λ (pending : List (List Info)). within_of standing processor memory (with_signals kernel (record kernel.signals { pending = pending })) coming idle) same
    by (info ∷ queue) at none is = absurd cc

  pub taken_some : (info : Info) → Some info ≡ slice_get (pending_at kernel.signals signal) 0
      → became ≡ with_signals kernel (with_pending kernel.signals signal (drop 1 (pending_at kernel.signals signal)))
      → delivered whole_end (within_of standing processor memory became coming idle) info (action_at kernel.signals signal)
      ≡ signal_taken whole_end (within_of standing processor memory kernel coming idle) signal (pending_at kernel.signals signal)
  taken_some info = by (pending_at kernel.signals signal) where
    by : (queue : List Info) → Some info ≡ slice_get queue 0 → became ≡ with_signals kernel (with_pending kernel.signals signal (drop 1 queue))
        → delivered whole_end (within_of standing processor memory became coming idle) info (action_at kernel.signals signal)
        ≡ signal_taken whole_end (within_of standing processor memory kernel coming idle) signal queue
    by [] there is = absurd cc
    by (first ∷ queue) there is =
        ap (λ (k : Kernel). delivered whole_end (within_of standing processor memory k coming idle) info (action_at kernel.signals signal)) is
        ∙ ap (λ (i : Info). delivered whole_end (within_of standing processor memory (with_signals kernel (with_pending kernel.signals signal queue)) coming idle) i (action_at kernel.signals signal)) (some_is there)

-- a fault, whose action was found and with which the kernel stayed
pub taken_fault : (standing went : Standing) (processor : Processor) (memory : Memory) (kernel became : Kernel) (info : Info) (action : Action) (coming : List Due) (idle : ℕ)
    → went ≡ record standing { fault = None } → became ≡ kernel → action ≡ action_at kernel.signals info.sig
    → fault_delivered whole_end (within_of went processor memory became coming idle) info action
    ≡ fault_taken whole_end (within_of standing processor memory kernel coming idle) info
taken_fault standing went processor memory kernel became info action coming idle gone same found =
    λ i. fault_delivered whole_end (within_of (gone i) processor memory (same i) coming idle) info (found i)
