-- Where a call is to store what was there before is nothing to the kernel.
use Rattle.std.proofs.Common.{◌≡◌, ℕ, List, [], ◌∷◌, refl, sym, subst}
use Rattle.std.specs.Prelude.{slice_set}
use Rattle.kernel_model.specs.State.{Kernel}
use Rattle.native_calls.specs.Clocks.{setitimer_row}
use Rattle.native_calls.specs.Laws.{TellsOld, Setitimer, Sigaltstack, Sigaction, Sigprocmask, Sigtimedwait, Prlimit}
use Rattle.native_calls.specs.Signals.{rt_sigaction_row, rt_sigprocmask_row, rt_sigtimedwait_row, sigaltstack_row}
use Rattle.native_calls.specs.System.{prlimit_row}
use Rattle.native_calls.specs.Table.{native_call}

module _ (kernel : Kernel) (memory left : List ℕ) where
  abbrev IsSame : ℕ → ℕ → List ℕ → Type 0
  IsSame number place args = (native_call number args kernel memory left).kernel ≡ (native_call number (slice_set args place 0) kernel memory left).kernel

  setitimer_same : (args : List ℕ) → IsSame 103 2 args
  unfolding setitimer_row
  setitimer_same [] = refl
  setitimer_same (first ∷ []) = refl
  setitimer_same (first ∷ second ∷ []) = refl
  setitimer_same (first ∷ second ∷ third ∷ rest) = refl

  sigaltstack_same : (args : List ℕ) → IsSame 132 1 args
  unfolding sigaltstack_row
  sigaltstack_same [] = refl
  sigaltstack_same (first ∷ []) = refl
  sigaltstack_same (first ∷ second ∷ rest) = refl

  sigaction_same : (args : List ℕ) → IsSame 134 2 args
  unfolding rt_sigaction_row
  sigaction_same [] = refl
  sigaction_same (first ∷ []) = refl
  sigaction_same (first ∷ second ∷ []) = refl
  sigaction_same (first ∷ second ∷ third ∷ rest) = refl

  sigprocmask_same : (args : List ℕ) → IsSame 135 2 args
  unfolding rt_sigprocmask_row
  sigprocmask_same [] = refl
  sigprocmask_same (first ∷ []) = refl
  sigprocmask_same (first ∷ second ∷ []) = refl
  sigprocmask_same (first ∷ second ∷ third ∷ rest) = refl

  sigtimedwait_same : (args : List ℕ) → IsSame 137 1 args
  unfolding rt_sigtimedwait_row
  sigtimedwait_same [] = refl
  sigtimedwait_same (first ∷ []) = refl
  sigtimedwait_same (first ∷ second ∷ rest) = refl

  prlimit_same : (args : List ℕ) → IsSame 261 3 args
  unfolding prlimit_row
  prlimit_same [] = refl
  prlimit_same (first ∷ []) = refl
  prlimit_same (first ∷ second ∷ []) = refl
  prlimit_same (first ∷ second ∷ third ∷ []) = refl
  prlimit_same (first ∷ second ∷ third ∷ fourth ∷ rest) = refl

  pub told_same : (number place : ℕ) (args : List ℕ) → TellsOld number place → IsSame number place args
  told_same number place args (Setitimer own at) =
      subst (λ number. IsSame number place args) (sym own) (subst (λ place. IsSame 103 place args) (sym at) (setitimer_same args))
  told_same number place args (Sigaltstack own at) =
      subst (λ number. IsSame number place args) (sym own) (subst (λ place. IsSame 132 place args) (sym at) (sigaltstack_same args))
  told_same number place args (Sigaction own at) =
      subst (λ number. IsSame number place args) (sym own) (subst (λ place. IsSame 134 place args) (sym at) (sigaction_same args))
  told_same number place args (Sigprocmask own at) =
      subst (λ number. IsSame number place args) (sym own) (subst (λ place. IsSame 135 place args) (sym at) (sigprocmask_same args))
  told_same number place args (Sigtimedwait own at) =
      subst (λ number. IsSame number place args) (sym own) (subst (λ place. IsSame 137 place args) (sym at) (sigtimedwait_same args))
  told_same number place args (Prlimit own at) =
      subst (λ number. IsSame number place args) (sym own) (subst (λ place. IsSame 261 place args) (sym at) (prlimit_same args))
