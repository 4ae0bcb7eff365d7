-- What pends can, and masks have neither KILL nor STOP: kept by each change.
use Rattle.std.proofs.Common.{◌≡◌, ℕ, List, [], ◌∷◌, ◌++◌, length, drop, set, replicate, sym, subst, inl, inr}
use Rattle.std.specs.Prelude.{All}
use Rattle.std.proofs.lemmas.Bool.{cases_lt}
use Rattle.std.proofs.lemmas.List.{get_or_past}
use Rattle.std.proofs.lemmas.List.Elements.{All-nil, All-cons, All-append, All-drop, All-replicate, All-set}
use Rattle.kernel_model.specs.Always.{IsMask}
use Rattle.kernel_model.specs.Pending.{AreSound, CanPend, AllCanPend}
use Rattle.kernel_model.specs.Shared.{Info}
use Rattle.kernel_model.specs.SignalRows.{no_action}
use Rattle.kernel_model.specs.SignalSets.{SignalSet, no_signals}
use Rattle.kernel_model.specs.State.{Signals}
use Rattle.kernel_model.specs.declared.signal.Action.{Action}
use Rattle.kernel_model.specs.declared.signal.SigStack.{SigStack}
use Rattle.native_signal.proofs.KeptLaws.{zeros}
use Rattle.native_signal.specs.inside.Pending.{queue_at}

-- what pends at a place can
queue_can : (pending : List (List Info)) (place : ℕ) → AllCanPend pending → All CanPend (queue_at pending place)
queue_can pending place all =
    elim (cases_lt place (length pending)) [
      | inl low ↦ all place [] low
      | inr high ↦ subst (λ (infos : List Info). All CanPend infos) (sym (get_or_past pending place [] high)) (All-nil CanPend)
    ]

-- other infos at a place
set_can : (pending new : List (List Info)) (place : ℕ) (infos : List Info) → All CanPend infos → AllCanPend pending
    → new ≡ set pending place infos → AllCanPend new
set_can pending new place infos here all e =
    subst AllCanPend (sym e) (All-set (λ (xs : List Info). All CanPend xs) pending place infos here all)

-- the signals, by their parts
abbrev parts : List Action → List (List Info) → SignalSet → SigStack → Signals
parts actions pending mask stack = record { actions = actions; pending = pending; mask = mask; stack = stack }

module _ (actions : List Action) (pending new : List (List Info)) (mask : SignalSet) (stack : SigStack) (place : ℕ) (is : AreSound (parts actions pending mask stack)) where
  with_infos : (infos : List Info) → All CanPend infos → new ≡ set pending place infos → AreSound (parts actions new mask stack)
  with_infos infos here e = record { pending = set_can pending new place infos here is.pending e; mask = is.mask; masks = is.masks }

  pub push_sound : (info : Info) → CanPend info → new ≡ set pending place (queue_at pending place ++ info ∷ []) → AreSound (parts actions new mask stack)
  push_sound info can e =
      with_infos (queue_at pending place ++ info ∷ [])
      (All-append CanPend (queue_at pending place) (info ∷ []) (queue_can pending place is.pending) (All-cons CanPend info [] can (All-nil CanPend))) e

  pub pop_sound : new ≡ set pending place (drop 1 (queue_at pending place)) → AreSound (parts actions new mask stack)
  pop_sound e = with_infos (drop 1 (queue_at pending place)) (All-drop CanPend 1 (queue_at pending place) (queue_can pending place is.pending)) e

  pub clear_sound : new ≡ set pending place [] → AreSound (parts actions new mask stack)
  clear_sound e = with_infos [] (All-nil CanPend) e

-- the rest

pub first_sound : (actions : List Action) (pending : List (List Info)) (stack : SigStack) → actions ≡ replicate 128 no_action → pending ≡ replicate 128 []
    → AreSound (parts actions pending no_signals stack)
first_sound actions pending stack default none = record {
  pending = subst AllCanPend (sym none) (All-replicate (λ (xs : List Info). All CanPend xs) 128 [] (All-nil CanPend));
  mask = zeros;
  masks = subst (λ (xs : List Action). All (λ (action : Action). IsMask action.mask) xs) (sym default) (All-replicate (λ (action : Action). IsMask action.mask) 128 no_action zeros);
}

pub mask_sound : (actions : List Action) (pending : List (List Info)) (mask new : SignalSet) (stack : SigStack) → AreSound (parts actions pending mask stack) → IsMask new
    → AreSound (parts actions pending new stack)
mask_sound actions pending mask new stack is fits = record { pending = is.pending; mask = fits; masks = is.masks }

pub stack_sound : (actions : List Action) (pending : List (List Info)) (mask : SignalSet) (stack new : SigStack) → AreSound (parts actions pending mask stack)
    → AreSound (parts actions pending mask new)
stack_sound actions pending mask stack new is = record { pending = is.pending; mask = is.mask; masks = is.masks }

pub action_sound : (actions : List Action) (pending : List (List Info)) (mask : SignalSet) (stack : SigStack) (place : ℕ) (action : Action) → AreSound (parts actions pending mask stack)
    → IsMask action.mask → AreSound (parts (set actions place action) pending mask stack)
action_sound actions pending mask stack place action is fits = record {
  pending = is.pending;
  mask = is.mask;
  masks = All-set (λ (a : Action). IsMask a.mask) actions place action fits is.masks;
}

pub ruleset sound = (push_sound, pop_sound, clear_sound, first_sound, mask_sound, stack_sound, action_sound)
