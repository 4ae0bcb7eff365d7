-- The rows on signals keep the kernel.
use Rattle.std.proofs.Common.{◌≡◌, ℕ, suc, ◌+◌, ◌-◌, ◌<◌, ◌≤◌, List, [], ◌∷◌, length, drop, get_or, set, Bool, true, false, ◌&&◌, refl, sym, ◌∙◌, ap, subst, arith, length-drop, inl, inr}
use Rattle.std.specs.Prelude.{Option, Some, None, is_some, Ok, Err, sum_by, nat_lt, nat_le, ◌==◌, not, ℤ, if◌then◌else◌}
use Rattle.std.proofs.lemmas.Bool.{leb-false, cases_lt}
use Rattle.std.proofs.lemmas.List.{length-set, get_or-set_other, get_or-drop, drop-set-lt, drop-set-add}
use Rattle.std.proofs.lemmas.List.Elements.{All-set}
use Rattle.std.proofs.lemmas.List.Sums.{sum_by-set}
use Rattle.kernel_core.specs.declared.mask.MaskChange.{MaskChange}
use Rattle.kernel_core.specs.declared.mask.MaskChange.TheVariants as changes
use Rattle.kernel_core.specs.declared.signal.Sig.{Sig}
use Rattle.kernel_laws.proofs.Keeps.{Keeps, keeps, done_keeps, waits_keeps, choice_keeps}
use Rattle.kernel_laws.proofs.KernelParts.{with_signals_kept}
use Rattle.kernel_laws.proofs.SignalWords.{blockable_mask, not_kill, not_stop, union_set, without_set}
use Rattle.kernel_laws.specs.Arguments.{WhereGiven}
use Rattle.kernel_model.proofs.Posting.{place_below, post_kept, with_pending_kept}
use Rattle.kernel_model.specs.Always.{AreSignals, IsKernel, IsMask, IsPendingAt, IsSet, IsStack}
use Rattle.kernel_model.specs.Came.{Did, Given, given_or_none}
use Rattle.kernel_model.specs.Clock.{waits_until}
use Rattle.kernel_model.specs.Shared.{Info}
use Rattle.kernel_model.specs.SignalRows.{Named, Nothing, Signal, Unlisted, SentInfo, accept, accept_first, accept_signal, after_action, change_mask, changed_mask, ignores, is_unblockable, kept_stack, kill, kill_thread, kill_thread_of, least_stack, no_action, no_stack, pause, pending, pending_at, queue, queued, queue_limit, send, send_named, sent_as, set_action, set_action_to, set_stack, set_stack_to, ss_disable, suspend, with_mask, with_pending, with_stack}
use Rattle.kernel_model.specs.SignalSets.{SignalSet, blockable, place, standard_count}
use Rattle.kernel_model.specs.State.{Kernel, Signals}
use Rattle.kernel_model.specs.declared.signal.Action.{Action}
use Rattle.kernel_model.specs.declared.signal.Post.{Post}
use Rattle.kernel_model.specs.declared.signal.Post.TheVariants as posts
use Rattle.kernel_model.specs.declared.signal.SigStack.{SigStack}
use Rattle.kernel_model.specs.declared.time.TimeSpec.{TimeSpec}

-- Fewer signals pend

module _ (signals : Signals) (is : AreSignals signals) (signal : Sig) (infos : List Info) (fewer : length infos ≤ length (pending_at signals signal)) where
  standard_fewer : place signal < standard_count → queued (with_pending signals signal infos) ≤ queue_limit
  standard_fewer low = subst (λ xs. sum_by length xs ≤ queue_limit) (sym (drop-set-lt standard_count signals.pending (place signal) infos low)) is.few

  real_time_fewer : standard_count ≤ place signal → queued (with_pending signals signal infos) ≤ queue_limit
  real_time_fewer high =
      let k = place signal - standard_count in
      let at : standard_count + k ≡ place signal = omega (arith, high) in
      let moved : drop standard_count (set signals.pending (place signal) infos) ≡ set (drop standard_count signals.pending) k infos
      = ap (λ n. drop standard_count (set signals.pending n infos)) (sym at) ∙ drop-set-add standard_count signals.pending k infos in
      let there : get_or (drop standard_count signals.pending) k [] ≡ pending_at signals signal
      = get_or-drop standard_count signals.pending k [] ∙ ap (λ n. get_or signals.pending n []) at in
      let sums = sum_by-set length (drop standard_count signals.pending) k infos [] (omega (arith, length-drop standard_count signals.pending, is.pending, place_below signal, high)) in
      subst (λ xs. sum_by length xs ≤ queue_limit) (sym moved) (omega (arith, sums, ap length there, is.few, fewer))

  fewer_queued : queued (with_pending signals signal infos) ≤ queue_limit
  fewer_queued = elim (cases_lt (place signal) standard_count) [ inl low ↦ standard_fewer low | inr high ↦ real_time_fewer high ]

  pub fewer_kept : IsPendingAt (place signal) infos → AreSignals (with_pending signals signal infos)
  fewer_kept fits = with_pending_kept signals signal infos is fits fewer_queued

pub none_pending : (at : ℕ) → IsPendingAt at []
none_pending at = (λ k d h. absurd (omega (arith, h)), λ h. omega arith)

pub emptied_kept : (signals : Signals) → AreSignals signals → (signal : Sig) → AreSignals (with_pending signals signal [])
emptied_kept signals is signal = fewer_kept signals is signal [] (omega arith) (none_pending (place signal))

-- Actions

module _ (signals : Signals) (is : AreSignals signals) (signal : Sig) (action : Action) (masked : IsSet action.mask) (other : is_unblockable signal ≡ false) where
  abbrev new_action : Action
  new_action = record action { mask = blockable action.mask }

  abbrev with_action : Signals
  with_action = record signals { actions = set signals.actions (place signal) new_action }

  with_action_kept : AreSignals with_action
  with_action_kept = record {
    actions = length-set signals.actions (place signal) new_action ∙ is.actions;
    masks = All-set (λ a. IsMask a.mask) signals.actions (place signal) new_action (blockable_mask action.mask masked) is.masks;
    pending = is.pending;
    each = is.each;
    few = is.few;
    mask = is.mask;
    stack = is.stack;
    kill = ap (λ a. a.handler) (get_or-set_other signals.actions (place signal) 8 new_action no_action (λ e. not_kill signal other (sym e))) ∙ is.kill;
    stop = ap (λ a. a.handler) (get_or-set_other signals.actions (place signal) 22 new_action no_action (λ e. not_stop signal other (sym e))) ∙ is.stop;
  }

  pub after_action_kept : AreSignals (after_action signals signal action)
  after_action_kept = by (ignores signal action) where
    by : (b : Bool) → AreSignals (if b then with_pending with_action signal [] else with_action)
    by true = emptied_kept with_action with_action_kept signal
    by false = with_action_kept

-- Waits

pub until_keeps : {V : Type 0} (kernel : Kernel) (is : IsKernel kernel) (until : Option ℕ) (ended : Did Kernel V) → Keeps IsKernel ended → Keeps IsKernel (waits_until kernel until ended)
until_keeps kernel is None ended h = waits_keeps IsKernel kernel is None
until_keeps kernel is (Some until) ended h = choice_keeps IsKernel (nat_le until kernel.clock) _ _ (λ e. h) (λ e. waits_keeps IsKernel kernel is (Some until))

rest_pending : (at : ℕ) (info : Info) (rest : List Info) → IsPendingAt at (info ∷ rest) → IsPendingAt at rest
rest_pending at info rest fits = (λ k d h. fits.0 (suc k) d (omega (arith, h)), λ low. omega (arith, fits.1 low))

module _ (kernel : Kernel) (is : IsKernel kernel) where
  action_to_keeps : (signal : Sig) (action : Option (Given Action)) → WhereGiven (λ a. IsSet a.mask) action → (is_some action && is_unblockable signal) ≡ false
      → (new : Option Action) → given_or_none action ≡ Ok new → Keeps IsKernel (set_action_to kernel signal new)
  action_to_keeps signal action masked other None e = done_keeps IsKernel _ _ is
  action_to_keeps signal None masked other (Some new) e = absurd cc
  action_to_keeps signal (Some (Err error)) masked other (Some new) e = absurd cc
  action_to_keeps signal (Some (Ok given)) masked other (Some new) e =
      let same : given ≡ new = cc in
      done_keeps IsKernel _ _ (with_signals_kept kernel is _ (after_action_kept kernel.signals is.signals signal new (subst (λ a. IsSet a.mask) same masked) other))

  pub set_action_keeps : (size : ℕ) (signal : Option Sig) (action : Option (Given Action)) → WhereGiven (λ a. IsSet a.mask) action → Keeps IsKernel (set_action kernel size signal action)
  unfolding set_action
  set_action_keeps size signal action masked = search (keeps, action_to_keeps, is, masked) depth 14

  -- The mask

  with_mask_kept : (mask : SignalSet) → IsSet mask → IsKernel (with_mask kernel mask)
  with_mask_kept mask words = with_signals_kept kernel is (record kernel.signals { mask = blockable mask }) (record {
    actions = is.signals.actions;
    masks = is.signals.masks;
    pending = is.signals.pending;
    each = is.signals.each;
    few = is.signals.few;
    mask = blockable_mask mask words;
    stack = is.signals.stack;
    kill = is.signals.kill;
    stop = is.signals.stop;
  })

  changed_set : (how : MaskChange) (set : SignalSet) → IsSet set → IsSet (changed_mask how kernel.signals.mask set)
  changed_set changes.Block set words = union_set kernel.signals.mask set is.signals.mask.0 words
  changed_set changes.Unblock set words = without_set kernel.signals.mask set is.signals.mask.0 words
  changed_set changes.Set set words = words

  set_words : (given : Given SignalSet) → WhereGiven IsSet (Some given) → (set : SignalSet) → given ≡ Ok set → IsSet set
  set_words (Err error) words set e = absurd cc
  set_words (Ok other) words set e = let same : other ≡ set = cc in subst IsSet same words

  masked_kept : (given : Given SignalSet) → WhereGiven IsSet (Some given) → (how : MaskChange) (set : SignalSet) → given ≡ Ok set
      → IsKernel (with_mask kernel (changed_mask how kernel.signals.mask set))
  masked_kept given words how set e = with_mask_kept _ (changed_set how set (set_words given words set e))

  pub change_mask_keeps : (size : ℕ) (how : Option MaskChange) (set : Option (Given SignalSet)) → WhereGiven IsSet set → Keeps IsKernel (change_mask kernel size how set)
  unfolding change_mask
  change_mask_keeps size how None words = search (keeps, is) depth 14
  change_mask_keeps size how (Some given) words = search (keeps, masked_kept given words, is) depth 14

  -- Accepting

  first_keeps : (signal : Sig) (infos : List Info) (none : Did Kernel Info) → pending_at kernel.signals signal ≡ infos → Keeps IsKernel none
      → Keeps IsKernel (accept_first kernel signal infos none)
  first_keeps signal [] none e h = h
  first_keeps signal (info ∷ rest) none e h =
      let all : IsPendingAt (place signal) (info ∷ rest) = subst (λ xs. IsPendingAt (place signal) xs) e (is.signals.each (place signal) (place_below signal)) in
      done_keeps IsKernel _ _ (with_signals_kept kernel is _
      (fewer_kept kernel.signals is.signals signal rest (omega (arith, ap length e)) (rest_pending (place signal) info rest all)))

  signal_keeps : (signal : Option Sig) (none : Did Kernel Info) → Keeps IsKernel none → Keeps IsKernel (accept_signal kernel signal none)
  signal_keeps None none h = h
  signal_keeps (Some signal) none h = first_keeps signal (pending_at kernel.signals signal) none refl h

  pub accept_keeps : (order : List Sig) (waitable : SignalSet → SignalSet) (set : Given SignalSet) (time : Option (Given TimeSpec)) (size : ℕ)
      → Keeps IsKernel (accept kernel order waitable set time size)
  unfolding accept
  accept_keeps order waitable set time size = search (keeps, signal_keeps, until_keeps, is) depth 14

  pub pending_keeps : (size : ℕ) → Keeps IsKernel (pending kernel size)
  unfolding pending
  pending_keeps size = search (keeps, is) depth 14

  pub suspend_keeps : (size : ℕ) (set : Given SignalSet) → Keeps IsKernel (suspend kernel size set)
  unfolding suspend
  suspend_keeps size set = search (keeps, is) depth 14

  pub pause_keeps : Keeps IsKernel (pause kernel)
  unfolding pause
  pause_keeps = search (keeps, is) depth 14

  -- The alternate stack

  kept_stack_is : (stack : SigStack) → (not (stack.flags == ss_disable) && nat_lt stack.size least_stack) ≡ false → IsStack (kept_stack stack)
  kept_stack_is stack = by (stack.flags == ss_disable) (nat_lt stack.size least_stack) refl where
    by : (a b : Bool) → nat_lt stack.size least_stack ≡ b → (not a && b) ≡ false → IsStack (if a then no_stack else record stack { flags = 0 })
    by true b e h = inl refl
    by false true e h = absurd cc
    by false false e h = inr (refl, omega (arith, leb-false (suc stack.size) least_stack e))

  with_stack_kept : (stack : SigStack) → IsStack (kept_stack stack) → IsKernel (with_stack kernel stack)
  with_stack_kept stack fits = with_signals_kept kernel is (record kernel.signals { stack = kept_stack stack }) (record {
    actions = is.signals.actions;
    masks = is.signals.masks;
    pending = is.signals.pending;
    each = is.signals.each;
    few = is.signals.few;
    mask = is.signals.mask;
    stack = fits;
    kill = is.signals.kill;
    stop = is.signals.stop;
  })

  stack_kept : (stack : SigStack) → (not (stack.flags == ss_disable) && nat_lt stack.size least_stack) ≡ false → IsKernel (with_stack kernel stack)
  stack_kept stack e = with_stack_kept stack (kept_stack_is stack e)

  stack_to_keeps : (sp : Option ℕ) (stack : Option SigStack) → Keeps IsKernel (set_stack_to kernel sp stack)
  stack_to_keeps sp None = done_keeps IsKernel _ _ is
  stack_to_keeps sp (Some stack) = search (keeps, is, stack_kept) depth 14

  pub set_stack_keeps : (sp : Option ℕ) (stack : Option (Given SigStack)) → Keeps IsKernel (set_stack kernel sp stack)
  unfolding set_stack
  set_stack_keeps sp stack = search (keeps, is, stack_to_keeps) depth 14

  -- Sending

  sent_keeps : (new : Kernel) (answer : Post) → IsKernel new → Keeps IsKernel (sent_as new answer)
  sent_keeps new posts.Queued h = record { kept = h }
  sent_keeps new posts.Dropped h = record { kept = h }
  sent_keeps new posts.Full h = record { kept = h }

  send_keeps : (info : Info) → Keeps IsKernel (send kernel info)
  send_keeps info = sent_keeps _ _ (with_signals_kept kernel is _ (post_kept kernel.signals info false is.signals))

  named_keeps : (signal : Named) (info : Sig → Info) → Keeps IsKernel (send_named kernel signal info)
  named_keeps Nothing info = record { kept = is }
  named_keeps (Signal signal) info = send_keeps (info signal)
  named_keeps Unlisted info = record { kept = is }

  pub kill_keeps : (pid : ℤ) (signal : Named) → Keeps IsKernel (kill kernel pid signal)
  unfolding kill
  kill_keeps pid signal = search (keeps, named_keeps, is) depth 14

  pub kill_thread_keeps : (tid : ℤ) (signal : Named) → Keeps IsKernel (kill_thread kernel tid signal)
  unfolding kill_thread
  kill_thread_keeps tid signal = search (keeps, named_keeps, is) depth 14

  pub kill_thread_of_keeps : (pid tid : ℤ) (signal : Named) → Keeps IsKernel (kill_thread_of kernel pid tid signal)
  unfolding kill_thread_of
  kill_thread_of_keeps pid tid signal = search (keeps, named_keeps, is) depth 14

  pub queue_keeps : (pid : ℤ) (signal : Named) (sent : Given SentInfo) → Keeps IsKernel (queue kernel pid signal sent)
  unfolding queue
  queue_keeps pid signal sent = search (keeps, named_keeps, is) depth 14
