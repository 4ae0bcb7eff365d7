-- What pends after a post.
use Rattle.std.proofs.Common.{◌≡◌, ◌≢◌, List, [], ◌∷◌, ◌++◌, length, Bool, true, false, refl, ◌∙◌, ap, arith, inl, inr, ◌⊎◌}
use Rattle.std.specs.Prelude.{nat_le, not, if◌then◌else◌}
use Rattle.std.proofs.lemmas.List.{get_or-set_other, get_or-set_same, length-set}
use Rattle.kernel_core.specs.NameCalls.{is_empty_list}
use Rattle.kernel_core.specs.declared.signal.Sig.{Sig}
use Rattle.kernel_core.specs.declared.signal.Sig.TheVariants as sigs
use Rattle.kernel_model.proofs.Posting.{place_below}
use Rattle.kernel_model.specs.Shared.{Info}
use Rattle.kernel_model.specs.SignalRows.{after_removal, appended, is_continue, is_dropped, is_standard, is_stop, pending_at, pends, post, posted, queue_limit, queued, with_pending}
use Rattle.kernel_model.specs.SignalSets.{place}
use Rattle.kernel_model.specs.State.{Signals}
use Rattle.kernel_model.specs.declared.signal.Post.TheVariants as posts

ends_some : {A : Type 0} (xs : List A) (x : A) → is_empty_list (xs ++ x ∷ []) ≡ false
ends_some [] x = refl
ends_some (y ∷ xs) x = refl

-- Where there is a place for each signal

module _ (signals : Signals) (long : length signals.pending ≡ 128) (signal : Sig) (infos : List Info) where
  at_its_place : pending_at (with_pending signals signal infos) signal ≡ infos
  at_its_place = get_or-set_same signals.pending (place signal) infos [] (omega (arith, place_below signal, long))

  at_other_places : (other : Sig) → place other ≢ place signal → pending_at (with_pending signals signal infos) other ≡ pending_at signals other
  at_other_places other apart = get_or-set_other signals.pending (place signal) (place other) infos [] apart

  still_long : length (with_pending signals signal infos).pending ≡ 128
  still_long = length-set signals.pending (place signal) infos ∙ long

-- CONT removes what pends of the four stop signals.

module _ (signals : Signals) (long : length signals.pending ≡ 128) where
  abbrev less_1 : Signals
  less_1 = with_pending signals sigs.Stop []

  abbrev less_2 : Signals
  less_2 = with_pending less_1 sigs.Tstp []

  abbrev less_3 : Signals
  less_3 = with_pending less_2 sigs.Ttin []

  abbrev less_4 : Signals
  less_4 = with_pending less_3 sigs.Ttou []

  long_1 : length less_1.pending ≡ 128
  long_1 = still_long signals long sigs.Stop []

  long_2 : length less_2.pending ≡ 128
  long_2 = still_long less_1 long_1 sigs.Tstp []

  long_3 : length less_3.pending ≡ 128
  long_3 = still_long less_2 long_2 sigs.Ttin []

  long_4 : length less_4.pending ≡ 128
  long_4 = still_long less_3 long_3 sigs.Ttou []

  abbrev are_some : List Info → Bool
  are_some infos = not (is_empty_list infos)

  no_stops : (signal : Sig) → is_stop signal ≡ true → pends less_4 signal ≡ false
  no_stops sigs.Ttou e = ap are_some (at_its_place less_3 long_3 sigs.Ttou [])
  no_stops sigs.Ttin e = ap are_some (at_other_places less_3 long_3 sigs.Ttou [] sigs.Ttin (λ p. omega (arith, p)) ∙ at_its_place less_2 long_2 sigs.Ttin [])
  no_stops sigs.Tstp e =
      ap are_some (at_other_places less_3 long_3 sigs.Ttou [] sigs.Tstp (λ p. omega (arith, p)) ∙ at_other_places less_2 long_2 sigs.Ttin [] sigs.Tstp (λ p. omega (arith, p))
      ∙ at_its_place less_1 long_1 sigs.Tstp [])
  no_stops sigs.Stop e =
      ap are_some (at_other_places less_3 long_3 sigs.Ttou [] sigs.Stop (λ p. omega (arith, p)) ∙ at_other_places less_2 long_2 sigs.Ttin [] sigs.Stop (λ p. omega (arith, p))
      ∙ at_other_places less_1 long_1 sigs.Tstp [] sigs.Stop (λ p. omega (arith, p)) ∙ at_its_place signals long sigs.Stop [])
  no_stops _ e = absurd (let wrong : false ≡ true = e in cc)

  removal_long : (signal : Sig) → length (after_removal signals signal).pending ≡ 128
  removal_long signal = by (is_stop signal) (is_continue signal) where
    by : (s c : Bool) → length (if s then with_pending signals sigs.Cont [] else (if c then less_4 else signals)).pending ≡ 128
    by true c = still_long signals long sigs.Cont []
    by false true = long_4
    by false false = long

-- A signal that was queued pends.

module _ (signals : Signals) (long : length signals.pending ≡ 128) (info : Info) (kept : Bool) where
  abbrev rest : Signals
  rest = after_removal signals info.sig

  rest_long : length rest.pending ≡ 128
  rest_long = removal_long signals long info.sig

  appended_pends : pends (appended rest info) info.sig ≡ true
  appended_pends =
      ap (λ infos. not (is_empty_list infos)) (at_its_place rest rest_long info.sig (pending_at rest info.sig ++ info ∷ []))
      ∙ ap not (ends_some (pending_at rest info.sig) info)

  pub queued_pends : (post signals info kept).post ≡ posts.Queued → pends (post signals info kept).signals info.sig ≡ true
  unfolding post
  queued_pends = by (is_dropped rest info.sig kept) (is_standard info.sig) (pends rest info.sig) (nat_le queue_limit (queued rest)) where
    by : (a b c d : Bool)
        → (if a then posted rest posts.Dropped else (if b then (if c then posted rest posts.Dropped else posted (appended rest info) posts.Queued)
        else (if d then posted rest posts.Full else posted (appended rest info) posts.Queued))).post ≡ posts.Queued
        → pends (if a then posted rest posts.Dropped else (if b then (if c then posted rest posts.Dropped else posted (appended rest info) posts.Queued)
        else (if d then posted rest posts.Full else posted (appended rest info) posts.Queued))).signals info.sig ≡ true
    by true b c d e = absurd cc
    by false true true d e = absurd cc
    by false true false d e = appended_pends
    by false false c true e = absurd cc
    by false false c false e = appended_pends

  -- one that was dropped is ignored and not blocked, and nobody waits for it, or is a standard one that pends already
  pub dropped_why : (post signals info kept).post ≡ posts.Dropped → (is_dropped signals info.sig kept ≡ true) ⊎ (pends (post signals info kept).signals info.sig ≡ true)
  unfolding post
  dropped_why = by (is_dropped rest info.sig kept) (is_standard info.sig) (pends rest info.sig) (nat_le queue_limit (queued rest)) refl refl where
    same_drop : is_dropped signals info.sig kept ≡ is_dropped rest info.sig kept
    same_drop = by_removal (is_stop info.sig) (is_continue info.sig) where
      by_removal : (s c : Bool) → is_dropped signals info.sig kept ≡ is_dropped (if s then with_pending signals sigs.Cont []
          else (if c then with_pending (with_pending (with_pending (with_pending signals sigs.Stop []) sigs.Tstp []) sigs.Ttin []) sigs.Ttou [] else signals)) info.sig kept
      by_removal true c = refl
      by_removal false true = refl
      by_removal false false = refl

    by : (a b c d : Bool) → is_dropped rest info.sig kept ≡ a → pends rest info.sig ≡ c
        → (if a then posted rest posts.Dropped else (if b then (if c then posted rest posts.Dropped else posted (appended rest info) posts.Queued)
        else (if d then posted rest posts.Full else posted (appended rest info) posts.Queued))).post ≡ posts.Dropped
        → (is_dropped signals info.sig kept ≡ true) ⊎ (pends (if a then posted rest posts.Dropped else (if b then (if c then posted rest posts.Dropped else posted (appended rest info) posts.Queued)
        else (if d then posted rest posts.Full else posted (appended rest info) posts.Queued))).signals info.sig ≡ true)
    by true b c d p q e = inl (same_drop ∙ p)
    by false true true d p q e = inr q
    by false true false d p q e = absurd cc
    by false false c true p q e = absurd cc
    by false false c false p q e = absurd cc

  -- Other signals than this one pend as they do once the removal is made.
  others_as : (other : Sig) → place other ≢ place info.sig → pends (post signals info kept).signals other ≡ pends rest other
  unfolding post
  others_as other apart = by (is_dropped rest info.sig kept) (is_standard info.sig) (pends rest info.sig) (nat_le queue_limit (queued rest)) where
    moved : pends (appended rest info) other ≡ pends rest other
    moved = ap (λ infos. not (is_empty_list infos)) (at_other_places rest rest_long info.sig (pending_at rest info.sig ++ info ∷ []) other apart)

    by : (a b c d : Bool)
        → pends (if a then posted rest posts.Dropped else (if b then (if c then posted rest posts.Dropped else posted (appended rest info) posts.Queued)
        else (if d then posted rest posts.Full else posted (appended rest info) posts.Queued))).signals other ≡ pends rest other
    by true b c d = refl
    by false true true d = refl
    by false true false d = moved
    by false false c true = refl
    by false false c false = moved

  -- A stop signal and CONT don't pend together

  cont_apart : is_stop info.sig ≡ true → 24 ≢ place info.sig
  cont_apart e = by info.sig e where
    by : (signal : Sig) → is_stop signal ≡ true → 24 ≢ place signal
    by sigs.Stop h = λ p. omega (arith, p)
    by sigs.Tstp h = λ p. omega (arith, p)
    by sigs.Ttin h = λ p. omega (arith, p)
    by sigs.Ttou h = λ p. omega (arith, p)
    by _ h = absurd (let wrong : false ≡ true = h in cc)

  pub stop_removes_continue : is_stop info.sig ≡ true → pends (post signals info kept).signals sigs.Cont ≡ false
  stop_removes_continue e =
      others_as sigs.Cont (cont_apart e)
      ∙ ap (λ b. pends (if b then with_pending signals sigs.Cont []
      else (if is_continue info.sig then with_pending (with_pending (with_pending (with_pending signals sigs.Stop []) sigs.Tstp []) sigs.Ttin []) sigs.Ttou [] else signals)) sigs.Cont) e
      ∙ ap (λ infos. not (is_empty_list infos)) (at_its_place signals long sigs.Cont [])

  plain_continue : (signal : Sig) → is_continue signal ≡ true → is_stop signal ≡ false
  plain_continue sigs.Cont e = refl
  plain_continue _ e = absurd (let wrong : false ≡ true = e in cc)

  stop_apart : (signal other : Sig) → is_continue signal ≡ true → is_stop other ≡ true → place other ≢ place signal
  stop_apart sigs.Cont sigs.Stop e h = λ p. omega (arith, p)
  stop_apart sigs.Cont sigs.Tstp e h = λ p. omega (arith, p)
  stop_apart sigs.Cont sigs.Ttin e h = λ p. omega (arith, p)
  stop_apart sigs.Cont sigs.Ttou e h = λ p. omega (arith, p)
  stop_apart sigs.Cont _ e h = absurd (let wrong : false ≡ true = h in cc)
  stop_apart _ other e h = absurd (let wrong : false ≡ true = e in cc)

  pub continue_removes_stops : is_continue info.sig ≡ true → (other : Sig) → is_stop other ≡ true → pends (post signals info kept).signals other ≡ false
  continue_removes_stops e other stop =
      others_as other (stop_apart info.sig other e stop)
      ∙ ap (λ b. pends (if b then with_pending signals sigs.Cont [] else (if is_continue info.sig then less_4 signals long else signals)) other) (plain_continue info.sig e)
      ∙ ap (λ b. pends (if b then less_4 signals long else signals) other) e
      ∙ no_stops signals long other stop
