-- The set and the count of what pends, as the list at one place changes.
use Rattle.std.proofs.Common.{◌≡◌, ℕ, zero, suc, ◌+◌, ◌-◌, ◌*◌, ◌/◌, ◌%◌, ◌^◌, ◌<◌, ◌≤◌, Bool, true, false, List, [], ◌∷◌, ◌++◌, length, take, drop, get_or, set, refl, sym, ap, subst, ◌∙◌, arith}
use Rattle.std.specs.Prelude.{bit_and, bit_or, not, sum_by, Option, None, Some, IfNone, slice_get}
use Rattle.std.proofs.lemmas.List.{length-take, length-drop, take-set-le, drop-set-lt, drop-set-add, get_or-take, get_or-drop, length-set, set-get_or}
use Rattle.std.proofs.lemmas.List.Sums.{sum_by-set}
use Rattle.std.proofs.Math.Seq.{take-set-lt}
use Rattle.kernel_core.specs.NameCalls.{is_empty_list}
use Rattle.kernel_model.specs.Shared.{Info}
use Rattle.kernel_model.specs.SignalRows.{bits_of}
use Rattle.kernel_model.specs.SignalSets.{SignalSet, signal_count, standard_count}
use Rattle.kernel_model.specs.State.{Signals}
use Rattle.native_signal.specs.inside.Pending.{queue_at, set_of, queued_in, with_place, without_place, marked, IsCounted}
use Rattle.native_signal.proofs.BitLaws.{bits-marked, bits-unmarked}

-- the 32 lists from a place on
abbrev part : List (List Info) → ℕ → List (List Info)
part pending from = take 32 (drop from pending)

-- those that hold the changed list, those before and those behind
part_there : (pending : List (List Info)) (from i place : ℕ) (queue : List Info) → place ≡ from + i → i < 32
    → part (set pending place queue) from ≡ set (part pending from) i queue
part_there pending from i place queue at inside =
    ap (λ n. part (set pending n queue) from) at
    ∙ ap (take 32) (drop-set-add from pending i queue)
    ∙ take-set-lt 32 (drop from pending) i queue inside

part_behind : (pending : List (List Info)) (from place : ℕ) (queue : List Info) → place < from
    → part (set pending place queue) from ≡ part pending from
part_behind pending from place queue before = ap (take 32) (drop-set-lt from pending place queue before)

part_before : (pending : List (List Info)) (from place : ℕ) (queue : List Info) → from + 32 ≤ place
    → part (set pending place queue) from ≡ part pending from
part_before pending from place queue behind =
    let at : place ≡ from + (place - from) = omega arith in
    ap (λ n. part (set pending n queue) from) at
    ∙ ap (take 32) (drop-set-add from pending (place - from) queue)
    ∙ take-set-le 32 (drop from pending) (place - from) queue (omega arith)

-- the word of a place
abbrev word : List (List Info) → ℕ → ℕ
word pending k = bits_of (part pending (32 * k))

word_at : (pending : List (List Info)) (k : ℕ) → k < 4 → get_or (set_of pending) k 0 ≡ word pending k
word_at pending zero small = refl
word_at pending (suc zero) small = refl
word_at pending (suc (suc zero)) small = refl
word_at pending (suc (suc (suc zero))) small = refl
word_at pending (suc (suc (suc (suc k)))) small = absurd (omega arith)

four : (a b c d w x y z : ℕ) → a ≡ w → b ≡ x → c ≡ y → d ≡ z → a ∷ b ∷ c ∷ d ∷ [] ≡ w ∷ x ∷ y ∷ z ∷ []
four a b c d w x y z p q r s = cc

-- one word changes
changed : (pending : List (List Info)) (k i place : ℕ) (queue : List Info) (new : ℕ) → k < 4 → place ≡ 32 * k + i → i < 32
    → bits_of (set (part pending (32 * k)) i queue) ≡ new → set_of (set pending place queue) ≡ set (set_of pending) k new
changed pending zero i place queue new small at inside is =
    four _ _ _ _ _ _ _ _ (ap bits_of (part_there pending 0 i place queue (omega arith) inside) ∙ is)
    (ap bits_of (part_behind pending 32 place queue (omega arith))) (ap bits_of (part_behind pending 64 place queue (omega arith)))
    (ap bits_of (part_behind pending 96 place queue (omega arith)))
changed pending (suc zero) i place queue new small at inside is =
    four _ _ _ _ _ _ _ _ (ap bits_of (part_before pending 0 place queue (omega arith)))
    (ap bits_of (part_there pending 32 i place queue (omega arith) inside) ∙ is) (ap bits_of (part_behind pending 64 place queue (omega arith)))
    (ap bits_of (part_behind pending 96 place queue (omega arith)))
changed pending (suc (suc zero)) i place queue new small at inside is =
    four _ _ _ _ _ _ _ _ (ap bits_of (part_before pending 0 place queue (omega arith)))
    (ap bits_of (part_before pending 32 place queue (omega arith))) (ap bits_of (part_there pending 64 i place queue (omega arith) inside) ∙ is)
    (ap bits_of (part_behind pending 96 place queue (omega arith)))
changed pending (suc (suc (suc zero))) i place queue new small at inside is =
    four _ _ _ _ _ _ _ _ (ap bits_of (part_before pending 0 place queue (omega arith)))
    (ap bits_of (part_before pending 32 place queue (omega arith))) (ap bits_of (part_before pending 64 place queue (omega arith)))
    (ap bits_of (part_there pending 96 i place queue (omega arith) inside) ∙ is)
changed pending (suc (suc (suc (suc k)))) i place queue new small at inside is = absurd (omega arith)

module _ (pending : List (List Info)) (whole : length pending ≡ signal_count) (place : ℕ) (low : place < signal_count) where
  part_length : length (part pending (32 * (place / 32))) ≡ 32
  part_length = omega (arith, length-take 32 (drop (32 * (place / 32)) pending), length-drop (32 * (place / 32)) pending)

  part_at : get_or (part pending (32 * (place / 32))) (place % 32) [] ≡ queue_at pending place
  part_at =
      let at : 32 * (place / 32) + place % 32 ≡ place = omega arith in
      get_or-take 32 (drop (32 * (place / 32)) pending) (place % 32) [] (omega arith)
      ∙ get_or-drop (32 * (place / 32)) pending (place % 32) []
      ∙ ap (λ n. queue_at pending n) at

  here : (queue : List Info) (new : ℕ) → bits_of (set (part pending (32 * (place / 32))) (place % 32) queue) ≡ new
      → set_of (set pending place queue) ≡ set (set_of pending) (place / 32) new
  here queue new is = changed pending (place / 32) (place % 32) place queue new (omega arith) (omega arith) (omega arith) is

  old_word : get_or (set_of pending) (place / 32) 0 ≡ word pending (place / 32)
  old_word = word_at pending (place / 32) (omega arith)

  -- something pends there now
  set_of-marked : (queue : List Info) → is_empty_list queue ≡ false → set_of (set pending place queue) ≡ with_place (set_of pending) place
  set_of-marked queue some =
      here queue _ (bits-marked (part pending (32 * (place / 32))) (place % 32) queue (omega (arith, part_length)) some
      ∙ ap (λ w. bit_or w (2 ^ (place % 32))) (sym old_word))

  -- nothing pends there now
  set_of-unmarked : set_of (set pending place []) ≡ without_place (set_of pending) place
  set_of-unmarked =
      here [] _ (bits-unmarked (part pending (32 * (place / 32))) (place % 32) (omega (arith, part_length)) (omega (arith, part_length))
      ∙ ap (λ w. bit_and w (2 ^ 32 - 1 - 2 ^ (place % 32))) (sym old_word))

  pub set_of-set : (queue : List Info) → set_of (set pending place queue) ≡ marked (set_of pending) place (not (is_empty_list queue))
  set_of-set [] = set_of-unmarked
  set_of-set (info ∷ queue) = set_of-marked (info ∷ queue) refl

  -- the count of real-time signals
  pub queued-standard : (queue : List Info) → place < standard_count → queued_in (set pending place queue) ≡ queued_in pending
  queued-standard queue standard = ap (sum_by length) (drop-set-lt standard_count pending place queue standard)

  pub queued-set : (queue : List Info) → standard_count ≤ place
      → queued_in (set pending place queue) + length (queue_at pending place) ≡ queued_in pending + length queue
  queued-set queue high =
      let k = place - standard_count in
      let at : standard_count + k ≡ place = omega (arith, high) in
      let moved : drop standard_count (set pending place queue) ≡ set (drop standard_count pending) k queue
      = ap (λ n. drop standard_count (set pending n queue)) (sym at) ∙ drop-set-add standard_count pending k queue in
      let there : get_or (drop standard_count pending) k [] ≡ queue_at pending place
      = get_or-drop standard_count pending k [] ∙ ap (λ n. queue_at pending n) at in
      let sums = sum_by-set length (drop standard_count pending) k queue [] (omega (arith, length-drop standard_count pending, whole, low, high)) in
      ap (λ xs. sum_by length xs + length (queue_at pending place)) moved
      ∙ ap (λ xs. sum_by length (set (drop standard_count pending) k queue) + length xs) (sym there)
      ∙ sums

-- What is kept beside the lists, when the list at a place is another: of a standard signal, and of a real-time one
module _ (pending : List (List Info)) (marks : SignalSet) (count : ℕ) (is : IsCounted pending marks count) (place : ℕ) (low : place < signal_count)
    (old new : List Info) (was : old ≡ queue_at pending place) (marks' : SignalSet) (pends : Bool) (mark : marks' ≡ marked marks place pends)
    (left : pends ≡ not (is_empty_list new)) where
  marks_are : marks' ≡ set_of (set pending place new)
  marks_are =
      mark
      ∙ ap (λ (s : SignalSet). marked s place pends) is.set
      ∙ ap (λ (b : Bool). marked (set_of pending) place b) left
      ∙ sym (set_of-set pending is.places place low new)

  pub counted-standard : place < standard_count → IsCounted (set pending place new) marks' count
  counted-standard standard = record {
    places = length-set pending place new ∙ is.places;
    set = marks_are;
    queued = is.queued ∙ sym (queued-standard pending is.places place low new standard);
  }

  pub counted-real_time : (count' : ℕ) → standard_count ≤ place → count' + length old ≡ count + length new → IsCounted (set pending place new) marks' count'
  counted-real_time count' high sum = record {
    places = length-set pending place new ∙ is.places;
    set = marks_are;
    queued = omega (arith, sum, is.queued, ap length was, queued-set pending is.places place low new high);
  }

-- the lists of what pends are not longer than all of them together
pub length-queue : (pending : List (List Info)) (place : ℕ) → length pending ≡ signal_count → place < signal_count → standard_count ≤ place
    → length (queue_at pending place) ≤ queued_in pending
length-queue pending place whole low high = omega (arith, queued-set pending whole place low [] high)

-- a queue that one more was put to, and one that the first was taken from
pub pushed_pends : (old new : List Info) (info : Info) → new ≡ old ++ info ∷ [] → true ≡ not (is_empty_list new)
pushed_pends [] new info is = sym (ap (λ (q : List Info). not (is_empty_list q)) is)
pushed_pends (first ∷ old) new info is = sym (ap (λ (q : List Info). not (is_empty_list q)) is)

pub popped_length : (old new : List Info) (first : Info) → Some first ≡ slice_get old 0 → new ≡ drop 1 old → length old ≡ length new + 1
popped_length [] new first found is = absurd cc
popped_length (info ∷ old) new first found is = omega (arith, ap length is)

-- where none is taken all stays
none_by : (pending : List (List Info)) (place : ℕ) (queue : List Info) → queue_at pending place ≡ queue → (taken : Option Info) (left : List (List Info))
    → taken ≡ slice_get queue 0 → left ≡ set pending place (drop 1 queue) → IfNone taken (left ≡ pending)
none_by pending place [] at taken left found is =
    let same : left ≡ pending = is ∙ ap (λ (q : List Info). set pending place q) (sym at) ∙ set-get_or pending place [] in
    subst (λ (o : Option Info). IfNone o (left ≡ pending)) (sym found) same
none_by pending place (info ∷ queue) at taken left found is =
    subst (λ (o : Option Info). IfNone o (left ≡ pending)) (sym found) tt

carried : (taken : Option Info) (P Q : Type 0) → (P → Q) → IfNone taken P → IfNone taken Q
carried None P Q f p = f p
carried (Some info) P Q f p = tt

pub none_taken : (signals signals' : Signals) (pending left : List (List Info)) (place : ℕ) (taken : Option Info)
    → taken ≡ slice_get (queue_at pending place) 0 → left ≡ set pending place (drop 1 (queue_at pending place))
    → (left ≡ pending → signals' ≡ signals) → IfNone taken (signals' ≡ signals)
none_taken signals signals' pending left place taken found is same =
    carried taken (left ≡ pending) (signals' ≡ signals) same (none_by pending place (queue_at pending place) refl taken left found is)
