-- What was found, and storing it.
use Rattle.std.proofs.Common.{◌≡◌, ℕ, ◌+◌, Bool, true, false, List, [], ◌∷◌, refl, sym, ap, ◌∙◌, arith}
use Rattle.std.specs.Prelude.{Option, Some, None, Ok, Err, count_by, nat_lt, nat_le, ◌||◌}
use Rattle.std.specs.List.{list_any}
use Rattle.std.proofs.lemmas.Bool.{lt-ltb}
use Rattle.kernel_core.specs.Bits.{one_if}
use Rattle.kernel_model.specs.Came.{Came, Given, came_as}
use Rattle.kernel_model.specs.Readiness.{PollEntry, is_any, returned}
use Rattle.kernel_model.specs.State.{Files}
use Rattle.native_calls.specs.HostBytes.{read_as}
use Rattle.native_calls.specs.Polls.{polled}
use Rattle.native_calls.specs.Step.{memory_after}
use Rattle.native_polls.proofs.Lists.{count_next}
use Rattle.native_polls.specs.declared.ends.Found.{Found}
use Rattle.native_polls.specs.inside.Entries.{told_if}
use Rattle.native_polls.specs.inside.Waiting.{Finds, came_of, end_of_wait, found_or_wait, found_until, poll_entries, stored_if}

-- what was found, in other terms

until_as : {V W : Type 0} → (meaning : V → W) (clock : ℕ) (until : Option ℕ) (found : V)
    → found_until clock until (meaning found) ≡ came_as meaning (found_until clock until found)
until_as meaning clock None found = refl
until_as meaning clock (Some until) found = by (nat_le until clock) refl where
  by : (due : Bool) → nat_le until clock ≡ due
      → found_until clock (Some until) (meaning found) ≡ came_as meaning (found_until clock (Some until) found)
  by true e = rw e refl
  by false e = rw e refl

pub found_as : {V W : Type 0} → (meaning : V → W) (clock : ℕ) (wait : Option ℕ) (any : Bool) (found : V)
    → found_or_wait clock wait any (meaning found) ≡ came_as meaning (found_or_wait clock wait any found)
found_as meaning clock wait true found = refl
found_as meaning clock wait false found = until_as meaning clock (end_of_wait clock wait) found

-- where the value is known, what is stored is too

until_stored : {V : Type 0} → (store : V → List ℕ) (count : V → ℕ) (memory : List ℕ) (clock : ℕ) (until : Option ℕ) (found : V)
    → stored_if (found_until clock until (count found)) memory (store found) ≡ memory_after store memory (found_until clock until found)
until_stored store count memory clock None found = refl
until_stored store count memory clock (Some until) found = by (nat_le until clock) refl where
  by : (due : Bool) → nat_le until clock ≡ due
      → stored_if (found_until clock (Some until) (count found)) memory (store found) ≡ memory_after store memory (found_until clock (Some until) found)
  by true e = rw e refl
  by false e = rw e refl

found_stored : {V : Type 0} → (store : V → List ℕ) (count : V → ℕ) (memory : List ℕ) (clock : ℕ) (wait : Option ℕ) (any : Bool) (found : V)
    → stored_if (found_or_wait clock wait any (count found)) memory (store found) ≡ memory_after store memory (found_or_wait clock wait any found)
found_stored store count memory clock wait true found = refl
found_stored store count memory clock wait false found = until_stored store count memory clock (end_of_wait clock wait) found

pub finds : {V : Type 0} → (store : V → List ℕ) (count : V → ℕ) (memory new what : List ℕ) (clock : ℕ) (wait : Option ℕ) (any : Bool) (value : V) (number : ℕ) (found : Found)
    → number ≡ count value → any ≡ nat_lt 0 (count value) → what ≡ store value
    → came_of (Ok found) ≡ found_or_wait clock wait (nat_lt 0 number) number
    → new ≡ stored_if (came_of (Ok found)) memory what
    → Finds store count (found_or_wait clock wait any value) (Ok found) memory new
finds store count memory new what clock wait any value number found counted are_any is_stored came stored =
    let came_is : came_of (Ok found) ≡ found_or_wait clock wait any (count value) =
    came
    ∙ ap (λ (n : ℕ). found_or_wait clock wait (nat_lt 0 n) n) counted
    ∙ ap (λ (b : Bool). found_or_wait clock wait b (count value)) (sym are_any) in
    record {
      answered = came_is ∙ found_as count clock wait any value;
      stored =
          stored
          ∙ ap (λ (c : Came ℕ). stored_if c memory what) came_is
          ∙ ap (λ (m : List ℕ). stored_if (found_or_wait clock wait any (count value)) memory m) is_stored
          ∙ found_stored store count memory clock wait any value;
    }

-- poll

any_counted : {X : Type 0} → (test : X → Bool) (xs : List X) → list_any test xs ≡ nat_lt 0 (count_by test xs)
any_counted test [] = refl
any_counted test (x ∷ xs) = by (test x) refl (any_counted test xs) where
  counted : count_by test (x ∷ xs) ≡ one_if (test x) + count_by test xs
  counted = count_next test x xs

  by : (b : Bool) → test x ≡ b → list_any test xs ≡ nat_lt 0 (count_by test xs) → list_any test (x ∷ xs) ≡ nat_lt 0 (count_by test (x ∷ xs))
  by true e rest =
      let bit : one_if (test x) ≡ 1 = ap one_if e in
      ap (λ (b : Bool). b || list_any test xs) e ∙ sym (lt-ltb 0 (count_by test (x ∷ xs)) (omega (arith, counted, bit)))
  by false e rest =
      let bit : one_if (test x) ≡ 0 = ap one_if e in
      let same : count_by test xs ≡ count_by test (x ∷ xs) = omega (arith, counted, bit) in
      ap (λ (b : Bool). b || list_any test xs) e ∙ rest ∙ ap (λ (n : ℕ). nat_lt 0 n) same

pub told_finds : (files : Files) (clock : ℕ) (wait : Option ℕ) (address : ℕ) (memory new : List ℕ) (entries : Given (List PollEntry)) (told : ℕ) (found : Found)
    → Ok told ≡ read_as (λ (es : List PollEntry). count_by is_any (returned files es)) entries
    → came_of (Ok found) ≡ found_or_wait clock wait (nat_lt 0 told) told
    → new ≡ stored_if (came_of (Ok found)) memory (told_if files address memory entries)
    → Finds (polled address memory) (count_by is_any) (poll_entries files clock wait entries) (Ok found) memory new
told_finds files clock wait address memory new (Err error) told found counted came stored = absurd cc
told_finds files clock wait address memory new (Ok entries) told found counted came stored =
    finds (polled address memory) (count_by is_any) memory new (told_if files address memory (Ok entries)) clock wait
    (list_any is_any (returned files entries)) (returned files entries) told found
    (cc) (any_counted is_any (returned files entries)) refl came stored
