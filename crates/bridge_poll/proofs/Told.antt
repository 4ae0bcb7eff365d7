-- Host memory after the native call, and what is told of the entries there.
use Rattle.std.proofs.Common.{◌≡◌, ℕ, zero, suc, ◌+◌, ◌-◌, ◌*◌, Bool, true, false, List, [], ◌∷◌, ◌++◌, length, take, drop, Some, None, refl, sym, ap, ◌∙◌, arith, append_assoc, length-append, length-drop, length-take-le, if◌then◌else◌}
use Rattle.std.specs.Prelude.{nat_lt, replicate}
use Rattle.std.proofs.Math.Seq.{take-length}
use Rattle.std.proofs.lemmas.Bool.Decides.{nat_tests}
use Rattle.std.proofs.lemmas.List.{drop_at, drop-drop}
use Rattle.host_mem.specs.Memory.{bytes_at, is_inside, replaced, written}
use Rattle.kernel_model.specs.Readiness.{no_events}
use Rattle.kernel_model.specs.Shared.{PollSet}
use Rattle.layouts.specs.Number.{bytes_of, unsigned}
use Rattle.native_calls.specs.Polls.{polled}
use Rattle.number_tables.specs.PollNumbers.{native_poll, native_poll_read}
use Rattle.bridge_poll.specs.inside.Telling.{told_all, told_of}
use Rattle.bridge_poll.proofs.EventNumbers.{events_again, native_small, number2}

-- Entries with what is told of them

abbrev pub events_bytes : PollSet → List ℕ
events_bytes events = bytes_of false 2 (native_poll events)

unfoldable pub with_told : List ℕ → List PollSet → List ℕ
with_told bytes [] = []
with_told bytes (events ∷ more) = take 6 bytes ++ (events_bytes events ++ with_told (drop 8 bytes) more)

length_events : (events : PollSet) → length (events_bytes events) ≡ 2
length_events events = refl

suc_size : (more : ℕ) → suc more * 8 ≡ 8 + more * 8
suc_size more = omega arith

-- the first of some entries, in memory behind a front
module _ (front bytes : List ℕ) (events : PollSet) (more : ℕ) (size : length bytes ≡ suc more * 8) where
  abbrev before : List ℕ
  before = front ++ take 6 bytes

  length_six : length (take 6 bytes) ≡ 6
  length_six = length-take-le 6 bytes (omega (arith, size))

  length_before : length before ≡ length front + 6
  length_before = omega (arith, length-append front (take 6 bytes), length_six)

  inside_one : is_inside (front ++ bytes) (65536 + length front + 6) 2 ≡ true
  inside_one =
      let all : length (front ++ bytes) ≡ length front + length bytes = length-append front bytes in
      grind (arith, nat_tests)

  taken : take (65536 + length front + 6 - 65536) (front ++ bytes) ≡ before
  taken =
      let place : 65536 + length front + 6 - 65536 ≡ length front + 6 = omega arith in
      ap (λ (n : ℕ). take n (front ++ bytes)) place ∙ take-append-add front bytes 6 where
        take-append-add : (xs ys : List ℕ) (n : ℕ) → take (length xs + n) (xs ++ ys) ≡ xs ++ take n ys
        take-append-add [] ys n = ap (λ (k : ℕ). take k ys) (let e : 0 + n ≡ n = omega arith in e)
        take-append-add (x ∷ xs) ys n = ap (λ (k : ℕ). take k (x ∷ (xs ++ ys))) (let e : suc (length xs) + n ≡ suc (length xs + n) = omega arith in e) ∙ ap (λ (l : List ℕ). x ∷ l) (take-append-add xs ys n)

  dropped : drop (65536 + length front + 6 - 65536 + 2) (front ++ bytes) ≡ drop 8 bytes
  dropped =
      let place : 65536 + length front + 6 - 65536 + 2 ≡ 8 + length front = omega arith in
      ap (λ (n : ℕ). drop n (front ++ bytes)) place ∙ sym (drop-drop 8 (length front) (front ++ bytes) ∙ ap (λ (n : ℕ). drop n (front ++ bytes)) (let e : length front + 8 ≡ 8 + length front = omega arith in e))
      ∙ ap (λ (l : List ℕ). drop 8 l) (drop_at front bytes (length front) refl)

  one_written : written (front ++ bytes) (65536 + length front + 6) (events_bytes events) ≡ (before ++ events_bytes events) ++ drop 8 bytes
  one_written =
      ap (λ (b : Bool). if b then replaced (front ++ bytes) (65536 + length front + 6 - 65536) (events_bytes events) else front ++ bytes) inside_one
      ∙ (λ i. (taken i ++ events_bytes events) ++ dropped i)

  length_next : 65536 + length front + 8 ≡ 65536 + length (before ++ events_bytes events)
  length_next = omega (arith, length-append before (events_bytes events), length_before, length_events events)

  rest_size : length (drop 8 bytes) ≡ more * 8
  rest_size = omega (arith, length-drop 8 bytes, size)

pub all_written : (events : List PollSet) (front bytes : List ℕ) → length bytes ≡ length events * 8 → polled (65536 + length front) (front ++ bytes) events ≡ front ++ with_told bytes events
unfolding with_told
all_written [] front bytes size = ap (λ (l : List ℕ). front ++ l) (none bytes size) where
  none : (bytes : List ℕ) → length bytes ≡ 0 * 8 → bytes ≡ []
  none [] size = refl
  none (byte ∷ bytes) size = absurd (omega (arith, size))
all_written (events ∷ more) front bytes size =
    let sized : length bytes ≡ suc (length more) * 8 = size in
    (λ i. polled (length_next front bytes events (length more) sized i) (one_written front bytes events (length more) sized i) more)
    ∙ all_written more (before front bytes events (length more) sized ++ events_bytes events) (drop 8 bytes) (rest_size front bytes events (length more) sized)
    ∙ append_assoc (front ++ take 6 bytes) (events_bytes events) (with_told (drop 8 bytes) more)
    ∙ append_assoc front (take 6 bytes) (events_bytes events ++ with_told (drop 8 bytes) more)

-- what is told stands there

first_told : (six rest : List ℕ) (events : PollSet) → length six ≡ 6 → told_of (six ++ (events_bytes events ++ rest)) ≡ events
first_told six rest events size =
    let whole : length (six ++ (events_bytes events ++ rest)) ≡ 6 + (2 + length rest) = omega (arith, length-append six (events_bytes events ++ rest), length-append (events_bytes events) rest, length_events events, size) in
    let long : nat_lt (length (six ++ (events_bytes events ++ rest))) 8 ≡ false = grind (arith, nat_tests) in
    ap (λ (b : Bool). native_poll_read (if b then 0 else unsigned false 2 (drop 6 (six ++ (events_bytes events ++ rest))))) long
    ∙ ap (λ (l : List ℕ). native_poll_read (unsigned false 2 l)) (drop_at six (events_bytes events ++ rest) 6 size)
    ∙ ap native_poll_read (number2 (native_poll events) rest (native_small events))
    ∙ events_again events

rest_told : (six rest : List ℕ) (events : PollSet) → length six ≡ 6 → drop 8 (six ++ (events_bytes events ++ rest)) ≡ rest
rest_told six rest events size =
    sym (drop-drop 2 6 (six ++ (events_bytes events ++ rest))) ∙ ap (λ (l : List ℕ). drop 2 l) (drop_at six (events_bytes events ++ rest) 6 size)

pub told_there : (events : List PollSet) (bytes : List ℕ) → length bytes ≡ length events * 8 → told_all (length events) (with_told bytes events) ≡ events
unfolding told_all with_told
told_there [] bytes size = refl
told_there (events ∷ more) bytes size =
    let sized : length bytes ≡ suc (length more) * 8 = size in
    let six : length (take 6 bytes) ≡ 6 = length_six [] bytes events (length more) sized in
    λ i. first_told (take 6 bytes) (with_told (drop 8 bytes) more) events six i
    ∷ (ap (told_all (length more)) (rest_told (take 6 bytes) (with_told (drop 8 bytes) more) events six) ∙ told_there more (drop 8 bytes) (rest_size [] bytes events (length more) sized)) i

pub length_told : (events : List PollSet) (bytes : List ℕ) → length bytes ≡ length events * 8 → length (with_told bytes events) ≡ length events * 8
unfolding with_told
length_told [] bytes size = refl
length_told (events ∷ more) bytes size =
    let sized : length bytes ≡ suc (length more) * 8 = size in
    omega (
      arith,
      length-append (take 6 bytes) (events_bytes events ++ with_told (drop 8 bytes) more),
      length-append (events_bytes events) (with_told (drop 8 bytes) more),
      length_events events,
      length_six [] bytes events (length more) sized,
      length_told more (drop 8 bytes) (rest_size [] bytes events (length more) sized),
    )

-- bytes behind a front
pub bytes_behind : (front bytes : List ℕ) (place count : ℕ) → place ≡ 65536 + length front → length bytes ≡ count → bytes_at (front ++ bytes) place count ≡ Some bytes
bytes_behind front bytes place count at size =
    let all : length (front ++ bytes) ≡ length front + length bytes = length-append front bytes in
    let inside : is_inside (front ++ bytes) (65536 + length front) count ≡ true = grind (arith, nat_tests) in
    let there : 65536 + length front - 65536 ≡ length front = omega arith in
    ap (λ (p : ℕ). bytes_at (front ++ bytes) p count) at
    ∙ ap (λ (b : Bool). if b then Some (take count (drop (65536 + length front - 65536) (front ++ bytes))) else None) inside
    ∙ ap (λ (n : ℕ). Some (take count (drop n (front ++ bytes)))) there
    ∙ ap (λ (l : List ℕ). Some (take count l)) (drop_at front bytes (length front) refl)
    ∙ ap (λ (n : ℕ). Some (take n bytes)) (sym size)
    ∙ ap (λ (l : List ℕ). Some l) (take-length bytes)

-- where no native entries are, nothing is told
pub nothing_told : (count : ℕ) → told_all count [] ≡ replicate count no_events
unfolding told_all
nothing_told zero = refl
nothing_told (suc more) = ap (λ (l : List PollSet). no_events ∷ l) (nothing_told more)
