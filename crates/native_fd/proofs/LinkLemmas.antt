-- Descriptors, how many lead to each number, and the pools, after each change.
use Rattle.std.proofs.Common.{◌≡◌, ◌≢◌, ℕ, zero, suc, ◌+◌, ◌-◌, ◌<◌, ◌≤◌, Bool, true, false, cond, ◌==◌, ◌||◌, nat_lt, List, [], ◌∷◌, length, set, get_or, replicate, Option, Some, None, refl, sym, ap, subst, ◌∙◌, inl, inr, arith}
use Rattle.std.specs.Prelude.{is_some}
use Rattle.std.specs.List.{list_any}
use Rattle.std.specs.Ordering.{nat_cmp, eq_by_cmp}
use Rattle.std.specs.Cmp.{nat_cmp_total}
use Rattle.std.specs.FinMap.{FinMap, get, insert, len, empty, get-insert, len-insert, len-empty}
use Rattle.std.proofs.Math.ListN.{length-set, length-replicate}
use Rattle.std.proofs.lemmas.Bool.{cases_eq, cases_lt}
use Rattle.std.proofs.lemmas.Bool.Decides.{nat_tests}
use Rattle.std.proofs.lemmas.List.{get_or-replicate, get_or_past, get_or-set_same, get_or-set_other}
use Rattle.std.proofs.lemmas.Option.{same_Some}
use Rattle.kernel_model.specs.Begin.{free_places}
use Rattle.kernel_model.specs.Table.{slot, leads_to}
use Rattle.kernel_model.specs.declared.descriptor.Descriptor.{Descriptor}
use Rattle.number_pool.specs.Places.{is_taken_at, none_taken, AreAllTaken, IsLeastFree}
use Rattle.number_pool.proofs.Pigeonhole.{run_fits}
use Rattle.number_pool.proofs.PlaceLemmas.{none_taken-at, set-at, set-elsewhere}
use Rattle.native_fd.specs.inside.Links.{AreLinks, IsUnused, leading, left_alone}

abbrev pub one : Bool → ℕ
one b = cond b 1 0

-- a new descriptor of the description of a number
abbrev pub new : ℕ → Descriptor
new number = record { number = number; cloexec = false }

-- No slot is taken

pub slot-free : {A : Type 0} (count place : ℕ) → slot (free_places {A = A} count) place ≡ None
unfolding free_places
slot-free {A} count place =
    elim (cases_lt place count) [
      | inl inside ↦ get_or-replicate {A = Option A} count place None None inside
      | inr past ↦ get_or_past (replicate {A = Option A} count None) place None (omega (arith, length-replicate {A = Option A} count None, past))
    ]

pub length-free : (A : Type 0) (count : ℕ) → length (free_places {A = A} count) ≡ count
unfolding free_places
length-free A count = length-replicate {A = Option A} count None

leading_none : (count number : ℕ) → leading (replicate count None) number ≡ 0
leading_none zero number = refl
leading_none (suc count) number = omega (arith, leading_none count number)

pub leading-free : (count number : ℕ) → leading (free_places count) number ≡ 0
unfolding free_places
leading-free count number = leading_none count number

no_count : (count number : ℕ) → ◌≡◌ {A = ℕ} (get_or (replicate count 0) number 0) 0
no_count zero number = refl
no_count (suc count) zero = refl
no_count (suc count) (suc number) = no_count count number

pub AreLinks-none : AreLinks (free_places 1024) (replicate 1024 0) (none_taken 1024) (none_taken 1024)
AreLinks-none = record {
  fds_sized = length-free Descriptor 1024;
  counts_sized = length-replicate {A = ℕ} 1024 0;
  numbers = λ fd descriptor at. absurd (let bad : None ≡ Some descriptor = sym (slot-free 1024 fd) ∙ at in cc);
  counted = λ number small. no_count 1024 number ∙ sym (leading-free 1024 number);
  fds_pool = λ fd. none_taken-at 1024 fd ∙ ap (λ o. is_some o) (sym (slot-free 1024 fd));
  numbers_pool = λ number. none_taken-at 1024 number ∙ ap (λ n. nat_lt 0 n) (sym (leading-free 1024 number));
}

-- One descriptor more or less

pub leading-set : (fds : List (Option Descriptor)) (fd number : ℕ) (new : Option Descriptor) → fd < length fds
    → leading (set fds fd new) number + one (leads_to number (slot fds fd)) ≡ leading fds number + one (leads_to number new)
leading-set [] fd number new within = absurd (omega arith)
leading-set (d ∷ fds) zero number new within = omega arith
leading-set (d ∷ fds) (suc fd) number new within = omega (arith, leading-set fds fd number new (omega arith))

leading_small : (fds : List (Option Descriptor)) (number : ℕ) → leading fds number ≤ length fds
leading_small [] number = omega arith
leading_small (d ∷ fds) number = by (leads_to number d) (leading_small fds number)
  where
    by : (b : Bool) → leading fds number ≤ length fds → cond b 1 0 + leading fds number ≤ suc (length fds)
    by true rest = omega arith
    by false rest = omega arith

-- whether some descriptor leads to a number is whether any does
pub leading-any : (fds : List (Option Descriptor)) (number : ℕ) → list_any (leads_to number) fds ≡ nat_lt 0 (leading fds number)
leading-any [] number = refl
leading-any (d ∷ fds) number = by (leads_to number d) (leading-any fds number)
  where
    by : (b : Bool) → list_any (leads_to number) fds ≡ nat_lt 0 (leading fds number) → (b || list_any (leads_to number) fds) ≡ nat_lt 0 (cond b 1 0 + leading fds number)
    by true rest = let more : 0 < 1 + leading fds number = omega arith in grind (arith, nat_tests)
    by false rest = rest ∙ ap (λ n. nat_lt 0 n) (let e : leading fds number ≡ 0 + leading fds number = omega arith in e)

-- a descriptor that is there leads to its number
pub leading-some : (fds : List (Option Descriptor)) (fd : ℕ) (descriptor : Descriptor) → slot fds fd ≡ Some descriptor → 0 < leading fds descriptor.number
leading-some [] fd descriptor at = absurd (let bad : None ≡ Some descriptor = at in cc)
leading-some (d ∷ fds) zero descriptor at =
    let same : (descriptor.number == descriptor.number) ≡ true = grind (arith, nat_tests) in
    let here : leads_to descriptor.number d ≡ true = ap (leads_to descriptor.number) at ∙ same in
    let e : leading (d ∷ fds) descriptor.number ≡ 1 + leading fds descriptor.number = ap (λ b. cond b 1 0 + leading fds descriptor.number) here in
    omega (arith, e)
leading-some (d ∷ fds) (suc fd) descriptor at = omega (arith, leading-some fds fd descriptor at)

module _ (fds : List (Option Descriptor)) (counts : List ℕ) (fds_taken numbers_taken : List Bool) (are : AreLinks fds counts fds_taken numbers_taken) where
  pub slot-within : (fd : ℕ) (descriptor : Descriptor) → slot fds fd ≡ Some descriptor → fd < 1024
  slot-within fd descriptor at =
      elim (cases_lt fd 1024) [
        | inl within ↦ within
        | inr past ↦ absurd (let bad : None ≡ Some descriptor = sym (get_or_past fds fd None (omega (arith, are.fds_sized, past))) ∙ at in cc)
      ]

  count_room : (number : ℕ) → number < 1024 → get_or counts number 0 ≤ 1024
  count_room number small = omega (arith, are.counted number small, leading_small fds number, are.fds_sized)

  pub count-small : (number : ℕ) → number < 1024 → get_or counts number 0 + 1 < 4294967296
  count-small number small = omega (arith, count_room number small)

  -- Another descriptor that leads to a number.
  pub AreLinks-linked : (fd number : ℕ) → fd < 1024 → number < 1024 → slot fds fd ≡ None → length fds_taken ≡ 1024 → length numbers_taken ≡ 1024
      → AreLinks (set fds fd (Some (new number))) (set counts number (get_or counts number 0 + 1)) (set fds_taken fd true) (set numbers_taken number true)
  AreLinks-linked fd number within small free fds_long numbers_long = record {
    fds_sized = length-set fds fd _ ∙ are.fds_sized;
    counts_sized = length-set counts number _ ∙ are.counts_sized;
    numbers = λ f d at. elim (cases_eq f fd) [
      | inl here ↦ subst (λ (e : Descriptor). e.number < 1024) (same_Some (new number) d (sym (ap (slot (set fds fd (Some (new number)))) here ∙ get_or-set_same fds fd (Some (new number)) None inside) ∙ at)) small
      | inr apart ↦ are.numbers f d (sym (get_or-set_other fds fd f (Some (new number)) None apart) ∙ at)
    ];
    counted = λ n below. elim (cases_eq n number) [
      | inl here ↦ ap (λ k. get_or (set counts number (get_or counts number 0 + 1)) k 0) here
          ∙ get_or-set_same counts number (get_or counts number 0 + 1) 0 (omega (arith, are.counts_sized, small))
          ∙ (let e = more_here in omega (arith, e, are.counted number small)) ∙ ap (leading (set fds fd (Some (new number)))) (sym here)
      | inr apart ↦ get_or-set_other counts number n _ 0 apart ∙ are.counted n below ∙ (let e = same_there n apart in omega (arith, e))
    ];
    fds_pool = λ f. elim (cases_eq f fd) [
      | inl here ↦ ap (is_taken_at (set fds_taken fd true)) here ∙ set-at fds_taken fd true (omega (arith, fds_long, within))
          ∙ sym (ap (λ k. is_some (slot (set fds fd (Some (new number))) k)) here ∙ ap (λ o. is_some o) (get_or-set_same fds fd (Some (new number)) None inside))
      | inr apart ↦ set-elsewhere fds_taken fd f true apart ∙ are.fds_pool f ∙ ap (λ o. is_some o) (sym (get_or-set_other fds fd f (Some (new number)) None apart))
    ];
    numbers_pool = λ n. elim (cases_eq n number) [
      | inl here ↦ ap (is_taken_at (set numbers_taken number true)) here ∙ set-at numbers_taken number true (omega (arith, numbers_long, small))
          ∙ (let e = more_here in let some : 0 < leading (set fds fd (Some (new number))) number = omega (arith, e) in let t : true ≡ nat_lt 0 (leading (set fds fd (Some (new number))) number) = grind (arith, nat_tests) in t)
          ∙ ap (λ k. nat_lt 0 (leading (set fds fd (Some (new number))) k)) (sym here)
      | inr apart ↦ set-elsewhere numbers_taken number n true apart ∙ are.numbers_pool n ∙ ap (λ k. nat_lt 0 k) (let e = same_there n apart in let s : leading fds n ≡ leading (set fds fd (Some (new number))) n = omega (arith, e) in s)
    ];
  }
    where
      inside : fd < length fds
      inside = omega (arith, are.fds_sized, within)

      lead : (n : ℕ) → leading (set fds fd (Some (new number))) n + 0 ≡ leading fds n + one (number == n)
      lead n = ap (λ o. leading (set fds fd (Some (new number))) n + one (leads_to n o)) (sym free) ∙ leading-set fds fd n (Some (new number)) inside

      more_here : leading (set fds fd (Some (new number))) number ≡ leading fds number + 1
      more_here =
          let same : (number == number) ≡ true = grind (arith, nat_tests) in
          let e = lead number ∙ ap (λ b. leading fds number + one b) same in omega (arith, e)

      same_there : (n : ℕ) → n ≢ number → leading (set fds fd (Some (new number))) n ≡ leading fds n
      same_there n apart =
          let other : (number == n) ≡ false = grind (arith, nat_tests) in
          let e = lead n ∙ ap (λ b. leading fds n + one b) other in omega (arith, e)

  -- A descriptor less. `left` are those that lead to its number then.
  module _ (fd : ℕ) (descriptor : Descriptor) (at : slot fds fd ≡ Some descriptor) where
    within : fd < length fds
    within = omega (arith, are.fds_sized, slot-within fd descriptor at)

    small : descriptor.number < 1024
    small = are.numbers fd descriptor at

    lead_less : (n : ℕ) → leading (set fds fd None) n + one (descriptor.number == n) ≡ leading fds n
    lead_less n =
        ap (λ o. leading (set fds fd None) n + one (leads_to n o)) (sym at)
        ∙ leading-set fds fd n None within
        ∙ (let e : leading fds n + 0 ≡ leading fds n = omega arith in e)

    pub less-here : leading (set fds fd None) descriptor.number + 1 ≡ leading fds descriptor.number
    less-here =
        let same : (descriptor.number == descriptor.number) ≡ true = grind (arith, nat_tests) in
        ap (λ b. leading (set fds fd None) descriptor.number + one b) (sym same) ∙ lead_less descriptor.number

    same_else : (n : ℕ) → n ≢ descriptor.number → leading (set fds fd None) n ≡ leading fds n
    same_else n apart =
        let other : (descriptor.number == n) ≡ false = grind (arith, nat_tests) in
        let e = ap (λ b. leading (set fds fd None) n + one b) (sym other) ∙ lead_less n in omega (arith, e)

    -- the count is then that of the descriptors that are left
    pub count-less : get_or counts descriptor.number 0 - 1 ≡ leading (set fds fd None) descriptor.number
    count-less = omega (arith, are.counted descriptor.number small, less-here)

    pub AreLinks-unlinked : (now : List Bool) → length fds_taken ≡ 1024
        → ((n : ℕ) → n ≢ descriptor.number → is_taken_at now n ≡ is_taken_at numbers_taken n)
        → is_taken_at now descriptor.number ≡ nat_lt 0 (leading (set fds fd None) descriptor.number)
        → AreLinks (set fds fd None) (set counts descriptor.number (get_or counts descriptor.number 0 - 1)) (set fds_taken fd false) now
    AreLinks-unlinked now fds_long others own = record {
      fds_sized = length-set fds fd _ ∙ are.fds_sized;
      counts_sized = length-set counts descriptor.number _ ∙ are.counts_sized;
      numbers = λ f d there. elim (cases_eq f fd) [
        | inl here ↦ absurd (let bad : None ≡ Some d = sym (ap (slot (set fds fd None)) here ∙ get_or-set_same fds fd None None within) ∙ there in cc)
        | inr apart ↦ are.numbers f d (sym (get_or-set_other fds fd f None None apart) ∙ there)
      ];
      counted = λ n below. elim (cases_eq n descriptor.number) [
        | inl here ↦ ap (λ k. get_or (set counts descriptor.number (get_or counts descriptor.number 0 - 1)) k 0) here
            ∙ get_or-set_same counts descriptor.number _ 0 (omega (arith, are.counts_sized, small))
            ∙ count-less ∙ ap (leading (set fds fd None)) (sym here)
        | inr apart ↦ get_or-set_other counts descriptor.number n _ 0 apart ∙ are.counted n below ∙ sym (same_else n apart)
      ];
      fds_pool = λ f. elim (cases_eq f fd) [
        | inl here ↦ ap (is_taken_at (set fds_taken fd false)) here ∙ set-at fds_taken fd false (omega (arith, fds_long, slot-within fd descriptor at))
            ∙ sym (ap (λ k. is_some (slot (set fds fd None) k)) here ∙ ap (λ o. is_some o) (get_or-set_same fds fd None None within))
        | inr apart ↦ set-elsewhere fds_taken fd f false apart ∙ are.fds_pool f ∙ ap (λ o. is_some o) (sym (get_or-set_other fds fd f None None apart))
      ];
      numbers_pool = λ n. elim (cases_eq n descriptor.number) [
        | inl here ↦ ap (is_taken_at now) here ∙ own ∙ ap (λ k. nat_lt 0 (leading (set fds fd None) k)) (sym here)
        | inr apart ↦ others n apart ∙ are.numbers_pool n ∙ ap (λ k. nat_lt 0 k) (sym (same_else n apart))
      ];
    }

    -- some still lead to the number
    pub AreLinks-shared : length fds_taken ≡ 1024 → 0 < get_or counts descriptor.number 0 - 1
        → AreLinks (set fds fd None) (set counts descriptor.number (get_or counts descriptor.number 0 - 1)) (set fds_taken fd false) numbers_taken
    AreLinks-shared fds_long more =
        let some : 0 < leading (set fds fd None) descriptor.number = omega (arith, count-less, more) in
        let before : 0 < leading fds descriptor.number = omega (arith, less-here) in
        AreLinks-unlinked numbers_taken fds_long (λ n apart. refl)
        (are.numbers_pool descriptor.number ∙ (let e : nat_lt 0 (leading fds descriptor.number) ≡ nat_lt 0 (leading (set fds fd None) descriptor.number) = both before some in e))
      where
        both : {m n : ℕ} → 0 < m → 0 < n → nat_lt 0 m ≡ nat_lt 0 n
        both p q = grind (arith, nat_tests)

    -- none leads to it any more
    pub AreLinks-alone : length fds_taken ≡ 1024 → length numbers_taken ≡ 1024 → get_or counts descriptor.number 0 - 1 ≡ 0
        → AreLinks (set fds fd None) (set counts descriptor.number (get_or counts descriptor.number 0 - 1)) (set fds_taken fd false) (set numbers_taken descriptor.number false)
    AreLinks-alone fds_long numbers_long none =
        let zero_left : leading (set fds fd None) descriptor.number ≡ 0 = omega (arith, count-less, none) in
        AreLinks-unlinked (set numbers_taken descriptor.number false) fds_long
        (λ n apart. set-elsewhere numbers_taken descriptor.number n false apart)
        (set-at numbers_taken descriptor.number false (omega (arith, numbers_long, small)) ∙ ap (λ n. nat_lt 0 n) (sym zero_left))

    any_left : (b : Bool) → nat_lt 0 (get_or counts descriptor.number 0 - 1) ≡ b → left_alone fds fd (Some descriptor) ≡ cond b None (Some descriptor.number)
    any_left b is =
        ap (λ a. cond a None (Some descriptor.number)) (leading-any (set fds fd None) descriptor.number ∙ ap (λ n. nat_lt 0 n) (sym count-less) ∙ is)

    pub alone-shared : 0 < get_or counts descriptor.number 0 - 1 → None ≡ left_alone fds fd (Some descriptor)
    alone-shared more = sym (any_left true (grind (arith, nat_tests)))

    pub alone-last : get_or counts descriptor.number 0 - 1 ≡ 0 → Some descriptor.number ≡ left_alone fds fd (Some descriptor)
    alone-last none = sym (any_left false (ap (λ n. nat_lt 0 n) none))

  -- A descriptor that leads to the same number as before.
  pub AreLinks-same : (fd : ℕ) (old now : Descriptor) → slot fds fd ≡ Some old → now.number ≡ old.number → AreLinks (set fds fd (Some now)) counts fds_taken numbers_taken
  AreLinks-same fd old now at same = record {
    fds_sized = length-set fds fd _ ∙ are.fds_sized;
    counts_sized = are.counts_sized;
    numbers = λ f d there. elim (cases_eq f fd) [
      | inl here ↦ subst (λ (e : Descriptor). e.number < 1024) (same_Some now d (sym (ap (slot (set fds fd (Some now))) here ∙ get_or-set_same fds fd (Some now) None inside) ∙ there))
          (subst (λ n. n < 1024) (sym same) (are.numbers fd old at))
      | inr apart ↦ are.numbers f d (sym (get_or-set_other fds fd f (Some now) None apart) ∙ there)
    ];
    counted = λ n below. are.counted n below ∙ sym (leads_alike n);
    fds_pool = λ f. elim (cases_eq f fd) [
      | inl here ↦ ap (is_taken_at fds_taken) here ∙ are.fds_pool fd ∙ ap (λ o. is_some o) at
          ∙ sym (ap (λ k. is_some (slot (set fds fd (Some now)) k)) here ∙ ap (λ o. is_some o) (get_or-set_same fds fd (Some now) None inside))
      | inr apart ↦ are.fds_pool f ∙ ap (λ o. is_some o) (sym (get_or-set_other fds fd f (Some now) None apart))
    ];
    numbers_pool = λ n. are.numbers_pool n ∙ ap (λ k. nat_lt 0 k) (sym (leads_alike n));
  }
    where
      inside : fd < length fds
      inside = omega (arith, are.fds_sized, slot-within fd old at)

      leads_alike : (n : ℕ) → leading (set fds fd (Some now)) n ≡ leading fds n
      leads_alike n =
          let e : leading (set fds fd (Some now)) n + one (old.number == n) ≡ leading fds n + one (now.number == n) =
          ap (λ o. leading (set fds fd (Some now)) n + one (leads_to n o)) (sym at) ∙ leading-set fds fd n (Some now) inside in
          let f : one (now.number == n) ≡ one (old.number == n) = ap (λ k. one (k == n)) same in
          omega (arith, e, f)

-- Numbers that are free

numbers_of : List (Option Descriptor) → FinMap nat_cmp (Unit {0})
numbers_of [] = empty
numbers_of (None ∷ ds) = numbers_of ds
numbers_of (Some d ∷ ds) = insert (numbers_of ds) d.number tt

-- how many descriptors are open
open_count : List (Option Descriptor) → ℕ
open_count [] = 0
open_count (d ∷ ds) = one (is_some d) + open_count ds

grown : (b : Bool) (n : ℕ) → cond b n (n + 1) ≤ 1 + n
grown true n = omega arith
grown false n = omega arith

numbers_few : (ds : List (Option Descriptor)) → len (numbers_of ds) ≤ open_count ds
unfolding numbers_of open_count
numbers_few [] = omega (arith, len-empty nat_cmp (Unit {0}))
numbers_few (None ∷ ds) = omega (arith, numbers_few ds)
numbers_few (Some d ∷ ds) =
    omega (arith, numbers_few ds, len-insert nat_cmp_total (numbers_of ds) d.number tt, grown (is_some (get (numbers_of ds) d.number)) (len (numbers_of ds)))

open_small : (ds : List (Option Descriptor)) → open_count ds ≤ length ds
unfolding open_count
open_small [] = omega arith
open_small (None ∷ ds) = omega (arith, open_small ds)
open_small (Some d ∷ ds) = omega (arith, open_small ds)

-- where one is not open, fewer are
open_fewer : (ds : List (Option Descriptor)) (fd : ℕ) → fd < length ds → slot ds fd ≡ None → open_count ds + 1 ≤ length ds
unfolding open_count
open_fewer [] fd within free = absurd (omega arith)
open_fewer (None ∷ ds) zero within free = omega (arith, open_small ds)
open_fewer (Some d ∷ ds) zero within free = absurd (let bad : Some d ≡ None = free in cc)
open_fewer (None ∷ ds) (suc fd) within free = omega (arith, open_fewer ds fd (omega arith) free)
open_fewer (Some d ∷ ds) (suc fd) within free = omega (arith, open_fewer ds fd (omega arith) free)

has_by : (d : Descriptor) (m : FinMap nat_cmp (Unit {0})) (number : ℕ) (b : Bool) → (d.number == number) ≡ b → (b ≡ false → is_some (get m number) ≡ true)
    → is_some (get (insert m d.number tt) number) ≡ true
has_by d m number true same rest =
    let here : eq_by_cmp nat_cmp number d.number ≡ true = grind (arith, nat_tests) in
    ap (λ o. is_some o) (get-insert nat_cmp_total m d.number tt number) ∙ ap (λ c. is_some (cond c (Some tt) (get m number))) here
has_by d m number false other rest =
    let apart : eq_by_cmp nat_cmp number d.number ≡ false = grind (arith, nat_tests) in
    ap (λ o. is_some o) (get-insert nat_cmp_total m d.number tt number) ∙ ap (λ c. is_some (cond c (Some tt) (get m number))) apart ∙ rest refl

has_number : (ds : List (Option Descriptor)) (number : ℕ) → 0 < leading ds number → is_some (get (numbers_of ds) number) ≡ true
unfolding numbers_of
has_number [] number some = absurd (omega arith)
has_number (None ∷ ds) number some = has_number ds number (omega arith)
has_number (Some d ∷ ds) number some =
    has_by d (numbers_of ds) number (d.number == number) refl (λ other.
    has_number ds number (let e : leading (Some d ∷ ds) number ≡ 0 + leading ds number = ap (λ b. cond b 1 0 + leading ds number) other in omega (arith, e, some)))

module _ (fds : List (Option Descriptor)) (counts : List ℕ) (fds_taken numbers_taken : List Bool) (are : AreLinks fds counts fds_taken numbers_taken) where
  positive_of : (n : ℕ) → nat_lt 0 n ≡ true → 0 < n
  positive_of n is = grind (arith, nat_tests)

  none_of : (n : ℕ) → nat_lt 0 n ≡ false → n ≡ 0
  none_of n is = grind (arith, nat_tests)

  -- where a descriptor is free, some number is
  pub some-number : (fd : ℕ) → fd < 1024 → slot fds fd ≡ None → length numbers_taken ≡ 1024 → AreAllTaken numbers_taken → ⊥
  some-number fd within free long all =
      let run : 1024 ≤ len (numbers_of fds) =
      run_fits (numbers_of fds) 0 1024 (λ n _ below. has_number fds n (positive_of _ (sym (are.numbers_pool n) ∙ all n (omega (arith, long, below))))) in
      let few = numbers_few fds in
      let fewer = open_fewer fds fd (omega (arith, are.fds_sized, within)) free in
      omega (arith, run, few, fewer, are.fds_sized)

  -- where a descriptor is free, the least number that none leads to is below 1024
  pub unused : (fd number : ℕ) → fd < 1024 → slot fds fd ≡ None → IsLeastFree numbers_taken number → IsUnused fds number
  unused fd number within free least = record {
    small = elim (cases_lt number 1024) [
      | inl low ↦ low
      | inr high ↦ absurd (
          let run : 1024 ≤ len (numbers_of fds) =
          run_fits (numbers_of fds) 0 1024 (λ n _ below. has_number fds n (positive_of _ (sym (are.numbers_pool n) ∙ least.below n (omega arith)))) in
          let few = numbers_few fds in
          let fewer = open_fewer fds fd (omega (arith, are.fds_sized, within)) free in
          omega (arith, run, few, fewer, are.fds_sized))
    ];
    none = none_of _ (sym (are.numbers_pool number) ∙ least.free);
    below = λ lower under. positive_of _ (sym (are.numbers_pool lower) ∙ least.below lower under);
  }
