-- Where a descriptor is free, a number of a description and a number of a pipe are: no more of them are taken than descriptors.
use Rattle.std.proofs.Common.{◌≡◌, ℕ, zero, suc, ◌+◌, ◌<◌, ◌≤◌, List, [], ◌∷◌, length, Bool, true, false, ◌||◌, refl, sym, ◌∙◌, ap, subst, arith}
use Rattle.std.specs.Prelude.{Option, Some, None, is_some, is_none, option_map, count_by, nat_lt, not, ◌==◌, if◌then◌else◌}
use Rattle.std.specs.List.{list_any, prefix_len}
use Rattle.std.proofs.lemmas.Bool.{ltb-false}
use Rattle.std.proofs.lemmas.List.Sums.{count_by-le-length, sum_by-cons}
use Rattle.kernel_model.proofs.LeastFree.{least_free, new_place_is_least}
use Rattle.kernel_model.specs.Always.{IsFiles, IsTable, IsPipe, any_open, has_open, is_read_end, is_write_end}
use Rattle.kernel_model.specs.Laws.{IsLeastFree}
use Rattle.kernel_model.specs.Pipes.{pipe_at}
use Rattle.kernel_model.specs.State.{Files, Descriptors, Pipe}
use Rattle.kernel_model.specs.Table.{slot, lowest_free, new_place, leads_to, descriptor_limit}
use Rattle.kernel_model.specs.declared.descriptor.Descriptor.{Descriptor}
use Rattle.kernel_model.specs.declared.descriptor.Description.{Description}
use Rattle.kernel_model.specs.declared.descriptor.Object.{Object}
use Rattle.kernel_model.specs.declared.descriptor.Object.TheVariants as objects

abbrev one : Bool → ℕ
one b = if b then 1 else 0

-- how many of the numbers from one on pass a test
abbrev count_from : (ℕ → Bool) → ℕ → ℕ → ℕ
count_from p from zero = 0
count_from p from (suc n) = one (p from) + count_from p (from + 1) n

-- a number equals one number

unequal : (x k : ℕ) → x < k → (x == k) ≡ false
unequal x k low = grind (arith, low)

equal : (x k : ℕ) → (x == k) ≡ true → x ≡ k
equal x k e = grind (arith, e)

past : (x from n : ℕ) → x < from → count_from (λ m. x == m) from n ≡ 0
past x from zero low = refl
past x from (suc n) low =
    let here : one (x == from) ≡ 0 = ap one (unequal x from low) in
    omega (arith, here, past x (from + 1) n (omega (arith, low)))

count_one : (x from n : ℕ) → count_from (λ m. x == m) from n ≤ 1
count_one x from zero = omega arith
count_one x from (suc n) = by (x == from) refl (count_one x (from + 1) n) where
  by : (b : Bool) → (x == from) ≡ b → count_from (λ m. x == m) (from + 1) n ≤ 1 → one (x == from) + count_from (λ m. x == m) (from + 1) n ≤ 1
  by true e rest =
      let here : one (x == from) ≡ 1 = ap one e in
      let none : count_from (λ m. x == m) (from + 1) n ≡ 0 = past x (from + 1) n (omega (arith, equal x from e)) in
      omega (arith, here, none)
  by false e rest =
      let here : one (x == from) ≡ 0 = ap one e in
      omega (arith, here, rest)

count_none : (from n : ℕ) → count_from (λ _. false) from n ≡ 0
count_none from zero = refl
count_none from (suc n) = omega (arith, count_none (from + 1) n)

or_le : (a b : Bool) → one (a || b) ≤ one a + one b
or_le true b = omega arith
or_le false b = omega arith

count_or : (p q : ℕ → Bool) (from n : ℕ) → count_from (λ m. p m || q m) from n ≤ count_from p from n + count_from q from n
count_or p q from zero = omega arith
count_or p q from (suc n) = omega (arith, or_le (p from) (q from), count_or p q (from + 1) n)

-- Each item of a list passes for one number at most: no more numbers have an item that passes than there are such items.
led : {X : Type 0} (test : ℕ → X → Bool) (counts : X → Bool) → ((x : X) (from n : ℕ) → count_from (λ m. test m x) from n ≤ one (counts x))
    → (xs : List X) (from n : ℕ) → count_from (λ m. list_any (test m) xs) from n ≤ count_by counts xs
led test counts each [] from n = omega (arith, count_none from n)
led test counts each (x ∷ xs) from n =
    omega (
      arith,
      count_or (λ m. test m x) (λ m. list_any (test m) xs) from n,
      each x from n,
      led test counts each xs from n,
      sum_by-cons (λ y. one (counts y)) x xs,
    )

-- no more places are taken than numbers pass, where each taken one does
taken_le : {A : Type 0} (slots : List (Option A)) (p : ℕ → Bool) (from : ℕ) → ((m : ℕ) → is_some (slot slots m) ≡ true → p (from + m) ≡ true)
    → count_by (λ o. is_some o) slots ≤ count_from p from (length slots)
taken_le [] p from h = omega arith
taken_le {A = A} (s ∷ slots) p from h =
    let rest = taken_le slots p (from + 1) (λ m e. subst (λ n. p n ≡ true) (omega arith) (h (suc m) e)) in
    let first : one (is_some s) ≤ one (p from) = head s (λ e. subst (λ n. p n ≡ true) (omega arith) (h 0 e)) in
    omega (arith, rest, first, sum_by-cons (λ o. one (is_some o)) s slots) where
      head : (o : Option A) → (is_some o ≡ true → p from ≡ true) → one (is_some o) ≤ one (p from)
      head None g = omega arith
      head (Some x) g = let yes : one (p from) ≡ 1 = ap one (g refl) in omega (arith, yes)

-- a free place

at_most_one : (b : Bool) → one b ≤ 1
at_most_one true = omega arith
at_most_one false = omega arith

at_most : {A : Type 0} (slots : List (Option A)) → count_by (λ o. is_some o) slots ≤ length slots
at_most slots = count_by-le-length (λ o. is_some o) slots

some_free : {A : Type 0} (slots : List (Option A)) (i : ℕ) → i < length slots → slot slots i ≡ None → count_by (λ o. is_some o) slots < length slots
some_free [] i low e = absurd (omega (arith, low))
some_free (s ∷ slots) zero low e =
    let none : one (is_some s) ≡ 0 = ap (λ o. one (is_some o)) e in
    omega (arith, none, at_most slots, sum_by-cons (λ o. one (is_some o)) s slots)
some_free (s ∷ slots) (suc i) low e =
    omega (arith, some_free slots i (omega (arith, low)) e, at_most_one (is_some s), sum_by-cons (λ o. one (is_some o)) s slots)

all_taken : {A : Type 0} (slots : List (Option A)) → nat_lt (prefix_len (λ o. not (is_none o)) slots) (length slots) ≡ false
    → count_by (λ o. is_some o) slots ≡ length slots
all_taken [] e = refl
all_taken (None ∷ slots) e = absurd (omega (arith, ltb-false 0 (length (None ∷ slots)) e))
all_taken (Some x ∷ slots) e =
    let rest : nat_lt (prefix_len (λ o. not (is_none o)) slots) (length slots) ≡ false = grind (arith, ltb-false (1 + prefix_len (λ o. not (is_none o)) slots) (length (Some x ∷ slots)) e) in
    omega (arith, all_taken slots rest, sum_by-cons (λ o. one (is_some o)) (Some x) slots)

none_free : {A : Type 0} (slots : List (Option A)) → lowest_free slots 0 ≡ None → count_by (λ o. is_some o) slots ≡ length slots
none_free slots e = by (nat_lt (prefix_len (λ o. not (is_none o)) slots) (length slots)) refl e where
  by : (b : Bool) → nat_lt (prefix_len (λ o. not (is_none o)) slots) (length slots) ≡ b
      → option_map (λ k. 0 + k) (if b then Some (prefix_len (λ o. not (is_none o)) slots) else None) ≡ None → count_by (λ o. is_some o) slots ≡ length slots
  by true p h = absurd cc
  by false p h = all_taken slots p

-- where not all places are taken, the new one is the least that is free
free_place : {A : Type 0} (slots : List (Option A)) → count_by (λ o. is_some o) slots < length slots → IsLeastFree slots 0 (new_place slots)
free_place slots less = by (lowest_free slots 0) refl where
  by : (found : Option ℕ) → lowest_free slots 0 ≡ found → IsLeastFree slots 0 (new_place slots)
  by None e = absurd (omega (arith, less, none_free slots e))
  by (Some free) e = new_place_is_least slots free e

-- Descriptions

leads_once : (descriptor : Option Descriptor) (from n : ℕ) → count_from (λ m. leads_to m descriptor) from n ≤ one (is_some descriptor)
leads_once None from n = omega (arith, count_none from n)
leads_once (Some descriptor) from n = count_one descriptor.number from n

module _ (table : Descriptors Description) (is : IsTable table) where
  live_le : count_by (λ o. is_some o) table.live ≤ count_by (λ o. is_some o) table.fds
  live_le =
      omega (
        arith,
        taken_le table.live (λ m. list_any (leads_to m) table.fds) 0 (λ m e. subst (λ k. list_any (leads_to k) table.fds ≡ true) (omega arith) (is.used m e)),
        led leads_to (λ o. is_some o) leads_once table.fds 0 (length table.live),
      )

  fds_less : (from fd : ℕ) → lowest_free table.fds from ≡ Some fd → count_by (λ o. is_some o) table.fds < descriptor_limit
  fds_less from fd e = let free = least_free table.fds from fd e in omega (arith, some_free table.fds fd free.within free.free, is.fds)

  pub description_place : (from fd : ℕ) → lowest_free table.fds from ≡ Some fd → IsLeastFree table.live 0 (new_place table.live)
  description_place from fd e = free_place table.live (omega (arith, fds_less from fd e, live_le, is.live))

-- Pipes

abbrev is_end : ℕ → Object → Bool
is_end pipe (objects.Stream stream) = false
is_end pipe (objects.ReadEnd number) = number == pipe
is_end pipe (objects.WriteEnd number) = number == pipe
is_end pipe (objects.Node node) = false

ends_once : (description : Option Description) (from n : ℕ) → count_from (λ m. has_open (is_end m) description) from n ≤ one (is_some description)
ends_once None from n = omega (arith, count_none from n)
ends_once (Some description) from n = by description.object where
  by : (object : Object) → count_from (λ m. is_end m object) from n ≤ 1
  by (objects.Stream stream) = omega (arith, count_none from n)
  by (objects.ReadEnd number) = count_one number from n
  by (objects.WriteEnd number) = count_one number from n
  by (objects.Node node) = omega (arith, count_none from n)

any_le : {X : Type 0} (p q : X → Bool) → ((x : X) → p x ≡ true → q x ≡ true) → (xs : List X) → list_any p xs ≡ true → list_any q xs ≡ true
any_le p q h [] e = absurd cc
any_le p q h (x ∷ xs) e = by (p x) refl (any_le p q h xs) e where
  by : (b : Bool) → p x ≡ b → (list_any p xs ≡ true → list_any q xs ≡ true) → (p x || list_any p xs) ≡ true → (q x || list_any q xs) ≡ true
  by true f more g = ap (λ b. b || list_any q xs) (h x f)
  by false f more g = right (q x) (more (sym (ap (λ b. b || list_any p xs) f) ∙ g)) where
    right : (a : Bool) → list_any q xs ≡ true → (a || list_any q xs) ≡ true
    right true r = refl
    right false r = r

read_is_end : (pipe : ℕ) (description : Option Description) → has_open (is_read_end pipe) description ≡ true → has_open (is_end pipe) description ≡ true
read_is_end pipe None e = absurd cc
read_is_end pipe (Some description) e = by description.object e where
  by : (object : Object) → is_read_end pipe object ≡ true → is_end pipe object ≡ true
  by (objects.Stream stream) g = absurd cc
  by (objects.ReadEnd number) g = g
  by (objects.WriteEnd number) g = absurd cc
  by (objects.Node node) g = absurd cc

write_is_end : (pipe : ℕ) (description : Option Description) → has_open (is_write_end pipe) description ≡ true → has_open (is_end pipe) description ≡ true
write_is_end pipe None e = absurd cc
write_is_end pipe (Some description) e = by description.object e where
  by : (object : Object) → is_write_end pipe object ≡ true → is_end pipe object ≡ true
  by (objects.Stream stream) g = absurd cc
  by (objects.ReadEnd number) g = absurd cc
  by (objects.WriteEnd number) g = g
  by (objects.Node node) g = absurd cc

module _ (files : Files) (is : IsFiles files) where
  has_end : (number : ℕ) → is_some (pipe_at files.flow number) ≡ true → any_open files (is_end number) ≡ true
  has_end number e = by (pipe_at files.flow number) refl e where
    opened : (pipe : Pipe) → IsPipe files number pipe → (r w : Bool) → pipe.readers ≡ r → pipe.writers ≡ w → (r || w) ≡ true → any_open files (is_end number) ≡ true
    opened pipe p true w f g h = any_le (has_open (is_read_end number)) (has_open (is_end number)) (read_is_end number) files.table.live (sym p.readers ∙ f)
    opened pipe p false true f g h = any_le (has_open (is_write_end number)) (has_open (is_end number)) (write_is_end number) files.table.live (sym p.writers ∙ g)
    opened pipe p false false f g h = absurd cc

    by : (found : Option Pipe) → pipe_at files.flow number ≡ found → is_some found ≡ true → any_open files (is_end number) ≡ true
    by None f h = absurd cc
    by (Some pipe) f h = let p = is.pipes number pipe f in opened pipe p pipe.readers pipe.writers refl refl p.used

  pipes_le : count_by (λ o. is_some o) files.flow.pipes ≤ count_by (λ o. is_some o) files.table.live
  pipes_le =
      omega (
        arith,
        taken_le files.flow.pipes (λ m. any_open files (is_end m)) 0 (λ m e. subst (λ k. any_open files (is_end k) ≡ true) (omega arith) (has_end m e)),
        led (λ m o. has_open (is_end m) o) (λ o. is_some o) ends_once files.table.live 0 (length files.flow.pipes),
      )

  pub pipe_place : (from fd : ℕ) → lowest_free files.table.fds from ≡ Some fd → IsLeastFree files.flow.pipes 0 (new_place files.flow.pipes)
  pipe_place from fd e = free_place files.flow.pipes (omega (arith, pipes_le, live_le files.table is.table, fds_less files.table is.table from fd e, is.places))
