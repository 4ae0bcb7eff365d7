-- Whether so many bytes can be stored, by how many of them can.
use Rattle.std.proofs.Common.{◌≡◌, ℕ, ◌≤◌, Bool, true, false, Option, Some, None, refl, sym, ap, ◌∙◌, arith}
use Rattle.std.specs.Prelude.{◌==◌, is_none}
use Rattle.std.proofs.lemmas.Bool.Decides.{nat_tests}
use Rattle.guest_space.specs.Access.{bytes_before, first_denied, writable_prefix}
use Rattle.guest_space.specs.Memory.{Memory}
use Rattle.guest_space.specs.declared.access.Access.TheVariants.{Store}
use Rattle.guest_space.specs.declared.access.Denied.{Denied}
use Rattle.o32_model.specs.GuestBytes.{is_storable}

same : (one other : ℕ) → (one == other) ≡ true → one ≡ other
same one other is = grind (arith, nat_tests)

is_same : (one other : ℕ) → one ≡ other → (one == other) ≡ true
is_same one other is = grind (arith, nat_tests)

denied_none : (denied : Denied) → Some denied ≡ None → ⊥
denied_none denied is = cc

pub has_room : (memory : Memory) (address count there : ℕ) → there ≡ writable_prefix memory.pages address count
    → ((k : ℕ) → k ≤ there → first_denied Store memory.pages address k ≡ None) → (there == count) ≡ is_storable memory address count
unfolding writable_prefix
has_room memory address count there is free = by (first_denied Store memory.pages address count) refl where
  all : (denied : Denied) (test : Bool) → (there == count) ≡ test → first_denied Store memory.pages address count ≡ Some denied → (there == count) ≡ false
  all denied true whole here = absurd (denied_none denied (sym here ∙ free count (let e = same there count whole in omega arith)))
  all denied false whole here = whole

  by : (denied : Option Denied) → first_denied Store memory.pages address count ≡ denied → (there == count) ≡ is_none denied
  by None none = is_same there count (is ∙ ap (bytes_before address count) none)
  by (Some denied) here = all denied (there == count) refl here
