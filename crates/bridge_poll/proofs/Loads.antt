-- Which bytes of entries can be loaded.
use Rattle.std.proofs.Common.{◌≡◌, ℕ, ◌+◌, ◌-◌, ◌*◌, ◌<◌, ◌≤◌, Bool, true, false, Option, Some, None, refl, sym, ap, ◌∙◌, arith}
use Rattle.std.specs.Prelude.{◌==◌, is_none}
use Rattle.std.proofs.lemmas.Bool.Decides.{nat_tests}
use Rattle.guest_space.proofs.Prefixes.{first_denied-same}
use Rattle.guest_space.proofs.Uses.{none_denied-part}
use Rattle.guest_space.specs.Access.{bytes_before, first_denied, readable_prefix}
use Rattle.guest_space.specs.Memory.{Pages}
use Rattle.guest_space.specs.declared.access.Access.TheVariants.{Load}
use Rattle.guest_space.specs.declared.access.Denied.{Denied}
use Rattle.bridge_limits.proofs.Passed.{none_denied-rest}

same : (one other : ℕ) → (one == other) ≡ true → one ≡ other
same one other is = grind (arith, nat_tests)

is_same : (one other : ℕ) → one ≡ other → (one == other) ≡ true
is_same one other is = grind (arith, nat_tests)

denied_none : (denied : Denied) → Some denied ≡ None → ⊥
denied_none denied is = cc

-- by how many of them can
pub all_load : (pages : Pages) (address count there : ℕ) → there ≡ readable_prefix pages address count
    → ((k : ℕ) → k ≤ there → first_denied Load pages address k ≡ None) → (there == count) ≡ is_none (first_denied Load pages address count)
unfolding readable_prefix
all_load pages address count there is free = by (first_denied Load pages address count) refl where
  all : (denied : Denied) (test : Bool) → (there == count) ≡ test → first_denied Load pages address count ≡ Some denied → (there == count) ≡ false
  all denied true whole here = absurd (denied_none denied (sym here ∙ free count (let e = same there count whole in omega arith)))
  all denied false whole here = whole

  by : (denied : Option Denied) → first_denied Load pages address count ≡ denied → (there == count) ≡ is_none denied
  by None none = is_same there count (is ∙ ap (bytes_before address count) none)
  by (Some denied) here = all denied (there == count) refl here

pub none_is : (o : Option Denied) → is_none o ≡ true → o ≡ None
none_is None is = refl
none_is (Some denied) is = absurd cc

-- one of so many entries
pub one_loads : (pages : Pages) (address count number : ℕ) → number < count → first_denied Load pages address (count * 8) ≡ None → first_denied Load pages (address + number * 8) 8 ≡ None
one_loads pages address count number below free =
    let all : count * 8 ≡ number * 8 + (8 + (count - (number + 1)) * 8) = omega (arith, below) in
    none_denied-part Load pages 8 ((count - (number + 1)) * 8) (address + number * 8)
    (none_denied-rest Load pages (number * 8) (8 + (count - (number + 1)) * 8) address (first_denied-same Load pages refl (sym all) ∙ free))
