-- The first denied byte of two pieces of memory, one behind the other.
use Rattle.std.proofs.Common.{ℕ, zero, suc, ◌≡◌, ◌+◌, Option, Some, None, refl, sym, ap, ◌∙◌, arith}
use Rattle.guest_space.specs.Memory.{Pages}
use Rattle.guest_space.specs.declared.access.Access.{Access}
use Rattle.guest_space.specs.declared.access.Denied.{Denied}
use Rattle.guest_space.specs.declared.access.Why.{Why}
use Rattle.guest_space.specs.Access.{refusal, first_denied, denied_or}
use Rattle.guest_space.proofs.Prefixes.{first_denied-same, first_denied-suc, first_denied-zero}

-- what is denied in the first piece, and else what is denied in the second
abbrev pub first_or : Option Denied → Option Denied → Option Denied
first_or None second = second
first_or (Some denied) second = Some denied

module _ (access : Access) (pages : Pages) where
  later : (a : ℕ) (why : Option Why) (first second : Option Denied) → denied_or a why (first_or first second) ≡ first_or (denied_or a why first) second
  later a None first second = refl
  later a (Some why) first second = refl

  pub denied-join : (k n a : ℕ) → first_denied access pages a (k + n) ≡ first_or (first_denied access pages a k) (first_denied access pages (a + k) n)
  denied-join zero n a =
      first_denied-same access pages {a = a} {b = a + 0} {m = 0 + n} {n = n} (omega arith) (omega arith)
      ∙ ap (λ first. first_or first (first_denied access pages (a + 0) n)) (sym (first_denied-zero access pages a))
  denied-join (suc k) n a =
      first_denied-same access pages {a = a} {b = a} {m = suc k + n} {n = suc (k + n)} refl (omega arith)
      ∙ first_denied-suc access pages a (k + n)
      ∙ ap (denied_or a (refusal access pages a)) (denied-join k n (a + 1))
      ∙ later a (refusal access pages a) (first_denied access pages (a + 1) k) (first_denied access pages (a + 1 + k) n)
      ∙ (λ i. first_or (sym (first_denied-suc access pages a k) i) (first_denied access pages (let e : a + 1 + k ≡ a + suc k = omega arith in e i) n))

  rest_go : (first second : Option Denied) → first_or first second ≡ None → second ≡ None
  rest_go None second none = none
  rest_go (Some denied) second none = absurd (cc)

  -- where none is denied, none of the second piece is
  pub none_denied-rest : (k n a : ℕ) → first_denied access pages a (k + n) ≡ None → first_denied access pages (a + k) n ≡ None
  none_denied-rest k n a none = rest_go _ _ (sym (denied-join k n a) ∙ none)
