-- What the rows of the calls on files come to, as replies and outcomes.
use Rattle.std.proofs.Common.{◌≡◌, ℕ, ◌<◌, ◌^◌, ◌%◌, List, Option, Some, None, Bool, true, false, Ok, Err, sym, subst, arith, lit<}
use Rattle.std.specs.Prelude.{⊤, ◌==◌, ◌+◌, ◌*◌, ◌/◌, if◌then◌else◌}
use Rattle.std.proofs.lemmas.Bool.Decides.{nat_tests}
use Rattle.kernel_core.specs.Bits.{one_if}
use Rattle.kernel_core.specs.declared.error.Errno.{Errno}
use Rattle.kernel_model.specs.Came.{Came, Done, Refused, Waits, Did, Given, came_as, refused_if, refused_by, with_given, with_some}
use Rattle.kernel_model.specs.State.{Kernel}
use Rattle.native_calls.specs.Step as native_step
use Rattle.o32_model.specs.PathArguments.{one_flag}
use Rattle.o32_model.specs.Step as o32_step
use Rattle.o32_model.specs.Step.{Guest}
use Rattle.bridge_log.proofs.Mirroring.{mirrors_gives}
use Rattle.bridge_log.proofs.Replies.{Fits}
use Rattle.bridge_log.specs.Bounds.{Bounded}
use Rattle.bridge_log.specs.Mirrors.{Mirrors}
use Rattle.bridge_log.specs.Outcomes.{by_reply}

-- Rows that never wait

pub bounded_given : {S V A : Type 0} (P : V → Type 0) (state : S) (there : Given A) (rest : A → Did S V) → ((a : A) → Bounded P (rest a).came) → Bounded P (with_given state there rest).came
bounded_given P state (Err error) rest each = tt
bounded_given P state (Ok a) rest each = each a

pub bounded_some : {S V A : Type 0} (P : V → Type 0) (state : S) (error : Errno) (there : Option A) (rest : A → Did S V) → ((a : A) → Bounded P (rest a).came) → Bounded P (with_some state error there rest).came
bounded_some P state error None rest each = tt
bounded_some P state error (Some a) rest each = each a

pub bounded_if : {S V : Type 0} (P : V → Type 0) (wrong : Bool) (error : Errno) (state : S) (rest : Did S V) → Bounded P rest.came → Bounded P (refused_if wrong error state rest).came
bounded_if P true error state rest bounded = tt
bounded_if P false error state rest bounded = bounded

pub bounded_by : {S V : Type 0} (P : V → Type 0) (error : Option Errno) (state : S) (rest : Did S V) → Bounded P rest.came → Bounded P (refused_by error state rest).came
bounded_by P (Some error) state rest bounded = tt
bounded_by P None state rest bounded = bounded

pub bounded_either : {S V : Type 0} (P : V → Type 0) (test : Bool) (one other : Did S V) → Bounded P one.came → Bounded P other.came → Bounded P (if test then one else other).came
bounded_either P true one other first second = first
bounded_either P false one other first second = second

abbrev pub Anything : {V : Type 0} → V → Type 0
Anything _ = ⊤

pub fits_zero : (came : Came (Unit {0})) → Bounded Anything came → Fits (came_as (λ _. 0) came)
fits_zero (Done found) bounded = lit< tt
fits_zero (Refused error) bounded = tt
fits_zero (Waits wake) bounded = bounded

-- both calls give what a row came to
pub same_gives : (guest : Guest) (memory left : List ℕ) (native_did did given : Did Kernel ℕ) → native_did ≡ given → did ≡ given → Fits given.came
    → Mirrors guest (by_reply guest.words) (native_step.gives memory native_did left) (o32_step.gives guest did left)
same_gives guest memory left native_did did given there here fits =
    subst (λ (d : Did Kernel ℕ). Mirrors guest (by_reply guest.words) (native_step.gives memory native_did left) (o32_step.gives guest d left)) (sym here)
    (subst (λ (d : Did Kernel ℕ). Mirrors guest (by_reply guest.words) (native_step.gives memory d left) (o32_step.gives guest given left)) (sym there)
    (mirrors_gives guest memory given left fits))

-- an argument is its low 32 bits
pub word : (given number : ℕ) → given ≡ number → number < 2 ^ 32 → given % 2 ^ 32 ≡ number
word given number same fits = omega arith

-- A number of which a call takes one flag: both worlds read it alike.

pub one_only : (flag number : ℕ) (has : Bool) → (number / flag % 2 == 1) ≡ has → 0 < flag → (number ≡ 0 → has ≡ false) → (number ≡ flag → has ≡ true)
    → (if 0 + flag * one_if has == number then Some has else None) ≡ one_flag flag number
one_only flag number true is some none there = grind (arith, nat_tests)
one_only flag number false is some none there = grind (arith, nat_tests)
