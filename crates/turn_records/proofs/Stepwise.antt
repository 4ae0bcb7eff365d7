-- Registers are set one after the other.
use Rattle.std.proofs.Common.{◌≡◌, ◌<◌, ◌≤◌, ◌+◌, ℕ, List, [], ◌∷◌, ◌++◌, true, false, get_or, length, take, drop, set, Result, Ok, refl, sym, ap, subst, ◌∙◌, append-nil, append_assoc, arith}
use Rattle.std.proofs.lemmas.Bool.Decides.{nat_tests}
use Rattle.std.proofs.lemmas.List.{drop_all, drop_more, length-take-le, set_at, take_all, take_more}
use Rattle.std.proofs.lemmas.List.Elements.{All-append, All-nil}
use Rattle.std.specs.Prelude.{◌==◌, nat_lt}
use Rattle.journal.specs.Form.{IsEffect}
use Rattle.kernel_core.specs.declared.record.Effect.{Effect}
use Rattle.mips_exec.specs.Processor.{Processor}
use Rattle.o32_model.specs.Effects.{after_register, carried_on}
use Rattle.turn_records.proofs.Carrying.{carried_on-append}
use Rattle.turn_records.specs.inside.Setting.{Sets, target_at}

-- None, and one after the other

pub sets_none : (list : List Effect) (at : Processor) → Sets list list at at
sets_none list at = record { more = []; whole = sym (append-nil list); formed = All-nil IsEffect; leads = λ pages sent. refl }

pub sets_to : {old new : List Effect} {from to other : Processor} → to ≡ other → Sets old new from to → Sets old new from other
sets_to {old} {new} {from} is sets = subst (λ (p : Processor). Sets old new from p) is sets

pub sets_then : {old middle new : List Effect} {from between to : Processor} → Sets old middle from between → Sets middle new between to → Sets old new from to
sets_then {old} {middle} {new} {from} {between} {to} p q = record {
  more = p.more ++ q.more;
  whole = q.whole ∙ ap (λ (l : List Effect). l ++ q.more) p.whole ∙ append_assoc old p.more q.more;
  formed = All-append IsEffect p.more q.more p.formed q.formed;
  leads = λ pages sent. carried_on-append p.more q.more (Ok (target_at from pages sent)) ∙ ap (carried_on q.more) (p.leads pages sent) ∙ q.leads pages sent;
}

-- General registers

-- those below a number are set
abbrev pub mixed : ℕ → List ℕ → List ℕ → List ℕ
mixed number was now = take number now ++ drop number was

module _ (was now : List ℕ) (number : ℕ) (first : number < length was) (second : number < length now) where
  opened : mixed number was now ≡ take number now ++ get_or was number 0 ∷ drop (number + 1) was
  opened = ap (λ (l : List ℕ). take number now ++ l) (drop_more was number 0 first)

  front : length (take number now) ≡ number
  front = length-take-le number now (omega arith)

  one_more : mixed (number + 1) was now ≡ take number now ++ get_or now number 0 ∷ drop (number + 1) was
  one_more =
      ap (λ (l : List ℕ). l ++ drop (number + 1) was) (take_more now number 0 second)
      ∙ append_assoc (take number now) (get_or now number 0 ∷ []) (drop (number + 1) was)

  pub mixed_set : set (mixed number was now) number (get_or now number 0) ≡ mixed (number + 1) was now
  mixed_set =
      ap (λ (l : List ℕ). set l number (get_or now number 0)) opened
      ∙ set_at (take number now) (get_or was number 0) (drop (number + 1) was) (get_or now number 0) number front
      ∙ sym one_more

  pub mixed_same : get_or was number 0 ≡ get_or now number 0 → mixed (number + 1) was now ≡ mixed number was now
  mixed_same same = one_more ∙ ap (λ (n : ℕ). take number now ++ n ∷ drop (number + 1) was) (sym same) ∙ sym opened

pub mixed_first : (was now : List ℕ) → 0 < length was → 0 < length now → get_or was 0 0 ≡ get_or now 0 0 → mixed 1 was now ≡ was
mixed_first was now first second same = mixed_same was now 0 first second same

pub mixed_last : (was now : List ℕ) (number : ℕ) → length was ≤ number → length now ≤ number → mixed number was now ≡ now
mixed_last was now number first second =
    ap (λ (l : List ℕ). l ++ drop number was) (take_all number now second)
    ∙ ap (λ (l : List ℕ). now ++ l) (drop_all number was first) ∙ append-nil now

pub after_general : (p : Processor) (number value : ℕ) → 1 ≤ number → number < 32
    → after_register p number value ≡ Ok (record p { registers = set p.registers number value })
after_general p number value first last =
    let low : nat_lt number 32 ≡ true = grind (arith, nat_tests) in
    let some : (number == 0) ≡ false = grind (arith, nat_tests) in
    rw (low, some) refl

-- the registers of two processors, by number
pub general_first : (from : Processor) (was now : List ℕ) (list : List Effect) → 0 < length was → 0 < length now → get_or was 0 0 ≡ get_or now 0 0 → from.registers ≡ was
    → Sets list list from (record from { registers = mixed 1 was now })
general_first from was now list first second same is =
    sets_to (ap (λ (l : List ℕ). record from { registers = l }) (is ∙ sym (mixed_first was now first second same))) (sets_none list from)

module _ (from : Processor) (was now : List ℕ) (number : ℕ) (old middle new : List Effect) where
  abbrev at : ℕ → Processor
  at n = record from { registers = mixed n was now }

  pub general_next : 1 ≤ number → number < 32 → number < length was → number < length now → Sets old middle from (at number)
      → ((p q : Processor) → after_register p number (get_or now number 0) ≡ Ok q → (get_or was number 0 ≡ get_or now number 0 → q ≡ p) → Sets middle new p q)
      → Sets old new from (at (number + 1))
  general_next first last before behind sets one =
      sets_then sets (one (at number) (at (number + 1))
      (after_general (at number) number (get_or now number 0) first last
      ∙ ap (λ (l : List ℕ). let r : Result Processor _ = Ok (record from { registers = l }) in r) (mixed_set was now number before behind))
      (λ same. ap (λ (l : List ℕ). record from { registers = l }) (mixed_same was now number before behind same)))
