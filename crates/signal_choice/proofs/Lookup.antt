-- Looking through all signals, by rising numbers.
use Rattle.std.proofs.Common.{◌≡◌, ℕ, suc, ◌+◌, ◌-◌, ◌<◌, Bool, true, false, List, refl, sym, ap, ◌∙◌, arith, Option, Some, None}
use Rattle.std.specs.Prelude.{find, is_some, if◌then◌else◌}
use Rattle.std.specs.List.{cons_option}
use Rattle.std.specs.Option.{option_or}
use Rattle.kernel_core.specs.declared.signal.Sig.{Sig}
use Rattle.number_tables.specs.Signals.{signal_of_o32}
use Rattle.signal_choice.specs.inside.Passing.{passing}
use Rattle.o32_model.specs.Suspending.{all_signals, signals_from}

-- what is found from a number on
abbrev pub found_from : (Sig → Bool) → ℕ → Option Sig
found_from test number = find test (signals_from number (129 - number))

step : (test : Sig → Bool) (number : ℕ) → number < 129
    → found_from test number ≡ find test (cons_option (signal_of_o32 number) (signals_from (number + 1) (129 - (number + 1))))
unfolding signals_from
step test number below =
    let more : 129 - number ≡ suc (129 - (number + 1)) = omega arith in
    ap (λ (count : ℕ). find test (signals_from number count)) more

-- the first of them, or else what is found behind
first_or : (test : Sig → Bool) (first : Option Sig) (more : List Sig) (found : Option Sig) → found ≡ passing test first
    → find test (cons_option first more) ≡ option_or found (find test more)
first_or test None more found is = ap (λ (o : Option Sig). option_or o (find test more)) (sym is)
first_or test (Some signal) more found is = by (test signal) ∙ ap (λ (o : Option Sig). option_or o (find test more)) (sym is) where
  by : (b : Bool) → (if b then Some signal else find test more) ≡ option_or (if b then Some signal else None) (find test more)
  by true = refl
  by false = refl

there : (found rest : Option Sig) → is_some found ≡ true → option_or found rest ≡ found
there None rest some = cc
there (Some signal) rest some = refl

not_there : (found rest : Option Sig) → is_some found ≡ false → option_or found rest ≡ rest
not_there None rest none = refl
not_there (Some signal) rest none = cc

module _ (test : Sig → Bool) (number : ℕ) (below : number < 129) (found : Option Sig) (is : found ≡ passing test (signal_of_o32 number)) where
  either : found_from test number ≡ option_or found (found_from test (number + 1))
  either = step test number below ∙ first_or test (signal_of_o32 number) (signals_from (number + 1) (129 - (number + 1))) found is

  pub here : is_some found ≡ true → found_from test number ≡ found
  here some = either ∙ there found (found_from test (number + 1)) some

  pub not_here : is_some found ≡ false → found_from test number ≡ found_from test (number + 1)
  not_here none = either ∙ not_there found (found_from test (number + 1)) none

pub none_behind : (test : Sig → Bool) → found_from test 129 ≡ None
unfolding signals_from
none_behind test = refl

pub from_first : (test : Sig → Bool) → found_from test 1 ≡ find test all_signals
from_first test = refl
