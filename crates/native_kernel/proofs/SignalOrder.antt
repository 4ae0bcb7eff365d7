-- The signals by rising native number.
use Rattle.std.proofs.Common.{◌≡◌, ℕ, suc, ◌+◌, ◌-◌, ◌<◌, Bool, true, false, List, ◌∷◌, Option, Some, None, refl, sym, ap, ◌∙◌, arith, add-one, if◌then◌else◌}
use Rattle.std.specs.List.{cons_option}
use Rattle.std.specs.Prelude.{find}
use Rattle.kernel_core.specs.declared.signal.Sig.{Sig}
use Rattle.native_calls.specs.Signals.{native_order}
use Rattle.native_kernel.specs.inside.Signals.{kept, order_from}
use Rattle.number_tables.specs.Signals.{real_time, real_time_if, signal_of_native}

-- all of them
pub whole_order : order_from 1 128 ≡ native_order
unfolding order_from native_order real_time real_time_if
whole_order = refl

-- one number more
one_more : (first count : ℕ) → order_from first (suc count) ≡ cons_option (signal_of_native first) (order_from (suc first) count)
unfolding order_from
one_more first count = refl

none_kept : (test : Sig → Bool) (found : Option Sig) (rest : List Sig) → None ≡ kept test found → find test (cons_option found rest) ≡ find test rest
none_kept test None rest e = refl
none_kept test (Some signal) rest e = by (test signal) refl e where
  by : (b : Bool) → test signal ≡ b → None ≡ (if b then Some signal else None) → find test (signal ∷ rest) ≡ find test rest
  by true t h = absurd cc
  by false t h = rw t refl

one_kept : (test : Sig → Bool) (found : Option Sig) (rest : List Sig) (signal : Sig) → Some signal ≡ kept test found → Some signal ≡ find test (cons_option found rest)
one_kept test None rest signal e = absurd cc
one_kept test (Some one) rest signal e = by (test one) refl e where
  by : (b : Bool) → test one ≡ b → Some signal ≡ (if b then Some one else None) → Some signal ≡ find test (one ∷ rest)
  by true t h = h ∙ rw t refl
  by false t h = absurd cc

after : (number : ℕ) → number < 129 → order_from number (129 - number) ≡ cons_option (signal_of_native number) (order_from (number + 1) (129 - (number + 1)))
after number low =
    let count : 129 - number ≡ suc (129 - (number + 1)) = omega arith in
    ap (λ n. order_from number n) count ∙ one_more number (129 - (number + 1)) ∙ ap (λ n. cons_option (signal_of_native number) (order_from n (129 - (number + 1)))) (sym (add-one number))

-- a number whose signal does not pass
pub passed_over : (test : Sig → Bool) (number : ℕ) (all : Option Sig) → number < 129 → None ≡ kept test (signal_of_native number)
    → find test (order_from number (129 - number)) ≡ all → find test (order_from (number + 1) (129 - (number + 1))) ≡ all
passed_over test number all low none so_far =
    sym (none_kept test (signal_of_native number) (order_from (number + 1) (129 - (number + 1))) none)
    ∙ ap (λ order. find test order) (sym (after number low)) ∙ so_far

-- the first whose signal passes
pub found_at : (test : Sig → Bool) (number : ℕ) (all : Option Sig) (signal : Sig) → number < 129 → Some signal ≡ kept test (signal_of_native number)
    → find test (order_from number (129 - number)) ≡ all → Some signal ≡ all
found_at test number all signal low found so_far =
    one_kept test (signal_of_native number) (order_from (number + 1) (129 - (number + 1))) signal found
    ∙ ap (λ order. find test order) (sym (after number low)) ∙ so_far

-- no number is left
pub none_left : (test : Sig → Bool) (number : ℕ) (all : Option Sig) → number ≡ 129 → find test (order_from number (129 - number)) ≡ all → None ≡ all
unfolding order_from
none_left test number all e so_far =
    let nothing : find test (order_from 129 0) ≡ None = refl in
    sym nothing ∙ ap (λ n. find test (order_from n (129 - n))) (sym e) ∙ so_far
