-- The calls that sleep, as native calls.
use Rattle.std.proofs.Common.{◌≡◌, ℕ, zero, suc, ◌*◌, ◌<◌, ◌≤◌, ◌%◌, ◌^◌, ◌==◌, Bool, true, false, List, [], ◌∷◌, Option, Some, None, Ok, Err, refl, sym, ap, ◌∙◌, subst, arith, lit<, if◌then◌else◌}
use Rattle.std.specs.Prelude.{nat_le, not, sum_by}
use Rattle.std.proofs.lemmas.Bool.Decides.{nat_tests}
use Rattle.kernel_core.specs.Bits.{has, one_if}
use Rattle.kernel_core.specs.declared.error.Errno.{Errno}
use Rattle.kernel_core.specs.declared.error.Errno.TheVariants.{EINVAL}
use Rattle.kernel_model.specs.Came.{Did, Given, done, refused_if, told_zero, waits, with_given, with_some}
use Rattle.kernel_model.specs.Clock.{is_sleep_clock, length_of, sleep, sleep_end}
use Rattle.kernel_model.specs.State.{Kernel}
use Rattle.kernel_model.specs.declared.time.TimeSpec.{TimeSpec}
use Rattle.native_calls.specs.Clocks as native
use Rattle.native_calls.specs.Flags.{are_listed, only_flag}
use Rattle.native_calls.specs.Step as native_step
use Rattle.native_calls.specs.Table.{native_call}
use Rattle.native_calls.specs.Times.{time_at}
use Rattle.o32_model.specs.PathArguments.{one_flag}
use Rattle.o32_model.specs.Sleeps as o32
use Rattle.o32_model.specs.Step as o32_step
use Rattle.o32_model.specs.Step.{Guest}
use Rattle.o32_model.specs.Times.{spec_at}
use Rattle.bridge_log.proofs.Mirroring.{mirrors_gives}
use Rattle.bridge_log.proofs.Replies.{Fits}
use Rattle.bridge_log.specs.Mirrors.{Mirrors}
use Rattle.bridge_log.specs.Outcomes.{by_reply}

-- a sleep gives 0 or waits from the beginning

zero_if : (wrong : Bool) (error : Errno) (kernel : Kernel) (rest : Did Kernel (Unit {0})) → Fits (told_zero rest).came → Fits (told_zero (refused_if wrong error kernel rest)).came
zero_if true error kernel rest fits = tt
zero_if false error kernel rest fits = fits

zero_some : {A : Type 0} (kernel : Kernel) (error : Errno) (there : Option A) (rest : A → Did Kernel (Unit {0})) → ((a : A) → Fits (told_zero (rest a)).came) → Fits (told_zero (with_some kernel error there rest)).came
zero_some kernel error None rest each = tt
zero_some kernel error (Some a) rest each = each a

zero_given : {A : Type 0} (kernel : Kernel) (there : Given A) (rest : A → Did Kernel (Unit {0})) → ((a : A) → Fits (told_zero (rest a)).came) → Fits (told_zero (with_given kernel there rest)).came
zero_given kernel (Err error) rest each = tt
zero_given kernel (Ok a) rest each = each a

zero_either : (kernel : Kernel) (until : ℕ) (past : Bool) → Fits (told_zero (if past then done kernel tt else waits kernel (Some until))).came
zero_either kernel until true = lit< tt
zero_either kernel until false = lit< tt

pub sleep_fits : (kernel : Kernel) (id : ℕ) (absolute : Option Bool) (time : Given TimeSpec) → Fits (told_zero (sleep kernel id absolute time)).came
unfolding sleep
sleep_fits kernel id absolute time =
    zero_if (not (is_sleep_clock id)) EINVAL kernel _ (
    zero_some kernel EINVAL absolute _ (λ absolute.
    zero_given kernel time _ (λ time.
    zero_given kernel (length_of time) _ (λ time.
    zero_either kernel (sleep_end kernel id absolute time) (nat_le (sleep_end kernel id absolute time) kernel.clock)))))

-- a row of the same numbers
same_gives : (guest : Guest) (memory left : List ℕ) (native_did did : Did Kernel ℕ) → native_did ≡ did → Fits did.came → Mirrors guest (by_reply guest.words) (native_step.gives memory native_did left) (o32_step.gives guest did left)
same_gives guest memory left native_did did same fits =
    subst (λ (d : Did Kernel ℕ). Mirrors guest (by_reply guest.words) (native_step.gives memory d left) (o32_step.gives guest did left)) (sym same) (mirrors_gives guest memory did left fits)

pub nanosleep_mirrors : (guest : Guest) (kernel : Kernel) (room left : List ℕ) (place address : ℕ) → time_at room place ≡ spec_at guest.memory address
    → Mirrors guest (by_reply guest.words) (native_call 101 (place ∷ 0 ∷ 0 ∷ 0 ∷ 0 ∷ 0 ∷ []) kernel room left) (o32.nanosleep_row kernel guest address left)
unfolding native.nanosleep_row o32.nanosleep_row
nanosleep_mirrors guest kernel room left place address same =
    same_gives guest room left _ (told_zero (sleep kernel 1 (Some false) (spec_at guest.memory address)))
    (ap (λ (t : Given TimeSpec). told_zero (sleep kernel 1 (Some false) t)) same)
    (sleep_fits kernel 1 (Some false) (spec_at guest.memory address))

-- the flag

one_at_most : (there : Bool) → one_if there ≤ 1
one_at_most true = omega arith
one_at_most false = omega arith

apart : (number other : ℕ) → (number ≡ other → ⊥) → (number == other) ≡ false
apart number other differ = grind (arith, nat_tests)

same_flag : (number : ℕ) → only_flag 1 number ≡ one_flag 1 number
same_flag zero = refl
same_flag (suc zero) = refl
same_flag (suc (suc number)) =
    let none : (suc (suc number) == 0) ≡ false = apart (suc (suc number)) 0 (λ e. omega arith) in
    let other : (suc (suc number) == 1) ≡ false = apart (suc (suc number)) 1 (λ e. omega arith) in
    let few = one_at_most (has (suc (suc number)) 1) in
    let unlisted : are_listed (1 ∷ []) (suc (suc number)) ≡ false = apart (sum_by (λ flag. flag * one_if (has (suc (suc number)) flag)) (1 ∷ [])) (suc (suc number)) (λ e. omega (arith, few, e)) in
    let there : only_flag 1 (suc (suc number)) ≡ None = ap (λ (b : Bool). if b then Some (has (suc (suc number)) 1) else None) unlisted in
    let asked : one_flag 1 (suc (suc number)) ≡ None =
    ap (λ (b : Bool). if b then Some false else (if suc (suc number) == 1 then Some true else None)) none ∙ ap (λ (b : Bool). if b then Some true else None) other in
    there ∙ sym asked

pub clock_nanosleep_mirrors : (guest : Guest) (kernel : Kernel) (room left : List ℕ) (first second place clock flags address : ℕ)
    → first ≡ clock → second ≡ flags → clock < 2 ^ 32 → flags < 2 ^ 32 → time_at room place ≡ spec_at guest.memory address
    → Mirrors guest (by_reply guest.words) (native_call 115 (first ∷ second ∷ place ∷ 0 ∷ 0 ∷ 0 ∷ []) kernel room left) (o32.clock_nanosleep_row kernel guest clock flags address left)
unfolding native.clock_nanosleep_row o32.clock_nanosleep_row
clock_nanosleep_mirrors guest kernel room left first second place clock flags address one_is two_is word second_word same =
    let e1 : first % 2 ^ 32 ≡ clock = omega arith in
    let e2 : second % 2 ^ 32 ≡ flags = omega arith in
    same_gives guest room left _ (told_zero (sleep kernel clock (one_flag 1 flags) (spec_at guest.memory address)))
    (ap (λ (n : ℕ). told_zero (sleep kernel n (only_flag 1 (second % 2 ^ 32)) (time_at room place))) e1
    ∙ ap (λ (n : ℕ). told_zero (sleep kernel clock (only_flag 1 n) (time_at room place))) e2
    ∙ ap (λ (o : Option Bool). told_zero (sleep kernel clock o (time_at room place))) (same_flag flags)
    ∙ ap (λ (t : Given TimeSpec). told_zero (sleep kernel clock (one_flag 1 flags) t)) same)
    (sleep_fits kernel clock (one_flag 1 flags) (spec_at guest.memory address))
