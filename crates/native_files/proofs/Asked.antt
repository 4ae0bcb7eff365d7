-- Transfers by how many bytes they move at most.
use Rattle.std.proofs.Common.{◌≡◌, ◌≢◌, ℕ, ◌≤◌, min, Bool, true, false, ◌==◌, cond, Result, Ok, Err, refl, ap, arith}
use Rattle.std.proofs.lemmas.Bool.Decides.{nat_tests}
use Rattle.kernel_core.specs.declared.error.Errno.{Errno}
use Rattle.kernel_core.specs.declared.error.Errno.TheVariants.{EFAULT}
use Rattle.kernel_model.specs.Came.{Did, Given, done, refused}
use Rattle.kernel_model.specs.Transfers.{transferring}
use Rattle.native_files.specs.inside.Lengths.{most_of}

abbrev chosen : Bool → Bool → ℕ → Result ℕ Errno
chosen none nothing most = cond none (Ok 0) (cond nothing (Err EFAULT) (Ok most))

abbrev carried : {S V : Type 0} → S → V → (ℕ → Did S V) → Bool → Bool → ℕ → Did S V
carried state none rest is_none nothing most = cond is_none (done state none) (cond nothing (refused state EFAULT) (rest most))

pub transferring-refused : {S V : Type 0} (state : S) (asked : Given ℕ) (accessible : ℕ) (none : V) (rest : ℕ → Did S V) (error : Errno)
    → Err error ≡ most_of asked accessible → transferring state asked accessible none rest ≡ refused state error
transferring-refused state (Err wrong) accessible none rest error is = let same : wrong ≡ error = cc in ap (refused state) same
transferring-refused state (Ok count) accessible none rest error is = by (count == 0) (accessible == 0) is
  where
    by : (a b : Bool) → Err error ≡ chosen a b (min (min count accessible) 0x7FFFF000) → carried state none rest a b (min (min count accessible) 0x7FFFF000) ≡ refused state error
    by true b is = absurd (cc)
    by false true is = let same : EFAULT ≡ error = cc in ap (refused state) same
    by false false is = absurd (cc)

pub transferring-none : {S V : Type 0} (state : S) (asked : Given ℕ) (accessible : ℕ) (none : V) (rest : ℕ → Did S V) (most : ℕ)
    → Ok most ≡ most_of asked accessible → most ≡ 0 → transferring state asked accessible none rest ≡ done state none
transferring-none state (Err wrong) accessible none rest most is zero = absurd (cc)
transferring-none state (Ok count) accessible none rest most is zero = by (count == 0) (accessible == 0) refl refl is
  where
    by : (a b : Bool) → (count == 0) ≡ a → (accessible == 0) ≡ b → Ok most ≡ chosen a b (min (min count accessible) 0x7FFFF000)
        → carried state none rest a b (min (min count accessible) 0x7FFFF000) ≡ done state none
    by true b ae be is = refl
    by false true ae be is = absurd (cc)
    by false false ae be is = absurd (let same : most ≡ min (min count accessible) 0x7FFFF000 = cc in grind (arith, nat_tests))

pub transferring-some : {S V : Type 0} (state : S) (asked : Given ℕ) (accessible : ℕ) (none : V) (rest : ℕ → Did S V) (most : ℕ)
    → Ok most ≡ most_of asked accessible → most ≢ 0 → transferring state asked accessible none rest ≡ rest most
transferring-some state (Err wrong) accessible none rest most is some = absurd (cc)
transferring-some state (Ok count) accessible none rest most is some = by (count == 0) (accessible == 0) is
  where
    by : (a b : Bool) → Ok most ≡ chosen a b (min (min count accessible) 0x7FFFF000) → carried state none rest a b (min (min count accessible) 0x7FFFF000) ≡ rest most
    by true b is = absurd (let same : most ≡ 0 = cc in some same)
    by false true is = absurd (cc)
    by false false is = let same : min (min count accessible) 0x7FFFF000 ≡ most = cc in ap rest same

pub most-within : (asked : Given ℕ) (accessible most : ℕ) → Ok most ≡ most_of asked accessible → most ≤ min accessible 0x7FFFF000
most-within (Err wrong) accessible most is = absurd (cc)
most-within (Ok count) accessible most is = by (count == 0) (accessible == 0) is
  where
    by : (a b : Bool) → Ok most ≡ chosen a b (min (min count accessible) 0x7FFFF000) → most ≤ min accessible 0x7FFFF000
    by true b is = let same : most ≡ 0 = cc in omega (arith, same)
    by false true is = absurd (cc)
    by false false is = let same : most ≡ min (min count accessible) 0x7FFFF000 = cc in omega (arith, same)
