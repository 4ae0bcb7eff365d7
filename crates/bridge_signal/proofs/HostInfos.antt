-- A siginfo in host memory.
use Rattle.std.proofs.Common.{◌≡◌, ℕ, ◌<◌, ◌%◌, ◌^◌, ℤ, pos, Bool, true, List, [], ◌∷◌, ◌++◌, length, take, Some, None, Ok, refl, sym, ap, ◌∙◌, subst, arith, if◌then◌else◌}
use Rattle.std.specs.Prelude.{FitsSigned, IsTrue}
use Rattle.std.specs.Int.{w32}
use Rattle.std.proofs.Math.Seq.{take-length}
use Rattle.std.proofs.lemmas.Bool.Decides.{nat_tests}
use Rattle.host_mem.specs.Memory.{bytes_at, end_address, is_inside, padded}
use Rattle.kernel_core.specs.declared.signal.Sig.TheVariants.{Hup}
use Rattle.kernel_model.specs.SignalRows.{SentInfo}
use Rattle.layouts.specs.Native.{siginfo}
use Rattle.layouts.specs.Shape.{Shape, IsSound, after_put_record, are_in_range, record_bytes, record_values}
use Rattle.native_calls.specs.HostBytes.{given, read_as}
use Rattle.native_calls.specs.SignalBytes.{sent_at, sent_in, sent_of}
use Rattle.bridge_signal_state.proofs.Passed.{info_fits}
use Rattle.number_tables.specs.Codes.{native_code, o32_code}

abbrev ReadsBack : Type 0
ReadsBack = (shape : Shape) (values : List ℤ) → IsSound shape → length values ≡ length shape.fields → IsTrue (are_in_range shape.fields values) → record_values shape (record_bytes shape values) ≡ values

abbrev pub told : ℤ → ℤ → ℕ → ℕ → ℕ → SentInfo
told code errno pid uid value = record { code = code; errno = errno; pid = pid; uid = uid; value = value }

abbrev pub fields : ℤ → ℤ → ℕ → ℕ → ℕ → List ℤ
fields code errno pid uid value = pos 0 ∷ native_code code ∷ errno ∷ pos pid ∷ pos uid ∷ pos value ∷ []

low : (value : ℕ) → value < 2 ^ 32 → value % 2 ^ 32 ≡ value
low value word = omega arith

-- what was written of it is what is said
pub info_written : (shape : Shape) (old bytes : List ℕ) (values : List ℤ) (code errno : ℤ) (pid uid value : ℕ) → shape ≡ siginfo → IsSound shape → values ≡ fields code errno pid uid value
    → FitsSigned w32 code → FitsSigned w32 errno → pid < 2 ^ 32 → uid < 2 ^ 32 → value < 2 ^ 32 → o32_code (native_code code) ≡ code → ReadsBack → bytes ≡ after_put_record shape values old
    → sent_in bytes ≡ told code errno pid uid value
info_written shape old bytes values code errno pid uid value same sound are code_fits errno_fits pid_word uid_word value_word back reads written =
    let list = fields code errno pid uid value in
    let fits : are_in_range siginfo.fields list ≡ true = info_fits Hup code errno pid uid value code_fits errno_fits pid_word uid_word value_word in
    let here : IsSound siginfo = subst IsSound same sound in
    let put : bytes ≡ record_bytes siginfo list =
    written ∙ ap (λ (s : Shape). after_put_record s values old) same ∙ ap (λ (v : List ℤ). after_put_record siginfo v old) are
    ∙ ap (λ (b : Bool). if b then record_bytes siginfo list else old) fits in
    ap sent_in put ∙ ap sent_of (reads siginfo list here refl fits)
    ∙ ap (λ (z : ℤ). told z errno pid uid (value % 2 ^ 32)) back ∙ ap (told code errno pid uid) (low value value_word)

inside : (native : List ℕ) → length native ≡ 128 → is_inside native 65536 128 ≡ true
inside native whole = grind (arith, nat_tests)

-- one that was pushed onto empty host memory
pub info_pushed : (memory native : List ℕ) (place : ℕ) (info : SentInfo) → length native ≡ 128 → memory ≡ padded [] ++ native → place ≡ end_address (padded []) → sent_in native ≡ info
    → sent_at memory place ≡ Ok info
info_pushed memory native place info whole pushed at is =
    let there : bytes_at native 65536 128 ≡ Some native =
    ap (λ (b : Bool). if b then Some (take 128 native) else None) (inside native whole)
    ∙ ap (λ (n : ℕ). Some (take n native)) (sym whole) ∙ ap (λ (t : List ℕ). Some t) (take-length native) in
    ap (λ (m : List ℕ). sent_at m place) pushed ∙ ap (λ (n : ℕ). sent_at native n) at
    ∙ ap (λ o. read_as sent_in (given o)) there ∙ ap (λ (t : SentInfo). Ok t) is
