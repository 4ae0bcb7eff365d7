-- What a native call puts into host memory reads back.
use Rattle.std.proofs.Common.{◌≡◌, ℕ, ◌+◌, ◌-◌, ◌%◌, ◌^◌, ◌<◌, Bool, true, false, List, [], ◌∷◌, ◌++◌, length, take, drop, map, get_or, replicate, Some, None, ℤ, pos, refl, sym, ap, ◌∙◌, arith, append-nil, if◌then◌else◌}
use Rattle.std.specs.Prelude.{nat_abs, nat_lt}
use Rattle.std.proofs.Math.Seq.{take-length}
use Rattle.std.proofs.lemmas.Bool.Decides.{nat_tests}
use Rattle.std.proofs.lemmas.List.{drop_all, length-replicate}
use Rattle.std.specs.List.{flat_map}
use Rattle.host_mem.specs.Memory.{bytes_at, is_inside, padded, replaced, written}
use Rattle.kernel_core.specs.declared.sa_flags.SaFlags.{SaFlags}
use Rattle.kernel_model.specs.Always.{IsSet}
use Rattle.kernel_model.specs.SignalRows.{no_action, no_stack}
use Rattle.kernel_model.specs.SignalSets.{SignalSet, no_signals}
use Rattle.kernel_model.specs.declared.signal.Action.{Action}
use Rattle.kernel_model.specs.declared.signal.SigStack.{SigStack}
use Rattle.layouts.specs.Native.{iovec, sigaction, stack}
use Rattle.layouts.specs.Number.{bytes_of, unsigned}
use Rattle.layouts.specs.Shape.{are_in_range, record_bytes, record_values}
use Rattle.layouts.proofs.RecordLaws.{record_bytes-read_back}
use Rattle.layouts.proofs.SoundTables.{sound_from_test}
use Rattle.native_calls.specs.SignalBytes.{action_bytes, action_in, action_of, set_bytes, set_in, stack_bytes, stack_in, stack_of}
use Rattle.bridge_log.proofs.Kernel.{action_fits}
use Rattle.native_signal.specs.Fitting.{IsNumberedStack}
use Rattle.number_tables.specs.SaNumbers.{native_sa, native_sa_read}
use Rattle.number_tables.specs.inside.SaLaws.{native_sa_found}
use Rattle.signal_sets.proofs.SameSets.{two_words}
use Rattle.signal_sets.proofs.Turned.{IsNativeSet-native_of, set_again}
use Rattle.signal_sets.specs.NativeSets.{NativeSet, IsNativeSet, native_of, set_of_native}
use Rattle.bridge_signal_state.specs.inside.Shown.{action_shown, found_in, set_shown, stack_shown}

-- Room that is filled whole

inside : (n : ℕ) (bytes : List ℕ) → length bytes ≡ n → is_inside (replicate n 0) 65536 (length bytes) ≡ true
inside n bytes whole = let room : length (replicate {A = ℕ} n 0) ≡ n = length-replicate {A = ℕ} n 0 in grind (arith, nat_tests)

replaced_whole : (n : ℕ) (bytes : List ℕ) → length bytes ≡ n → bytes ++ drop (0 + length bytes) (replicate n 0) ≡ bytes
replaced_whole n bytes whole =
    ap (λ (rest : List ℕ). bytes ++ rest) (drop_all (0 + length bytes) (replicate {A = ℕ} n 0) (omega (arith, length-replicate {A = ℕ} n 0))) ∙ append-nil bytes

pub filled : (n : ℕ) (bytes : List ℕ) → length bytes ≡ n → written (replicate n 0) 65536 bytes ≡ bytes
filled n bytes whole =
    ap (λ (b : Bool). if b then replaced (replicate n 0) 0 bytes else replicate n 0) (inside n bytes whole)
    ∙ replaced_whole n bytes whole

inside_own : (n : ℕ) (bytes : List ℕ) → length bytes ≡ n → is_inside bytes 65536 n ≡ true
inside_own n bytes whole = grind (arith, nat_tests)

pub own_bytes : (n : ℕ) (bytes : List ℕ) → length bytes ≡ n → bytes_at bytes 65536 n ≡ Some bytes
own_bytes n bytes whole =
    ap (λ (b : Bool). if b then Some (take n bytes) else None) (inside_own n bytes whole)
    ∙ ap (λ (k : ℕ). Some (take k bytes)) (sym whole) ∙ ap (λ (t : List ℕ). Some t) (take-length bytes)

pub shown : {A : Type 0} (none : A) (meaning : List ℕ → A) (n : ℕ) (bytes : List ℕ) → length bytes ≡ n → found_in none meaning (bytes_at (written (replicate n 0) 65536 bytes) 65536 n) ≡ meaning bytes
shown none meaning n bytes whole =
    ap (λ (m : List ℕ). found_in none meaning (bytes_at m 65536 n)) (filled n bytes whole) ∙ ap (found_in none meaning) (own_bytes n bytes whole)

-- Sets

abbrev pub words_bytes : List ℕ → List ℕ
words_bytes words = flat_map (bytes_of false 8) words

abbrev pub two : ℕ → ℕ → List ℕ
two a b = a ∷ b ∷ []

abbrev pub read_words : List ℕ → List ℕ
read_words bytes = unsigned false 8 bytes ∷ unsigned false 8 (drop 8 bytes) ∷ []

below : (number bound : ℕ) → number < bound → nat_lt number bound ≡ true
below number bound small = grind (arith, nat_tests)

pair_fits : (a b : ℕ) → a < 2 ^ 64 → b < 2 ^ 64 → are_in_range iovec.fields (pos a ∷ pos b ∷ []) ≡ true
pair_fits a b p q = rw (below a (2 ^ 64) p, below b (2 ^ 64) q) refl

pair_again : (a b : ℕ) → a < 2 ^ 64 → b < 2 ^ 64 → record_values iovec (record_bytes iovec (pos a ∷ pos b ∷ [])) ≡ pos a ∷ pos b ∷ []
pair_again a b p q = record_bytes-read_back iovec (pos a ∷ pos b ∷ []) (sound_from_test iovec refl) refl (pair_fits a b p q)

pub words_again : (a b : ℕ) → a < 2 ^ 64 → b < 2 ^ 64 → read_words (words_bytes (two a b)) ≡ two a b
words_again a b p q = ap (λ (values : List ℤ). map nat_abs values) (pair_again a b p q)

pub word_small : (native : NativeSet) → IsNativeSet native → (k : ℕ) → k < 2 → get_or native k 0 < 2 ^ 64
word_small native is k low = is.words k 0 (omega (arith, is.count))

pub native_words : (native : NativeSet) → IsNativeSet native → native ≡ two (get_or native 0 0) (get_or native 1 0)
native_words native is = two_words native is.count

native_again : (native : NativeSet) → IsNativeSet native → read_words (words_bytes native) ≡ native
native_again native is =
    ap (λ (w : List ℕ). read_words (words_bytes w)) (native_words native is)
    ∙ words_again _ _ (word_small native is 0 (omega arith)) (word_small native is 1 (omega arith))
    ∙ sym (native_words native is)

pub set_back : (set : SignalSet) → IsSet set → set_in (set_bytes set) ≡ set
set_back set is = ap set_of_native (native_again (native_of set) (IsNativeSet-native_of set)) ∙ set_again set is

pub length-set_bytes : (set : SignalSet) → length (set_bytes set) ≡ 16
length-set_bytes set = ap (λ (w : List ℕ). length (words_bytes w)) (native_words (native_of set) (IsNativeSet-native_of set))

-- a set ends where the next structure may begin
pub set_padded : (set : SignalSet) → padded (set_bytes set) ≡ set_bytes set
set_padded set = ap (λ (n : ℕ). set_bytes set ++ replicate ((8 - n % 8) % 8) 0) (length-set_bytes set) ∙ append-nil (set_bytes set)

pub set_told : (set : SignalSet) → IsSet set → set_shown (written (replicate 16 0) 65536 (set_bytes set)) ≡ set
set_told set is = shown no_signals set_in 16 (set_bytes set) (length-set_bytes set) ∙ set_back set is

-- Actions

some_is : {A : Type 0} {a b : A} → Some a ≡ Some b → a ≡ b
some_is same = cc

flags_if : (b : Bool) (read flags : SaFlags) → (if b then Some read else None) ≡ Some flags → read ≡ flags
flags_if true read flags found = some_is found
flags_if false read flags found = absurd cc

pub flags_again : (flags : SaFlags) → native_sa_read (native_sa flags) ≡ flags
flags_again flags = flags_if _ _ flags (native_sa_found flags)

abbrev action_values : Action → List ℕ → List ℤ
action_values action words = map pos (native_sa action.flags ∷ action.handler ∷ words)

values_again : (action : Action) (a b : ℕ) → map nat_abs (action_values action (two a b)) ≡ native_sa action.flags ∷ action.handler ∷ two a b
values_again action a b = refl

fields_again : (action : Action) (words : NativeSet) → IsNativeSet words → map nat_abs (action_values action words) ≡ native_sa action.flags ∷ action.handler ∷ words
fields_again action words is =
    ap (λ (w : List ℕ). map nat_abs (action_values action w)) (native_words words is)
    ∙ ap (λ (w : List ℕ). native_sa action.flags ∷ action.handler ∷ w) (sym (native_words words is))

count : (action : Action) (words : NativeSet) → IsNativeSet words → length (action_values action words) ≡ 4
count action words is = ap (λ (w : List ℕ). length (action_values action w)) (native_words words is)

record_again : (action : Action) → action.handler < 2 ^ 64 → record_values sigaction (action_bytes action) ≡ action_values action (native_of action.mask)
record_again action small =
    let is = IsNativeSet-native_of action.mask in
    record_bytes-read_back sigaction (action_values action (native_of action.mask)) (sound_from_test sigaction refl) (count action (native_of action.mask) is)
    (action_fits action.flags action.handler (native_of action.mask) small is)

pub action_back : (action : Action) → action.handler < 2 ^ 64 → IsSet action.mask → action_in (action_bytes action) ≡ action
action_back action small is =
    ap (λ (values : List ℤ). action_of (map nat_abs values)) (record_again action small)
    ∙ ap action_of (fields_again action (native_of action.mask) (IsNativeSet-native_of action.mask))
    ∙ (λ i. record { handler = action.handler; flags = flags_again action.flags i; mask = set_again action.mask is i })

pub length-action_bytes : (action : Action) → length (action_bytes action) ≡ 32
length-action_bytes action = ap (λ (w : List ℕ). length (record_bytes sigaction (action_values action w))) (native_words (native_of action.mask) (IsNativeSet-native_of action.mask))

pub action_told : (action : Action) → action.handler < 2 ^ 64 → IsSet action.mask → action_shown (written (replicate 32 0) 65536 (action_bytes action)) ≡ action
action_told action small is = shown no_action action_in 32 (action_bytes action) (length-action_bytes action) ∙ action_back action small is

-- Alternate stacks

stack_fits : (kept : SigStack) → IsNumberedStack kept → are_in_range stack.fields (map pos (kept.sp ∷ kept.size ∷ kept.flags ∷ [])) ≡ true
stack_fits kept is = rw (below kept.sp (2 ^ 64) is.sp, below kept.size (2 ^ 64) is.size, below kept.flags (2 ^ 32) is.flags) refl

pub stack_back : (kept : SigStack) → IsNumberedStack kept → stack_in (stack_bytes kept) ≡ kept
stack_back kept is =
    ap (λ (values : List ℤ). stack_of (map nat_abs values))
    (record_bytes-read_back stack (map pos (kept.sp ∷ kept.size ∷ kept.flags ∷ [])) (sound_from_test stack refl) refl (stack_fits kept is))

pub stack_told : (kept : SigStack) → IsNumberedStack kept → stack_shown (written (replicate 24 0) 65536 (stack_bytes kept)) ≡ kept
stack_told kept is = shown no_stack stack_in 24 (stack_bytes kept) refl ∙ stack_back kept is
