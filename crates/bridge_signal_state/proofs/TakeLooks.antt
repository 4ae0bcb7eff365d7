-- What the native call does by which a signal is taken.
use Rattle.std.proofs.Common.{◌≡◌, ℕ, zero, suc, ◌+◌, ◌-◌, ◌%◌, ◌^◌, ◌<◌, ◌≤◌, Bool, true, false, List, [], ◌∷◌, ◌++◌, length, take, drop, get_or, replicate, Option, Some, None, Ok, ℤ, pos, negsuc, refl, sym, ap, subst, ◌∙◌, arith, lit<, if◌then◌else◌, length-append, set}
use Rattle.std.specs.Prelude.{All, nat_abs, nat_lt, nat_le, min, not, option_map, slice_get}
use Rattle.std.proofs.Math.Seq.{take-append_seam}
use Rattle.std.proofs.lemmas.Bool.Decides.{Decides-int_eq, nat_tests}
use Rattle.std.proofs.lemmas.List.{drop_at, get_or_past, set-get_or}
use Rattle.std.proofs.lemmas.List.Elements.{All-get_or}
use Rattle.std.specs.Ordering.{int_eq}
use Rattle.host_mem.specs.Memory.{bytes_at, is_inside, replaced, written}
use Rattle.kernel_core.specs.NameCalls.{is_empty_list}
use Rattle.kernel_core.specs.declared.error.Errno.TheVariants.{EAGAIN}
use Rattle.kernel_core.specs.declared.reply.Reply.{Reply}
use Rattle.kernel_core.specs.declared.signal.Sig.{Sig}
use Rattle.kernel_model.specs.Came.{Came, Did, Done, Given, refused, waits}
use Rattle.kernel_model.specs.Clock.{deadline, waits_until}
use Rattle.kernel_model.specs.Pending.{CanPend}
use Rattle.kernel_model.specs.Shared.{Info}
use Rattle.kernel_model.specs.SignalRows.{accept, accept_first, accept_signal, first_pending, pending_at, with_pending, with_signals}
use Rattle.kernel_model.specs.SignalSets.{SignalSet, only, place}
use Rattle.kernel_model.specs.State.{Kernel, Signals}
use Rattle.kernel_model.specs.declared.time.TimeSpec.{TimeSpec}
use Rattle.layouts.specs.Native.{siginfo}
use Rattle.layouts.specs.Shape.{record_values}
use Rattle.layouts.proofs.RecordLaws.{record_bytes-read_back}
use Rattle.layouts.proofs.SoundTables.{sound_from_test}
use Rattle.native_calls.specs.HostBytes.{given, read_as}
use Rattle.native_calls.specs.SignalBytes.{info_bytes, set_at, set_in}
use Rattle.native_calls.specs.Signals.{accepts, native_order, rt_sigtimedwait_row}
use Rattle.native_calls.specs.Step.{memory_after, reply_to, told_unless_null}
use Rattle.native_calls.specs.Table.{native_call}
use Rattle.native_calls.specs.Times.{time_at}
use Rattle.bridge_log.proofs.Kernel.{info_fits}
use Rattle.number_tables.specs.Codes.{native_code, o32_code}
use Rattle.number_tables.specs.Signals.{native_signal}
use Rattle.number_tables.specs.inside.SignalLaws.{native_signal_found}
use Rattle.signal_sets.proofs.Turned.{IsNativeSet-native_of}
use Rattle.signal_sets.specs.NativeSets.{native_of}
use Rattle.bridge_signal_state.proofs.OneSignal.{only_is_set, pending_first, pending_none}
use Rattle.bridge_signal_state.proofs.Rooms.{native_words, set_back, two, words_bytes}
use Rattle.bridge_signal_state.specs.Acting.{IsAct}
use Rattle.bridge_signal_state.specs.inside.Shown.{found_in, info_in, info_of, info_shown, info_with, taking_room}

-- What host memory holds before the call

abbrev room_of : List ℕ → List ℕ
room_of words = words_bytes words ++ replicate 144 0

abbrev no_time : TimeSpec
no_time = record { seconds = pos 0; nanoseconds = pos 0 }

room_words : (signal : Sig) → taking_room signal ≡ room_of (two (get_or (native_of (only signal)) 0 0) (get_or (native_of (only signal)) 1 0))
room_words signal = ap room_of (native_words (native_of (only signal)) (IsNativeSet-native_of (only signal)))

set_found : (a b : ℕ) → bytes_at (room_of (two a b)) 65536 16 ≡ Some (words_bytes (two a b))
set_found a b = refl

time_found : (a b : ℕ) → time_at (room_of (two a b)) 65680 ≡ Ok no_time
time_found a b = refl

set_there : (signal : Sig) → set_at (taking_room signal) 65536 ≡ Ok (only signal)
set_there signal =
    ap (λ (m : List ℕ). set_at m 65536) (room_words signal)
    ∙ ap (λ (found : Option (List ℕ)). read_as set_in (given found)) (set_found (get_or (native_of (only signal)) 0 0) (get_or (native_of (only signal)) 1 0))
    ∙ ap (λ (w : List ℕ). Ok (set_in (words_bytes w))) (sym (native_words (native_of (only signal)) (IsNativeSet-native_of (only signal))))
    ∙ ap (λ (s : SignalSet). Ok s) (set_back (only signal) (only_is_set signal))

time_there : (signal : Sig) → time_at (taking_room signal) 65680 ≡ Ok no_time
time_there signal = ap (λ (m : List ℕ). time_at m 65680) (room_words signal) ∙ time_found (get_or (native_of (only signal)) 0 0) (get_or (native_of (only signal)) 1 0)

-- What is taken, by what pends

past : (clock : ℕ) → nat_le (min (clock + 0) (2 ^ 63 - 1)) clock ≡ true
past clock = grind (arith, nat_tests)

no_wait : (kernel : Kernel) → waits_until {V = Info} kernel (deadline kernel (Some 0)) (refused kernel EAGAIN) ≡ refused kernel EAGAIN
no_wait kernel = ap (λ (b : Bool). if b then refused {V = Info} kernel EAGAIN else waits kernel (deadline kernel (Some 0))) (past kernel.clock)

accept_is : (kernel : Kernel) (signals : SignalSet) (found : Given SignalSet) (time : Given TimeSpec) → found ≡ Ok signals → time ≡ Ok no_time
    → accept kernel native_order (λ s. s) found (Some time) 16 ≡ accept_signal kernel (first_pending kernel.signals native_order signals) (refused kernel EAGAIN)
unfolding accept
accept_is kernel signals found time is at_once =
    ap (λ (f : Given SignalSet). accept kernel native_order (λ s. s) f (Some time) 16) is
    ∙ ap (λ (t : Given TimeSpec). accept kernel native_order (λ s. s) (Ok signals) (Some t) 16) at_once
    ∙ ap (λ (none : Did Kernel Info). accept_signal kernel (first_pending kernel.signals native_order signals) none) (no_wait kernel)

taken_of : (kernel : Kernel) (signal : Sig) (infos : List Info) (none : Did Kernel Info) → pending_at kernel.signals signal ≡ infos
    → accept_signal kernel (first_pending kernel.signals native_order (only signal)) none ≡ accept_first kernel signal infos none
taken_of kernel signal [] none at =
    ap (λ (s : Option Sig). accept_signal kernel s none) (pending_none kernel.signals signal (ap (λ (l : List Info). not (is_empty_list l)) at))
taken_of kernel signal (info ∷ rest) none at =
    ap (λ (s : Option Sig). accept_signal kernel s none) (pending_first kernel.signals signal (ap (λ (l : List Info). not (is_empty_list l)) at))
    ∙ ap (λ (l : List Info). accept_first kernel signal l none) at

abbrev pub taken : Kernel → Sig → List Info → Did Kernel Info
taken kernel signal infos = accept_first kernel signal infos (refused kernel EAGAIN)

abbrev pub taken_reply : List ℕ → Came Info → Reply
taken_reply memory came = reply_to (λ info. told_unless_null memory 65552 (info_bytes info) (native_signal info.sig)) came

abbrev pub taken_memory : List ℕ → Came Info → List ℕ
taken_memory memory came = memory_after (λ info. written memory 65552 (info_bytes info)) memory came

accepts_act : (memory left : List ℕ) (did same : Did Kernel Info) → did ≡ same → IsAct same.state (taken_reply memory same.came) (taken_memory memory same.came) left (accepts memory 65552 did left)
accepts_act memory left did same e =
    subst (λ (d : Did Kernel Info). IsAct same.state (taken_reply memory same.came) (taken_memory memory same.came) left (accepts memory 65552 d left)) (sym e)
    (record { kernel_stays = refl; left_stays = refl; sends = refl; replied = refl; stored = refl })

pub take_act : (kernel : Kernel) (left : List ℕ) (signal : Sig)
    → (let did = taken kernel signal (pending_at kernel.signals signal) in
    IsAct did.state (taken_reply (taking_room signal) did.came) (taken_memory (taking_room signal) did.came) left (native_call 137 (65536 ∷ 65552 ∷ 65680 ∷ 16 ∷ 0 ∷ 0 ∷ []) kernel (taking_room signal) left))
unfolding rt_sigtimedwait_row
take_act kernel left signal =
    accepts_act (taking_room signal) left (accept kernel native_order (λ s. s) (set_at (taking_room signal) 65536) (Some (time_at (taking_room signal) 65680)) 16)
    (taken kernel signal (pending_at kernel.signals signal))
    (accept_is kernel (only signal) (set_at (taking_room signal) 65536) (time_at (taking_room signal) 65680) (set_there signal) (time_there signal)
    ∙ taken_of kernel signal (pending_at kernel.signals signal) (refused kernel EAGAIN) refl)

-- What is told of a signal reads back.

not_same : (one other : ℤ) → (one ≡ other → ⊥) → int_eq one other ≡ false
not_same one other apart = by (int_eq one other) refl where
  by : (b : Bool) → int_eq one other ≡ b → int_eq one other ≡ false
  by true e = absurd (apart ((Decides-int_eq one other).0 e))
  by false e = e

later : (n k : ℕ) → k < 4 → negsuc (suc (suc (suc (suc n)))) ≡ negsuc k → ⊥
later n k low e = omega (arith, low, ap nat_abs e)

other : (n k : ℕ) → k < 4 → int_eq (negsuc (suc (suc (suc (suc n))))) (negsuc k) ≡ false
other n k low = not_same _ _ (later n k low)

native_same : (code : ℤ) → int_eq code (negsuc 1) ≡ false → int_eq code (negsuc 2) ≡ false → int_eq code (negsuc 3) ≡ false → native_code code ≡ code
native_same code a b c =
    ap (λ (t : Bool). if t then negsuc 1 else (if int_eq code (negsuc 3) then negsuc 2 else (if int_eq code (negsuc 1) then negsuc 3 else code))) b
    ∙ ap (λ (t : Bool). if t then negsuc 2 else (if int_eq code (negsuc 1) then negsuc 3 else code)) c
    ∙ ap (λ (t : Bool). if t then negsuc 3 else code) a

o32_same : (code : ℤ) → int_eq code (negsuc 1) ≡ false → int_eq code (negsuc 2) ≡ false → int_eq code (negsuc 3) ≡ false → o32_code code ≡ code
o32_same code a b c =
    ap (λ (t : Bool). if t then negsuc 2 else (if int_eq code (negsuc 2) then negsuc 3 else (if int_eq code (negsuc 3) then negsuc 1 else code))) a
    ∙ ap (λ (t : Bool). if t then negsuc 3 else (if int_eq code (negsuc 3) then negsuc 1 else code)) b
    ∙ ap (λ (t : Bool). if t then negsuc 1 else code) c

codes_back : (code : ℤ) → o32_code (native_code code) ≡ code
codes_back (pos n) = refl
codes_back (negsuc zero) = refl
codes_back (negsuc (suc zero)) = refl
codes_back (negsuc (suc (suc zero))) = refl
codes_back (negsuc (suc (suc (suc zero)))) = refl
codes_back (negsuc (suc (suc (suc (suc n))))) =
    ap o32_code (native_same (negsuc (suc (suc (suc (suc n))))) (other n 1 (lit< tt)) (other n 2 (lit< tt)) (other n 3 (lit< tt)))
    ∙ o32_same (negsuc (suc (suc (suc (suc n))))) (other n 1 (lit< tt)) (other n 2 (lit< tt)) (other n 3 (lit< tt))

abbrev values : Info → List ℤ
values info = pos (native_signal info.sig) ∷ native_code info.code ∷ info.errno ∷ pos info.pid ∷ pos info.uid ∷ pos info.value ∷ []

values_back : (info : Info) → CanPend info → record_values siginfo (info_bytes info) ≡ values info
values_back info can =
    record_bytes-read_back siginfo (values info) (sound_from_test siginfo refl) refl
    (info_fits info.sig info.code info.errno info.pid info.uid info.value can.code can.errno can.pid can.uid can.value)

word_same : (n : ℕ) → n < 2 ^ 32 → n % 2 ^ 32 ≡ n
word_same n small = omega arith

with_back : (info : Info) → CanPend info → info_with (values info) info.sig ≡ info
with_back info can = λ i. record {
  sig = info.sig;
  code = codes_back info.code i;
  errno = info.errno;
  pid = info.pid;
  uid = info.uid;
  value = word_same info.value can.value i;
  addr = sym can.addr i;
}

info_back : (info : Info) → CanPend info → info_in (info_bytes info) ≡ Some info
info_back info can =
    ap info_of (values_back info can)
    ∙ ap (λ (s : Option Sig). option_map (info_with (values info)) s) (native_signal_found info.sig)
    ∙ ap (λ (i : Info). Some i) (with_back info can)

-- It is told in its place.

room_inside : (a b : ℕ) (bytes : List ℕ) → length bytes ≡ 128 → is_inside (room_of (two a b)) 65552 (length bytes) ≡ true
room_inside a b bytes whole = ap (λ (n : ℕ). is_inside (room_of (two a b)) 65552 n) whole

after_inside : (front bytes rest : List ℕ) → length front ≡ 16 → length bytes ≡ 128 → is_inside (front ++ (bytes ++ rest)) 65552 128 ≡ true
after_inside front bytes rest first whole =
    let all : length (front ++ (bytes ++ rest)) ≡ length front + (length bytes + length rest) = length-append front (bytes ++ rest) ∙ ap (λ (n : ℕ). length front + n) (length-append bytes rest) in
    grind (arith, nat_tests)

middle : (front bytes rest : List ℕ) → length front ≡ 16 → length bytes ≡ 128 → take 128 (drop 16 (front ++ (bytes ++ rest))) ≡ bytes
middle front bytes rest first whole =
    ap (λ (l : List ℕ). take 128 l) (drop_at front (bytes ++ rest) 16 first)
    ∙ ap (λ (n : ℕ). take n (bytes ++ rest)) (sym whole) ∙ take-append_seam bytes rest

there_after : (front bytes rest : List ℕ) → length front ≡ 16 → length bytes ≡ 128 → bytes_at (front ++ (bytes ++ rest)) 65552 128 ≡ Some bytes
there_after front bytes rest first whole =
    ap (λ (b : Bool). if b then Some (take 128 (drop 16 (front ++ (bytes ++ rest)))) else None) (after_inside front bytes rest first whole)
    ∙ ap (λ (l : List ℕ). Some l) (middle front bytes rest first whole)

put_there : (a b : ℕ) (bytes : List ℕ) → length bytes ≡ 128 → bytes_at (written (room_of (two a b)) 65552 bytes) 65552 128 ≡ Some bytes
put_there a b bytes whole =
    ap (λ (inside : Bool). bytes_at (if inside then replaced (room_of (two a b)) 16 bytes else room_of (two a b)) 65552 128) (room_inside a b bytes whole)
    ∙ there_after (take 16 (room_of (two a b))) bytes (drop (16 + length bytes) (room_of (two a b))) refl whole

done_shown : (a b : ℕ) (info : Info) → CanPend info → info_shown (taken_memory (room_of (two a b)) (Done info)) (taken_reply (room_of (two a b)) (Done info)) ≡ Some info
done_shown a b info can =
    ap (λ (found : Option (List ℕ)). found_in None info_in found) (put_there a b (info_bytes info) refl)
    ∙ info_back info can

-- What was taken

can_pend : (signals : Signals) (signal : Sig) → All (λ infos. All CanPend infos) signals.pending → All CanPend (pending_at signals signal)
can_pend signals signal all = by (nat_lt (place signal) (length signals.pending)) refl where
  by : (b : Bool) → nat_lt (place signal) (length signals.pending) ≡ b → All CanPend (pending_at signals signal)
  by true e = All-get_or (λ infos. All CanPend infos) signals.pending (place signal) [] (grind (arith, nat_tests)) all
  by false e =
      let out : length signals.pending ≤ place signal = grind (arith, nat_tests) in
      subst (λ infos. All CanPend infos) (sym (get_or_past signals.pending (place signal) [] out)) (λ k d inside. absurd (omega arith))

nothing_taken : (kernel : Kernel) (signal : Sig) → pending_at kernel.signals signal ≡ [] → kernel ≡ with_signals kernel (with_pending kernel.signals signal [])
nothing_taken kernel signal at =
    let same : set kernel.signals.pending (place signal) [] ≡ kernel.signals.pending =
    ap (λ (l : List Info). set kernel.signals.pending (place signal) l) (sym at) ∙ set-get_or kernel.signals.pending (place signal) [] in
    ap (λ (p : List (List Info)). record kernel { signals = record kernel.signals { pending = p } }) (sym same)

taken_shown : (a b : ℕ) (kernel : Kernel) (signal : Sig) (infos : List Info) → All CanPend infos → (let did = taken kernel signal infos in info_shown (taken_memory (room_of (two a b)) did.came) (taken_reply (room_of (two a b)) did.came) ≡ slice_get infos 0)
taken_shown a b kernel signal [] can = refl
taken_shown a b kernel signal (info ∷ rest) can = done_shown a b info (can 0 info (omega arith))

pub taken_told : (kernel : Kernel) (signal : Sig) → All (λ infos. All CanPend infos) kernel.signals.pending
    → (let did = taken kernel signal (pending_at kernel.signals signal) in info_shown (taken_memory (taking_room signal) did.came) (taken_reply (taking_room signal) did.came) ≡ slice_get (pending_at kernel.signals signal) 0)
taken_told kernel signal all =
    let did = taken kernel signal (pending_at kernel.signals signal) in
    ap (λ (m : List ℕ). info_shown (taken_memory m did.came) (taken_reply m did.came)) (room_words signal)
    ∙ taken_shown (get_or (native_of (only signal)) 0 0) (get_or (native_of (only signal)) 1 0) kernel signal (pending_at kernel.signals signal) (can_pend kernel.signals signal all)

pub taken_state : (kernel : Kernel) (signal : Sig) (infos : List Info) → pending_at kernel.signals signal ≡ infos → (taken kernel signal infos).state ≡ with_signals kernel (with_pending kernel.signals signal (drop 1 infos))
taken_state kernel signal [] at = nothing_taken kernel signal at
taken_state kernel signal (info ∷ rest) at = refl
