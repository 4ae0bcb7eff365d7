-- The calls that send signals, as native calls.
use Rattle.std.proofs.Common.{◌≡◌, ℕ, ◌<◌, ◌%◌, ◌^◌, List, [], ◌∷◌, ℤ, pos, ap, ◌∙◌, arith, lit<}
use Rattle.std.specs.Int.{w32, cast_signed}
use Rattle.std.specs.Prelude.{not, int_lt, ◌||◌, false}
use Rattle.kernel_core.specs.declared.error.Errno.TheVariants.{EINVAL, ESRCH}
use Rattle.kernel_core.specs.declared.signal.Sig.{Sig}
use Rattle.kernel_model.specs.Came.{Given, told_zero}
use Rattle.kernel_model.specs.Shared.{Info}
use Rattle.kernel_model.specs.SignalRows.{Named, Nothing, Signal, Unlisted, SentInfo, is_id, is_unlisted, kill, kill_info, kill_thread, kill_thread_of, names_itself, own_id, post, queue, queued_info, send_named, sent_as, tkill_info, with_signals}
use Rattle.kernel_model.specs.State.{Kernel}
use Rattle.kernel_model.specs.declared.signal.Post.{Post}
use Rattle.kernel_model.specs.declared.signal.Post.TheVariants as posts
use Rattle.layouts.specs.O32.{siginfo}
use Rattle.native_calls.specs.Arguments.{low_word}
use Rattle.native_calls.specs.SignalBytes.{named_by, sent_at}
use Rattle.native_calls.specs.Signals as native
use Rattle.native_calls.specs.Table.{native_call}
use Rattle.o32_model.specs.GuestBytes.{read_as, structure}
use Rattle.o32_model.specs.Sending as o32
use Rattle.o32_model.specs.Sending.{named, sent_in}
use Rattle.o32_model.specs.Step.{Guest}
use Rattle.bridge_signal_state.proofs.Passed.{Fits}
use Rattle.bridge_signal_state.specs.Passed.{Mirrors}
use Rattle.bridge_signal_state.specs.Passed.{by_reply}
use Rattle.bridge_signal.proofs.Zeros.{same_gives, zero_given, zero_if}

sent_fits : (kernel : Kernel) (post : Post) → Fits (told_zero (sent_as kernel post)).came
sent_fits kernel posts.Queued = lit< tt
sent_fits kernel posts.Dropped = lit< tt
sent_fits kernel posts.Full = tt

named_fits : (kernel : Kernel) (signal : Named) (info : Sig → Info) → Fits (told_zero (send_named kernel signal info)).came
named_fits kernel Nothing info = lit< tt
named_fits kernel (Signal signal) info =
    let answer = post kernel.signals (info signal) false in sent_fits (with_signals kernel answer.signals) answer.post
named_fits kernel Unlisted info = tt

low : (first number : ℕ) → first ≡ number → number < 2 ^ 32 → first % 2 ^ 32 ≡ number
low first number is word = omega arith

-- kill(2)

kill_fits : (kernel : Kernel) (pid : ℤ) (signal : Named) → Fits (told_zero (kill kernel pid signal)).came
unfolding kill
kill_fits kernel pid signal = zero_if (not (names_itself pid)) ESRCH kernel _ (named_fits kernel signal kill_info)

pub kill_mirrors : (guest : Guest) (kernel : Kernel) (room left : List ℕ) (first second pid number : ℕ) → first ≡ pid → pid < 2 ^ 32 → named_by (low_word second) ≡ named number
    → Mirrors guest (by_reply guest.words) (native_call 129 (first ∷ second ∷ 0 ∷ 0 ∷ 0 ∷ 0 ∷ []) kernel room left) (o32.kill_row kernel guest (cast_signed w32 pid) number left)
unfolding native.kill_row o32.kill_row
kill_mirrors guest kernel room left first second pid number is word same =
    same_gives guest room left _ (told_zero (kill kernel (cast_signed w32 pid) (named number)))
    (ap (λ (n : ℕ). told_zero (kill kernel (cast_signed w32 n) (named_by (low_word second)))) (low first pid is word)
    ∙ ap (λ (s : Named). told_zero (kill kernel (cast_signed w32 pid) s)) same)
    (kill_fits kernel (cast_signed w32 pid) (named number))

-- tkill(2)

tkill_fits : (kernel : Kernel) (tid : ℤ) (signal : Named) → Fits (told_zero (kill_thread kernel tid signal)).came
unfolding kill_thread
tkill_fits kernel tid signal =
    zero_if (int_lt tid (pos 1)) EINVAL kernel _ (zero_if (not (is_id tid own_id)) ESRCH kernel _ (named_fits kernel signal tkill_info))

pub tkill_mirrors : (guest : Guest) (kernel : Kernel) (room left : List ℕ) (first second tid number : ℕ) → first ≡ tid → tid < 2 ^ 32 → named_by (low_word second) ≡ named number
    → Mirrors guest (by_reply guest.words) (native_call 130 (first ∷ second ∷ 0 ∷ 0 ∷ 0 ∷ 0 ∷ []) kernel room left) (o32.tkill_row kernel guest (cast_signed w32 tid) number left)
unfolding native.tkill_row o32.tkill_row
tkill_mirrors guest kernel room left first second tid number is word same =
    same_gives guest room left _ (told_zero (kill_thread kernel (cast_signed w32 tid) (named number)))
    (ap (λ (n : ℕ). told_zero (kill_thread kernel (cast_signed w32 n) (named_by (low_word second)))) (low first tid is word)
    ∙ ap (λ (s : Named). told_zero (kill_thread kernel (cast_signed w32 tid) s)) same)
    (tkill_fits kernel (cast_signed w32 tid) (named number))

-- tgkill(2)

tgkill_fits : (kernel : Kernel) (pid tid : ℤ) (signal : Named) → Fits (told_zero (kill_thread_of kernel pid tid signal)).came
unfolding kill_thread_of
tgkill_fits kernel pid tid signal =
    zero_if (int_lt pid (pos 1) || int_lt tid (pos 1)) EINVAL kernel _
    (zero_if (not (is_id pid own_id) || not (is_id tid own_id)) ESRCH kernel _ (named_fits kernel signal tkill_info))

pub tgkill_mirrors : (guest : Guest) (kernel : Kernel) (room left : List ℕ) (first second third pid tid number : ℕ) → first ≡ pid → pid < 2 ^ 32 → second ≡ tid → tid < 2 ^ 32 → named_by (low_word third) ≡ named number
    → Mirrors guest (by_reply guest.words) (native_call 131 (first ∷ second ∷ third ∷ 0 ∷ 0 ∷ 0 ∷ []) kernel room left)
    (o32.tgkill_row kernel guest (cast_signed w32 pid) (cast_signed w32 tid) number left)
unfolding native.tgkill_row o32.tgkill_row
tgkill_mirrors guest kernel room left first second third pid tid number is word other other_word same =
    same_gives guest room left _ (told_zero (kill_thread_of kernel (cast_signed w32 pid) (cast_signed w32 tid) (named number)))
    (ap (λ (n : ℕ). told_zero (kill_thread_of kernel (cast_signed w32 n) (cast_signed w32 (low_word second)) (named_by (low_word third)))) (low first pid is word)
    ∙ ap (λ (n : ℕ). told_zero (kill_thread_of kernel (cast_signed w32 pid) (cast_signed w32 n) (named_by (low_word third)))) (low second tid other other_word)
    ∙ ap (λ (s : Named). told_zero (kill_thread_of kernel (cast_signed w32 pid) (cast_signed w32 tid) s)) same)
    (tgkill_fits kernel (cast_signed w32 pid) (cast_signed w32 tid) (named number))

-- rt_sigqueueinfo(2)

queue_fits : (kernel : Kernel) (pid : ℤ) (signal : Named) (sent : Given SentInfo) → Fits (told_zero (queue kernel pid signal sent)).came
unfolding queue
queue_fits kernel pid signal sent =
    zero_if (not (is_id pid own_id)) ESRCH kernel _
    (zero_if (is_unlisted signal) EINVAL kernel _
    (zero_given kernel sent _ (λ sent. named_fits kernel signal (queued_info sent))))

pub queue_mirrors : (guest : Guest) (kernel : Kernel) (room left : List ℕ) (first second place pid number address : ℕ) → first ≡ pid → pid < 2 ^ 32 → named_by (low_word second) ≡ named number
    → sent_at room place ≡ read_as sent_in (structure guest.memory address siginfo.size)
    → Mirrors guest (by_reply guest.words) (native_call 138 (first ∷ second ∷ place ∷ 0 ∷ 0 ∷ 0 ∷ []) kernel room left)
    (o32.rt_sigqueueinfo_row kernel guest (cast_signed w32 pid) number address left)
unfolding native.rt_sigqueueinfo_row o32.rt_sigqueueinfo_row
queue_mirrors guest kernel room left first second place pid number address is word same there =
    let sent = read_as sent_in (structure guest.memory address siginfo.size) in
    same_gives guest room left _ (told_zero (queue kernel (cast_signed w32 pid) (named number) sent))
    (ap (λ (n : ℕ). told_zero (queue kernel (cast_signed w32 n) (named_by (low_word second)) (sent_at room place))) (low first pid is word)
    ∙ ap (λ (s : Named). told_zero (queue kernel (cast_signed w32 pid) s (sent_at room place))) same
    ∙ ap (λ (s : Given SentInfo). told_zero (queue kernel (cast_signed w32 pid) (named number) s)) there)
    (queue_fits kernel (cast_signed w32 pid) (named number) sent)
