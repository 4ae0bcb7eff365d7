-- What a posted signal is opposed to may be removed after the post as well as before.
use Rattle.std.proofs.Common.{◌≡◌, ◌≢◌, ℕ, ◌<◌, List, [], ◌∷◌, ◌++◌, length, set, Bool, true, false, ℤ, refl, sym, ◌∙◌, ap, arith, lit<}
use Rattle.std.specs.Prelude.{sum_by, nat_le, not, if◌then◌else◌}
use Rattle.std.proofs.lemmas.List.{get_or-set_other, set_comm, drop-set-lt}
use Rattle.kernel_core.specs.NameCalls.{is_empty_list}
use Rattle.kernel_core.specs.declared.signal.Sig.{Sig}
use Rattle.kernel_core.specs.declared.signal.Sig.TheVariants as sigs
use Rattle.kernel_model.specs.Shared.{Info}
use Rattle.kernel_model.specs.SignalRows.{Posted, post, posted, posted_after, enqueued, appended, after_removal, with_pending, pending_at, pends, queued, queue_limit, is_standard, is_dropped}
use Rattle.kernel_model.specs.SignalSets.{place, standard_count}
use Rattle.kernel_model.specs.State.{Signals}
use Rattle.kernel_model.specs.declared.signal.Post.TheVariants as posts

-- what a post leaves, without what pends of another signal
abbrev lifted : Sig → Posted → Posted
lifted other answer = posted (with_pending answer.signals other []) answer.post

module _ (signals : Signals) (info : Info) (kept : Bool) (other : Sig) (apart : place other ≢ place info.sig) (low : place other < standard_count) where
  abbrev before : Signals
  before = with_pending signals other []

  same_queue : pending_at before info.sig ≡ pending_at signals info.sig
  same_queue = get_or-set_other signals.pending (place other) (place info.sig) [] [] (λ e. apart (sym e))

  same_count : queued before ≡ queued signals
  same_count = ap (sum_by length) (drop-set-lt standard_count signals.pending (place other) [] low)

  appended_late : appended before info ≡ with_pending (appended signals info) other []
  appended_late =
      ap (λ (p : List (List Info)). record signals { pending = p })
      (ap (λ (q : List Info). set (set signals.pending (place other) []) (place info.sig) (q ++ info ∷ [])) same_queue
      ∙ set_comm signals.pending (place other) (place info.sig) [] (pending_at signals info.sig ++ info ∷ []) apart)

  abbrev form : Signals → Bool → Bool → Bool → Posted
  form s standard some full =
      if standard
      then (if some then posted s posts.Dropped else posted (appended s info) posts.Queued)
      else (if full then posted s posts.Full else posted (appended s info) posts.Queued)

  by_tests : (standard some full : Bool) → form before standard some full ≡ lifted other (form signals standard some full)
  by_tests true true full = refl
  by_tests true false full = ap (λ (s : Signals). posted s posts.Queued) appended_late
  by_tests false some true = refl
  by_tests false some false = ap (λ (s : Signals). posted s posts.Queued) appended_late

  enqueued_late : enqueued before info ≡ lifted other (enqueued signals info)
  enqueued_late =
      ap (λ (b : Bool). form before (is_standard info.sig) b (nat_le queue_limit (queued before))) (ap (λ (q : List Info). not (is_empty_list q)) same_queue)
      ∙ ap (λ (n : ℕ). form before (is_standard info.sig) (pends signals info.sig) (nat_le queue_limit n)) same_count
      ∙ by_tests (is_standard info.sig) (pends signals info.sig) (nat_le queue_limit (queued signals))

  by_drop : (dropped : Bool) → (if dropped then posted before posts.Dropped else enqueued before info) ≡ lifted other (if dropped then posted signals posts.Dropped else enqueued signals info)
  by_drop true = refl
  by_drop false = enqueued_late

  posted_late : posted_after before info kept ≡ lifted other (posted_after signals info kept)
  posted_late = by_drop (is_dropped signals info.sig kept)

abbrev info_from : Sig → ℤ → ℤ → ℕ → ℕ → ℕ → ℕ → Info
info_from signal code errno pid uid value addr = record { sig = signal; code = code; errno = errno; pid = pid; uid = uid; value = value; addr = addr }

-- what a post leaves, without what its signal is opposed to
abbrev pub without_opposed : Sig → Posted → Posted
without_opposed signal answer = posted (after_removal answer.signals signal) answer.post

apart_from : (a b : ℕ) → a < b → b ≢ a
apart_from a b below e = absurd (omega arith)

apart_below : (a b : ℕ) → a < b → a ≢ b
apart_below a b below e = absurd (omega arith)

late_for : (signals : Signals) (signal : Sig) (code errno : ℤ) (pid uid value addr : ℕ) (kept : Bool)
    → posted_after (after_removal signals signal) (info_from signal code errno pid uid value addr) kept
    ≡ without_opposed signal (posted_after signals (info_from signal code errno pid uid value addr) kept)
late_for signals sigs.Stop code errno pid uid value addr kept =
    posted_late signals (info_from sigs.Stop code errno pid uid value addr) kept sigs.Cont (apart_from 22 24 (lit< tt)) (lit< tt)
late_for signals sigs.Tstp code errno pid uid value addr kept =
    posted_late signals (info_from sigs.Tstp code errno pid uid value addr) kept sigs.Cont (apart_from 23 24 (lit< tt)) (lit< tt)
late_for signals sigs.Ttin code errno pid uid value addr kept =
    posted_late signals (info_from sigs.Ttin code errno pid uid value addr) kept sigs.Cont (apart_below 24 25 (lit< tt)) (lit< tt)
late_for signals sigs.Ttou code errno pid uid value addr kept =
    posted_late signals (info_from sigs.Ttou code errno pid uid value addr) kept sigs.Cont (apart_below 24 26 (lit< tt)) (lit< tt)
late_for signals sigs.Cont code errno pid uid value addr kept =
    let info : Info = info_from sigs.Cont code errno pid uid value addr in
    let one : Signals = with_pending signals sigs.Stop [] in
    let two : Signals = with_pending one sigs.Tstp [] in
    let three : Signals = with_pending two sigs.Ttin [] in
    posted_late three info kept sigs.Ttou (apart_from 24 26 (lit< tt)) (lit< tt)
    ∙ ap (lifted sigs.Ttou) (posted_late two info kept sigs.Ttin (apart_from 24 25 (lit< tt)) (lit< tt)
    ∙ ap (lifted sigs.Ttin) (posted_late one info kept sigs.Tstp (apart_below 23 24 (lit< tt)) (lit< tt)
    ∙ ap (lifted sigs.Tstp) (posted_late signals info kept sigs.Stop (apart_below 22 24 (lit< tt)) (lit< tt))))
late_for signals _ code errno pid uid value addr kept = refl

pub post-late : (signals : Signals) (info : Info) (kept : Bool) → post signals info kept ≡ without_opposed info.sig (posted_after signals info kept)
unfolding post
post-late signals info kept = late_for signals info.sig info.code info.errno info.pid info.uid info.value info.addr kept
