-- Refused rows that send a signal: a signal that finds no place changes nothing.
use Rattle.std.proofs.Common.{◌≡◌, Bool, true, false, refl, ◌∙◌, ap}
use Rattle.std.specs.Prelude.{ℤ, nat_le, if◌then◌else◌}
use Rattle.kernel_core.specs.declared.signal.Sig.{Sig}
use Rattle.kernel_core.specs.declared.signal.Sig.TheVariants as sigs
use Rattle.kernel_model.proofs.refusals.Checks.{stays}
use Rattle.kernel_model.specs.Came.{Given}
use Rattle.kernel_model.specs.Laws.{StaysUnlessDone}
use Rattle.kernel_model.specs.Shared.{Info}
use Rattle.kernel_model.specs.SignalRows.{Named, Nothing, Signal, Unlisted, Posted, SentInfo, after_removal, appended, is_dropped, is_standard, kill, kill_thread, kill_thread_of, pends, post, posted, queue, queue_limit, queued, send, send_named, sent_as, with_signals}
use Rattle.kernel_model.specs.State.{Kernel, Signals}
use Rattle.kernel_model.specs.declared.signal.Post.{Post}
use Rattle.kernel_model.specs.declared.signal.Post.TheVariants as posts

module _ (signals : Signals) (info : Info) where
  abbrev chosen : Bool → Bool → Bool → Bool → Posted
  chosen dropped standard pending full =
      if dropped then posted signals posts.Dropped
      else (if standard then (if pending then posted signals posts.Dropped else posted (appended signals info) posts.Queued)
      else (if full then posted signals posts.Full else posted (appended signals info) posts.Queued))

  -- a signal that finds no place is a real-time one, and nothing changed
  full_same : (d a b c : Bool) → (chosen d a b c).post ≡ posts.Full → (a ≡ false) × ((chosen d a b c).signals ≡ signals)
  full_same true a b c h = absurd cc
  full_same false true true c h = absurd cc
  full_same false true false c h = absurd cc
  full_same false false b true h = (refl, refl)
  full_same false false b false h = absurd cc

-- a real-time signal removes none that pends
removes_none : (signals : Signals) (signal : Sig) → is_standard signal ≡ false → after_removal signals signal ≡ signals
removes_none signals (sigs.RealTime signal) e = refl
removes_none signals _ e = absurd (let wrong : true ≡ false = e in cc)

post_full : (signals : Signals) (info : Info) (kept : Bool) → (post signals info kept).post ≡ posts.Full → (post signals info kept).signals ≡ signals
unfolding post
post_full signals info kept h =
    let rest = after_removal signals info.sig in
    let same = full_same rest info (is_dropped rest info.sig kept) (is_standard info.sig) (pends rest info.sig) (nat_le queue_limit (queued rest)) h in
    same.1 ∙ removes_none signals info.sig same.0

sent_stays : (kernel : Kernel) (signals : Signals) (answer : Post) → (answer ≡ posts.Full → signals ≡ kernel.signals)
    → StaysUnlessDone kernel (sent_as (with_signals kernel signals) answer)
sent_stays kernel signals posts.Queued h = record { stays = tt }
sent_stays kernel signals posts.Dropped h = record { stays = tt }
sent_stays kernel signals posts.Full h = record { stays = ap (λ s. with_signals kernel s) (h refl) }

send_stays : (kernel : Kernel) (info : Info) → StaysUnlessDone kernel (send kernel info)
send_stays kernel info = sent_stays kernel (post kernel.signals info false).signals (post kernel.signals info false).post (post_full kernel.signals info false)

named_stays : (kernel : Kernel) (signal : Named) (info : Sig → Info) → StaysUnlessDone kernel (send_named kernel signal info)
named_stays kernel Nothing info = record { stays = tt }
named_stays kernel (Signal signal) info = send_stays kernel (info signal)
named_stays kernel Unlisted info = record { stays = refl }

pub kill_stays : (kernel : Kernel) (pid : ℤ) (signal : Named) → StaysUnlessDone kernel (kill kernel pid signal)
unfolding kill
kill_stays kernel pid signal = search (stays, named_stays) depth 14

pub kill_thread_stays : (kernel : Kernel) (tid : ℤ) (signal : Named) → StaysUnlessDone kernel (kill_thread kernel tid signal)
unfolding kill_thread
kill_thread_stays kernel tid signal = search (stays, named_stays) depth 14

pub kill_thread_of_stays : (kernel : Kernel) (pid : ℤ) (tid : ℤ) (signal : Named) → StaysUnlessDone kernel (kill_thread_of kernel pid tid signal)
unfolding kill_thread_of
kill_thread_of_stays kernel pid tid signal = search (stays, named_stays) depth 14

pub queue_stays : (kernel : Kernel) (pid : ℤ) (signal : Named) (sent : Given SentInfo) → StaysUnlessDone kernel (queue kernel pid signal sent)
unfolding queue
queue_stays kernel pid signal sent = search (stays, named_stays) depth 14
