-- What the modelled kernel was asked and told, one entry after another, and from which moment to which that leads. (The log is this project's
-- own.)
use Rattle.std.specs.Prelude.{◌≡◌, ℕ, ◌≤◌, ℤ, Bool, List, [], ◌∷◌, ◌++◌, Option}
use Rattle.kernel_core.specs.declared.log_entry.LogEntry.{LogEntry}
use Rattle.kernel_core.specs.declared.log_entry.LogEntry.TheVariants as entries
use Rattle.kernel_core.specs.declared.reply.Reply.{Reply}
use Rattle.kernel_core.specs.declared.signal.Sig.{Sig}
use Rattle.kernel_model.specs.Pipes.{Sent, nothing}
use Rattle.kernel_model.specs.SignalRows.{advance, post, scheduled_info, with_signals}
use Rattle.kernel_model.specs.State.{Kernel}
use Rattle.native_calls.specs.Step.{NativeStep}
use Rattle.native_calls.specs.Table.{native_call}

-- A moment between two entries: the kernel, what is left of the input, and all that was sent so far
pub record Moment : Type 0 where
  pub kernel : Kernel
  pub left : List ℕ
  pub sent : Sent

abbrev pub moment : Kernel → List ℕ → Sent → Moment
moment kernel left sent = record { kernel = kernel; left = left; sent = sent }

-- where a history begins: nothing was sent yet
abbrev pub opening : Kernel → List ℕ → Moment
opening kernel left = moment kernel left nothing

abbrev pub more_sent : Sent → Sent → Sent
more_sent before more = record { out = before.out ++ more.out; err = before.err ++ more.err }

-- Entries that post a signal have a `kept`: whether a wait names it. No moment says who waits, so here either answer is legal. By it differs
-- only whether a signal pends that is ignored and not blocked; which answer is right is with whoever runs the process and knows its waits.

-- The clock was set, which never goes back; a timer that is due by then goes off. `kept` is about the timer's signal.
pub record FollowsClock (from : Moment) (time : ℕ) (to : Moment) : Type 0 where
  pub kept : Bool
  pub later : from.kernel.clock ≤ time
  pub became : to.kernel ≡ advance from.kernel time kept
  pub rest : to.left ≡ from.left
  pub silent : to.sent ≡ from.sent

-- A signal came from outside. `kept` is about that signal.
pub record FollowsPost (from : Moment) (signal : Sig) (code : ℤ) (value : ℕ) (to : Moment) : Type 0 where
  pub kept : Bool
  pub given : Option ℕ
  pub coded : code ≡ (scheduled_info signal given).code
  pub valued : value ≡ (scheduled_info signal given).value
  pub became : to.kernel ≡ with_signals from.kernel (post from.kernel.signals (scheduled_info signal given) kept).signals
  pub rest : to.left ≡ from.left
  pub silent : to.sent ≡ from.sent

-- A call was made, which did this: `before` is what was sent until then, and `after` is host memory afterwards.
pub record FollowsCall (step : NativeStep) (before : Sent) (after : List ℕ) (reply : Reply) (to : Moment) : Type 0 where
  pub replied : reply ≡ step.reply
  pub stored : after ≡ step.memory
  pub became : to.kernel ≡ step.kernel
  pub rest : to.left ≡ step.left
  pub told : to.sent ≡ more_sent before step.sent

-- an entry leads from one moment to another
abbrev pub Follows : Moment → LogEntry → Moment → Type 0
Follows from (entries.Clock time) to = FollowsClock from time to
Follows from (entries.Post signal code value) to = FollowsPost from signal code value to
Follows from (entries.Call number args before after reply) to =
    FollowsCall (native_call number args from.kernel before from.left) from.sent after reply to

-- entries in order lead from one moment to another
abbrev pub Leads : Moment → List LogEntry → Moment → Type 0
Leads from [] to = from ≡ to
Leads from (entry ∷ more) to = (next : Moment) × Follows from entry next × Leads next more to
