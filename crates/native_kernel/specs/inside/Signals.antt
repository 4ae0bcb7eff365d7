-- Calls on signals and timers, as code makes them. (The form is this project's own.)
use Rattle.std.specs.Prelude.{◌≡◌, ℕ, Bool, List, drop, filter_map, slice_get, Option, Some, None, Result, Ok, Err, if◌then◌else◌}
use Rattle.host_mem.specs.Memory.{written}
use Rattle.kernel_core.specs.declared.error.Errno.{Errno}
use Rattle.kernel_core.specs.declared.error.Errno.TheVariants.{EINVAL}
use Rattle.kernel_core.specs.declared.reply.Reply.{Reply}
use Rattle.kernel_core.specs.declared.signal.Sig.{Sig}
use Rattle.kernel_model.specs.Came.{Came, Done, Refused, Waits, Did, Given}
use Rattle.kernel_model.specs.Clock as clock
use Rattle.kernel_model.specs.Shared.{Info}
use Rattle.kernel_model.specs.SignalRows as rows
use Rattle.kernel_model.specs.SignalRows.{pending_at, with_pending}
use Rattle.kernel_model.specs.State.{Kernel, Signals}
use Rattle.layouts.specs.Termios.{count_up}
use Rattle.native_calls.specs.SignalBytes.{info_bytes}
use Rattle.native_calls.specs.Step.{reply_to, memory_after, stored_unless_null, told_unless_null}
use Rattle.native_files.specs.Answers.{came_of}
use Rattle.native_kernel.specs.declared.interval.TimerSetting.{TimerSetting}
use Rattle.native_kernel.specs.declared.signal_bytes.SentInfo.{SentInfo}
use Rattle.native_kernel.specs.declared.signal_waits.Accepted.{Accepted}
use Rattle.native_kernel.specs.declared.signal_waits.Accepted.TheVariants as accepted
use Rattle.number_tables.specs.Signals.{native_signal, signal_of_native}

-- what a part of a call answers and leaves, as its row says
pub record Comes {V : Type 0} (did : Did Kernel V) (result : Result V Errno) (kernel : Kernel) : Type 0 where
  pub came : came_of result ≡ did.came
  pub state : kernel ≡ did.state

-- what a call that stores a structure where its address is not null came to, and host memory before and after
pub record StoresUnlessNull (did : Did Kernel (List ℕ)) (address : ℕ) (reply : Reply) (kernel : Kernel) (old new : List ℕ) : Type 0 where
  pub answered : reply ≡ reply_to (stored_unless_null old address) did.came
  pub became : kernel ≡ did.state
  pub put : new ≡ memory_after (written old address) old did.came

-- Signals by their numbers

abbrev pub listed : rows.Named → Given (Option Sig)
listed rows.Nothing = Ok None
listed (rows.Signal signal) = Ok (Some signal)
listed rows.Unlisted = Err EINVAL

abbrev pub named : Option Sig → rows.Named
named None = rows.Nothing
named (Some signal) = rows.Signal signal

-- a signal that passes a test
abbrev pub kept : (Sig → Bool) → Option Sig → Option Sig
kept test None = None
kept test (Some signal) = if test signal then Some signal else None

-- the signals of so many native numbers from one on
unfoldable pub order_from : ℕ → ℕ → List Sig
order_from first count = filter_map signal_of_native (count_up first count)

-- what is read of a structure

abbrev pub sent_told : SentInfo → rows.SentInfo
sent_told sent = record { code = sent.code; errno = sent.errno; pid = sent.pid; uid = sent.uid; value = sent.value }

abbrev pub setting_told : TimerSetting → clock.TimerSetting
setting_told setting = record { value = setting.value; period = setting.period }

-- One signal that pends is taken, or none where there is none: what is known of it, and the signals after it.
pub record Took (old new : Signals) (signal : Sig) (info : Info) : Type 0 where
  pub first : Some info ≡ slice_get (pending_at old signal) 0
  pub rest : new ≡ with_pending old signal (drop 1 (pending_at old signal))

abbrev pub Takes : Signals → Option Sig → Option Info → Signals → Type 0
Takes old None taken new = (taken ≡ None) × (new ≡ old)
Takes old (Some signal) None new = ⊥
Takes old (Some signal) (Some info) new = Took old new signal info

-- what an accepting call came to

abbrev pub accepted_of : Result Accepted Errno → Came Info
accepted_of (Ok (accepted.Signal info)) = Done info
accepted_of (Ok (accepted.Waits wake)) = Waits wake
accepted_of (Err error) = Refused error

-- what a call that tells of a signal came to, and host memory before and after
pub record Accepts (did : Did Kernel Info) (address : ℕ) (reply : Reply) (kernel : Kernel) (old new : List ℕ) : Type 0 where
  pub answered : reply ≡ reply_to (λ info. told_unless_null old address (info_bytes info) (native_signal info.sig)) did.came
  pub became : kernel ≡ did.state
  pub put : new ≡ memory_after (λ info. written old address (info_bytes info)) old did.came
