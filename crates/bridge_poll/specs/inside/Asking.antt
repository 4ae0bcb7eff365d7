-- What the native call is asked, and what it answers. (The form is this project's own.)
use Rattle.std.specs.Prelude.{◌≡◌, ℕ, suc, ◌%◌, ◌^◌, ℤ, pos, negsuc, List, count_by, Option, Result, Ok, Err}
use Rattle.guest_space.specs.Memory.{Memory}
use Rattle.kernel_core.specs.declared.error.Errno.{Errno}
use Rattle.kernel_core.specs.declared.reply.Reply.{Reply}
use Rattle.kernel_core.specs.declared.reply.Reply.TheVariants as replies
use Rattle.kernel_model.specs.Came.{Did, Given, done, refused, waits}
use Rattle.kernel_model.specs.Clock.{left_of_wait}
use Rattle.kernel_model.specs.Readiness.{is_any, masked_wait, poll}
use Rattle.kernel_model.specs.Shared.{PollSet}
use Rattle.kernel_model.specs.State.{Kernel}
use Rattle.o32_model.specs.Polling.{entries_at}
use Rattle.bridge_limits.specs.Limits.{ShowsLeft, given_mask}
use Rattle.bridge_limits.specs.Passed.{error_of}
use Rattle.bridge_poll.specs.declared.asking.Answer.{Answer}
use Rattle.bridge_poll.specs.declared.asking.Came.{Came}
use Rattle.bridge_poll.specs.declared.asking.Came.TheVariants.{Ended, Waits}
use Rattle.bridge_poll.specs.declared.entries.Entries.{Entries}
use Rattle.bridge_poll.specs.declared.limited.Limits.{Limits}
use Rattle.bridge_poll.specs.inside.Telling.{told_all, told_bytes}

-- how long the call may wait, or what is wrong with its mask
abbrev pub wait_of : Limits → Given (Option ℕ)
wait_of limits = masked_wait (Ok limits.wait) limits.size (given_mask limits.own)

-- what the kernel's row comes to
abbrev pub polling : Kernel → Memory → Entries → Limits → Did Kernel (List PollSet)
polling kernel memory entries limits =
    poll kernel (wait_of limits) entries.count (entries_at memory entries.address entries.count)

-- by a native reply

abbrev pub count_of : ℤ → Result ℕ Errno
count_of (pos number) = Ok (number % 2 ^ 32)
count_of (negsuc number) = Err (error_of (suc number))

abbrev pub came_of : Reply → Came
came_of (replies.Done number) = Ended (count_of number)
came_of (replies.Sleep wake) = Waits wake.until

-- What is told of the entries stands in host memory, and the number is that of those of which anything is told.
pub record IsTold (kernel : Kernel) (did : Did Kernel (List PollSet)) (count number : ℕ) (told : List ℕ) : Type 0 where
  pub row : did ≡ done kernel (told_all count told)
  pub counted : number ≡ count_by is_any (told_all count told)

abbrev pub Ends : Kernel → Did Kernel (List PollSet) → ℕ → Result ℕ Errno → List ℕ → Type 0
Ends kernel did count (Ok number) told = IsTold kernel did count number told
Ends kernel did count (Err error) told = did ≡ refused kernel error

-- The row came to what was answered; where it has ended, host memory has the time that is left.
abbrev pub Comes : Kernel → Option ℕ → Did Kernel (List PollSet) → ℕ → Came → ℕ → ℕ → List ℕ → Type 0
Comes kernel wait did count (Ended ended) entries time memory =
    Ends kernel did count ended (told_bytes memory entries count) × ShowsLeft memory time (left_of_wait kernel kernel.clock wait)
Comes kernel wait did count (Waits until) entries time memory = did ≡ waits kernel until

abbrev pub IsAnswer : Kernel → Option ℕ → Did Kernel (List PollSet) → ℕ → Answer → List ℕ → Type 0
IsAnswer kernel wait did count answer memory = Comes kernel wait did count answer.came answer.entries answer.time memory
