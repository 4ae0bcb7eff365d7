-- What an o32 call comes to where it is one native call whose reply is a number, by that reply (syscall(2), errno(3)).
use Rattle.std.specs.Prelude.{ℕ, suc, ◌%◌, ◌^◌, ℤ, pos, negsuc, None, unwrap_or, List}
use Rattle.kernel_core.specs.declared.error.Errno.{Errno}
use Rattle.kernel_core.specs.declared.error.Errno.TheVariants.{ENOSYS}
use Rattle.kernel_core.specs.declared.reply.Reply.{Reply}
use Rattle.kernel_core.specs.declared.reply.Reply.TheVariants as replies
use Rattle.kernel_core.specs.declared.reply.Wake.{Wake}
use Rattle.number_tables.specs.Errors.{errno_of_native}
use Rattle.o32_model.specs.Words.{six_words}
use Rattle.o32_model.specs.declared.call_words.CallWords.{CallWords}
use Rattle.o32_model.specs.declared.outcome.Outcome.{Outcome}
use Rattle.o32_model.specs.declared.outcome.Outcome.TheVariants as outcomes
use Rattle.o32_model.specs.declared.wait.Wait.{Wait}

-- the error of a native number; no call replies with a number that is none, which would be ENOSYS
abbrev pub error_of : ℕ → Errno
error_of number = unwrap_or (errno_of_native number) ENOSYS

-- of a result that is greater than a register holds, which no call replies, the low 32 bits
abbrev pub outcome_of_number : ℤ → Outcome
outcome_of_number (pos number) = outcomes.Value (number % 2 ^ 32)
outcome_of_number (negsuc number) = outcomes.Error (error_of (suc number))

abbrev pub wait_for : CallWords → Wake → Wait
wait_for words wake = record { nr = words.nr; words = six_words words; deadline = wake.until; done = wake.done % 2 ^ 32; mask = None }

abbrev pub outcome_of : CallWords → Reply → Outcome
outcome_of words (replies.Done number) = outcome_of_number number
outcome_of words (replies.Sleep wake) = outcomes.Sleep (wait_for words wake)

-- whatever host memory is afterwards
abbrev pub by_reply : CallWords → List ℕ → Reply → Outcome
by_reply words memory reply = outcome_of words reply
