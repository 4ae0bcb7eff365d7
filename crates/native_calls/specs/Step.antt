-- What a call does, and how what a row of the kernel came to becomes its reply (syscall(2), errno(3)).
use Rattle.std.specs.Prelude.{ℕ, ◌==◌, pos, neg_ℤ, List, length, if◌then◌else◌}
use Rattle.host_mem.specs.Memory.{is_inside, written}
use Rattle.kernel_core.specs.declared.error.Errno.TheVariants.{EFAULT}
use Rattle.kernel_core.specs.declared.reply.Reply.{Reply}
use Rattle.kernel_core.specs.declared.reply.Reply.TheVariants as replies
use Rattle.kernel_model.specs.Came.{Came, Done, Refused, Waits, Did}
use Rattle.kernel_model.specs.Pipes.{Sent, nothing}
use Rattle.kernel_model.specs.Shared.{Errno}
use Rattle.kernel_model.specs.State.{Kernel}
use Rattle.number_tables.specs.Errors.{native_errno}

-- The kernel, what is left of the input and host memory after a call; what it sends to the outputs; and its reply.
pub record NativeStep : Type 0 where
  pub kernel : Kernel
  pub left : List ℕ
  pub memory : List ℕ
  pub sent : Sent
  pub reply : Reply

-- Replies: a number, or an error by its number with the sign turned

abbrev pub value : ℕ → Reply
value number = replies.Done (pos number)

abbrev pub failure : Errno → Reply
failure error = replies.Done (neg_ℤ (pos (native_errno error)))

-- what a row came to, as a reply, and host memory after it, by what its value is
abbrev pub reply_to : {V : Type 0} → (V → Reply) → Came V → Reply
reply_to reply_of (Done found) = reply_of found
reply_to reply_of (Refused error) = failure error
reply_to reply_of (Waits wake) = replies.Sleep wake

abbrev pub memory_after : {V : Type 0} → (V → List ℕ) → List ℕ → Came V → List ℕ
memory_after with_value memory (Done found) = with_value found
memory_after with_value memory (Refused error) = memory
memory_after with_value memory (Waits wake) = memory

-- What a call leaves, by what its row came to. What is left of the input comes last.

-- the row's number is the reply
abbrev pub gives : List ℕ → Did Kernel ℕ → List ℕ → NativeStep
gives memory did left = record {
  kernel = did.state;
  left = left;
  memory = memory;
  sent = nothing;
  reply = reply_to value did.came;
}

-- The row's bytes are stored whole, and the reply is 0; where there is no room for all, nothing is stored, and that is EFAULT.

abbrev pub stored : List ℕ → ℕ → List ℕ → Reply
stored memory address bytes = if is_inside memory address (length bytes) then value 0 else failure EFAULT

abbrev pub stores : List ℕ → ℕ → Did Kernel (List ℕ) → List ℕ → NativeStep
stores memory address did left = record {
  kernel = did.state;
  left = left;
  memory = memory_after (written memory address) memory did.came;
  sent = nothing;
  reply = reply_to (stored memory address) did.came;
}

-- The row's bytes go to where there is room for them, and the reply is their number. `with_bytes` is memory with them.
abbrev pub fills : (List ℕ → List ℕ) → List ℕ → Did Kernel (List ℕ) → List ℕ → NativeStep
fills with_bytes memory did left = record {
  kernel = did.state;
  left = left;
  memory = memory_after with_bytes memory did.came;
  sent = nothing;
  reply = reply_to (λ bytes. value (length bytes)) did.came;
}

-- The row's bytes are stored whole, and the reply is their number; where there is no room for all, nothing is stored, and that is EFAULT.

abbrev pub counted : List ℕ → ℕ → List ℕ → Reply
counted memory address bytes = if is_inside memory address (length bytes) then value (length bytes) else failure EFAULT

abbrev pub counts : List ℕ → ℕ → Did Kernel (List ℕ) → List ℕ → NativeStep
counts memory address did left = record (stores memory address did left) { reply = reply_to (counted memory address) did.came }

-- As `stores`, but where the address is null nothing is stored, and the reply is 0. What the row did stands, also where the bytes could not
-- be stored.

abbrev pub told_unless_null : List ℕ → ℕ → List ℕ → ℕ → Reply
told_unless_null memory address bytes number =
    if address == 0 then value number else if is_inside memory address (length bytes) then value number else failure EFAULT

abbrev pub stored_unless_null : List ℕ → ℕ → List ℕ → Reply
stored_unless_null memory address bytes = told_unless_null memory address bytes 0

abbrev pub stores_unless_null : List ℕ → ℕ → Did Kernel (List ℕ) → List ℕ → NativeStep
stores_unless_null memory address did left =
    record (stores memory address did left) { reply = reply_to (stored_unless_null memory address) did.came }

-- A call of the table: its number, and what it does by its six arguments, the kernel, host memory and what is left of the input
pub record NativeCall : Type 0 where
  pub number : ℕ
  pub step : List ℕ → Kernel → List ℕ → List ℕ → NativeStep
