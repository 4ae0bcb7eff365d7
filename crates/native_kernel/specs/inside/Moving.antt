-- A call that may move bytes of a stream. (The forms are this project's own.)
use Rattle.std.specs.Prelude.{◌≡◌, ℕ, ◌+◌, ◌-◌, ◌==◌, ◌⊎◌, List, [], ◌++◌, length, take, drop, Option, Some, None, Result, Ok, Err, if◌then◌else◌}
use Rattle.host_mem.specs.Memory.{first_address}
use Rattle.kernel_core.specs.declared.core_error.CoreError.{CoreError}
use Rattle.kernel_core.specs.declared.core_error.CoreError.TheVariants as errors
use Rattle.kernel_core.specs.declared.core_error.Stop.{Stop}
use Rattle.kernel_core.specs.declared.core_error.Stop.TheVariants as stops
use Rattle.kernel_core.specs.declared.reply.Reply.{Reply}
use Rattle.kernel_core.specs.declared.reply.Reply.TheVariants as replies
use Rattle.kernel_model.specs.Came.{Came, Did}
use Rattle.kernel_model.specs.Pipes.{nothing}
use Rattle.kernel_model.specs.State.{Kernel, Files}
use Rattle.kernel_model.specs.Transfers.{Reading}
use Rattle.kernel_model.specs.Whole.{with_sigpipe}
use Rattle.native_calls.specs.Step.{NativeStep, value, failure}
use Rattle.native_files.specs.Answers.{ReadsSo, filled}
use Rattle.native_files.specs.declared.progress.Progress.{Progress}
use Rattle.native_files.specs.declared.progress.Progress.TheVariants as progress
use Rattle.outside.specs.Count.{Rose}
use Rattle.outside.specs.Output.{GainsText, GainsBetween}

-- what a transfer came to, as the end of a call
abbrev pub settled : Result Progress CoreError → Result Reply Stop
settled (Ok (progress.Done count)) = Ok (value count)
settled (Ok (progress.Waits wake)) = Ok (replies.Sleep wake)
settled (Err (errors.Refused error)) = Ok (failure error)
settled (Err (errors.Stop stop)) = Err stop

-- Reading

-- the call was carried out: `left` is what is left of the input then
pub record HasTaken (step : NativeStep) (reply : Reply) (kernel : Kernel) (memory : List ℕ) (left : Option (List ℕ)) : Type 0 where
  pub answered : reply ≡ step.reply
  pub became : kernel ≡ step.kernel
  pub stored : memory ≡ step.memory
  pub rest : left ≡ Some step.left
  pub sent : step.sent ≡ nothing

abbrev pub Takes : NativeStep → Result Reply Stop → Kernel → List ℕ → Option (List ℕ) → Option (List ℕ) → Type 0
Takes step (Ok reply) kernel memory before after = HasTaken step reply kernel memory after
Takes step (Err stop) kernel memory before after = after ≡ before

-- a call that may take of the input and sends nothing
abbrev pub IsReading : (List ℕ → NativeStep) → Result Reply Stop → Kernel → List ℕ → Option (List ℕ) → Option (List ℕ) → Type 0
IsReading step result kernel memory before after =
    (left : List ℕ) → before ≡ Some left → Takes (step left) result kernel memory before after

-- when it stops early: `before` and `after` are the input's counts of faults, which are the same where it is carried out or memory ran out
abbrev pub ReadingStops : Result Reply Stop → ℕ → ℕ → Type 0
ReadingStops (Ok reply) before after = after ≡ before
ReadingStops (Err stops.NoMemory) before after = after ≡ before
ReadingStops (Err stops.ReadFault) before after = Rose before after
ReadingStops (Err stops.WriteFault) before after = ⊥

-- where a buffer begins in memory, of which so many bytes are there
abbrev pub part_place : ℕ → ℕ → ℕ
part_place address room = if room == 0 then 0 else address - first_address

-- a read into the part of memory from a place on that has `room` bytes
pub record ReadsInto (step : Did Reading (List ℕ)) (came : Option (Came ℕ)) (state : Files) (before after : Option (List ℕ)) (old : List ℕ) (place room : ℕ) (new : List ℕ) : Type 0 where
  pub part : List ℕ
  pub sized : length part ≡ room
  pub whole : new ≡ take place old ++ (part ++ drop (place + room) old)
  pub did : ReadsSo step came state before after (take room (drop place old)) part

-- what a read at a place leaves of the part of memory from a place on that has `room` bytes
pub record FillsPart (came : Came (List ℕ)) (old : List ℕ) (place room : ℕ) (new : List ℕ) : Type 0 where
  pub part : List ℕ
  pub sized : length part ≡ room
  pub whole : new ≡ take place old ++ (part ++ drop (place + room) old)
  pub did : part ≡ filled (take room (drop place old)) came

-- Writing

-- the call was carried out
pub record HasSent (step : NativeStep) (reply : Reply) (kernel : Kernel) (memory left : List ℕ) (out_before out_after err_before err_after : Option (List ℕ)) : Type 0 where
  pub answered : reply ≡ step.reply
  pub became : kernel ≡ step.kernel
  pub stored : memory ≡ step.memory
  pub rest : step.left ≡ left
  pub to_out : GainsText out_before out_after step.sent.out
  pub to_err : GainsText err_before err_after step.sent.err

-- it stopped early, and sent a first part
pub record HasSentPart (step : NativeStep) (out_before out_after err_before err_after : Option (List ℕ)) : Type 0 where
  pub to_out : GainsBetween out_before out_after [] step.sent.out
  pub to_err : GainsBetween err_before err_after [] step.sent.err

abbrev pub Sends : NativeStep → Result Reply Stop → Kernel → List ℕ → List ℕ → Option (List ℕ) → Option (List ℕ) → Option (List ℕ) → Option (List ℕ) → Type 0
Sends step (Ok reply) kernel memory left out_before out_after err_before err_after =
    HasSent step reply kernel memory left out_before out_after err_before err_after
Sends step (Err stop) kernel memory left out_before out_after err_before err_after =
    HasSentPart step out_before out_after err_before err_after

-- a call that may send and takes nothing of the input
abbrev pub IsWriting : (List ℕ → NativeStep) → Result Reply Stop → Kernel → List ℕ → Option (List ℕ) → Option (List ℕ) → Option (List ℕ) → Option (List ℕ) → Type 0
IsWriting step result kernel memory out_before out_after err_before err_after =
    (left : List ℕ) → Sends (step left) result kernel memory left out_before out_after err_before err_after

-- when it stops early: by the outputs' counts of faults, which are the same where it is carried out or memory ran out
abbrev pub WritingStops : Result Reply Stop → ℕ → ℕ → ℕ → ℕ → Type 0
WritingStops (Ok reply) out_before out_after err_before err_after = (out_after ≡ out_before) × (err_after ≡ err_before)
WritingStops (Err stops.NoMemory) out_before out_after err_before err_after = (out_after ≡ out_before) × (err_after ≡ err_before)
WritingStops (Err stops.ReadFault) out_before out_after err_before err_after = ⊥
WritingStops (Err stops.WriteFault) out_before out_after err_before err_after = Rose out_before out_after ⊎ Rose err_before err_after

-- the kernel once a write came to this: with EPIPE a SIGPIPE is posted
abbrev pub after_came : Kernel → Option (Came ℕ) → Kernel
after_came kernel None = kernel
after_came kernel (Some came) = with_sigpipe kernel came
