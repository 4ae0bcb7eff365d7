-- Worked rows on the table: ids, and numbers that no call has.
use Rattle.std.specs.Prelude.{◌≡◌, ℕ, ◌+◌, ◌-◌, ◌^◌, List, refl}
use Rattle.kernel_model.specs.State.{Kernel}
use Rattle.kernel_model.specs.Pipes.{nothing}
use Rattle.kernel_core.specs.declared.reply.Reply.{Reply}
use Rattle.native_calls.proofs.rows.Small.{six, number, error}
use Rattle.native_calls.specs.Ids.{getpid_row, getppid_row}
use Rattle.native_calls.specs.Step.{NativeStep}
use Rattle.native_calls.specs.Table.{native_call}

module _ (kernel : Kernel) (memory left : List ℕ) where
  abbrev call : ℕ → NativeStep
  call number = native_call number (six 1 65536 3 0) kernel memory left

  abbrev replies : Reply → NativeStep
  replies reply = record { kernel = kernel; left = left; memory = memory; sent = nothing; reply = reply }

  own_id : call 172 ≡ replies (number 100)
  unfolding getpid_row
  own_id = refl

  parent_id : call 173 ≡ replies (number 1)
  unfolding getppid_row
  parent_id = refl

  call_4 : call 4 ≡ replies (error 38)
  call_4 = refl

  call_0 : call 0 ≡ replies (error 38)
  call_0 = refl

  -- between others
  call_60 : call 60 ≡ replies (error 38)
  call_60 = refl

  -- of a call's number all bits count
  call_past_32_bits : call (2 ^ 32 + 64) ≡ replies (error 38)
  call_past_32_bits = refl

  last_call : call (2 ^ 64 - 1) ≡ replies (error 38)
  last_call = refl
