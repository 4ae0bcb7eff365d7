-- When a call of a kernel may stop early: by a device, only where that counted a fault in that call, and for want of memory only where none did. This project's own.
use Rattle.std.specs.Prelude.{ℕ, ◌⊎◌, Result, Ok, Err}
use Rattle.kernel_core.specs.declared.core_error.Stop.{Stop}
use Rattle.kernel_core.specs.declared.core_error.Stop.TheVariants.{NoMemory, ReadFault, WriteFault}
use Rattle.outside.specs.Count.{Rose}
use Rattle.outside.specs.Streams.{NoCountRose}
use Rattle.outside.specs.declared.devices.Devices.{Devices}

-- A device stops a call only where its count of faults rose in that call, whether the input tells what is left or not; and no count rose in a
-- call that was carried out, or stopped for want of memory. `input`, `out` and `err` give the counts. (That no count falls is a clause of
-- its own: `NoCountFell` of the counts of three devices.)
abbrev pub StopsOnlyIfRose : {I O E T : Type 0} → (I → ℕ) → (O → ℕ) → (E → ℕ) → Result T Stop → Devices I O E → Devices I O E → Type 0
StopsOnlyIfRose input out err (Ok reply) before after = NoCountRose input out err before after
StopsOnlyIfRose input out err (Err NoMemory) before after = NoCountRose input out err before after
StopsOnlyIfRose input out err (Err ReadFault) before after = Rose (input before.input) (input after.input)
StopsOnlyIfRose input out err (Err WriteFault) before after =
    Rose (out before.out) (out after.out) ⊎ Rose (err before.err) (err after.err)
