-- A signal's handler begins (sigaction(2): SA_SIGINFO, SA_ONSTACK, SA_NODEFER, SA_RESETHAND, SA_RESTART; sigaltstack(2); signal(7)). The frames
-- and their places are this project's own profile, and so is that a frame which can't be written whole is not written, and changes nothing.
use Rattle.std.specs.Prelude.{ℕ, ◌+◌, ◌-◌, ◌%◌, ◌^◌, ◌==◌, Bool, true, false, ◌&&◌, not, List, length, nat_abs, pos, Option, Some, None, if◌then◌else◌}
use Rattle.guest_space.specs.Bytes.{copied_out}
use Rattle.kernel_core.specs.declared.event.Delivery.TheVariants as deliveries
use Rattle.kernel_core.specs.declared.event.Event.TheVariants as events
use Rattle.kernel_core.specs.declared.finish.Finish.TheVariants.{Killed}
use Rattle.kernel_core.specs.declared.signal.Sig.{Sig}
use Rattle.kernel_core.specs.declared.signal.Sig.TheVariants as sigs
use Rattle.kernel_model.specs.Shared.{Info}
use Rattle.kernel_model.specs.SignalRows.{after_action, is_on, is_unblockable, no_action, shown_stack, si_kernel, ss_disable, with_mask, with_signals}
use Rattle.kernel_model.specs.SignalSets.{SignalSet, no_signals, only, union}
use Rattle.kernel_model.specs.State.{Kernel, Signals}
use Rattle.kernel_model.specs.declared.signal.Action.{Action}
use Rattle.kernel_model.specs.declared.signal.SigStack.{SigStack}
use Rattle.layouts.specs.Frames.{AlternateStack, frame_bytes, rt_frame_bytes}
use Rattle.layouts.specs.O32.{frame, rt_frame_of, siginfo}
use Rattle.mips_exec.specs.Processor.{Processor, register}
use Rattle.number_tables.specs.Signals.{o32_signal}
use Rattle.o32_turns.specs.Closing.{wait_over}
use Rattle.o32_model.specs.GuestBytes.{is_storable}
use Rattle.o32_turns.specs.Machine.{Ends, Within, happens, with_change, with_machine}
use Rattle.o32_model.specs.Words.{sp}
use Rattle.o32_model.specs.declared.wait.Cause.TheVariants.{Handler}
use Rattle.o32_model.specs.declared.wait.Wait.{Wait}
use Rattle.signal_frames.specs.Entering.{context_of_processor, entered, frame_address, information, plain_entry, rt_entry}
use Rattle.signal_frames.specs.declared.writing.Entry.{Entry}

-- Ends and faults

abbrev pub killed : Sig → Within → Within
killed signal within = record (happens within (events.Killed signal)) { over = Some (Killed (o32_signal signal)) }

-- the process meets a fault, which is delivered by a later round or turn
abbrev pub faults : Info → Within → Within
faults info within =
    happens (with_machine within (record within.machine { fault = Some info })) (events.Fault info.sig (nat_abs info.code) info.addr)

-- that of a frame which can't be written, or can't be read by sigreturn(2)
abbrev pub frame_fault : Info
frame_fault = record { sig = sigs.Segv; code = si_kernel; errno = pos 0; pid = 0; uid = 0; value = 0; addr = 0 }

-- Frames

-- below the end of the alternate stack where the action is to use one that is enabled and not in use, and else below the stack pointer
abbrev pub frame_top : Signals → Processor → Action → ℕ
frame_top signals processor action =
    let pointer = register processor sp in
    if action.flags.onstack && not (signals.stack.flags == ss_disable) && not (is_on signals.stack (Some pointer))
    then (signals.stack.sp + signals.stack.size) % 2 ^ 32
    else (pointer + (2 ^ 32 - 32)) % 2 ^ 32

-- the alternate stack as the frame keeps it
abbrev pub stack_kept : SigStack → AlternateStack
stack_kept stack = record { sp = stack.sp; size = stack.size; flags = stack.flags }

-- where a handler begins, as addresses have 32 bits
abbrev pub handler_address : Action → ℕ
handler_address action = action.handler % 2 ^ 32

-- what a handler is entered with, and the bytes of its frame
pub record Framed : Type 0 where
  pub entry : Entry
  pub bytes : List ℕ

-- `mask` is the mask that the return puts back
abbrev pub frame_for : Kernel → Processor → Info → Action → SignalSet → Framed
frame_for kernel processor info action mask =
    let top = frame_top kernel.signals processor action in
    let stack = shown_stack kernel.signals.stack (Some (register processor sp)) in
    if action.flags.siginfo
    then record {
      entry = rt_entry (o32_signal info.sig) (handler_address action) (frame_address top (rt_frame_of siginfo).size);
      bytes = rt_frame_bytes (information info) (stack_kept stack) (context_of_processor processor) mask;
    }
    else record {
      entry = plain_entry (o32_signal info.sig) (handler_address action) (frame_address top frame.size);
      bytes = frame_bytes (context_of_processor processor) mask;
    }

-- The mask and the action once the handler begins

abbrev pub own_mask : Sig → Action → SignalSet
own_mask signal action = if action.flags.nodefer then no_signals else only signal

-- as sigaction(2) sets it, by which KILL and STOP get no action
abbrev pub without_action : Sig → Kernel → Kernel
without_action signal kernel =
    if is_unblockable signal then kernel else with_signals kernel (after_action kernel.signals signal no_action)

abbrev pub handling : Kernel → Sig → Action → Kernel
handling kernel signal action =
    let masked = with_mask kernel (union kernel.signals.mask (union action.mask (own_mask signal action))) in
    if action.flags.resethand then without_action signal masked else masked

-- Beginning

abbrev pub saved_or : Option SignalSet → SignalSet → SignalSet
saved_or None mask = mask
saved_or (Some saved) mask = saved

abbrev pub entering : Within → Info → Action → Framed → Within
entering within info action framed =
    let machine = within.machine in
    record within {
      machine = record machine {
        processor = entered machine.processor framed.entry;
        memory = copied_out machine.memory framed.entry.frame framed.bytes;
        kernel = handling machine.kernel info.sig action;
        restart = None;
      };
      saved = None;
    }

abbrev pub is_segv : Sig → Bool
is_segv sigs.Segv = true
is_segv _ = false

-- a SIGSEGV whose own frame can't be written kills
abbrev pub not_entered : Info → Within → Within
not_entered info within = if is_segv info.sig then killed info.sig within else faults frame_fault within

abbrev pub entered_by : Within → Info → Action → Framed → Within
entered_by within info action framed =
    if is_storable within.machine.memory framed.entry.frame (length framed.bytes) then entering within info action framed
    else not_entered info within

abbrev pub begun : Within → Info → Action → Within
begun within info action =
    let machine = within.machine in
    entered_by within info action
    (frame_for machine.kernel machine.processor info action (saved_or within.saved machine.kernel.signals.mask))

-- A handler ends the wait. The mask from before the call is what its frame keeps, and the return puts it back.

abbrev pub sooner_saved : Option SignalSet → Option SignalSet → Option SignalSet
sooner_saved None before = before
sooner_saved (Some mask) before = Some mask

abbrev pub wait_left_by : Ends → Action → Option Wait → Within → Within
wait_left_by ended action None within = within
wait_left_by ended action (Some wait) within =
    let machine = within.machine in
    with_change (record within { saved = sooner_saved wait.mask within.saved })
    (wait_over wait (ended action.flags.restart wait Handler machine.kernel machine.memory) machine)

abbrev pub handled : Ends → Within → Info → Action → Within
handled ended within info action =
    begun (happens (wait_left_by ended action within.machine.wait within) (events.Signal info.sig deliveries.Handler)) info action
