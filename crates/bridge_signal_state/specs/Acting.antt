-- A native call that neither takes input nor sends anything. (The form is this project's own.)
use Rattle.std.specs.Prelude.{◌≡◌, ℕ, List}
use Rattle.kernel_core.specs.declared.reply.Reply.{Reply}
use Rattle.kernel_model.specs.State.{Kernel}
use Rattle.native_calls.specs.Step.{NativeStep}
use Rattle.bridge_log.specs.Looks.{IsLook, Replied}

-- The call takes and sends nothing, and leaves this kernel; it has this reply, and leaves this host memory.
abbrev pub IsAct : Kernel → Reply → List ℕ → List ℕ → NativeStep → Type 0
IsAct became reply memory left step = IsLook became reply memory left step

-- what was found of such a call, and the kernel after it
abbrev pub Answers : Kernel → Reply → List ℕ → List ℕ → Reply → Kernel → Type 0
Answers to reply memory room found became = Replied reply memory room found × (became ≡ to)
