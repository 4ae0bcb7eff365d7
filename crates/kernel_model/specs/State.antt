-- The state of the kernel, by parts.
use Rattle.std.specs.Prelude.{ℕ, List, Option}
use Rattle.kernel_core.specs.Nodes.{Nodes}
use Rattle.kernel_model.specs.Shared.{Info}
use Rattle.kernel_model.specs.SignalSets.{SignalSet}
use Rattle.kernel_model.specs.declared.descriptor.Descriptor.{Descriptor}
use Rattle.kernel_model.specs.declared.descriptor.Description.{Description}
use Rattle.kernel_model.specs.declared.stream.PipeEnds.{PipeEnds}
use Rattle.kernel_model.specs.declared.stream.Moved.{Moved}
use Rattle.kernel_model.specs.declared.terminal.Terminal.{Terminal}
use Rattle.kernel_model.specs.declared.signal.Action.{Action}
use Rattle.kernel_model.specs.declared.signal.SigStack.{SigStack}
use Rattle.kernel_model.specs.declared.limit.Limit.{Limit}

-- Descriptors and descriptions: 1,024 places of each. A descriptor and a description stand at the place of their number.
pub record Descriptors (A : Type 0) : Type 0 where
  pub fds : List (Option Descriptor)
  pub live : List (Option A)

-- a pipe with the list of its bytes, at most 65,536
abbrev pub Pipe : Type 0
Pipe = PipeEnds (List ℕ)

-- What flows beside files: the pipes, 1,024 places, each at the place of its number; and how many bytes were moved at the streams.
-- The bytes of the streams themselves are in no state: those left of the input are an argument of a row, and what a row sends to an
-- output stands beside its new state.
pub record Flow : Type 0 where
  pub pipes : List (Option Pipe)
  pub moved : Moved

-- What names, descriptors and content are about: the nodes; the descriptors; pipes and streams; the number of the working directory;
-- the mode bits that a new node does not get (umask(2)); and the terminal, where the streams are one.
pub record Files : Type 0 where
  pub nodes : Nodes
  pub table : Descriptors Description
  pub flow : Flow
  pub directory : ℕ
  pub umask : ℕ
  pub terminal : Option Terminal

-- The interval timer: the clock's time at which it is due next, which is none where it is not armed, and its period, or 0.
pub record Timer : Type 0 where
  pub due : Option ℕ
  pub period : ℕ

-- Signals: at the place of each signal its action and what pends of it, in the order in which it was posted (a standard signal pends
-- once at most); the blocked signals; and the alternate stack.
pub record Signals : Type 0 where
  pub actions : List Action
  pub pending : List (List Info)
  pub mask : SignalSet
  pub stack : SigStack

-- the bytes that stand for chance, used round and round, and the place of the next one
pub record Chance : Type 0 where
  pub bytes : List ℕ
  pub at : ℕ

-- The whole state. The clock counts nanoseconds from 0; the epoch is how many nanoseconds since the Unix epoch it began.
pub record Kernel : Type 0 where
  pub files : Files
  pub clock : ℕ
  pub epoch : ℕ
  pub timer : Timer
  pub signals : Signals
  pub limits : List Limit
  pub chance : Chance
