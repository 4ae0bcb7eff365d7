-- The first state of a kernel, from a file tree and the settings of a schedule.
use Rattle.std.specs.Prelude.{ℕ, ◌+◌, ◌*◌, ◌%◌, true, false, List, [], ◌∷◌, length, replicate, Option, Some, None, option_map}
use Rattle.kernel_core.specs.LoadedTree.{loaded}
use Rattle.kernel_core.specs.NodeCalls.{held}
use Rattle.kernel_core.specs.Nodes.{update}
use Rattle.kernel_core.specs.ValidTree.{root}
use Rattle.kernel_core.specs.declared.open_flags.Access.TheVariants as accesses
use Rattle.kernel_core.specs.declared.resource.Resource.TheVariants as resources
use Rattle.kernel_core.specs.declared.tree.Tree.{Tree}
use Rattle.kernel_model.specs.Clock.{second, unarmed}
use Rattle.kernel_model.specs.Descriptions.{no_flags}
use Rattle.kernel_model.specs.Shared.{Access}
use Rattle.kernel_model.specs.SignalRows.{no_action, no_stack}
use Rattle.kernel_model.specs.SignalSets.{signal_count, no_signals}
use Rattle.kernel_model.specs.State.{Kernel, Files, Flow, Descriptors, Signals}
use Rattle.kernel_model.specs.System.{infinity, unlimited, resource_place}
use Rattle.kernel_model.specs.Table.{descriptor_limit}
use Rattle.kernel_model.specs.declared.descriptor.Descriptor.{Descriptor}
use Rattle.kernel_model.specs.declared.descriptor.Description.{Description}
use Rattle.kernel_model.specs.declared.descriptor.Object.TheVariants as objects
use Rattle.kernel_model.specs.declared.limit.Limit.{Limit}
use Rattle.kernel_model.specs.declared.stream.Stream.{Stream}
use Rattle.kernel_model.specs.declared.stream.Stream.TheVariants as streams
use Rattle.kernel_model.specs.declared.terminal.Terminal.{Terminal}
use Rattle.kernel_model.specs.declared.terminal.TerminalCharacters.{TerminalCharacters}
use Rattle.kernel_model.specs.declared.terminal.TerminalSettings.{TerminalSettings}
use Rattle.kernel_model.specs.declared.terminal.Winsize.{Winsize}
use Rattle.std.specs.Prelude.{slice_set}

-- What a schedule says to a kernel: when the clock begins, in seconds and nanoseconds since the Unix epoch; the size of the terminal,
-- where the streams are one; and the bytes that stand for chance, at least 1.
pub record Settings : Type 0 where
  pub epoch_seconds : ℕ
  pub epoch_nanoseconds : ℕ
  pub terminal : Option Winsize
  pub random : List ℕ

-- Descriptors 0, 1 and 2 are the streams, for reading, writing and writing, with LARGEFILE.

abbrev pub stream_description : Stream → Access → Description
stream_description stream access = record {
  object = objects.Stream stream;
  position = 0;
  flags = record (no_flags access) { largefile = true };
}

abbrev pub stream_descriptor : ℕ → Descriptor
stream_descriptor number = record { number = number; cloexec = false }

-- the places behind the first three, all free
unfoldable pub free_places : {A : Type 0} → ℕ → List (Option A)
free_places count = replicate count None

abbrev pub first_table : Descriptors Description
first_table = record {
  fds = Some (stream_descriptor 0) ∷ Some (stream_descriptor 1) ∷ Some (stream_descriptor 2) ∷ free_places 1021;
  live =
      Some (stream_description streams.Input accesses.Read) ∷ Some (stream_description streams.Out accesses.Write)
      ∷ Some (stream_description streams.Err accesses.Write) ∷ free_places 1021;
}

abbrev pub first_flow : Flow
first_flow = record { pipes = free_places descriptor_limit; moved = record { taken = 0; out = 0; err = 0 } }

-- at first the settings of the terminal are zeros

abbrev pub no_characters : TerminalCharacters
no_characters = record {
  intr = 0;
  quit = 0;
  erase = 0;
  kill = 0;
  min = 0;
  time = 0;
  eol2 = 0;
  swtc = 0;
  start = 0;
  stop = 0;
  susp = 0;
  reprint = 0;
  discard = 0;
  werase = 0;
  lnext = 0;
  eof = 0;
  eol = 0;
}

abbrev pub no_settings : TerminalSettings
no_settings = record { input = 0; output = 0; control = 0; local = 0; line = 0; characters = no_characters }

abbrev pub first_terminal : Winsize → Terminal
first_terminal size = record { size = size; settings = no_settings }

-- 022
abbrev pub first_umask : ℕ
first_umask = 18

-- the working directory is the root, which it holds
abbrev pub first_files : Tree → Option Winsize → Files
first_files tree size = record {
  nodes = update (loaded tree) root held;
  table = first_table;
  flow = first_flow;
  directory = root;
  umask = first_umask;
  terminal = option_map first_terminal size;
}

abbrev pub first_signals : Signals
first_signals = record {
  actions = replicate signal_count no_action;
  pending = replicate signal_count [];
  mask = no_signals;
  stack = no_stack;
}

-- no limit but for descriptors, 1024, and the stack, 8 MiB for its soft one
abbrev pub nofile_limit : Limit
nofile_limit = record { soft = descriptor_limit; hard = descriptor_limit }

abbrev pub stack_limit : Limit
stack_limit = record { soft = 8 * 1024 * 1024; hard = infinity }

abbrev pub first_limits : List Limit
first_limits =
    slice_set (slice_set (replicate 16 unlimited) (resource_place resources.Nofile) nofile_limit)
    (resource_place resources.Stack) stack_limit

-- The first stack takes the first sixteen bytes of chance.
unfoldable pub first_state : Tree → Settings → Kernel
first_state tree settings = record {
  files = first_files tree settings.terminal;
  clock = 0;
  epoch = settings.epoch_seconds * second + settings.epoch_nanoseconds;
  timer = unarmed;
  signals = first_signals;
  limits = first_limits;
  chance = record { bytes = settings.random; at = 16 % length settings.random };
}
