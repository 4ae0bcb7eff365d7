-- ioctl(2): the requests on a terminal (ioctl_tty(2)) and on descriptors.
use Rattle.std.specs.Prelude.{ℕ, ◌==◌, ℤ, pos, nat_abs, Bool, true, false, not, List, [], ◌∷◌, map, slice_index, Option, Some, None}
use Rattle.kernel_core.specs.declared.request.Request.{Request}
use Rattle.kernel_core.specs.declared.request.Request.TheVariants as requests
use Rattle.kernel_model.specs.Came.{Given, told_as, told_zero}
use Rattle.kernel_model.specs.ContentRows.{bytes_ready, terminal_settings, set_terminal_settings, window_size}
use Rattle.kernel_model.specs.DescriptorRows.{set_close_on_exec, set_nonblock, unlisted_request}
use Rattle.kernel_model.specs.State.{Kernel}
use Rattle.kernel_model.specs.Whole.{on_files}
use Rattle.kernel_model.specs.declared.terminal.TerminalCharacters.{TerminalCharacters}
use Rattle.kernel_model.specs.declared.terminal.TerminalSettings.{TerminalSettings}
use Rattle.kernel_model.specs.declared.terminal.Winsize.{Winsize}
use Rattle.layouts.specs.Native.{termios, native_shape}
use Rattle.layouts.specs.Number.{bytes_of, unsigned}
use Rattle.layouts.specs.Shape.{record_bytes, record_values}
use Rattle.layouts.specs.declared.native.NativeStructure.TheVariants as structures
use Rattle.native_calls.specs.Arguments.{argument, word, low_word}
use Rattle.native_calls.specs.HostBytes.{structure, read_as}
use Rattle.native_calls.specs.Step.{NativeStep, NativeCall, gives, stores}
use Rattle.number_tables.specs.Requests.{request_of_native}

-- Settings

-- Four words of flags, the line and 19 characters, whose places are VINTR 0, VQUIT 1, VERASE 2, VKILL 3, VEOF 4, VTIME 5, VMIN 6, VSWTC 7,
-- VSTART 8, VSTOP 9, VSUSP 10, VEOL 11, VREPRINT 12, VDISCARD 13, VWERASE 14, VLNEXT 15 and VEOL2 16 (Linux
-- include/uapi/asm-generic/termbits.h). The last two have no name: they are dropped, and read as 0.

abbrev pub settings_values : TerminalSettings → List ℤ
settings_values settings =
    let characters = settings.characters in
    map pos (
    settings.input ∷ settings.output ∷ settings.control ∷ settings.local ∷ settings.line
    ∷ characters.intr ∷ characters.quit ∷ characters.erase ∷ characters.kill ∷ characters.eof ∷ characters.time ∷ characters.min ∷ characters.swtc ∷ characters.start ∷ characters.stop
    ∷ characters.susp ∷ characters.eol ∷ characters.reprint ∷ characters.discard ∷ characters.werase ∷ characters.lnext ∷ characters.eol2 ∷ 0 ∷ 0 ∷ [])

abbrev pub settings_bytes : TerminalSettings → List ℕ
settings_bytes settings = record_bytes termios (settings_values settings)

-- the characters that stand behind the flags and the line
abbrev pub characters_of : List ℕ → TerminalCharacters
characters_of fields = record {
  intr = slice_index fields 5;
  quit = slice_index fields 6;
  erase = slice_index fields 7;
  kill = slice_index fields 8;
  eof = slice_index fields 9;
  time = slice_index fields 10;
  min = slice_index fields 11;
  swtc = slice_index fields 12;
  start = slice_index fields 13;
  stop = slice_index fields 14;
  susp = slice_index fields 15;
  eol = slice_index fields 16;
  reprint = slice_index fields 17;
  discard = slice_index fields 18;
  werase = slice_index fields 19;
  lnext = slice_index fields 20;
  eol2 = slice_index fields 21;
}

abbrev pub settings_of : List ℕ → TerminalSettings
settings_of fields = record {
  input = slice_index fields 0;
  output = slice_index fields 1;
  control = slice_index fields 2;
  local = slice_index fields 3;
  line = slice_index fields 4;
  characters = characters_of fields;
}

abbrev pub settings_in : List ℕ → TerminalSettings
settings_in bytes = settings_of (map nat_abs (record_values termios bytes))

abbrev pub settings_at : List ℕ → ℕ → Given TerminalSettings
settings_at memory address = read_as settings_in (structure memory address termios.size)

-- rows, columns, and nothing in pixels
abbrev pub window_bytes : Winsize → List ℕ
window_bytes size = record_bytes (native_shape structures.Winsize) (pos size.rows ∷ pos size.cols ∷ pos 0 ∷ pos 0 ∷ [])

-- An int

abbrev pub int_size : ℕ
int_size = 4

-- its low 32 bits
abbrev pub int_bytes : ℕ → List ℕ
int_bytes number = bytes_of false int_size (low_word number)

-- a number that is not 0 stands for on
abbrev pub switch_at : List ℕ → ℕ → Given Bool
switch_at memory address = read_as (λ bytes. not (unsigned false int_size bytes == 0)) (structure memory address int_size)

-- Requests

abbrev pub set_settings : Kernel → List ℕ → ℕ → ℕ → List ℕ → NativeStep
set_settings kernel memory fd address left =
    gives memory (told_zero (on_files kernel (set_terminal_settings kernel.files fd (settings_at memory address)))) left

abbrev pub set_cloexec_to : Bool → Kernel → List ℕ → ℕ → List ℕ → NativeStep
set_cloexec_to cloexec kernel memory fd left = gives memory (told_zero (on_files kernel (set_close_on_exec kernel.files fd cloexec))) left

-- `address` is the argument, where that is a pointer
abbrev pub requested : Kernel → List ℕ → ℕ → ℕ → List ℕ → Option Request → NativeStep
requested kernel memory fd address left None = gives memory (told_zero (on_files kernel (unlisted_request kernel.files fd))) left
requested kernel memory fd address left (Some requests.Tcgets) =
    stores memory address (told_as settings_bytes (on_files kernel (terminal_settings kernel.files fd))) left
requested kernel memory fd address left (Some requests.Tcsets) = set_settings kernel memory fd address left
requested kernel memory fd address left (Some requests.Tcsetsw) = set_settings kernel memory fd address left
requested kernel memory fd address left (Some requests.Tcsetsf) = set_settings kernel memory fd address left
requested kernel memory fd address left (Some requests.Tiocgwinsz) =
    stores memory address (told_as window_bytes (on_files kernel (window_size kernel.files fd))) left
requested kernel memory fd address left (Some requests.Fionread) =
    stores memory address (told_as int_bytes (on_files kernel (bytes_ready kernel.files fd))) left
requested kernel memory fd address left (Some requests.Fionbio) =
    gives memory (told_zero (on_files kernel (set_nonblock kernel.files fd (switch_at memory address)))) left
requested kernel memory fd address left (Some requests.Fioclex) = set_cloexec_to true kernel memory fd left
requested kernel memory fd address left (Some requests.Fionclex) = set_cloexec_to false kernel memory fd left

unfoldable pub ioctl_row : Kernel → List ℕ → ℕ → ℕ → ℕ → List ℕ → NativeStep
ioctl_row kernel memory fd request address left = requested kernel memory fd address left (request_of_native request)

-- The number (Linux include/uapi/asm-generic/unistd.h)
abbrev pub terminal_calls : List NativeCall
terminal_calls = record { number = 29; step = λ args kernel memory. ioctl_row kernel memory (word args 0) (word args 1) (argument args 2) } ∷ []
