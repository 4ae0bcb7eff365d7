-- ioctl(2): the requests on a terminal (ioctl_tty(2)) and on descriptors.
use Rattle.std.specs.Prelude.{ℕ, ◌%◌, ◌^◌, ◌==◌, ℤ, pos, nat_abs, Bool, true, false, not, List, [], ◌∷◌, map, slice_index, Option, Some, None}
use Rattle.guest_space.specs.Memory.{Memory}
use Rattle.kernel_core.specs.declared.request.Request.{Request}
use Rattle.kernel_core.specs.declared.request.Request.TheVariants as requests
use Rattle.kernel_model.specs.Came.{Given, told_as, told_zero}
use Rattle.kernel_model.specs.ContentRows.{bytes_ready, terminal_settings, set_terminal_settings, window_size}
use Rattle.kernel_model.specs.DescriptorRows.{set_close_on_exec, set_nonblock, unlisted_request}
use Rattle.kernel_model.specs.State.{Kernel}
use Rattle.kernel_model.specs.Whole.{on_files}
use Rattle.kernel_model.specs.declared.terminal.TerminalCharacters.{TerminalCharacters}
use Rattle.kernel_model.specs.declared.terminal.TerminalSettings.{TerminalSettings}
use Rattle.kernel_model.specs.declared.terminal.Winsize.{Winsize}
use Rattle.layouts.specs.Number.{bytes_of, unsigned}
use Rattle.layouts.specs.O32.{termios, winsize}
use Rattle.layouts.specs.Shape.{record_bytes, record_values}
use Rattle.number_tables.specs.Requests.{request_of_o32}
use Rattle.o32_calls.specs.Numbers.{io_number}
use Rattle.o32_calls.specs.declared.descriptors.IoCall.TheVariants.{Ioctl}
use Rattle.o32_model.specs.GuestBytes.{structure, read_as}
use Rattle.o32_model.specs.Step.{Guest, O32Step, O32Row, gives, stores}
use Rattle.o32_model.specs.Words.{argument}

-- Settings

-- Four words of flags, the line and 23 characters, whose places are VINTR 0, VQUIT 1, VERASE 2, VKILL 3, VMIN 4, VTIME 5, VEOL2 6, VSWTC 7,
-- VSTART 8, VSTOP 9, VSUSP 10, VREPRINT 12, VDISCARD 13, VWERASE 14, VLNEXT 15, VEOF 16 and VEOL 17 (Linux
-- arch/mips/include/uapi/asm/termbits.h). Those at 11 and from 18 on are dropped, and read as 0.

abbrev pub settings_values : TerminalSettings → List ℤ
settings_values settings =
    let characters = settings.characters in
    map pos (
    settings.input ∷ settings.output ∷ settings.control ∷ settings.local ∷ settings.line
    ∷ characters.intr ∷ characters.quit ∷ characters.erase ∷ characters.kill ∷ characters.min ∷ characters.time ∷ characters.eol2 ∷ characters.swtc ∷ characters.start ∷ characters.stop
    ∷ characters.susp ∷ 0 ∷ characters.reprint ∷ characters.discard ∷ characters.werase ∷ characters.lnext ∷ characters.eof ∷ characters.eol
    ∷ 0 ∷ 0 ∷ 0 ∷ 0 ∷ 0 ∷ [])

abbrev pub settings_bytes : TerminalSettings → List ℕ
settings_bytes settings = record_bytes termios (settings_values settings)

-- the characters that stand behind the flags and the line
abbrev pub characters_of : List ℕ → TerminalCharacters
characters_of fields = record {
  intr = slice_index fields 5;
  quit = slice_index fields 6;
  erase = slice_index fields 7;
  kill = slice_index fields 8;
  min = slice_index fields 9;
  time = slice_index fields 10;
  eol2 = slice_index fields 11;
  swtc = slice_index fields 12;
  start = slice_index fields 13;
  stop = slice_index fields 14;
  susp = slice_index fields 15;
  reprint = slice_index fields 17;
  discard = slice_index fields 18;
  werase = slice_index fields 19;
  lnext = slice_index fields 20;
  eof = slice_index fields 21;
  eol = slice_index fields 22;
}

abbrev pub settings_of : List ℕ → TerminalSettings
settings_of fields = record {
  input = slice_index fields 0;
  output = slice_index fields 1;
  control = slice_index fields 2;
  local = slice_index fields 3;
  line = slice_index fields 4;
  characters = characters_of fields;
}

abbrev pub settings_in : List ℕ → TerminalSettings
settings_in bytes = settings_of (map nat_abs (record_values termios bytes))

abbrev pub settings_at : Memory → ℕ → Given TerminalSettings
settings_at memory address = read_as settings_in (structure memory address termios.size)

-- rows, columns, and nothing in pixels
abbrev pub window_bytes : Winsize → List ℕ
window_bytes size = record_bytes winsize (pos size.rows ∷ pos size.cols ∷ pos 0 ∷ pos 0 ∷ [])

-- An int

abbrev pub int_size : ℕ
int_size = 4

-- its low 32 bits
abbrev pub int_bytes : ℕ → List ℕ
int_bytes number = bytes_of true int_size (number % 2 ^ 32)

-- a number that is not 0 stands for on
abbrev pub switch_at : Memory → ℕ → Given Bool
switch_at memory address = read_as (λ bytes. not (unsigned true int_size bytes == 0)) (structure memory address int_size)

-- Requests

abbrev pub set_settings : Kernel → Guest → ℕ → ℕ → List ℕ → O32Step
set_settings kernel guest fd address left =
    gives guest (told_zero (on_files kernel (set_terminal_settings kernel.files fd (settings_at guest.memory address)))) left

abbrev pub set_cloexec_to : Bool → Kernel → Guest → ℕ → List ℕ → O32Step
set_cloexec_to cloexec kernel guest fd left = gives guest (told_zero (on_files kernel (set_close_on_exec kernel.files fd cloexec))) left

-- `address` is the argument, where that is a pointer
abbrev pub requested : Kernel → Guest → ℕ → ℕ → List ℕ → Option Request → O32Step
requested kernel guest fd address left None = gives guest (told_zero (on_files kernel (unlisted_request kernel.files fd))) left
requested kernel guest fd address left (Some requests.Tcgets) =
    stores guest address (told_as settings_bytes (on_files kernel (terminal_settings kernel.files fd))) left
requested kernel guest fd address left (Some requests.Tcsets) = set_settings kernel guest fd address left
requested kernel guest fd address left (Some requests.Tcsetsw) = set_settings kernel guest fd address left
requested kernel guest fd address left (Some requests.Tcsetsf) = set_settings kernel guest fd address left
requested kernel guest fd address left (Some requests.Tiocgwinsz) =
    stores guest address (told_as window_bytes (on_files kernel (window_size kernel.files fd))) left
requested kernel guest fd address left (Some requests.Fionread) =
    stores guest address (told_as int_bytes (on_files kernel (bytes_ready kernel.files fd))) left
requested kernel guest fd address left (Some requests.Fionbio) =
    gives guest (told_zero (on_files kernel (set_nonblock kernel.files fd (switch_at guest.memory address)))) left
requested kernel guest fd address left (Some requests.Fioclex) = set_cloexec_to true kernel guest fd left
requested kernel guest fd address left (Some requests.Fionclex) = set_cloexec_to false kernel guest fd left

unfoldable pub ioctl_row : Kernel → Guest → ℕ → ℕ → ℕ → List ℕ → O32Step
ioctl_row kernel guest fd request address left = requested kernel guest fd address left (request_of_o32 request)

-- The number (Linux arch/mips/include/uapi/asm/unistd.h, the o32 table)
abbrev pub terminal_calls : List O32Row
terminal_calls =
    record { number = io_number Ioctl; step = λ kernel guest. ioctl_row kernel guest (argument guest.words 0) (argument guest.words 1) (argument guest.words 2) }
    ∷ []
