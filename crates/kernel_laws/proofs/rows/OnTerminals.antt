-- Worked rows on the terminal, on waiting descriptions, and where no descriptor is free.
use Rattle.std.specs.Prelude.{◌≡◌, ℤ, true, false, [], ◌∷◌, Some, None, Ok, Err, refl}
use Rattle.kernel_core.specs.Nodes.{Nodes}
use Rattle.kernel_core.specs.declared.error.Errno.TheVariants.{EAGAIN, EBADF, EFAULT, EINVAL, EMFILE, ENOTTY}
use Rattle.kernel_core.specs.declared.open_flags.Access.TheVariants.{Read}
use Rattle.kernel_model.proofs.rows.Small.{input, output, read_end, small, to, write_end}
use Rattle.kernel_model.specs.Begin.{no_settings}
use Rattle.kernel_model.specs.Came.{done, refused, waits}
use Rattle.kernel_model.specs.ContentRows.{set_terminal_settings, terminal_settings, window_size}
use Rattle.kernel_model.specs.DescriptorRows.{PipeFlags, duplicate, make_pipe, set_nonblock}
use Rattle.kernel_model.specs.Descriptions.{no_flags}
use Rattle.kernel_model.specs.Opening.{open_file}
use Rattle.kernel_model.specs.Paths.{Working}
use Rattle.kernel_model.specs.State.{Files}
use Rattle.kernel_model.specs.Transfers.{read, reading}
use Rattle.kernel_model.specs.declared.terminal.TerminalSettings.{TerminalSettings}
use Rattle.kernel_model.specs.declared.terminal.Winsize.{Winsize}

size : Winsize
size = record { rows = 24; cols = 80 }

-- ECHO and ICANON (0x8 and 0x2 of termios(3))
cooked : TerminalSettings
cooked = record no_settings { local = 10 }

on_terminal_with : Nodes → TerminalSettings → Files
on_terminal_with nodes settings = record (small nodes []) { terminal = Some (record { size = size; settings = settings }) }

module _ (nodes : Nodes) where
  files : Files
  files = on_terminal_with nodes no_settings

  zeros_first : terminal_settings files 0 ≡ done files no_settings
  unfolding terminal_settings files on_terminal_with
  zeros_first = refl

  -- they are kept, and all three streams have the same
  are_set : set_terminal_settings files 1 (Ok cooked) ≡ done (on_terminal_with nodes cooked) tt
  unfolding set_terminal_settings files on_terminal_with
  are_set = refl

  are_shown : terminal_settings (on_terminal_with nodes cooked) 0 ≡ done (on_terminal_with nodes cooked) cooked
  unfolding terminal_settings on_terminal_with
  are_shown = refl

  not_read : set_terminal_settings files 0 (Err EFAULT) ≡ refused files EFAULT
  unfolding set_terminal_settings files on_terminal_with
  not_read = refl

  of_a_pipe : set_terminal_settings files 3 (Err EFAULT) ≡ refused files ENOTTY
  unfolding set_terminal_settings files on_terminal_with
  of_a_pipe = refl

  of_a_closed_one : terminal_settings files 2 ≡ refused files EBADF
  unfolding terminal_settings files on_terminal_with
  of_a_closed_one = refl

  without_one : terminal_settings (small nodes []) 0 ≡ refused (small nodes []) ENOTTY
  unfolding terminal_settings
  without_one = refl

  of_this_size : window_size files 1 ≡ done files size
  unfolding window_size files on_terminal_with
  of_this_size = refl

  -- FIONBIO of ioctl(2)

  with_read_end : Files
  with_read_end = record (small nodes []) {
    table = record {
      fds = (small nodes []).table.fds;
      live = Some input ∷ Some output ∷ Some (record read_end { flags = record read_end.flags { nonblock = true } }) ∷ Some write_end ∷ None ∷ None ∷ [];
    };
  }

  does_not_wait : set_nonblock (small nodes []) 3 (Ok true) ≡ done with_read_end tt
  unfolding set_nonblock with_read_end
  does_not_wait = refl

  waits_again : set_nonblock with_read_end 3 (Ok false) ≡ done (small nodes []) tt
  unfolding set_nonblock with_read_end
  waits_again = refl

  flag_not_read : set_nonblock (small nodes []) 3 (Err EFAULT) ≡ refused (small nodes []) EFAULT
  unfolding set_nonblock
  flag_not_read = refl

  flag_of_a_closed_one : set_nonblock (small nodes []) 2 (Err EFAULT) ≡ refused (small nodes []) EBADF
  unfolding set_nonblock
  flag_of_a_closed_one = refl

  -- a read of the empty pipe waits, or is EAGAIN
  reads_nothing : read (small nodes []) [] 3 (Ok 1) 1 ≡ waits (reading [] (small nodes [])) None
  unfolding read
  reads_nothing = refl

  reads_nothing_at_once : read with_read_end [] 3 (Ok 1) 1 ≡ refused (reading [] with_read_end) EAGAIN
  unfolding read with_read_end
  reads_nothing_at_once = refl

-- Where no descriptor is free, and where one is

plain : PipeFlags
plain = record { cloexec = false; nonblock = false }

with_all : Nodes → Files
with_all nodes = record (small nodes []) { table = record { fds = to 0 ∷ to 1 ∷ to 2 ∷ to 3 ∷ []; live = Some input ∷ Some output ∷ Some read_end ∷ Some write_end ∷ [] } }

with_one : Nodes → Files
with_one nodes = record (small nodes []) { table = record { fds = to 0 ∷ to 1 ∷ to 2 ∷ to 3 ∷ None ∷ []; live = Some input ∷ Some output ∷ Some read_end ∷ Some write_end ∷ None ∷ [] } }

module _ (nodes : Nodes) (now : ℤ) where
  -- before the path is walked
  no_descriptor : open_file (with_all nodes) None now Working (Ok []) (Some (no_flags Read)) 0 ≡ refused (with_all nodes) EMFILE
  unfolding open_file with_all
  no_descriptor = refl

  -- and behind the reading of the path
  path_first : open_file (with_all nodes) None now Working (Err EFAULT) (Some (no_flags Read)) 0 ≡ refused (with_all nodes) EFAULT
  unfolding open_file with_all
  path_first = refl

  no_two : make_pipe (with_all nodes) (Some plain) ≡ refused (with_all nodes) EMFILE
  unfolding make_pipe with_all plain
  no_two = refl

  one_is_too_few : make_pipe (with_one nodes) (Some plain) ≡ refused (with_one nodes) EMFILE
  unfolding make_pipe with_one plain
  one_is_too_few = refl

  other_flags : make_pipe (with_all nodes) None ≡ refused (with_all nodes) EINVAL
  unfolding make_pipe with_all
  other_flags = refl

  no_duplicate : duplicate (with_all nodes) 1 (Some 0) false ≡ refused (with_all nodes) EMFILE
  unfolding duplicate with_all
  no_duplicate = refl

  -- from a place on
  no_later_one : duplicate (with_one nodes) 1 (Some 5) false ≡ refused (with_one nodes) EMFILE
  unfolding duplicate with_one
  no_later_one = refl
