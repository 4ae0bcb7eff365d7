-- Worked rows on ioctl.
use Rattle.std.specs.Prelude.{◌≡◌, ℕ, true, List, [], ◌∷◌, ◌++◌, replicate, Some, None, refl}
use Rattle.std.specs.FinMap.{get}
use Rattle.guest_space.specs.Access.{first_denied, refusal}
use Rattle.guest_space.specs.Bytes.{bytes_at, byte_at, copied_out}
use Rattle.guest_space.specs.Memory.{Memory}
use Rattle.guest_space.specs.declared.access.Access.TheVariants.{Load, Store}
use Rattle.kernel_core.specs.Nodes.{Nodes}
use Rattle.kernel_core.specs.declared.error.Errno.{Errno}
use Rattle.kernel_core.specs.declared.error.Errno.TheVariants.{EBADF, EFAULT, ENOTTY}
use Rattle.kernel_core.specs.declared.open_flags.Access.TheVariants.{Read}
use Rattle.kernel_model.specs.Begin.{first_terminal}
use Rattle.kernel_model.specs.ContentRows.{bytes_ready, terminal_settings, set_terminal_settings, window_size}
use Rattle.kernel_model.specs.DescriptorRows.{set_close_on_exec, set_nonblock, unlisted_request}
use Rattle.kernel_model.specs.Descriptions.{no_flags}
use Rattle.kernel_model.specs.State.{Kernel, Files}
use Rattle.kernel_model.specs.Whole.{with_files}
use Rattle.mips_exec.specs.Processor.{Processor}
use Rattle.o32_model.proofs.rows.Small.{to, to_on_exec, input, output, error_output, read_end, write_end, at_first, with_pipe_of, with_node_at, streams_alone, large_file, page_of, words, guest, leaves}
use Rattle.o32_model.specs.Step.{O32Step}
use Rattle.o32_model.specs.Table.{o32_call}
use Rattle.o32_model.specs.Terminal.{ioctl_row}
use Rattle.o32_model.specs.declared.outcome.Outcome.{Outcome}
use Rattle.o32_model.specs.declared.outcome.Outcome.TheVariants.{Value, Error}

module _ (whole : Kernel) (nodes : Nodes) (processor : Processor) (memory : Memory) where
  abbrev called : Kernel → ℕ → ℕ → ℕ → O32Step
  called kernel fd request address = o32_call kernel (guest (words 4054 fd request address 0) processor memory) []

  abbrev at_start : ℕ → ℕ → ℕ → O32Step
  at_start fd request address = called (with_files whole (at_first nodes)) fd request address

  abbrev with_pipe : List ℕ → ℕ → ℕ → ℕ → O32Step
  with_pipe bytes fd request address = called (with_files whole (with_pipe_of nodes bytes)) fd request address

  -- the streams are a terminal of 25 rows and 80 columns
  abbrev at_terminal : Files
  at_terminal = record (at_first nodes) { terminal = Some (first_terminal (record { rows = 25; cols = 80 })) }

  abbrev on_terminal : ℕ → ℕ → ℕ → O32Step
  on_terminal fd request address = called (with_files whole at_terminal) fd request address

  abbrev stays : Files → Outcome → O32Step
  stays files outcome = leaves whole files processor memory [] outcome

  abbrev refuses : Errno → O32Step
  refuses error = stays (at_first nodes) (Error error)

  -- these are stored from 65536 on
  abbrev stores : Files → List ℕ → O32Step
  stores files bytes = leaves whole files processor (copied_out memory 65536 bytes) [] (Value 0)

  -- TIOCGWINSZ
  window : (held : List ℕ) → get memory.pages 16 ≡ Some (page_of held) → on_terminal 1 0x40087468 65536 ≡ stores at_terminal (0 ∷ 25 ∷ 0 ∷ 80 ∷ 0 ∷ 0 ∷ 0 ∷ 0 ∷ [])
  unfolding ioctl_row window_size first_denied refusal
  window held kept = simp kept refl

  window_absent : (held : List ℕ) → get memory.pages 16 ≡ Some (page_of held) → get memory.pages 17 ≡ None
      → on_terminal 1 0x40087468 69625 ≡ stays at_terminal (Error EFAULT)
  unfolding ioctl_row window_size first_denied refusal
  window_absent held kept absent = simp (kept, absent) refl

  window_of_none : at_start 1 0x40087468 65536 ≡ refuses ENOTTY
  unfolding ioctl_row window_size
  window_of_none = refl

  -- TCGETS: at first zeros
  settings_at_first : first_denied Store memory.pages 65536 40 ≡ None → on_terminal 0 0x540D 65536 ≡ stores at_terminal (replicate 40 0)
  unfolding ioctl_row terminal_settings
  settings_at_first room = simp room refl

  settings_absent : get memory.pages 17 ≡ None → on_terminal 0 0x540D 69632 ≡ stays at_terminal (Error EFAULT)
  unfolding ioctl_row terminal_settings first_denied refusal
  settings_absent absent = simp absent refl

  settings_of_none : at_start 0 0x540D 65536 ≡ refuses ENOTTY
  unfolding ioctl_row terminal_settings
  settings_of_none = refl

  -- TCSETS, TCSETSW and TCSETSF: flags, line and seventeen characters are kept, and those at 11 and from 18 on dropped

  abbrev flags_and_line : List ℕ
  flags_and_line = 0x80 ∷ 0 ∷ 0 ∷ 1 ∷ 0 ∷ 0 ∷ 0 ∷ 2 ∷ 0 ∷ 0 ∷ 0 ∷ 3 ∷ 0 ∷ 0 ∷ 0 ∷ 4 ∷ 5 ∷ []

  abbrev wanted : List ℕ
  wanted =
      flags_and_line
      ++ 10 ∷ 11 ∷ 12 ∷ 13 ∷ 14 ∷ 15 ∷ 16 ∷ 17 ∷ 18 ∷ 19 ∷ 20 ∷ 21 ∷ 22 ∷ 23 ∷ 24 ∷ 25 ∷ 26 ∷ 27 ∷ 28 ∷ 29 ∷ 30 ∷ 31 ∷ 32 ∷ []

  abbrev found : List ℕ
  found =
      flags_and_line
      ++ 10 ∷ 11 ∷ 12 ∷ 13 ∷ 14 ∷ 15 ∷ 16 ∷ 17 ∷ 18 ∷ 19 ∷ 20 ∷ 0 ∷ 22 ∷ 23 ∷ 24 ∷ 25 ∷ 26 ∷ 27 ∷ 0 ∷ 0 ∷ 0 ∷ 0 ∷ 0 ∷ []

  -- VMIN has place 4, VTIME 5, VEOL2 6, VEOF 16 and VEOL 17
  abbrev after_setting : Files
  after_setting = record (at_first nodes) {
    terminal = Some (record {
      size = record { rows = 25; cols = 80 };
      settings = record {
        input = 0x80000001;
        output = 2;
        control = 3;
        local = 4;
        line = 5;
        characters = record {
          intr = 10;
          quit = 11;
          erase = 12;
          kill = 13;
          min = 14;
          time = 15;
          eol2 = 16;
          swtc = 17;
          start = 18;
          stop = 19;
          susp = 20;
          reprint = 22;
          discard = 23;
          werase = 24;
          lnext = 25;
          eof = 26;
          eol = 27;
        };
      };
    });
  }

  module _ (loadable : first_denied Load memory.pages 65536 40 ≡ None) (held : bytes_at memory.pages 65536 40 ≡ wanted) where
    set_now : on_terminal 2 0x540E 65536 ≡ stays after_setting (Value 0)
    unfolding ioctl_row set_terminal_settings
    set_now = simp (loadable, held) refl

    set_when_written : on_terminal 2 0x540F 65536 ≡ stays after_setting (Value 0)
    unfolding ioctl_row set_terminal_settings
    set_when_written = simp (loadable, held) refl

    set_and_flush : on_terminal 2 0x5410 65536 ≡ stays after_setting (Value 0)
    unfolding ioctl_row set_terminal_settings
    set_and_flush = simp (loadable, held) refl

  what_was_set : first_denied Store memory.pages 65536 40 ≡ None → called (with_files whole after_setting) 2 0x540D 65536 ≡ stores after_setting found
  unfolding ioctl_row terminal_settings
  what_was_set room = simp room refl

  set_absent : get memory.pages 17 ≡ None → on_terminal 1 0x540E 69632 ≡ stays at_terminal (Error EFAULT)
  unfolding ioctl_row set_terminal_settings first_denied refusal bytes_at
  set_absent absent = simp absent refl

  -- that there is no terminal comes before the structure
  set_of_none : at_start 1 0x540E 0x8000_0000 ≡ refuses ENOTTY
  unfolding ioctl_row set_terminal_settings
  set_of_none = refl

  set_of_closed : at_start 3 0x540E 0x8000_0000 ≡ refuses EBADF
  unfolding ioctl_row set_terminal_settings
  set_of_closed = refl

  -- FIONREAD

  ready_in_pipe : (held : List ℕ) → get memory.pages 16 ≡ Some (page_of held)
      → with_pipe (7 ∷ 8 ∷ 9 ∷ []) 3 0x467F 65536
      ≡ leaves whole (with_pipe_of nodes (7 ∷ 8 ∷ 9 ∷ [])) processor (copied_out memory 65536 (0 ∷ 0 ∷ 0 ∷ 3 ∷ [])) [] (Value 0)
  unfolding ioctl_row bytes_ready first_denied refusal
  ready_in_pipe held kept = simp kept refl

  ready_absent : get memory.pages 17 ≡ None → with_pipe [] 4 0x467F 69632 ≡ stays (with_pipe_of nodes []) (Error EFAULT)
  unfolding ioctl_row bytes_ready first_denied refusal
  ready_absent absent = simp absent refl

  ready_of_stream : at_start 0 0x467F 65536 ≡ refuses ENOTTY
  unfolding ioctl_row bytes_ready
  ready_of_stream = refl

  -- a file of 2^32 + 258 bytes: the low 32 bits
  ready_in_file : (held : List ℕ) → get memory.pages 16 ≡ Some (page_of held) → get nodes 5 ≡ Some large_file
      → called (with_files whole (with_node_at nodes 0)) 3 0x467F 65536
      ≡ leaves whole (with_node_at nodes 0) processor (copied_out memory 65536 (0 ∷ 0 ∷ 1 ∷ 2 ∷ [])) [] (Value 0)
  unfolding ioctl_row bytes_ready large_file first_denied refusal
  ready_in_file held paged kept = simp (paged, kept) refl

  -- FIONBIO

  nonblock_on : get memory.pages 16 ≡ Some (page_of (0 ∷ 0 ∷ 1 ∷ 0 ∷ [])) → with_pipe [] 3 0x667E 65536 ≡ stays (record (with_pipe_of nodes []) {
    table = record (with_pipe_of nodes []).table {
      live =
          Some input ∷ Some output ∷ Some error_output ∷ Some (record read_end { flags = record (no_flags Read) { nonblock = true } }) ∷ Some write_end
          ∷ None ∷ None ∷ None ∷ [];
    };
  }) (Value 0)
  unfolding ioctl_row set_nonblock first_denied refusal bytes_at byte_at
  nonblock_on kept = simp kept refl

  nonblock_off : get memory.pages 16 ≡ Some (page_of (0 ∷ 0 ∷ 0 ∷ 0 ∷ [])) → with_pipe [] 3 0x667E 65536 ≡ stays (with_pipe_of nodes []) (Value 0)
  unfolding ioctl_row set_nonblock first_denied refusal bytes_at byte_at
  nonblock_off kept = simp kept refl

  nonblock_absent : get memory.pages 17 ≡ None → with_pipe [] 3 0x667E 69632 ≡ stays (with_pipe_of nodes []) (Error EFAULT)
  unfolding ioctl_row set_nonblock first_denied refusal bytes_at
  nonblock_absent absent = simp absent refl

  -- FIOCLEX and FIONCLEX

  on_exec : at_start 1 0x6601 0 ≡ stays (record (at_first nodes) {
    table = record streams_alone { fds = to 0 ∷ to_on_exec 1 ∷ to 2 ∷ None ∷ None ∷ None ∷ None ∷ None ∷ [] };
  }) (Value 0)
  unfolding ioctl_row set_close_on_exec
  on_exec = refl

  off_exec : called (at_start 1 0x6601 0).kernel 1 0x6602 0 ≡ stays (at_first nodes) (Value 0)
  unfolding ioctl_row set_close_on_exec
  off_exec = refl

  -- each other request of a descriptor that isn't open

  settings_of_closed : at_start 3 0x540D 0x8000_0000 ≡ refuses EBADF
  unfolding ioctl_row terminal_settings
  settings_of_closed = refl

  window_of_closed : at_start 3 0x40087468 0x8000_0000 ≡ refuses EBADF
  unfolding ioctl_row window_size
  window_of_closed = refl

  ready_of_closed : at_start 3 0x467F 0x8000_0000 ≡ refuses EBADF
  unfolding ioctl_row bytes_ready
  ready_of_closed = refl

  nonblock_of_closed : at_start 3 0x667E 0x8000_0000 ≡ refuses EBADF
  unfolding ioctl_row set_nonblock
  nonblock_of_closed = refl

  on_exec_of_closed : at_start 3 0x6601 0 ≡ refuses EBADF
  unfolding ioctl_row set_close_on_exec
  on_exec_of_closed = refl

  -- a request that is not listed
  other_request : at_start 1 0x5413 0 ≡ refuses ENOTTY
  unfolding ioctl_row unlisted_request
  other_request = refl

  other_request_of_closed : at_start 3 0x5413 0 ≡ refuses EBADF
  unfolding ioctl_row unlisted_request
  other_request_of_closed = refl
