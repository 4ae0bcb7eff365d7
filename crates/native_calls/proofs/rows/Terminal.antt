-- Worked rows on ioctl.
use Rattle.std.specs.Prelude.{◌≡◌, ℕ, ◌+◌, ◌^◌, true, List, [], ◌∷◌, ◌++◌, map, replicate, Some, None, refl}
use Rattle.std.specs.FinMap.{get}
use Rattle.kernel_core.specs.Nodes.{Nodes}
use Rattle.kernel_core.specs.declared.open_flags.Access.TheVariants.{Read}
use Rattle.kernel_model.specs.ContentRows.{bytes_ready, terminal_settings, set_terminal_settings, window_size}
use Rattle.kernel_model.specs.DescriptorRows.{set_close_on_exec, set_nonblock, unlisted_request}
use Rattle.kernel_model.specs.Descriptions.{no_flags}
use Rattle.kernel_model.specs.State.{Kernel, Files}
use Rattle.kernel_model.specs.Whole.{with_files}
use Rattle.native_calls.proofs.rows.Small.{to, to_on_exec, input, output, error_output, read_end, write_end, at_first, with_pipe_of, with_node_at, on_a_terminal, streams_alone, empty_file, large_file, some_directory, six, leaves, number, error}
use Rattle.native_calls.specs.Step.{NativeStep}
use Rattle.native_calls.specs.Table.{native_call}
use Rattle.native_calls.specs.Terminal.{ioctl_row}

module _ (whole : Kernel) (nodes : Nodes) where
  abbrev at_start : List ℕ → List ℕ → NativeStep
  at_start args memory = native_call 29 args (with_files whole (at_first nodes)) memory []

  abbrev refuses : List ℕ → ℕ → NativeStep
  refuses memory value = leaves whole (at_first nodes) memory [] (error value)

  abbrev with_pipe : List ℕ → List ℕ → List ℕ → NativeStep
  with_pipe bytes args memory = native_call 29 args (with_files whole (with_pipe_of nodes bytes)) memory []

  abbrev at_terminal : Files
  at_terminal = on_a_terminal (at_first nodes)

  abbrev on_terminal : List ℕ → List ℕ → NativeStep
  on_terminal args memory = native_call 29 args (with_files whole at_terminal) memory []

  -- TIOCGWINSZ
  window : on_terminal (six 1 0x5413 65536 0) (replicate 9 7) ≡ leaves whole at_terminal (25 ∷ 0 ∷ 80 ∷ 0 ∷ 0 ∷ 0 ∷ 0 ∷ 0 ∷ 7 ∷ []) [] (number 0)
  unfolding ioctl_row window_size
  window = refl

  window_outside : on_terminal (six 1 0x5413 65538 0) (replicate 9 7) ≡ leaves whole at_terminal (replicate 9 7) [] (error 14)
  unfolding ioctl_row window_size
  window_outside = refl

  window_of_none : at_start (six 1 0x5413 65536 0) (replicate 9 7) ≡ refuses (replicate 9 7) 25
  unfolding ioctl_row window_size
  window_of_none = refl

  -- a pipe is no terminal
  pipe_beside_terminal : map (λ request. native_call 29 (six 3 request 65536 0) (with_files whole (on_a_terminal (with_pipe_of nodes []))) [] []) (0x5401 ∷ 0x5413 ∷ [])
      ≡ replicate 2 (leaves whole (on_a_terminal (with_pipe_of nodes [])) [] [] (error 25))
  unfolding ioctl_row terminal_settings window_size
  pipe_beside_terminal = refl

  -- TCGETS: at first zeros
  settings_at_first : on_terminal (six 0 0x5401 65536 0) (replicate 37 7) ≡ leaves whole at_terminal (replicate 36 0 ++ 7 ∷ []) [] (number 0)
  unfolding ioctl_row terminal_settings
  settings_at_first = refl

  settings_of_none : at_start (six 0 0x5401 65536 0) (replicate 37 7) ≡ refuses (replicate 37 7) 25
  unfolding ioctl_row terminal_settings
  settings_of_none = refl

  settings_outside : on_terminal (six 0 0x5401 65538 0) (replicate 37 7) ≡ leaves whole at_terminal (replicate 37 7) [] (error 14)
  unfolding ioctl_row terminal_settings
  settings_outside = refl

  -- TCSETS, TCSETSW and TCSETSF: flags, line and seventeen characters are kept, and the last two bytes dropped

  abbrev flags_and_line : List ℕ
  flags_and_line = 1 ∷ 0 ∷ 0 ∷ 0x80 ∷ 2 ∷ 0 ∷ 0 ∷ 0 ∷ 3 ∷ 0 ∷ 0 ∷ 0 ∷ 4 ∷ 0 ∷ 0 ∷ 0 ∷ 5 ∷ []

  abbrev characters : List ℕ
  characters = 10 ∷ 11 ∷ 12 ∷ 13 ∷ 14 ∷ 15 ∷ 16 ∷ 17 ∷ 18 ∷ 19 ∷ 20 ∷ 21 ∷ 22 ∷ 23 ∷ 24 ∷ 25 ∷ 26 ∷ []

  abbrev wanted : List ℕ
  wanted = flags_and_line ++ characters ++ 27 ∷ 28 ∷ []

  -- VMIN has place 6, VTIME 5, VEOL2 16, VEOF 4 and VEOL 11
  abbrev after_setting : Files
  after_setting = record (at_first nodes) {
    terminal = Some (record {
      size = record { rows = 25; cols = 80 };
      settings = record {
        input = 0x80000001;
        output = 2;
        control = 3;
        local = 4;
        line = 5;
        characters = record {
          intr = 10;
          quit = 11;
          erase = 12;
          kill = 13;
          min = 16;
          time = 15;
          eol2 = 26;
          swtc = 17;
          start = 18;
          stop = 19;
          susp = 20;
          reprint = 22;
          discard = 23;
          werase = 24;
          lnext = 25;
          eof = 14;
          eol = 21;
        };
      };
    });
  }

  set_now : on_terminal (six 2 0x5402 65536 0) wanted ≡ leaves whole after_setting wanted [] (number 0)
  unfolding ioctl_row set_terminal_settings
  set_now = refl

  set_when_written : on_terminal (six 2 0x5403 65536 0) wanted ≡ leaves whole after_setting wanted [] (number 0)
  unfolding ioctl_row set_terminal_settings
  set_when_written = refl

  set_and_flush : on_terminal (six 2 0x5404 65536 0) wanted ≡ leaves whole after_setting wanted [] (number 0)
  unfolding ioctl_row set_terminal_settings
  set_and_flush = refl

  what_was_set : native_call 29 (six 2 0x5401 65536 0) (with_files whole after_setting) (replicate 36 7) []
      ≡ leaves whole after_setting (flags_and_line ++ characters ++ 0 ∷ 0 ∷ []) [] (number 0)
  unfolding ioctl_row terminal_settings
  what_was_set = refl

  set_outside : on_terminal (six 1 0x5402 65537 0) wanted ≡ leaves whole at_terminal wanted [] (error 14)
  unfolding ioctl_row set_terminal_settings
  set_outside = refl

  -- that there is no terminal comes before the structure
  set_of_none : at_start (six 1 0x5402 0 0) [] ≡ refuses [] 25
  unfolding ioctl_row set_terminal_settings
  set_of_none = refl

  set_of_closed : at_start (six 3 0x5402 0 0) [] ≡ refuses [] 9
  unfolding ioctl_row set_terminal_settings
  set_of_closed = refl

  -- FIONREAD

  ready_in_pipe : with_pipe (7 ∷ 8 ∷ 9 ∷ []) (six 3 0x541B 65536 0) (1 ∷ 1 ∷ 1 ∷ 1 ∷ 1 ∷ [])
      ≡ leaves whole (with_pipe_of nodes (7 ∷ 8 ∷ 9 ∷ [])) (3 ∷ 0 ∷ 0 ∷ 0 ∷ 1 ∷ []) [] (number 0)
  unfolding ioctl_row bytes_ready
  ready_in_pipe = refl

  ready_outside : with_pipe [] (six 4 0x541B 65537 0) (1 ∷ 1 ∷ 1 ∷ 1 ∷ []) ≡ leaves whole (with_pipe_of nodes []) (1 ∷ 1 ∷ 1 ∷ 1 ∷ []) [] (error 14)
  unfolding ioctl_row bytes_ready
  ready_outside = refl

  ready_of_stream : at_start (six 0 0x541B 65536 0) [] ≡ refuses [] 25
  unfolding ioctl_row bytes_ready
  ready_of_stream = refl

  -- a file of 2^32 + 258 bytes: the low 32 bits
  ready_in_file : get nodes 5 ≡ Some large_file → native_call 29 (six 3 0x541B 65536 0) (with_files whole (with_node_at nodes 0)) (1 ∷ 1 ∷ 1 ∷ 1 ∷ []) []
      ≡ leaves whole (with_node_at nodes 0) (2 ∷ 1 ∷ 0 ∷ 0 ∷ []) [] (number 0)
  unfolding ioctl_row bytes_ready large_file
  ready_in_file kept = simp kept refl

  ready_at_write_end : with_pipe (7 ∷ 8 ∷ 9 ∷ []) (six 4 0x541B 65536 0) (1 ∷ 1 ∷ 1 ∷ 1 ∷ 1 ∷ [])
      ≡ leaves whole (with_pipe_of nodes (7 ∷ 8 ∷ 9 ∷ [])) (3 ∷ 0 ∷ 0 ∷ 0 ∷ 1 ∷ []) [] (number 0)
  unfolding ioctl_row bytes_ready
  ready_at_write_end = refl

  -- past the end none
  ready_past_the_end : get nodes 5 ≡ Some empty_file → native_call 29 (six 3 0x541B 65536 0) (with_files whole (with_node_at nodes 7)) (1 ∷ 1 ∷ 1 ∷ 1 ∷ []) []
      ≡ leaves whole (with_node_at nodes 7) (0 ∷ 0 ∷ 0 ∷ 0 ∷ []) [] (number 0)
  unfolding ioctl_row bytes_ready empty_file
  ready_past_the_end kept = simp kept refl

  ready_of_directory : get nodes 5 ≡ Some some_directory → native_call 29 (six 3 0x541B 65536 0) (with_files whole (with_node_at nodes 0)) [] []
      ≡ leaves whole (with_node_at nodes 0) [] [] (error 25)
  unfolding ioctl_row bytes_ready some_directory
  ready_of_directory kept = simp kept refl

  -- FIONBIO

  nonblock_on : with_pipe [] (six 3 0x5421 65536 0) (0 ∷ 0 ∷ 1 ∷ 0 ∷ []) ≡ leaves whole (record (with_pipe_of nodes []) {
    table = record (with_pipe_of nodes []).table {
      live =
          Some input ∷ Some output ∷ Some error_output ∷ Some (record read_end { flags = record (no_flags Read) { nonblock = true } }) ∷ Some write_end
          ∷ None ∷ None ∷ None ∷ [];
    };
  }) (0 ∷ 0 ∷ 1 ∷ 0 ∷ []) [] (number 0)
  unfolding ioctl_row set_nonblock
  nonblock_on = refl

  nonblock_off : with_pipe [] (six 3 0x5421 65536 0) (0 ∷ 0 ∷ 0 ∷ 0 ∷ 1 ∷ []) ≡ leaves whole (with_pipe_of nodes []) (0 ∷ 0 ∷ 0 ∷ 0 ∷ 1 ∷ []) [] (number 0)
  unfolding ioctl_row set_nonblock
  nonblock_off = refl

  nonblock_outside : with_pipe [] (six 3 0x5421 65537 0) (0 ∷ 0 ∷ 1 ∷ 0 ∷ []) ≡ leaves whole (with_pipe_of nodes []) (0 ∷ 0 ∷ 1 ∷ 0 ∷ []) [] (error 14)
  unfolding ioctl_row set_nonblock
  nonblock_outside = refl

  -- FIOCLEX and FIONCLEX

  on_exec : at_start (six 1 0x5451 0 0) [] ≡ leaves whole (record (at_first nodes) {
    table = record streams_alone { fds = to 0 ∷ to_on_exec 1 ∷ to 2 ∷ None ∷ None ∷ None ∷ None ∷ None ∷ [] };
  }) [] [] (number 0)
  unfolding ioctl_row set_close_on_exec
  on_exec = refl

  off_exec : (native_call 29 (six 1 0x5450 0 0) (at_start (six 1 0x5451 0 0) []).kernel [] []) ≡ leaves whole (at_first nodes) [] [] (number 0)
  unfolding ioctl_row set_close_on_exec
  off_exec = refl

  -- a request that is not listed, and one of which the low 32 bits are
  other_request : at_start (six 1 0x5400 0 0) [] ≡ refuses [] 25
  unfolding ioctl_row unlisted_request
  other_request = refl

  other_request_of_closed : at_start (six 3 0x5400 0 0) [] ≡ refuses [] 9
  unfolding ioctl_row unlisted_request
  other_request_of_closed = refl

  low_bits_of_request : at_start (six 1 (2 ^ 32 + 0x5450) 0 0) [] ≡ leaves whole (at_first nodes) [] [] (number 0)
  unfolding ioctl_row set_close_on_exec
  low_bits_of_request = refl

  requests_of_closed : map (λ request. at_start (six 3 request 0 0) []) (0x5401 ∷ 0x5403 ∷ 0x5404 ∷ 0x5413 ∷ 0x541B ∷ 0x5421 ∷ 0x5450 ∷ 0x5451 ∷ []) ≡ replicate 8 (refuses [] 9)
  unfolding ioctl_row terminal_settings set_terminal_settings window_size bytes_ready set_nonblock set_close_on_exec
  requests_of_closed = refl
