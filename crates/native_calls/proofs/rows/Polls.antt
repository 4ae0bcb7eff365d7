-- Worked rows on waiting for descriptors, at the time 1000 of the clock: 3 is the read end of a pipe and 4 its write end.
use Rattle.std.specs.Prelude.{◌≡◌, ℕ, ◌+◌, ◌-◌, ◌^◌, Bool, true, false, List, [], ◌∷◌, ◌++◌, replicate, Some, None, refl}
use Rattle.kernel_core.specs.Nodes.{Nodes}
use Rattle.kernel_core.specs.declared.reply.Reply.{Reply}
use Rattle.kernel_core.specs.declared.reply.Reply.TheVariants as replies
use Rattle.kernel_model.specs.Pipes.{nothing}
use Rattle.kernel_model.specs.Readiness.{poll, ready, select}
use Rattle.kernel_model.specs.State.{Kernel}
use Rattle.layouts.specs.Number.{bytes_of}
use Rattle.native_calls.proofs.rows.Small.{error, number, u32, u64, with_pipe_at, with_pipe_of, zeros}
use Rattle.native_calls.specs.Polls.{ppoll_row, pselect_row}
use Rattle.native_calls.specs.Step.{NativeStep}
use Rattle.native_calls.specs.Table.{native_call}
use Rattle.signal_sets.specs.NativeSets.{bits_where}

abbrev u16 : ℕ → List ℕ
u16 value = bytes_of false 2 value

-- a descriptor, what is asked for and what is told
abbrev entry : ℕ → ℕ → ℕ → List ℕ
entry fd events told = u32 fd ++ u16 events ++ u16 told

abbrev args_of : ℕ → ℕ → ℕ → ℕ → ℕ → ℕ → List ℕ
args_of first second third fourth fifth sixth = first ∷ second ∷ third ∷ fourth ∷ fifth ∷ sixth ∷ []

abbrev sleep_until : ℕ → Reply
sleep_until time = replies.Sleep (record { done = 0; until = Some time })

module _ (whole : Kernel) (nodes : Nodes) where
  abbrev holding : List ℕ → Kernel
  holding bytes = record whole { files = with_pipe_of nodes bytes; clock = 1000 }

  abbrev call : List ℕ → ℕ → List ℕ → List ℕ → NativeStep
  call bytes number args memory = native_call number args (holding bytes) memory []

  abbrev comes : List ℕ → List ℕ → Reply → NativeStep
  comes bytes memory reply = record { kernel = holding bytes; left = []; memory = memory; sent = nothing; reply = reply }

  -- with a pipe without bytes that has a reader or a writer alone

  abbrev with_ends : Bool → Bool → Kernel
  with_ends readers writers = record whole { files = with_pipe_at nodes (record { bytes = []; readers = readers; writers = writers }); clock = 1000 }

  abbrev without_writers : Kernel
  without_writers = with_ends true false

  abbrev without_readers : Kernel
  without_readers = with_ends false true

  abbrev from : Kernel → List ℕ → Reply → NativeStep
  from kernel memory reply = record { kernel = kernel; left = []; memory = memory; sent = nothing; reply = reply }

  abbrev without_end : Reply
  without_end = replies.Sleep (record { done = 0; until = None })

  -- ppoll: IN 1, OUT 4, NVAL 0x20, RDNORM 0x40, WRNORM 0x100; the time stands behind the entries

  -- the first is ready for reading, the second for writing, the third is skipped, and the fourth is closed
  four_entries : call (7 ∷ []) 73 (args_of 65536 4 65568 0 0 0)
      (entry 3 0x41 9 ++ entry 4 0x104 9 ++ entry (2 ^ 32 - 1) 0x41 9 ++ entry 5 0 9 ++ u64 1 ++ u64 5)
      ≡ comes (7 ∷ []) (entry 3 0x41 0x41 ++ entry 4 0x104 0x104 ++ entry (2 ^ 32 - 1) 0x41 0 ++ entry 5 0 0x20 ++ u64 1 ++ u64 5) (number 3)
  unfolding ppoll_row poll ready
  four_entries = refl

  -- what is asked for is told, and no more
  out_alone : call [] 73 (args_of 65536 1 0 0 0 0) (entry 4 4 0) ≡ comes [] (entry 4 4 4) (number 1)
  unfolding ppoll_row poll ready
  out_alone = refl

  -- HUP, 0x10, and ERR, 8, are told unasked

  hang_up_told : native_call 73 (args_of 65536 1 0 0 0 0) without_writers (entry 3 0 9) [] ≡ from without_writers (entry 3 0 0x10) (number 1)
  unfolding ppoll_row poll ready
  hang_up_told = refl

  error_told : native_call 73 (args_of 65536 1 0 0 0 0) without_readers (entry 4 0x104 9) [] ≡ from without_readers (entry 4 0x104 8) (number 1)
  unfolding ppoll_row poll ready
  error_told = refl

  -- of the count the low 32 bits count
  poll_by_low_word : call [] 73 (args_of 65536 (2 ^ 32 + 1) 0 0 0 0) (entry 4 4 0) ≡ comes [] (entry 4 4 4) (number 1)
  unfolding ppoll_row poll ready
  poll_by_low_word = refl

  poll_waits : call [] 73 (args_of 65536 1 65544 0 0 0) (entry 3 1 9 ++ u64 0 ++ u64 5) ≡ comes [] (entry 3 1 9 ++ u64 0 ++ u64 5) (sleep_until 1005)
  unfolding ppoll_row poll ready
  poll_waits = refl

  poll_waits_without_end : call [] 73 (args_of 65536 1 0 0 0 0) (entry 3 1 9) ≡ comes [] (entry 3 1 9) without_end
  unfolding ppoll_row poll ready
  poll_waits_without_end = refl

  poll_at_once : call [] 73 (args_of 65536 1 65544 0 0 0) (entry 3 1 9 ++ u64 0 ++ u64 0) ≡ comes [] (entry 3 1 0 ++ u64 0 ++ u64 0) (number 0)
  unfolding ppoll_row poll ready
  poll_at_once = refl

  -- of no entries nothing is read
  poll_nothing : call [] 73 (args_of 0 0 65536 0 0 0) (u64 0 ++ u64 0) ≡ comes [] (u64 0 ++ u64 0) (number 0)
  unfolding ppoll_row poll
  poll_nothing = refl

  poll_nothing_without_end : call [] 73 (args_of 0 0 0 0 0 0) [] ≡ comes [] [] without_end
  unfolding ppoll_row poll
  poll_nothing_without_end = refl

  -- a mask of 16 bytes may be any
  poll_with_mask : call (7 ∷ []) 73 (args_of 65536 1 0 65544 16 0) (entry 3 1 0 ++ replicate 16 255) ≡ comes (7 ∷ []) (entry 3 1 1 ++ replicate 16 255) (number 1)
  unfolding ppoll_row poll ready
  poll_with_mask = refl

  -- the time is read and looked at first, then the mask, the count and the entries

  poll_time_unreadable : call [] 73 (args_of 0 1025 1 1 8 0) [] ≡ comes [] [] (error 14)
  unfolding ppoll_row poll
  poll_time_unreadable = refl

  poll_time_wrong : call [] 73 (args_of 0 1025 65536 1 8 0) (u64 0 ++ u64 1_000_000_000) ≡ comes [] (u64 0 ++ u64 1_000_000_000) (error 22)
  unfolding ppoll_row poll
  poll_time_wrong = refl

  poll_mask_of_8 : call [] 73 (args_of 0 1025 0 1 8 0) [] ≡ comes [] [] (error 22)
  unfolding ppoll_row poll
  poll_mask_of_8 = refl

  -- of the size all 64 bits count
  poll_mask_of_long_size : call [] 73 (args_of 65536 1 0 65544 (2 ^ 32 + 16) 0) (entry 4 4 0 ++ zeros 16) ≡ comes [] (entry 4 4 0 ++ zeros 16) (error 22)
  unfolding ppoll_row poll
  poll_mask_of_long_size = refl

  poll_mask_unreadable : call [] 73 (args_of 0 1025 0 1 16 0) [] ≡ comes [] [] (error 14)
  unfolding ppoll_row poll
  poll_mask_unreadable = refl

  poll_too_many : call [] 73 (args_of 0 1025 0 0 8 0) [] ≡ comes [] [] (error 22)
  unfolding ppoll_row poll
  poll_too_many = refl

  -- 1024 are not too many, and are read
  poll_1024 : call [] 73 (args_of 65536 1024 0 0 0 0) [] ≡ comes [] [] (error 14)
  unfolding ppoll_row poll
  poll_1024 = refl

  -- the time left is stored at an error too: a deadline is at most 2^63 - 1
  poll_unreadable : call [] 73 (args_of 0 1 65536 0 0 0) (u64 (2 ^ 40) ++ u64 0) ≡ comes [] (u64 9_223_372_036 ++ u64 854_774_807) (error 14)
  unfolding ppoll_row poll
  poll_unreadable = refl

  poll_mask_of_8_in_time : call [] 73 (args_of 0 0 65536 1 8 0) (u64 (2 ^ 40) ++ u64 0) ≡ comes [] (u64 9_223_372_036 ++ u64 854_774_807) (error 22)
  unfolding ppoll_row poll
  poll_mask_of_8_in_time = refl

  poll_too_many_in_time : call [] 73 (args_of 0 1025 65536 0 0 0) (u64 (2 ^ 40) ++ u64 0) ≡ comes [] (u64 9_223_372_036 ++ u64 854_774_807) (error 22)
  unfolding ppoll_row poll
  poll_too_many_in_time = refl

  -- pselect6: the sets for reading and writing stand at 65536 and 65544, and the time behind them

  -- 3 is ready for reading, and 4 for writing; exceptions are none
  three_sets : call (7 ∷ []) 72 (args_of 5 65536 65544 65552 65560 0) (u64 8 ++ u64 16 ++ u64 24 ++ u64 1 ++ u64 5)
      ≡ comes (7 ∷ []) (u64 8 ++ u64 16 ++ u64 0 ++ u64 1 ++ u64 5) (number 2)
  unfolding pselect_row select ready bits_where
  three_sets = refl

  -- descriptors from the count on are not looked at, and are told as none
  not_counted : call (7 ∷ []) 72 (args_of 4 65536 0 0 0 0) (u64 (2 ^ 63 + 8)) ≡ comes (7 ∷ []) (u64 8) (number 1)
  unfolding pselect_row select ready bits_where
  not_counted = refl

  -- 65 descriptors need two words
  two_words : call (7 ∷ []) 72 (args_of 65 65536 0 0 0 0) (u64 8 ++ zeros 8) ≡ comes (7 ∷ []) (u64 8 ++ zeros 8) (number 1)
  unfolding pselect_row select ready bits_where
  two_words = refl

  write_set_alone : call [] 72 (args_of 5 0 65536 0 0 0) (u64 16) ≡ comes [] (u64 16) (number 1)
  unfolding pselect_row select ready bits_where
  write_set_alone = refl

  -- an end that hung up can be read, and one in error written

  hang_up_read : native_call 72 (args_of 4 65536 0 0 0 0) without_writers (u64 8) [] ≡ from without_writers (u64 8) (number 1)
  unfolding pselect_row select ready bits_where
  hang_up_read = refl

  error_written : native_call 72 (args_of 5 0 65536 0 0 0) without_readers (u64 16) [] ≡ from without_readers (u64 16) (number 1)
  unfolding pselect_row select ready bits_where
  error_written = refl

  -- a mask of 16 bytes may be any: the pair stands behind the set, and the mask behind the pair
  select_with_mask : call (7 ∷ []) 72 (args_of 4 65536 0 0 0 65544) (u64 8 ++ u64 65560 ++ u64 16 ++ replicate 16 255)
      ≡ comes (7 ∷ []) (u64 8 ++ u64 65560 ++ u64 16 ++ replicate 16 255) (number 1)
  unfolding pselect_row select ready bits_where
  select_with_mask = refl

  -- of the count the low 32 bits count
  select_by_low_word : call (7 ∷ []) 72 (args_of (2 ^ 32 + 4) 65536 0 0 0 0) (u64 8) ≡ comes (7 ∷ []) (u64 8) (number 1)
  unfolding pselect_row select ready bits_where
  select_by_low_word = refl

  -- a count above 1024 is 1024, whose sets have 128 bytes

  select_2000 : call (7 ∷ []) 72 (args_of 2000 65536 0 0 0 0) (u64 8 ++ zeros 120 ++ 7 ∷ []) ≡ comes (7 ∷ []) (u64 8 ++ zeros 120 ++ 7 ∷ []) (number 1)
  unfolding pselect_row select ready bits_where
  select_2000 = refl

  select_2000_unreadable : call [] 72 (args_of 2000 65536 0 0 0 0) (zeros 127) ≡ comes [] (zeros 127) (error 14)
  unfolding pselect_row select
  select_2000_unreadable = refl

  select_1024_unreadable : call [] 72 (args_of 1024 65536 0 0 0 0) (zeros 127) ≡ comes [] (zeros 127) (error 14)
  unfolding pselect_row select
  select_1024_unreadable = refl

  select_waits : call [] 72 (args_of 4 65536 0 0 65544 0) (u64 8 ++ u64 0 ++ u64 5) ≡ comes [] (u64 8 ++ u64 0 ++ u64 5) (sleep_until 1005)
  unfolding pselect_row select ready
  select_waits = refl

  select_waits_without_end : call [] 72 (args_of 4 65536 0 0 0 0) (u64 8) ≡ comes [] (u64 8) without_end
  unfolding pselect_row select ready
  select_waits_without_end = refl

  -- of no counted descriptors nothing is read
  select_nothing : call [] 72 (args_of 0 1 1 1 65536 0) (u64 0 ++ u64 5) ≡ comes [] (u64 0 ++ u64 5) (sleep_until 1005)
  unfolding pselect_row select
  select_nothing = refl

  select_at_once : call [] 72 (args_of 4 65536 0 0 65544 0) (u64 8 ++ u64 0 ++ u64 0) ≡ comes [] (zeros 24) (number 0)
  unfolding pselect_row select ready bits_where
  select_at_once = refl

  -- the pair of a mask and its size is read first, then the time, then the mask; then come the count and the sets

  pair_unreadable : call [] 72 (args_of (2 ^ 64 - 1) 1 0 0 1 65537) (zeros 16) ≡ comes [] (zeros 16) (error 14)
  unfolding pselect_row select
  pair_unreadable = refl

  select_time_wrong : call [] 72 (args_of (2 ^ 64 - 1) 1 0 0 65552 65536) (u64 1 ++ u64 8 ++ u64 (2 ^ 64 - 1) ++ u64 0)
      ≡ comes [] (u64 1 ++ u64 8 ++ u64 (2 ^ 64 - 1) ++ u64 0) (error 22)
  unfolding pselect_row select
  select_time_wrong = refl

  select_mask_of_8 : call [] 72 (args_of (2 ^ 64 - 1) 1 0 0 0 65536) (u64 1 ++ u64 8) ≡ comes [] (u64 1 ++ u64 8) (error 22)
  unfolding pselect_row select
  select_mask_of_8 = refl

  select_mask_of_long_size : call [] 72 (args_of 0 0 0 0 0 65536) (u64 65536 ++ u64 (2 ^ 32 + 16)) ≡ comes [] (u64 65536 ++ u64 (2 ^ 32 + 16)) (error 22)
  unfolding pselect_row select
  select_mask_of_long_size = refl

  select_mask_unreadable : call [] 72 (args_of (2 ^ 64 - 1) 1 0 0 0 65536) (u64 1 ++ u64 16) ≡ comes [] (u64 1 ++ u64 16) (error 14)
  unfolding pselect_row select
  select_mask_unreadable = refl

  -- without a mask its size may be any
  count_below_zero : call [] 72 (args_of (2 ^ 64 - 1) 1 0 0 0 65536) (u64 0 ++ u64 8) ≡ comes [] (u64 0 ++ u64 8) (error 22)
  unfolding pselect_row select
  count_below_zero = refl

  set_unreadable : call [] 72 (args_of 65 65536 0 0 0 0) (zeros 8) ≡ comes [] (zeros 8) (error 14)
  unfolding pselect_row select
  set_unreadable = refl

  write_set_unreadable : call [] 72 (args_of 4 0 1 0 0 0) [] ≡ comes [] [] (error 14)
  unfolding pselect_row select
  write_set_unreadable = refl

  except_set_unreadable : call [] 72 (args_of 4 0 0 1 0 0) [] ≡ comes [] [] (error 14)
  unfolding pselect_row select
  except_set_unreadable = refl

  select_time_unreadable : call [] 72 (args_of 0 0 0 0 1 0) [] ≡ comes [] [] (error 14)
  unfolding pselect_row select
  select_time_unreadable = refl

  -- the time left is stored with EBADF too
  set_with_closed : call [] 72 (args_of 6 65536 0 0 65544 0) (u64 32 ++ u64 (2 ^ 40) ++ u64 0) ≡ comes [] (u64 32 ++ u64 9_223_372_036 ++ u64 854_774_807) (error 9)
  unfolding pselect_row select
  set_with_closed = refl
