-- What each call keeps: it moves nothing where it fails, but for a time left, and host memory has the length that it had.
use Rattle.std.proofs.Common.{◌≡◌, ℕ, ◌+◌, ◌-◌, ◌==◌, ◌∙◌, Bool, true, false, List, [], ◌∷◌, length, refl, sym, ap, subst, inl, inr}
use Rattle.std.proofs.lemmas.Bool.{eqb-true}
use Rattle.std.specs.Prelude.{◌⊎◌, ℤ, count_by, Option, Some, None, Ok, Err, if◌then◌else◌, ⊤}
use Rattle.host_mem.specs.Memory.{first_address, is_inside, replaced, written}
use Rattle.kernel_core.specs.declared.error.Errno.TheVariants.{EFAULT, ENOSYS}
use Rattle.kernel_core.specs.declared.request.Request.{Request}
use Rattle.kernel_core.specs.declared.request.Request.TheVariants as requests
use Rattle.kernel_model.proofs.refusals.TransferRefusals.{read_stays, write_stays}
use Rattle.kernel_model.specs.Came.{Came, Done, Refused, Waits, Did, Given, done, refused}
use Rattle.kernel_model.specs.Clock.{left_of_wait, now}
use Rattle.kernel_model.specs.Readiness.{Sets, counted_fds, is_any, set_count}
use Rattle.kernel_model.specs.Shared.{Info, PollSet}
use Rattle.layouts.specs.Number.{bytes_of}
use Rattle.number_tables.specs.PollNumbers.{native_poll}
use Rattle.number_tables.specs.Signals.{native_signal}
use Rattle.kernel_model.specs.Laws.{StaysAt}
use Rattle.kernel_model.specs.Pipes.{nothing}
use Rattle.kernel_model.specs.SignalRows.{own_id, parent_id}
use Rattle.kernel_model.specs.State.{Kernel, Files}
use Rattle.kernel_model.specs.Transfers.{Reading, Writing, reading, writing, read, write}
use Rattle.kernel_model.specs.Whole.{kernel_read, kernel_write}
use Rattle.native_calls.proofs.Lengths.{written_length, all_written_length}
use Rattle.native_calls.specs.Arguments.{argument, word, signed_word}
use Rattle.native_calls.specs.Descriptors.{descriptor_calls, close_row, dup_row, dup3_row, pipe2_row, fcntl_row}
use Rattle.native_calls.specs.HostBytes.{vector, asked, buffers}
use Rattle.native_calls.specs.Ids.{id_calls, getpid_row, getppid_row}
use Rattle.native_calls.specs.Laws.{IsFailure, StoresTimeLeft, MovesNothing, KeepsStreams}
use Rattle.native_calls.specs.Clocks.{clock_calls, nanosleep_row, getitimer_row, setitimer_row, clock_gettime_row, clock_getres_row, clock_nanosleep_row}
use Rattle.native_calls.specs.Signals.{signal_calls, accepts, kill_row, tkill_row, tgkill_row, sigaltstack_row, rt_sigsuspend_row, rt_sigaction_row, rt_sigprocmask_row, rt_sigpending_row, rt_sigtimedwait_row, rt_sigqueueinfo_row}
use Rattle.native_calls.specs.SignalBytes.{info_bytes}
use Rattle.native_calls.specs.Times.{time_bytes}
use Rattle.native_calls.specs.Polls.{poll_calls, SetPlaces, after_argument, at_end, fds_bytes, mask_argument_at, polled, selected, wait_at, waits_for, with_left, with_time_left, pselect_row, ppoll_row}
use Rattle.native_calls.specs.Names.{name_calls, openat_row, mkdirat_row, symlinkat_row, unlinkat_row, linkat_row, renameat_row, readlinkat_row}
use Rattle.native_calls.specs.Nodes.{node_calls, truncate_row, ftruncate_row, faccessat_row, fchmod_row, fchmodat_row, newfstatat_row, utimensat_row, chdir_row, fchdir_row, getcwd_row, umask_row}
use Rattle.native_calls.specs.System.{system_calls, uname_row, prlimit_row, getrandom_row}
use Rattle.native_calls.specs.Status.{status_calls, lseek_row, fstat_row, sync_row, getdents_row}
use Rattle.native_calls.specs.Step.{NativeStep, NativeCall, value, failure, reply_to, memory_after, gives, stored, stores, fills, counted, counts, told_unless_null, stored_unless_null, stores_unless_null}
use Rattle.native_calls.specs.Table.{call_in, call_of, step_of, native_call}
use Rattle.native_calls.specs.Terminal.{terminal_calls, ioctl_row, requested}
use Rattle.native_calls.specs.Transfers.{transfer_calls, after_read, after_write, read_row, readv_row, pread_row, write_row, writev_row, pwrite_row}

-- Steps

-- what a step keeps of host memory and of what is left of the input
pub record Keeps (number : ℕ) (memory left : List ℕ) (step : NativeStep) : Type 0 where
  pub quiet : IsFailure step.reply → MovesNothing memory left step ⊎ StoresTimeLeft number memory step
  pub still : IsFailure step.reply → KeepsStreams left step
  pub long : length step.memory ≡ length memory

gives_keeps : (number : ℕ) (memory : List ℕ) (did : Did Kernel ℕ) (left : List ℕ) → Keeps number memory left (gives memory did left)
gives_keeps number memory did left = record {
  quiet = λ failed. inl (record { stored = refl; rest = refl; sent = refl });
  still = λ failed. record { rest = refl; sent = refl };
  long = refl;
}

kept_unless : (room : Bool) (count : ℕ) (changed memory : List ℕ) → IsFailure (if room then value count else failure EFAULT)
    → (if room then changed else memory) ≡ memory
kept_unless true count changed memory failed = absurd failed
kept_unless false count changed memory failed = refl

kept_unless_null : (null room : Bool) (count : ℕ) (changed memory : List ℕ)
    → IsFailure (if null then value count else if room then value count else failure EFAULT) → (if room then changed else memory) ≡ memory
kept_unless_null true room count changed memory failed = absurd failed
kept_unless_null false room count changed memory failed = kept_unless room count changed memory failed

stored_quiet : (memory : List ℕ) (address : ℕ) (came : Came (List ℕ)) → IsFailure (reply_to (stored memory address) came)
    → memory_after (written memory address) memory came ≡ memory
stored_quiet memory address (Done bytes) failed =
    kept_unless (is_inside memory address (length bytes)) 0 (replaced memory (address - first_address) bytes) memory failed
stored_quiet memory address (Refused error) failed = refl
stored_quiet memory address (Waits wake) failed = refl

-- bytes that keep the length of memory wherever they are stored
abbrev KeepsLength : List ℕ → (List ℕ → List ℕ) → Type 0
KeepsLength memory with_bytes = (bytes : List ℕ) → length (with_bytes bytes) ≡ length memory

after_long : (memory : List ℕ) (with_bytes : List ℕ → List ℕ) (came : Came (List ℕ)) → KeepsLength memory with_bytes
    → length (memory_after with_bytes memory came) ≡ length memory
after_long memory with_bytes (Done bytes) long = long bytes
after_long memory with_bytes (Refused error) long = refl
after_long memory with_bytes (Waits wake) long = refl

stores_keeps : (number : ℕ) (memory : List ℕ) (address : ℕ) (did : Did Kernel (List ℕ)) (left : List ℕ) → Keeps number memory left (stores memory address did left)
stores_keeps number memory address did left = record {
  quiet = λ failed. inl (record { stored = stored_quiet memory address did.came failed; rest = refl; sent = refl });
  still = λ failed. record { rest = refl; sent = refl };
  long = after_long memory (written memory address) did.came (written_length memory address);
}

counted_quiet : (memory : List ℕ) (address : ℕ) (came : Came (List ℕ)) → IsFailure (reply_to (counted memory address) came)
    → memory_after (written memory address) memory came ≡ memory
counted_quiet memory address (Done bytes) failed =
    kept_unless (is_inside memory address (length bytes)) (length bytes) (replaced memory (address - first_address) bytes) memory failed
counted_quiet memory address (Refused error) failed = refl
counted_quiet memory address (Waits wake) failed = refl

counts_keeps : (number : ℕ) (memory : List ℕ) (address : ℕ) (did : Did Kernel (List ℕ)) (left : List ℕ) → Keeps number memory left (counts memory address did left)
counts_keeps number memory address did left = record {
  quiet = λ failed. inl (record { stored = counted_quiet memory address did.came failed; rest = refl; sent = refl });
  still = λ failed. record { rest = refl; sent = refl };
  long = after_long memory (written memory address) did.came (written_length memory address);
}

old_quiet : (memory : List ℕ) (address : ℕ) (came : Came (List ℕ)) → IsFailure (reply_to (stored_unless_null memory address) came)
    → memory_after (written memory address) memory came ≡ memory
old_quiet memory address (Done bytes) failed =
    kept_unless_null (address == 0) (is_inside memory address (length bytes)) 0 (replaced memory (address - first_address) bytes) memory failed
old_quiet memory address (Refused error) failed = refl
old_quiet memory address (Waits wake) failed = refl

old_keeps : (number : ℕ) (memory : List ℕ) (address : ℕ) (did : Did Kernel (List ℕ)) (left : List ℕ) → Keeps number memory left (stores_unless_null memory address did left)
old_keeps number memory address did left = record {
  quiet = λ failed. inl (record { stored = old_quiet memory address did.came failed; rest = refl; sent = refl });
  still = λ failed. record { rest = refl; sent = refl };
  long = after_long memory (written memory address) did.came (written_length memory address);
}

filled_quiet : (with_bytes : List ℕ → List ℕ) (memory : List ℕ) (came : Came (List ℕ)) → IsFailure (reply_to (λ bytes. value (length bytes)) came)
    → memory_after with_bytes memory came ≡ memory
filled_quiet with_bytes memory (Done bytes) failed = absurd failed
filled_quiet with_bytes memory (Refused error) failed = refl
filled_quiet with_bytes memory (Waits wake) failed = refl

fills_keeps : (number : ℕ) (with_bytes : List ℕ → List ℕ) (memory : List ℕ) (did : Did Kernel (List ℕ)) (left : List ℕ) → KeepsLength memory with_bytes
    → Keeps number memory left (fills with_bytes memory did left)
fills_keeps number with_bytes memory did left long = record {
  quiet = λ failed. inl (record { stored = filled_quiet with_bytes memory did.came failed; rest = refl; sent = refl });
  still = λ failed. record { rest = refl; sent = refl };
  long = after_long memory with_bytes did.came long;
}

accepted_quiet : (memory : List ℕ) (address : ℕ) (came : Came Info)
    → IsFailure (reply_to (λ info. told_unless_null memory address (info_bytes info) (native_signal info.sig)) came)
    → memory_after (λ info. written memory address (info_bytes info)) memory came ≡ memory
accepted_quiet memory address (Done info) failed =
    kept_unless_null (address == 0) (is_inside memory address (length (info_bytes info))) (native_signal info.sig)
    (replaced memory (address - first_address) (info_bytes info)) memory failed
accepted_quiet memory address (Refused error) failed = refl
accepted_quiet memory address (Waits wake) failed = refl

accepted_long : (memory : List ℕ) (address : ℕ) (came : Came Info)
    → length (memory_after (λ info. written memory address (info_bytes info)) memory came) ≡ length memory
accepted_long memory address (Done info) = written_length memory address (info_bytes info)
accepted_long memory address (Refused error) = refl
accepted_long memory address (Waits wake) = refl

accepts_keeps : (number : ℕ) (memory : List ℕ) (address : ℕ) (did : Did Kernel Info) (left : List ℕ)
    → Keeps number memory left (accepts memory address did left)
accepts_keeps number memory address did left = record {
  quiet = λ failed. inl (record { stored = accepted_quiet memory address did.came failed; rest = refl; sent = refl });
  still = λ failed. record { rest = refl; sent = refl };
  long = accepted_long memory address did.came;
}

-- Waiting for descriptors

polled_length : (address : ℕ) (memory : List ℕ) (events : List PollSet) → length (polled address memory events) ≡ length memory
polled_length address memory [] = refl
polled_length address memory (first ∷ more) =
    polled_length (address + 8) (written memory (address + 6) (bytes_of false 2 (native_poll first))) more
    ∙ written_length memory (address + 6) (bytes_of false 2 (native_poll first))

selected_length : (count : ℕ) (places : SetPlaces) (memory : List ℕ) (sets : Sets) → length (selected count places memory sets) ≡ length memory
selected_length count places memory sets =
    let first = written memory places.read (fds_bytes count sets.read) in
    let second = written first places.write (fds_bytes count sets.write) in
    written_length second places.except (fds_bytes count sets.except)
    ∙ (written_length first places.write (fds_bytes count sets.write) ∙ written_length memory places.read (fds_bytes count sets.read))

with_left_length : (memory : List ℕ) (time : ℕ) (found : Option ℕ) → length (with_left memory time found) ≡ length memory
with_left_length memory time None = refl
with_left_length memory time (Some left) = written_length memory time (time_bytes left)

time_left_length : (kernel : Kernel) (time : ℕ) (wait : Given (Option ℕ)) (memory : List ℕ) → length (with_time_left kernel time wait memory) ≡ length memory
time_left_length kernel time (Err error) memory = refl
time_left_length kernel time (Ok length) memory = with_left_length memory time (left_of_wait kernel kernel.clock length)

-- where a call fails, memory has the time left at some place, or nothing more, as where it goes to none
record StoresSome (memory after : List ℕ) : Type 0 where
  pub time : ℕ
  pub remaining : ℕ
  pub stored : after ≡ written memory time (time_bytes remaining)

some_left : (memory : List ℕ) (time : ℕ) (found : Option ℕ) → StoresSome memory (with_left memory time found)
some_left memory time None = record { time = 0; remaining = 0; stored = refl }
some_left memory time (Some left) = record { time = time; remaining = left; stored = refl }

some_time_left : (kernel : Kernel) (time : ℕ) (wait : Given (Option ℕ)) (memory : List ℕ) → StoresSome memory (with_time_left kernel time wait memory)
some_time_left kernel time (Err error) memory = record { time = 0; remaining = 0; stored = refl }
some_time_left kernel time (Ok length) memory = some_left memory time (left_of_wait kernel kernel.clock length)

module _ {V : Type 0} (store : V → List ℕ) (count : V → ℕ) (kernel : Kernel) (time : ℕ) (wait : Given (Option ℕ)) (memory : List ℕ)
    (stored : (found : V) → length (store found) ≡ length memory) where
  abbrev after : List ℕ → List ℕ
  after bytes = with_time_left kernel time wait bytes

  end_length : (came : Came V) → length (at_end after (memory_after store memory came) came) ≡ length memory
  end_length (Done found) = time_left_length kernel time wait (store found) ∙ stored found
  end_length (Refused error) = time_left_length kernel time wait memory
  end_length (Waits wake) = refl

  end_stores : (came : Came V) → IsFailure (reply_to (λ found. value (count found)) came)
      → StoresSome memory (at_end after (memory_after store memory came) came)
  end_stores (Done found) failed = absurd failed
  end_stores (Refused error) failed = some_time_left kernel time wait memory
  end_stores (Waits wake) failed = absurd failed

  waits_for_keeps : (number : ℕ) → (number ≡ 72) ⊎ (number ≡ 73) → (did : Did Kernel V) (left : List ℕ)
      → Keeps number memory left (waits_for store count after memory did left)
  waits_for_keeps number own did left = record {
    quiet = λ failed.
        let some = end_stores did.came failed in
        inr (record { own = own; time = some.time; remaining = some.remaining; stored = some.stored });
    still = λ failed. record { rest = refl; sent = refl };
    long = end_length did.came;
  }

-- Transfers

left_quiet : (files : Files) (left : List ℕ) (state : Reading) (came : Came (List ℕ)) → StaysAt (reading left files) state came
    → IsFailure (reply_to (λ bytes. value (length bytes)) came) → state.left ≡ left
left_quiet files left state (Done bytes) stays failed = absurd failed
left_quiet files left state (Refused error) stays failed = ap (λ (r : Reading). r.left) stays
left_quiet files left state (Waits wake) stays failed = absurd failed

after_read_keeps : (number : ℕ) (kernel : Kernel) (with_bytes : List ℕ → List ℕ) (memory left : List ℕ) (fd : ℕ) (asked : Given ℕ) (room : ℕ)
    → KeepsLength memory with_bytes → Keeps number memory left (after_read with_bytes memory (kernel_read kernel left fd asked room))
unfolding kernel_read
after_read_keeps number kernel with_bytes memory left fd asked room long =
    let did = read kernel.files left fd asked room in
    record {
      quiet = λ failed. inl (record {
        stored = filled_quiet with_bytes memory did.came failed;
        rest = left_quiet kernel.files left did.state did.came (read_stays kernel.files left fd asked room).stays failed;
        sent = refl;
      });
      still = λ failed. record {
        rest = left_quiet kernel.files left did.state did.came (read_stays kernel.files left fd asked room).stays failed;
        sent = refl;
      };
      long = after_long memory with_bytes did.came long;
    }

sent_quiet : (files : Files) (state : Writing) (came : Came ℕ) → StaysAt (writing files) state came → IsFailure (reply_to value came)
    → state.sent ≡ nothing
sent_quiet files state (Done count) stays failed = absurd failed
sent_quiet files state (Refused error) stays failed = ap (λ (w : Writing). w.sent) stays
sent_quiet files state (Waits wake) stays failed = absurd failed

after_write_keeps : (number : ℕ) (kernel : Kernel) (memory left : List ℕ) (fd : ℕ) (asked : Given ℕ) (bytes : List ℕ)
    → Keeps number memory left (after_write memory (kernel_write kernel None fd asked bytes) left)
unfolding kernel_write
after_write_keeps number kernel memory left fd asked bytes =
    let did = write kernel.files None (now kernel) fd asked bytes in
    record {
      quiet = λ failed. inl (record {
        stored = refl;
        rest = refl;
        sent = sent_quiet kernel.files did.state did.came (write_stays kernel.files None (now kernel) fd asked bytes).stays failed;
      });
      still = λ failed. record {
        rest = refl;
        sent = sent_quiet kernel.files did.state did.came (write_stays kernel.files None (now kernel) fd asked bytes).stays failed;
      };
      long = refl;
    }

-- The requests of ioctl

requested_keeps : (number : ℕ) (kernel : Kernel) (memory : List ℕ) (fd address : ℕ) (left : List ℕ) (request : Option Request)
    → Keeps number memory left (requested kernel memory fd address left request)
requested_keeps number kernel memory fd address left None = search gives_keeps
requested_keeps number kernel memory fd address left (Some requests.Tcgets) = search stores_keeps
requested_keeps number kernel memory fd address left (Some requests.Tcsets) = search gives_keeps
requested_keeps number kernel memory fd address left (Some requests.Tcsetsw) = search gives_keeps
requested_keeps number kernel memory fd address left (Some requests.Tcsetsf) = search gives_keeps
requested_keeps number kernel memory fd address left (Some requests.Tiocgwinsz) = search stores_keeps
requested_keeps number kernel memory fd address left (Some requests.Fionread) = search stores_keeps
requested_keeps number kernel memory fd address left (Some requests.Fionbio) = search gives_keeps
requested_keeps number kernel memory fd address left (Some requests.Fioclex) = search gives_keeps
requested_keeps number kernel memory fd address left (Some requests.Fionclex) = search gives_keeps

-- Calls of the table

record CallKeeps (number : ℕ) (call : NativeCall) : Type 0 where
  pub keeps : (args : List ℕ) (kernel : Kernel) (memory left : List ℕ) → Keeps number memory left (call.step args kernel memory left)

abbrev CallsKeep : List NativeCall → Type 0
CallsKeep [] = ⊤
CallsKeep (call ∷ calls) = CallKeeps call.number call × CallsKeep calls

abbrev KeepsIfAny : ℕ → Option NativeCall → Type 0
KeepsIfAny number None = ⊤
KeepsIfAny number (Some call) = CallKeeps number call

found_keeps : (found : Bool) (number : ℕ) (call : NativeCall) (otherwise : Option NativeCall) → (number == call.number) ≡ found
    → CallKeeps call.number call → KeepsIfAny number otherwise → KeepsIfAny number (if found then Some call else otherwise)
found_keeps true number call otherwise e keeps others = subst (λ n. CallKeeps n call) (sym (eqb-true number call.number e)) keeps
found_keeps false number call otherwise e keeps others = others

in_keeps : (calls : List NativeCall) (otherwise : Option NativeCall) (number : ℕ) → CallsKeep calls → KeepsIfAny number otherwise
    → KeepsIfAny number (call_in calls otherwise number)
in_keeps [] otherwise number keeps others = others
in_keeps (call ∷ calls) otherwise number keeps others =
    found_keeps (number == call.number) number call (call_in calls otherwise number) refl keeps.0 (in_keeps calls otherwise number keeps.1 others)

descriptors_keep : CallsKeep descriptor_calls
unfolding dup_row dup3_row fcntl_row close_row pipe2_row
descriptors_keep = (
  record { keeps = λ args kernel memory left. search gives_keeps },
  (
    record { keeps = λ args kernel memory left. search gives_keeps },
    (
      record { keeps = λ args kernel memory left. search gives_keeps },
      (
        record { keeps = λ args kernel memory left. search gives_keeps },
        (
          record { keeps = λ args kernel memory left. search stores_keeps },
          tt,
        ),
      ),
    ),
  ),
)

terminal_keeps : CallsKeep terminal_calls
unfolding ioctl_row
terminal_keeps = (record { keeps = λ args kernel memory left. search requested_keeps }, tt)

transfers_keep : CallsKeep transfer_calls
unfolding read_row write_row readv_row writev_row pread_row pwrite_row
transfers_keep = (
  record { keeps = λ args kernel memory left. after_read_keeps _ kernel _ memory left _ _ _ (written_length memory _) },
  (
    record { keeps = λ args kernel memory left. after_write_keeps _ kernel memory left _ _ _ },
    (
      record {
        keeps = λ args kernel memory left. after_read_keeps _ kernel _ memory left _ _ _
            (all_written_length memory (buffers (vector memory (argument args 1) (argument args 2))));
      },
      (
        record { keeps = λ args kernel memory left. after_write_keeps _ kernel memory left _ _ _ },
        (
          record { keeps = λ args kernel memory left. search (fills_keeps, written_length) },
          (
            record { keeps = λ args kernel memory left. search gives_keeps },
            tt,
          ),
        ),
      ),
    ),
  ),
)

status_keep : CallsKeep status_calls
unfolding lseek_row fstat_row sync_row getdents_row
status_keep = (
  record { keeps = λ args kernel memory left. search (fills_keeps, written_length) },
  (
    record { keeps = λ args kernel memory left. search gives_keeps },
    (
      record { keeps = λ args kernel memory left. search stores_keeps },
      (
        record { keeps = λ args kernel memory left. search gives_keeps },
        (
          record { keeps = λ args kernel memory left. search gives_keeps },
          tt,
        ),
      ),
    ),
  ),
)

ids_keep : CallsKeep id_calls
unfolding getpid_row getppid_row
ids_keep = (
  record { keeps = λ args kernel memory left. gives_keeps 172 memory (done kernel own_id) left },
  (
    record { keeps = λ args kernel memory left. gives_keeps 173 memory (done kernel parent_id) left },
    tt,
  ),
)

names_keep : CallsKeep name_calls
unfolding openat_row mkdirat_row symlinkat_row unlinkat_row linkat_row renameat_row readlinkat_row
names_keep = (
  record { keeps = λ args kernel memory left. search gives_keeps },
  (
    record { keeps = λ args kernel memory left. search gives_keeps },
    (
      record { keeps = λ args kernel memory left. search gives_keeps },
      (
        record { keeps = λ args kernel memory left. search gives_keeps },
        (
          record { keeps = λ args kernel memory left. search gives_keeps },
          (
            record { keeps = λ args kernel memory left. search gives_keeps },
            (
              record { keeps = λ args kernel memory left. search counts_keeps },
              tt,
            ),
          ),
        ),
      ),
    ),
  ),
)

nodes_keep : CallsKeep node_calls
unfolding truncate_row ftruncate_row faccessat_row fchmod_row fchmodat_row newfstatat_row utimensat_row chdir_row fchdir_row getcwd_row umask_row
nodes_keep = (
  record { keeps = λ args kernel memory left. search counts_keeps },
  (
    record { keeps = λ args kernel memory left. search gives_keeps },
    (
      record { keeps = λ args kernel memory left. search gives_keeps },
      (
        record { keeps = λ args kernel memory left. search gives_keeps },
        (
          record { keeps = λ args kernel memory left. search gives_keeps },
          (
            record { keeps = λ args kernel memory left. search gives_keeps },
            (
              record { keeps = λ args kernel memory left. search gives_keeps },
              (
                record { keeps = λ args kernel memory left. search gives_keeps },
                (
                  record { keeps = λ args kernel memory left. search stores_keeps },
                  (
                    record { keeps = λ args kernel memory left. search gives_keeps },
                    (
                      record { keeps = λ args kernel memory left. search gives_keeps },
                      tt,
                    ),
                  ),
                ),
              ),
            ),
          ),
        ),
      ),
    ),
  ),
)

system_keep : CallsKeep system_calls
unfolding uname_row prlimit_row getrandom_row
system_keep = (
  record { keeps = λ args kernel memory left. search stores_keeps },
  (
    record { keeps = λ args kernel memory left. search old_keeps },
    (
      record { keeps = λ args kernel memory left. search (fills_keeps, written_length) },
      tt,
    ),
  ),
)

clocks_keep : CallsKeep clock_calls
unfolding nanosleep_row getitimer_row setitimer_row clock_gettime_row clock_getres_row clock_nanosleep_row
clocks_keep = (
  record { keeps = λ args kernel memory left. search gives_keeps },
  (
    record { keeps = λ args kernel memory left. search stores_keeps },
    (
      record { keeps = λ args kernel memory left. search old_keeps },
      (
        record { keeps = λ args kernel memory left. search stores_keeps },
        (
          record { keeps = λ args kernel memory left. search old_keeps },
          (
            record { keeps = λ args kernel memory left. search gives_keeps },
            tt,
          ),
        ),
      ),
    ),
  ),
)

signals_keep : CallsKeep signal_calls
unfolding kill_row tkill_row tgkill_row sigaltstack_row rt_sigsuspend_row rt_sigaction_row rt_sigprocmask_row rt_sigpending_row rt_sigtimedwait_row rt_sigqueueinfo_row
signals_keep = (
  record { keeps = λ args kernel memory left. search gives_keeps },
  (
    record { keeps = λ args kernel memory left. search gives_keeps },
    (
      record { keeps = λ args kernel memory left. search gives_keeps },
      (
        record { keeps = λ args kernel memory left. search old_keeps },
        (
          record { keeps = λ args kernel memory left. search gives_keeps },
          (
            record { keeps = λ args kernel memory left. search old_keeps },
            (
              record { keeps = λ args kernel memory left. search old_keeps },
              (
                record { keeps = λ args kernel memory left. search stores_keeps },
                (
                  record { keeps = λ args kernel memory left. search accepts_keeps },
                  (
                    record { keeps = λ args kernel memory left. search gives_keeps },
                    tt,
                  ),
                ),
              ),
            ),
          ),
        ),
      ),
    ),
  ),
)

pselect_keeps : (kernel : Kernel) (memory : List ℕ) (count : ℤ) (places : SetPlaces) (time argument : ℕ) (left : List ℕ)
    → Keeps 72 memory left (pselect_row kernel memory count places time argument left)
unfolding pselect_row
pselect_keeps kernel memory count places time argument left =
    let wait = after_argument (mask_argument_at memory argument) (wait_at memory time) in
    waits_for_keeps (selected (counted_fds count) places memory) set_count kernel time wait memory
    (selected_length (counted_fds count) places memory) 72 (inl refl) _ left

ppoll_keeps : (kernel : Kernel) (memory : List ℕ) (address count time mask size : ℕ) (left : List ℕ)
    → Keeps 73 memory left (ppoll_row kernel memory address count time mask size left)
unfolding ppoll_row
ppoll_keeps kernel memory address count time mask size left =
    let wait = wait_at memory time in
    waits_for_keeps (polled address memory) (count_by is_any) kernel time wait memory
    (polled_length address memory) 73 (inr refl) _ left

polls_keep : CallsKeep poll_calls
polls_keep = (
  record { keeps = λ args kernel memory left. pselect_keeps kernel memory (signed_word args 0) (record { read = argument args 1; write = argument args 2; except = argument args 3 }) (argument args 4) (argument args 5) left },
  (
    record { keeps = λ args kernel memory left. ppoll_keeps kernel memory (argument args 0) (word args 1) (argument args 2) (argument args 3) (argument args 4) left },
    tt,
  ),
)

call_keeps : (number : ℕ) → KeepsIfAny number (call_of number)
call_keeps number =
    in_keeps descriptor_calls _ number descriptors_keep
    (in_keeps terminal_calls _ number terminal_keeps
    (in_keeps transfer_calls _ number transfers_keep
    (in_keeps status_calls _ number status_keep
    (in_keeps id_calls _ number ids_keep
    (in_keeps name_calls _ number names_keep
    (in_keeps node_calls _ number nodes_keep
    (in_keeps system_calls _ number system_keep
    (in_keeps clock_calls _ number clocks_keep
    (in_keeps signal_calls _ number signals_keep
    (in_keeps poll_calls None number polls_keep tt))))))))))

step_keeps : (number : ℕ) (call : Option NativeCall) → KeepsIfAny number call → (args : List ℕ) (kernel : Kernel) (memory left : List ℕ)
    → Keeps number memory left (step_of call args kernel memory left)
step_keeps number None keeps args kernel memory left = gives_keeps number memory (refused kernel ENOSYS) left
step_keeps number (Some call) keeps args kernel memory left = keeps.keeps args kernel memory left

pub native_call_keeps : (number : ℕ) (args : List ℕ) (kernel : Kernel) (memory left : List ℕ)
    → Keeps number memory left (native_call number args kernel memory left)
native_call_keeps number args kernel memory left = step_keeps number (call_of number) (call_keeps number) args kernel memory left
