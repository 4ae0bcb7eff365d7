-- A call that fails moves nothing: how steps are made, and the calls on descriptors and the small ones.
use Rattle.std.proofs.Common.{◌≡◌, ℕ, ◌%◌, ◌^◌, ◌==◌, Bool, true, false, List, [], ◌∷◌, length, refl, ap}
use Rattle.std.specs.Prelude.{Option, Some, None, if◌then◌else◌, ⊤}
use Rattle.guest_space.specs.Bytes.{copied_out}
use Rattle.guest_space.specs.Memory.{Memory}
use Rattle.kernel_core.specs.declared.error.Errno.TheVariants.{EFAULT}
use Rattle.kernel_core.specs.declared.request.Request.{Request}
use Rattle.kernel_core.specs.declared.request.Request.TheVariants as requests
use Rattle.kernel_model.proofs.refusals.TransferRefusals.{read_stays, write_stays}
use Rattle.kernel_model.specs.Came.{Came, Done, Refused, Waits, Did, Given, done, told_as}
use Rattle.kernel_model.specs.Clock.{now}
use Rattle.kernel_model.specs.DescriptorRows.{make_pipe}
use Rattle.kernel_model.specs.Laws.{StaysAt}
use Rattle.kernel_model.specs.Pipes.{nothing}
use Rattle.kernel_model.specs.State.{Kernel, Files}
use Rattle.kernel_model.specs.Transfers.{Reading, Writing, reading, writing, read, write}
use Rattle.kernel_model.specs.Whole.{on_files, kernel_read, kernel_write}
use Rattle.o32_model.specs.Descriptors.{descriptor_calls, both_ends, no_pipe_flags, close_row, dup_row, dup2_row, dup3_row, pipe_row, pipe2_row, fcntl_row}
use Rattle.o32_model.specs.GuestBytes.{is_storable, with_stored}
use Rattle.o32_model.specs.Laws.{IsFailure, MovesNothing}
use Rattle.o32_model.specs.Small.{small_calls, names_bytes, number_row, exit_row, set_thread_area_row, set_robust_list_row, uname_row, getrlimit_row, prlimit_row, getrandom_row, stores_unless_null}
use Rattle.o32_model.specs.Step.{Guest, O32Step, O32Row, value, failure, outcome_of, memory_after, comes_to, gives, stored, stores, fills}
use Rattle.o32_model.specs.Table.{call_in}
use Rattle.o32_model.specs.Terminal.{terminal_calls, ioctl_row, requested}
use Rattle.o32_model.specs.Transfers.{transfer_calls, after_read, after_write, read_row, readv_row, pread_row, write_row, writev_row, pwrite_row, small_file_limit}
use Rattle.o32_model.specs.declared.call_words.CallWords.{CallWords}
use Rattle.o32_model.specs.declared.outcome.Outcome.{Outcome}
use Rattle.o32_model.specs.declared.outcome.Outcome.TheVariants.{Exit}

-- Steps

abbrev pub Quiet : Guest → List ℕ → O32Step → Type 0
Quiet guest left step = IsFailure step.outcome → MovesNothing guest left step

pub comes_to_quiet : {V : Type 0} (of_value : V → Outcome) (guest : Guest) (did : Did Kernel V) (left : List ℕ)
    → Quiet guest left (comes_to of_value guest did left)
comes_to_quiet of_value guest did left = λ failed. record { stored = refl; set = refl; rest = refl; sent = refl }

pub gives_quiet : (guest : Guest) (did : Did Kernel ℕ) (left : List ℕ) → Quiet guest left (gives guest did left)
gives_quiet guest did left = comes_to_quiet value guest did left

pub kept_unless : (room : Bool) (result : ℕ) (changed memory : Memory) → IsFailure (if room then value result else failure EFAULT)
    → (if room then changed else memory) ≡ memory
kept_unless true result changed memory failed = absurd failed
kept_unless false result changed memory failed = refl

stored_quiet : (words : CallWords) (memory : Memory) (address : ℕ) (came : Came (List ℕ))
    → IsFailure (outcome_of (stored memory address) words came) → memory_after (with_stored memory address) memory came ≡ memory
stored_quiet words memory address (Done bytes) failed =
    kept_unless (is_storable memory address (length bytes)) 0 (copied_out memory address bytes) memory failed
stored_quiet words memory address (Refused error) failed = refl
stored_quiet words memory address (Waits wake) failed = refl

pub stores_quiet : (guest : Guest) (address : ℕ) (did : Did Kernel (List ℕ)) (left : List ℕ) → Quiet guest left (stores guest address did left)
stores_quiet guest address did left =
    λ failed. record { stored = stored_quiet guest.words guest.memory address did.came failed; set = refl; rest = refl; sent = refl }

pub one_quiet : (null : Bool) (guest : Guest) (left : List ℕ) (one other : O32Step) → Quiet guest left one → Quiet guest left other
    → Quiet guest left (if null then one else other)
one_quiet true guest left one other quiet others = quiet
one_quiet false guest left one other quiet others = others

pub unless_null_quiet : (guest : Guest) (address : ℕ) (did : Did Kernel (List ℕ)) (left : List ℕ)
    → Quiet guest left (stores_unless_null guest address did left)
unless_null_quiet guest address did left =
    one_quiet (address == 0) guest left (gives guest (told_as (λ _. 0) did) left) (stores guest address did left)
    (gives_quiet guest (told_as (λ _. 0) did) left) (stores_quiet guest address did left)

filled_quiet : (with_bytes : List ℕ → Memory) (words : CallWords) (memory : Memory) (came : Came (List ℕ))
    → IsFailure (outcome_of (λ bytes. value (length bytes)) words came) → memory_after with_bytes memory came ≡ memory
filled_quiet with_bytes words memory (Done bytes) failed = absurd failed
filled_quiet with_bytes words memory (Refused error) failed = refl
filled_quiet with_bytes words memory (Waits wake) failed = refl

pub fills_quiet : (with_bytes : List ℕ → Memory) (guest : Guest) (did : Did Kernel (List ℕ)) (left : List ℕ)
    → Quiet guest left (fills with_bytes guest did left)
fills_quiet with_bytes guest did left =
    λ failed. record { stored = filled_quiet with_bytes guest.words guest.memory did.came failed; set = refl; rest = refl; sent = refl }

-- Transfers

left_quiet : (files : Files) (left : List ℕ) (words : CallWords) (state : Reading) (came : Came (List ℕ)) → StaysAt (reading left files) state came
    → IsFailure (outcome_of (λ bytes. value (length bytes)) words came) → state.left ≡ left
left_quiet files left words state (Done bytes) stays failed = absurd failed
left_quiet files left words state (Refused error) stays failed = ap (λ (r : Reading). r.left) stays
left_quiet files left words state (Waits wake) stays failed = absurd failed

after_read_quiet : (kernel : Kernel) (with_bytes : List ℕ → Memory) (guest : Guest) (left : List ℕ) (fd : ℕ) (asked : Given ℕ) (room : ℕ)
    → Quiet guest left (after_read with_bytes guest (kernel_read kernel left fd asked room))
unfolding kernel_read
after_read_quiet kernel with_bytes guest left fd asked room =
    let did = read kernel.files left fd asked room in
    λ failed. record {
      stored = filled_quiet with_bytes guest.words guest.memory did.came failed;
      set = refl;
      rest = left_quiet kernel.files left guest.words did.state did.came (read_stays kernel.files left fd asked room).stays failed;
      sent = refl;
    }

sent_quiet : (files : Files) (words : CallWords) (state : Writing) (came : Came ℕ) → StaysAt (writing files) state came
    → IsFailure (outcome_of value words came) → state.sent ≡ nothing
sent_quiet files words state (Done count) stays failed = absurd failed
sent_quiet files words state (Refused error) stays failed = ap (λ (w : Writing). w.sent) stays
sent_quiet files words state (Waits wake) stays failed = absurd failed

after_write_quiet : (kernel : Kernel) (guest : Guest) (left : List ℕ) (fd : ℕ) (asked : Given ℕ) (bytes : List ℕ)
    → Quiet guest left (after_write guest (kernel_write kernel (Some small_file_limit) fd asked bytes) left)
unfolding kernel_write
after_write_quiet kernel guest left fd asked bytes =
    let did = write kernel.files (Some small_file_limit) (now kernel) fd asked bytes in
    λ failed. record {
      stored = refl;
      set = refl;
      rest = refl;
      sent = sent_quiet kernel.files guest.words did.state did.came
          (write_stays kernel.files (Some small_file_limit) (now kernel) fd asked bytes).stays failed;
    }

-- The requests of ioctl

requested_quiet : (kernel : Kernel) (guest : Guest) (fd address : ℕ) (left : List ℕ) (request : Option Request)
    → Quiet guest left (requested kernel guest fd address left request)
requested_quiet kernel guest fd address left None = gives_quiet guest _ left
requested_quiet kernel guest fd address left (Some requests.Tcgets) = stores_quiet guest address _ left
requested_quiet kernel guest fd address left (Some requests.Tcsets) = gives_quiet guest _ left
requested_quiet kernel guest fd address left (Some requests.Tcsetsw) = gives_quiet guest _ left
requested_quiet kernel guest fd address left (Some requests.Tcsetsf) = gives_quiet guest _ left
requested_quiet kernel guest fd address left (Some requests.Tiocgwinsz) = stores_quiet guest address _ left
requested_quiet kernel guest fd address left (Some requests.Fionread) = stores_quiet guest address _ left
requested_quiet kernel guest fd address left (Some requests.Fionbio) = gives_quiet guest _ left
requested_quiet kernel guest fd address left (Some requests.Fioclex) = gives_quiet guest _ left
requested_quiet kernel guest fd address left (Some requests.Fionclex) = gives_quiet guest _ left

-- Calls of the table

pub record CallQuiet (call : O32Row) : Type 0 where
  pub quiet : (kernel : Kernel) (guest : Guest) (left : List ℕ) → Quiet guest left (call.step kernel guest left)

abbrev pub CallsQuiet : List O32Row → Type 0
CallsQuiet [] = ⊤
CallsQuiet (call ∷ calls) = CallQuiet call × CallsQuiet calls

abbrev pub QuietIfAny : Option O32Row → Type 0
QuietIfAny None = ⊤
QuietIfAny (Some call) = CallQuiet call

found_quiet : (found : Bool) (call : O32Row) (otherwise : Option O32Row) → CallQuiet call → QuietIfAny otherwise
    → QuietIfAny (if found then Some call else otherwise)
found_quiet true call otherwise quiet others = quiet
found_quiet false call otherwise quiet others = others

pub in_quiet : (calls : List O32Row) (otherwise : Option O32Row) (number : ℕ) → CallsQuiet calls → QuietIfAny otherwise
    → QuietIfAny (call_in calls otherwise number)
in_quiet [] otherwise number quiet others = others
in_quiet (call ∷ calls) otherwise number quiet others =
    found_quiet (number == call.number) call (call_in calls otherwise number) quiet.0 (in_quiet calls otherwise number quiet.1 others)

pub transfers_quiet : CallsQuiet transfer_calls
unfolding read_row write_row readv_row writev_row pread_row pwrite_row
transfers_quiet = (
  record { quiet = λ kernel guest left. after_read_quiet kernel _ guest left _ _ _ },
  (
    record { quiet = λ kernel guest left. after_write_quiet kernel guest left _ _ _ },
    (
      record { quiet = λ kernel guest left. after_read_quiet kernel _ guest left _ _ _ },
      (
        record { quiet = λ kernel guest left. after_write_quiet kernel guest left _ _ _ },
        (
          record { quiet = λ kernel guest left. fills_quiet _ guest _ left },
          (
            record { quiet = λ kernel guest left. gives_quiet guest _ left },
            tt,
          ),
        ),
      ),
    ),
  ),
)

pub descriptors_quiet : CallsQuiet descriptor_calls
unfolding close_row dup_row pipe_row fcntl_row dup2_row dup3_row pipe2_row
descriptors_quiet = (
  record { quiet = λ kernel guest left. gives_quiet guest _ left },
  (
    record { quiet = λ kernel guest left. gives_quiet guest _ left },
    (
      record {
        quiet = λ kernel guest left. comes_to_quiet both_ends guest (on_files kernel (make_pipe kernel.files (Some no_pipe_flags))) left;
      },
      (
        record { quiet = λ kernel guest left. gives_quiet guest _ left },
        (
          record { quiet = λ kernel guest left. gives_quiet guest _ left },
          (
            record { quiet = λ kernel guest left. gives_quiet guest _ left },
            (
              record { quiet = λ kernel guest left. gives_quiet guest _ left },
              (
                record { quiet = λ kernel guest left. stores_quiet guest _ _ left },
                tt,
              ),
            ),
          ),
        ),
      ),
    ),
  ),
)

pub terminal_quiet : CallsQuiet terminal_calls
unfolding ioctl_row
terminal_quiet = (record { quiet = λ kernel guest left. requested_quiet kernel guest _ _ left _ }, tt)

-- The small calls

number_quiet : (number : ℕ) (kernel : Kernel) (guest : Guest) (left : List ℕ) → Quiet guest left (number_row number kernel guest left)
number_quiet number kernel guest left = gives_quiet guest (done kernel number) left

exit_quiet : (kernel : Kernel) (guest : Guest) (status : ℕ) (left : List ℕ) → Quiet guest left (exit_row kernel guest status left)
unfolding exit_row
exit_quiet kernel guest status left = comes_to_quiet Exit guest (done kernel (status % 2 ^ 8)) left

-- it never fails
thread_area_quiet : (kernel : Kernel) (guest : Guest) (address : ℕ) (left : List ℕ) → Quiet guest left (set_thread_area_row kernel guest address left)
unfolding set_thread_area_row
thread_area_quiet kernel guest address left = λ failed. absurd failed

robust_list_quiet : (kernel : Kernel) (guest : Guest) (size : ℕ) (left : List ℕ) → Quiet guest left (set_robust_list_row kernel guest size left)
unfolding set_robust_list_row
robust_list_quiet kernel guest size left = gives_quiet guest _ left

uname_quiet : (kernel : Kernel) (guest : Guest) (address : ℕ) (left : List ℕ) → Quiet guest left (uname_row kernel guest address left)
unfolding uname_row
uname_quiet kernel guest address left = stores_quiet guest address (done kernel names_bytes) left

pub small_quiet : CallsQuiet small_calls
unfolding getrlimit_row prlimit_row getrandom_row
small_quiet = (
  record { quiet = λ kernel guest left. exit_quiet kernel guest _ left },
  (
    record { quiet = number_quiet _ },
    (
      record { quiet = number_quiet _ },
      (
        record { quiet = number_quiet _ },
        (
          record { quiet = number_quiet _ },
          (
            record { quiet = number_quiet _ },
            (
              record { quiet = number_quiet _ },
              (
                record { quiet = λ kernel guest left. stores_quiet guest _ _ left },
                (
                  record { quiet = λ kernel guest left. uname_quiet kernel guest _ left },
                  (
                    record { quiet = number_quiet _ },
                    (
                      record { quiet = number_quiet _ },
                      (
                        record { quiet = number_quiet _ },
                        (
                          record { quiet = λ kernel guest left. exit_quiet kernel guest _ left },
                          (
                            record { quiet = number_quiet _ },
                            (
                              record { quiet = λ kernel guest left. thread_area_quiet kernel guest _ left },
                              (
                                record { quiet = λ kernel guest left. robust_list_quiet kernel guest _ left },
                                (
                                  record { quiet = λ kernel guest left. unless_null_quiet guest _ _ left },
                                  (
                                    record { quiet = λ kernel guest left. fills_quiet _ guest _ left },
                                    tt,
                                  ),
                                ),
                              ),
                            ),
                          ),
                        ),
                      ),
                    ),
                  ),
                ),
              ),
            ),
          ),
        ),
      ),
    ),
  ),
)
