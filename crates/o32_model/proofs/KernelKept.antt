-- A call that fails leaves the kernel: the calls on descriptors, the small ones and those on files.
use Rattle.std.proofs.Common.{◌≡◌, ℕ, ◌==◌, Bool, true, false, not, List, [], ◌∷◌, refl, sym, ap, ◌∙◌, arith}
use Rattle.std.specs.Prelude.{Option, Some, None, is_some, if◌then◌else◌, ⊤}
use Rattle.std.proofs.lemmas.Bool.Decides.{nat_tests}
use Rattle.guest_space.specs.Memory.{Memory}
use Rattle.kernel_core.specs.declared.error.Errno.TheVariants.{EFAULT, EINVAL}
use Rattle.kernel_core.specs.declared.request.Request.{Request}
use Rattle.kernel_core.specs.declared.request.Request.TheVariants as requests
use Rattle.kernel_model.proofs.refusals.Checks.{done_stays, if_stays, some_stays, widened_stays}
use Rattle.kernel_model.proofs.refusals.ContentRefusals.{entries_stays, set_terminal_settings_stays, sync_stays}
use Rattle.kernel_model.proofs.refusals.DescriptorRefusals.{close_stays, duplicate_stays, duplicate_onto_stays, duplicate_onto_with_stays, make_pipe_stays, close_on_exec_stays, set_close_on_exec_stays, status_flags_stays, set_status_flags_stays, set_nonblock_stays, unlisted_command_stays, unlisted_request_stays}
use Rattle.kernel_model.proofs.refusals.NameRefusals.{open_file_stays, make_directory_stays, remove_name_stays, link_stays, make_link_stays, rename_stays}
use Rattle.kernel_model.proofs.refusals.NodeRefusals.{access_stays, change_mode_stays, change_open_mode_stays, set_times_stays, truncate_stays, truncate_open_stays, change_directory_stays, change_to_open_stays, set_umask_stays}
use Rattle.kernel_model.proofs.refusals.OtherRefusals.{random_bytes_stays}
use Rattle.kernel_model.proofs.refusals.TransferRefusals.{read_stays, read_at_stays, write_at_stays}
use Rattle.kernel_model.specs.Came.{Came, Done, Refused, Waits, Did, Given, done, told_as, told_zero, widened}
use Rattle.kernel_model.specs.Laws.{StaysAt, StaysUnlessDone}
use Rattle.kernel_model.specs.State.{Kernel, Files}
use Rattle.kernel_model.specs.Transfers.{reading, read}
use Rattle.kernel_model.specs.Whole.{KernelReading, with_files, with_reading, on_files, kernel_read}
use Rattle.number_tables.specs.Numbered.{numbered_or}
use Rattle.o32_model.proofs.Looks.{bytes_ready_looks, limits_look, read_link_looks, status_looks, status_at_path_looks, terminal_settings_looks, window_size_looks, working_directory_looks}
use Rattle.o32_model.specs.Descriptors.{Command, commands, commanded, descriptor_calls, both_ends, close_row, dup_row, dup2_row, dup3_row, pipe_row, fcntl_row}
use Rattle.o32_model.specs.Entries.{entry_calls, getdents_row}
use Rattle.o32_model.specs.Laws.{IsFailure, is_listed_call, is_part_done}
use Rattle.o32_model.specs.Names.{name_calls, mkdir_row, remove_row, link_row, linkat_row, symlink_row, readlink_row, rename_row}
use Rattle.o32_model.specs.NodeCalls.{node_calls, access_row, chmod_row, fchmod_row, utimensat_row, truncate_row, ftruncate_row, sync_row, chdir_row, fchdir_row, getcwd_row, umask_row}
use Rattle.o32_model.specs.Opening.{opening_calls, open_row}
use Rattle.o32_model.specs.Small.{small_calls, exit_row, set_thread_area_row, set_robust_list_row, uname_row, getrlimit_row, getrandom_row, robust_list_size}
use Rattle.o32_model.specs.Status.{status_calls, stat_row, fstat_row, stat64_row, fstat64_row, fstatat64_row}
use Rattle.o32_model.specs.Step.{Guest, O32Step, O32Row, value, outcome_of, comes_to, gives, stores, fills}
use Rattle.o32_model.specs.Table.{call_in, call_of, step_of, o32_call}
use Rattle.o32_model.specs.Terminal.{terminal_calls, ioctl_row, requested}
use Rattle.o32_model.specs.Transfers.{transfer_calls, after_read, read_row, readv_row, pread_row, pwrite_row}
use Rattle.o32_model.specs.declared.outcome.Outcome.{Outcome}

-- Steps

abbrev KeepsKernel : Kernel → O32Step → Type 0
KeepsKernel kernel step = IsFailure step.outcome → step.kernel ≡ kernel

kept_unless_done : {V : Type 0} (of_value : V → Outcome) → ((value : V) → IsFailure (of_value value) → ⊥) → (guest : Guest) (kernel : Kernel) (did : Did Kernel V)
    → StaysUnlessDone kernel did → IsFailure (outcome_of of_value guest.words did.came) → did.state ≡ kernel
kept_unless_done {V = V} of_value never guest kernel did same = at did.state did.came same.stays where
  at : (new : Kernel) (came : Came V) → StaysAt kernel new came → IsFailure (outcome_of of_value guest.words came) → new ≡ kernel
  at new (Done found) same failed = absurd (never found failed)
  at new (Refused error) same failed = same
  at new (Waits wake) same failed = absurd failed

comes_to_keep : {V : Type 0} (of_value : V → Outcome) → ((value : V) → IsFailure (of_value value) → ⊥) → (guest : Guest) (kernel : Kernel) (did : Did Kernel V) (left : List ℕ)
    → StaysUnlessDone kernel did → KeepsKernel kernel (comes_to of_value guest did left)
comes_to_keep of_value never guest kernel did left same = kept_unless_done of_value never guest kernel did same

gives_keep : (guest : Guest) (kernel : Kernel) (did : Did Kernel ℕ) (left : List ℕ) → StaysUnlessDone kernel did → KeepsKernel kernel (gives guest did left)
gives_keep guest kernel did left same = comes_to_keep value (λ number failed. failed) guest kernel did left same

fills_keep : (with_bytes : List ℕ → Memory) (guest : Guest) (kernel : Kernel) (did : Did Kernel (List ℕ)) (left : List ℕ) → StaysUnlessDone kernel did
    → KeepsKernel kernel (fills with_bytes guest did left)
fills_keep with_bytes guest kernel did left same = kept_unless_done _ (λ bytes failed. failed) guest kernel did same

stores_keeps : (guest : Guest) (address : ℕ) (kernel : Kernel) (did : Did Kernel (List ℕ)) (left : List ℕ) → did.state ≡ kernel → KeepsKernel kernel (stores guest address did left)
stores_keeps guest address kernel did left same = λ failed. same

-- Rows

told_stay : {S V W : Type 0} (meaning : V → W) (state : S) (did : Did S V) → StaysUnlessDone state did → StaysUnlessDone state (told_as meaning did)
told_stay {S = S} {V = V} meaning state did same = record { stays = at did.state did.came same.stays } where
  at : (new : S) (came : Came V) → StaysAt state new came → StaysAt state new (told_as meaning (record { state = new; came = came })).came
  at new (Done found) same = tt
  at new (Refused error) same = same
  at new (Waits wake) same = same

files_stay : {V : Type 0} (kernel : Kernel) (did : Did Files V) → StaysUnlessDone kernel.files did → StaysUnlessDone kernel (on_files kernel did)
files_stay kernel did same = widened_stays (with_files kernel) kernel.files did same

-- a row on files whose number is the result, and one that tells nothing

counts : (guest : Guest) (kernel : Kernel) (did : Did Files ℕ) (left : List ℕ) → StaysUnlessDone kernel.files did → KeepsKernel kernel (gives guest (on_files kernel did) left)
counts guest kernel did left same = gives_keep guest kernel _ left (files_stay kernel did same)

marks : (guest : Guest) (kernel : Kernel) (did : Did Files (Unit {0})) (left : List ℕ) → StaysUnlessDone kernel.files did
    → KeepsKernel kernel (gives guest (told_zero (on_files kernel did)) left)
marks guest kernel did left same = gives_keep guest kernel _ left (told_stay _ kernel _ (files_stay kernel did same))

reads_keep : (kernel : Kernel) (with_bytes : List ℕ → Memory) (guest : Guest) (left : List ℕ) (fd : ℕ) (asked : Given ℕ) (room : ℕ)
    → KeepsKernel kernel (after_read with_bytes guest (kernel_read kernel left fd asked room))
unfolding kernel_read
reads_keep kernel with_bytes guest left fd asked room =
    let did = read kernel.files left fd asked room in
    let inner = widened (with_reading kernel) did in
    fills_keep with_bytes guest kernel (widened (λ (state : KernelReading). state.kernel) inner) inner.state.left
    (widened_stays (λ (state : KernelReading). state.kernel) (with_reading kernel (reading left kernel.files)) inner
    (widened_stays (with_reading kernel) (reading left kernel.files) did (read_stays kernel.files left fd asked room)))

requests_keep : (kernel : Kernel) (guest : Guest) (fd address : ℕ) (left : List ℕ) (request : Option Request) → KeepsKernel kernel (requested kernel guest fd address left request)
requests_keep kernel guest fd address left None = marks guest kernel _ left (unlisted_request_stays kernel.files fd)
requests_keep kernel guest fd address left (Some requests.Tcgets) = λ failed. ap (with_files kernel) (terminal_settings_looks kernel.files fd).same
requests_keep kernel guest fd address left (Some requests.Tcsets) = marks guest kernel _ left (set_terminal_settings_stays kernel.files fd _)
requests_keep kernel guest fd address left (Some requests.Tcsetsw) = marks guest kernel _ left (set_terminal_settings_stays kernel.files fd _)
requests_keep kernel guest fd address left (Some requests.Tcsetsf) = marks guest kernel _ left (set_terminal_settings_stays kernel.files fd _)
requests_keep kernel guest fd address left (Some requests.Tiocgwinsz) = λ failed. ap (with_files kernel) (window_size_looks kernel.files fd).same
requests_keep kernel guest fd address left (Some requests.Fionread) = λ failed. ap (with_files kernel) (bytes_ready_looks kernel.files fd).same
requests_keep kernel guest fd address left (Some requests.Fionbio) = marks guest kernel _ left (set_nonblock_stays kernel.files fd _)
requests_keep kernel guest fd address left (Some requests.Fioclex) = marks guest kernel _ left (set_close_on_exec_stays kernel.files fd true)
requests_keep kernel guest fd address left (Some requests.Fionclex) = marks guest kernel _ left (set_close_on_exec_stays kernel.files fd false)

-- The commands of fcntl

record CommandStays (command : Command) : Type 0 where
  pub stays : (kernel : Kernel) (fd argument : ℕ) → StaysUnlessDone kernel (command.row kernel fd argument)

abbrev CommandsStay : List Command → Type 0
CommandsStay [] = ⊤
CommandsStay (command ∷ commands) = CommandStays command × CommandsStay commands

abbrev StaysIfAny : Option Command → Type 0
StaysIfAny None = ⊤
StaysIfAny (Some command) = CommandStays command

found_stays : (commands : List Command) (otherwise : Option Command) (number : ℕ) → CommandsStay commands → StaysIfAny otherwise
    → StaysIfAny (numbered_or (λ (command : Command). command.number) commands otherwise number)
found_stays [] otherwise number stay others = others
found_stays (command ∷ commands) otherwise number stay others = by_test (number == command.number) (found_stays commands otherwise number stay.1 others)
  where
    by_test : (test : Bool) → StaysIfAny (numbered_or (λ (command : Command). command.number) commands otherwise number)
        → StaysIfAny (if test then Some command else numbered_or (λ (command : Command). command.number) commands otherwise number)
    by_test true others = stay.0
    by_test false others = others

command_stays : (kernel : Kernel) (fd argument : ℕ) (command : Option Command) → StaysIfAny command → StaysUnlessDone kernel (commanded kernel fd argument command)
command_stays kernel fd argument None stays = told_stay _ kernel _ (files_stay kernel _ (unlisted_command_stays kernel.files fd))
command_stays kernel fd argument (Some command) stays = stays.stays kernel fd argument

commands_stay : CommandsStay commands
commands_stay = (
  record { stays = λ kernel fd argument. files_stay kernel _ (duplicate_stays kernel.files fd _ _) },
  (
    record { stays = λ kernel fd argument. told_stay _ kernel _ (files_stay kernel _ (close_on_exec_stays kernel.files fd)) },
    (
      record { stays = λ kernel fd argument. told_stay _ kernel _ (files_stay kernel _ (set_close_on_exec_stays kernel.files fd _)) },
      (
        record { stays = λ kernel fd argument. told_stay _ kernel _ (files_stay kernel _ (status_flags_stays kernel.files fd)) },
        (
          record { stays = λ kernel fd argument. told_stay _ kernel _ (files_stay kernel _ (set_status_flags_stays kernel.files fd _ _)) },
          (
            record { stays = λ kernel fd argument. files_stay kernel _ (duplicate_stays kernel.files fd _ _) },
            tt,
          ),
        ),
      ),
    ),
  ),
)

fcntl_keeps : (kernel : Kernel) (guest : Guest) (fd command argument : ℕ) (left : List ℕ) → KeepsKernel kernel (fcntl_row kernel guest fd command argument left)
unfolding fcntl_row
fcntl_keeps kernel guest fd command argument left =
    gives_keep guest kernel _ left (command_stays kernel fd argument _ (found_stays commands None command commands_stay tt))

robust_list_keeps : (kernel : Kernel) (guest : Guest) (size : ℕ) (left : List ℕ) → KeepsKernel kernel (set_robust_list_row kernel guest size left)
unfolding set_robust_list_row
robust_list_keeps kernel guest size left =
    gives_keep guest kernel _ left (if_stays kernel (not (size == robust_list_size)) EINVAL (done kernel 0) (done_stays kernel kernel 0))

-- The calls of the table, each where it is meant

record CallKeeps (call : O32Row) : Type 0 where
  pub keeps : (kernel : Kernel) (guest : Guest) (left : List ℕ) → KeepsKernel kernel (call.step kernel guest left)

abbrev KeepsIfAny : Option O32Row → Type 0
KeepsIfAny None = ⊤
KeepsIfAny (Some call) = CallKeeps call

abbrev KeptWhereMeant : ℕ → List O32Row → Type 0
KeptWhereMeant number [] = ⊤
KeptWhereMeant number (call ∷ calls) = (number ≡ call.number → CallKeeps call) × KeptWhereMeant number calls

-- of a number that is found in a list or in `inner`, whatever comes behind that
found_keeps : (calls : List O32Row) (otherwise inner : Option O32Row) (number : ℕ) → KeptWhereMeant number calls → (is_some inner ≡ true → KeepsIfAny otherwise)
    → is_some (call_in calls inner number) ≡ true → KeepsIfAny (call_in calls otherwise number)
found_keeps [] otherwise inner number kept others found = others found
found_keeps (call ∷ calls) otherwise inner number kept others found =
    by_test (number == call.number) refl found (found_keeps calls otherwise inner number kept.1 others)
  where
    by_test : (test : Bool) → (number == call.number) ≡ test → is_some (if test then Some call else call_in calls inner number) ≡ true
        → (is_some (call_in calls inner number) ≡ true → KeepsIfAny (call_in calls otherwise number))
        → KeepsIfAny (if test then Some call else call_in calls otherwise number)
    by_test true same found rest = kept.0 (grind (arith, nat_tests))
    by_test false other found rest = rest found

excepted : (number part : ℕ) → is_part_done number ≡ false → number ≡ part → is_part_done part ≡ true → ⊥
excepted number part whole same is = let clash : false ≡ true = sym whole ∙ ap is_part_done same ∙ is in absurd (cc)

transfers_keep : (number : ℕ) → is_part_done number ≡ false → KeptWhereMeant number transfer_calls
unfolding read_row readv_row pread_row pwrite_row
transfers_keep number whole = (
  λ _. record { keeps = λ kernel guest left. reads_keep kernel (λ bytes. guest.memory) guest left _ _ _ },
  (
    λ same. absurd (excepted number _ whole same refl),
    (
      λ _. record { keeps = λ kernel guest left. reads_keep kernel (λ bytes. guest.memory) guest left _ _ _ },
      (
        λ same. absurd (excepted number _ whole same refl),
        (
          λ _. record { keeps = λ kernel guest left. fills_keep (λ bytes. guest.memory) guest kernel _ left (some_stays kernel EFAULT _ _ (λ at. files_stay kernel _ (read_at_stays kernel.files _ _ _ _))) },
          (
            λ _. record { keeps = λ kernel guest left. gives_keep guest kernel _ left (some_stays kernel EFAULT _ _ (λ at. files_stay kernel _ (write_at_stays kernel.files _ _ _ _ _ _))) },
            tt,
          ),
        ),
      ),
    ),
  ),
)

descriptors_keep : (number : ℕ) → is_part_done number ≡ false → KeptWhereMeant number descriptor_calls
unfolding close_row dup_row dup2_row dup3_row pipe_row
descriptors_keep number whole = (
  λ _. record { keeps = λ kernel guest left. marks guest kernel _ left (close_stays kernel.files _) },
  (
    λ _. record { keeps = λ kernel guest left. counts guest kernel _ left (duplicate_stays kernel.files _ _ _) },
    (
      λ _. record { keeps = λ kernel guest left. comes_to_keep both_ends (λ ends failed. failed) guest kernel _ left (files_stay kernel _ (make_pipe_stays kernel.files _)) },
      (
        λ _. record { keeps = λ kernel guest left. fcntl_keeps kernel guest _ _ _ left },
        (
          λ _. record { keeps = λ kernel guest left. counts guest kernel _ left (duplicate_onto_stays kernel.files _ _) },
          (
            λ _. record { keeps = λ kernel guest left. fcntl_keeps kernel guest _ _ _ left },
            (
              λ _. record { keeps = λ kernel guest left. counts guest kernel _ left (duplicate_onto_with_stays kernel.files _ _ _) },
              (
                λ same. absurd (excepted number _ whole same refl),
                tt,
              ),
            ),
          ),
        ),
      ),
    ),
  ),
)

terminal_keep : (number : ℕ) → is_part_done number ≡ false → KeptWhereMeant number terminal_calls
unfolding ioctl_row
terminal_keep number whole = (
  λ _. record { keeps = λ kernel guest left. requests_keep kernel guest _ _ left _ },
  tt,
)

smalls_keep : (number : ℕ) → is_part_done number ≡ false → KeptWhereMeant number small_calls
unfolding exit_row set_thread_area_row uname_row getrlimit_row getrandom_row
smalls_keep number whole = (
  λ _. record { keeps = λ kernel guest left. λ failed. refl },
  (
    λ _. record { keeps = λ kernel guest left. λ failed. refl },
    (
      λ _. record { keeps = λ kernel guest left. λ failed. refl },
      (
        λ _. record { keeps = λ kernel guest left. λ failed. refl },
        (
          λ _. record { keeps = λ kernel guest left. λ failed. refl },
          (
            λ _. record { keeps = λ kernel guest left. λ failed. refl },
            (
              λ _. record { keeps = λ kernel guest left. λ failed. refl },
              (
                λ _. record { keeps = λ kernel guest left. stores_keeps guest _ kernel _ left (limits_look kernel _).same },
                (
                  λ _. record { keeps = λ kernel guest left. λ failed. refl },
                  (
                    λ _. record { keeps = λ kernel guest left. λ failed. refl },
                    (
                      λ _. record { keeps = λ kernel guest left. λ failed. refl },
                      (
                        λ _. record { keeps = λ kernel guest left. λ failed. refl },
                        (
                          λ _. record { keeps = λ kernel guest left. λ failed. refl },
                          (
                            λ _. record { keeps = λ kernel guest left. λ failed. refl },
                            (
                              λ _. record { keeps = λ kernel guest left. λ failed. refl },
                              (
                                λ _. record { keeps = λ kernel guest left. robust_list_keeps kernel guest _ left },
                                (
                                  λ same. absurd (excepted number _ whole same refl),
                                  (
                                    λ _. record { keeps = λ kernel guest left. fills_keep (λ bytes. guest.memory) guest kernel _ left (random_bytes_stays kernel _ _ _) },
                                    tt,
                                  ),
                                ),
                              ),
                            ),
                          ),
                        ),
                      ),
                    ),
                  ),
                ),
              ),
            ),
          ),
        ),
      ),
    ),
  ),
)

openings_keep : (number : ℕ) → is_part_done number ≡ false → KeptWhereMeant number opening_calls
unfolding open_row
openings_keep number whole = (
  λ _. record { keeps = λ kernel guest left. counts guest kernel _ left (open_file_stays kernel.files _ _ _ _ _ _) },
  (
    λ _. record { keeps = λ kernel guest left. counts guest kernel _ left (open_file_stays kernel.files _ _ _ _ _ _) },
    (
      λ same. absurd (excepted number _ whole same refl),
      (
        λ same. absurd (excepted number _ whole same refl),
        (
          λ _. record { keeps = λ kernel guest left. counts guest kernel _ left (open_file_stays kernel.files _ _ _ _ _ _) },
          tt,
        ),
      ),
    ),
  ),
)

statuses_keep : (number : ℕ) → is_part_done number ≡ false → KeptWhereMeant number status_calls
unfolding stat_row fstat_row stat64_row fstat64_row fstatat64_row
statuses_keep number whole = (
  λ _. record { keeps = λ kernel guest left. stores_keeps guest _ kernel _ left (ap (with_files kernel) (status_at_path_looks kernel.files _ _ _).same) },
  (
    λ _. record { keeps = λ kernel guest left. stores_keeps guest _ kernel _ left (ap (with_files kernel) (status_at_path_looks kernel.files _ _ _).same) },
    (
      λ _. record { keeps = λ kernel guest left. stores_keeps guest _ kernel _ left (ap (with_files kernel) (status_looks kernel.files _).same) },
      (
        λ _. record { keeps = λ kernel guest left. stores_keeps guest _ kernel _ left (ap (with_files kernel) (status_at_path_looks kernel.files _ _ _).same) },
        (
          λ _. record { keeps = λ kernel guest left. stores_keeps guest _ kernel _ left (ap (with_files kernel) (status_at_path_looks kernel.files _ _ _).same) },
          (
            λ _. record { keeps = λ kernel guest left. stores_keeps guest _ kernel _ left (ap (with_files kernel) (status_looks kernel.files _).same) },
            (
              λ _. record { keeps = λ kernel guest left. stores_keeps guest _ kernel _ left (ap (with_files kernel) (status_at_path_looks kernel.files _ _ _).same) },
              tt,
            ),
          ),
        ),
      ),
    ),
  ),
)

entries_keep : (number : ℕ) → is_part_done number ≡ false → KeptWhereMeant number entry_calls
unfolding getdents_row
entries_keep number whole = (
  λ _. record { keeps = λ kernel guest left. fills_keep (λ bytes. guest.memory) guest kernel _ left (told_stay _ kernel _ (files_stay kernel _ (entries_stays kernel.files _ _ _ _))) },
  (
    λ _. record { keeps = λ kernel guest left. fills_keep (λ bytes. guest.memory) guest kernel _ left (told_stay _ kernel _ (files_stay kernel _ (entries_stays kernel.files _ _ _ _))) },
    tt,
  ),
)

names_keep : (number : ℕ) → is_part_done number ≡ false → KeptWhereMeant number name_calls
unfolding mkdir_row remove_row link_row linkat_row symlink_row readlink_row rename_row
names_keep number whole = (
  λ _. record { keeps = λ kernel guest left. marks guest kernel _ left (link_stays kernel.files _ _ _ _ _ _) },
  (
    λ _. record { keeps = λ kernel guest left. marks guest kernel _ left (remove_name_stays kernel.files _ _ _ _) },
    (
      λ _. record { keeps = λ kernel guest left. marks guest kernel _ left (rename_stays kernel.files _ _ _ _ _) },
      (
        λ _. record { keeps = λ kernel guest left. marks guest kernel _ left (make_directory_stays kernel.files _ _ _ _) },
        (
          λ _. record { keeps = λ kernel guest left. marks guest kernel _ left (remove_name_stays kernel.files _ _ _ _) },
          (
            λ _. record { keeps = λ kernel guest left. marks guest kernel _ left (make_link_stays kernel.files _ _ _ _) },
            (
              λ _. record { keeps = λ kernel guest left. λ failed. ap (with_files kernel) (read_link_looks kernel.files _ _ _).same },
              (
                λ _. record { keeps = λ kernel guest left. marks guest kernel _ left (make_directory_stays kernel.files _ _ _ _) },
                (
                  λ _. record { keeps = λ kernel guest left. marks guest kernel _ left (remove_name_stays kernel.files _ _ _ _) },
                  (
                    λ _. record { keeps = λ kernel guest left. marks guest kernel _ left (rename_stays kernel.files _ _ _ _ _) },
                    (
                      λ _. record { keeps = λ kernel guest left. gives_keep guest kernel _ left (some_stays kernel EFAULT _ _ (λ flags. told_stay _ kernel _ (files_stay kernel _ (link_stays kernel.files _ _ _ _ _ _)))) },
                      (
                        λ _. record { keeps = λ kernel guest left. marks guest kernel _ left (make_link_stays kernel.files _ _ _ _) },
                        (
                          λ _. record { keeps = λ kernel guest left. λ failed. ap (with_files kernel) (read_link_looks kernel.files _ _ _).same },
                          tt,
                        ),
                      ),
                    ),
                  ),
                ),
              ),
            ),
          ),
        ),
      ),
    ),
  ),
)

nodes_keep : (number : ℕ) → is_part_done number ≡ false → KeptWhereMeant number node_calls
unfolding access_row chmod_row fchmod_row utimensat_row truncate_row ftruncate_row sync_row chdir_row fchdir_row getcwd_row umask_row
nodes_keep number whole = (
  λ _. record { keeps = λ kernel guest left. marks guest kernel _ left (change_directory_stays kernel.files _) },
  (
    λ _. record { keeps = λ kernel guest left. marks guest kernel _ left (change_mode_stays kernel.files _ _ _ _) },
    (
      λ _. record { keeps = λ kernel guest left. marks guest kernel _ left (access_stays kernel.files _ _ _) },
      (
        λ _. record { keeps = λ kernel guest left. counts guest kernel _ left (set_umask_stays kernel.files _) },
        (
          λ _. record { keeps = λ kernel guest left. marks guest kernel _ left (truncate_stays kernel.files _ _ _ _) },
          (
            λ _. record { keeps = λ kernel guest left. marks guest kernel _ left (truncate_open_stays kernel.files _ _ _) },
            (
              λ _. record { keeps = λ kernel guest left. marks guest kernel _ left (change_open_mode_stays kernel.files _ _ _) },
              (
                λ _. record { keeps = λ kernel guest left. marks guest kernel _ left (sync_stays kernel.files _) },
                (
                  λ _. record { keeps = λ kernel guest left. marks guest kernel _ left (change_to_open_stays kernel.files _) },
                  (
                    λ _. record { keeps = λ kernel guest left. marks guest kernel _ left (sync_stays kernel.files _) },
                    (
                      λ _. record { keeps = λ kernel guest left. λ failed. ap (with_files kernel) (working_directory_looks kernel.files _).same },
                      (
                        λ _. record { keeps = λ kernel guest left. marks guest kernel _ left (truncate_stays kernel.files _ _ _ _) },
                        (
                          λ _. record { keeps = λ kernel guest left. marks guest kernel _ left (truncate_open_stays kernel.files _ _ _) },
                          (
                            λ _. record { keeps = λ kernel guest left. marks guest kernel _ left (change_mode_stays kernel.files _ _ _ _) },
                            (
                              λ _. record { keeps = λ kernel guest left. marks guest kernel _ left (access_stays kernel.files _ _ _) },
                              (
                                λ _. record { keeps = λ kernel guest left. marks guest kernel _ left (set_times_stays kernel.files _ _ _ _ _) },
                                tt,
                              ),
                            ),
                          ),
                        ),
                      ),
                    ),
                  ),
                ),
              ),
            ),
          ),
        ),
      ),
    ),
  ),
)

call_keeps : (number : ℕ) → is_listed_call number ≡ true → is_part_done number ≡ false → KeepsIfAny (call_of number)
call_keeps number listed whole =
    found_keeps transfer_calls _ _ number (transfers_keep number whole)
    (found_keeps descriptor_calls _ _ number (descriptors_keep number whole)
    (found_keeps terminal_calls _ _ number (terminal_keep number whole)
    (found_keeps small_calls _ _ number (smalls_keep number whole)
    (found_keeps opening_calls _ _ number (openings_keep number whole)
    (found_keeps status_calls _ _ number (statuses_keep number whole)
    (found_keeps entry_calls _ _ number (entries_keep number whole)
    (found_keeps name_calls _ _ number (names_keep number whole)
    (found_keeps node_calls _ None number (nodes_keep number whole) (λ none. absurd (cc)))))))))) listed

step_keeps : (call : Option O32Row) → KeepsIfAny call → (kernel : Kernel) (guest : Guest) (left : List ℕ) → KeepsKernel kernel (step_of call kernel guest left)
step_keeps None keeps kernel guest left = λ failed. refl
step_keeps (Some call) keeps kernel guest left = keeps.keeps kernel guest left

pub o32_call_keeps : (kernel : Kernel) (guest : Guest) (left : List ℕ) → is_listed_call guest.words.nr ≡ true → is_part_done guest.words.nr ≡ false
    → KeepsKernel kernel (o32_call kernel guest left)
o32_call_keeps kernel guest left listed whole = step_keeps (call_of guest.words.nr) (call_keeps guest.words.nr listed whole) kernel guest left
