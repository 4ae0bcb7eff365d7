-- Refused rows on descriptors.
use Rattle.kernel_model.proofs.refusals.Checks.{stays}
use Rattle.kernel_model.specs.Came.{Given}
use Rattle.kernel_model.specs.DescriptorRows.{PipeFlags, close, close_on_exec, duplicate, duplicate_onto, duplicate_onto_with, make_pipe, set_close_on_exec, set_nonblock, set_status_flags, status_flags, unlisted_command, unlisted_request}
use Rattle.kernel_model.specs.Laws.{StaysUnlessDone}
use Rattle.kernel_model.specs.State.{Files}
use Rattle.std.specs.Prelude.{Bool, Option, ℕ}

pub close_stays : (files : Files) (fd : ℕ) → StaysUnlessDone files (close files fd)
unfolding close
close_stays files fd = search stays depth 14

pub duplicate_stays : (files : Files) (fd : ℕ) (from : Option ℕ) (cloexec : Bool) → StaysUnlessDone files (duplicate files fd from cloexec)
unfolding duplicate
duplicate_stays files fd from cloexec = search stays depth 14

pub duplicate_onto_stays : (files : Files) (fd : ℕ) (onto : ℕ) → StaysUnlessDone files (duplicate_onto files fd onto)
unfolding duplicate_onto
duplicate_onto_stays files fd onto = search stays depth 14

pub duplicate_onto_with_stays : (files : Files) (fd : ℕ) (onto : ℕ) (cloexec : Option Bool) → StaysUnlessDone files (duplicate_onto_with files fd onto cloexec)
unfolding duplicate_onto_with
duplicate_onto_with_stays files fd onto cloexec = search stays depth 14

pub make_pipe_stays : (files : Files) (flags : Option PipeFlags) → StaysUnlessDone files (make_pipe files flags)
unfolding make_pipe
make_pipe_stays files flags = search stays depth 14

pub close_on_exec_stays : (files : Files) (fd : ℕ) → StaysUnlessDone files (close_on_exec files fd)
unfolding close_on_exec
close_on_exec_stays files fd = search stays depth 14

pub set_close_on_exec_stays : (files : Files) (fd : ℕ) (cloexec : Bool) → StaysUnlessDone files (set_close_on_exec files fd cloexec)
unfolding set_close_on_exec
set_close_on_exec_stays files fd cloexec = search stays depth 14

pub status_flags_stays : (files : Files) (fd : ℕ) → StaysUnlessDone files (status_flags files fd)
unfolding status_flags
status_flags_stays files fd = search stays depth 14

pub set_status_flags_stays : (files : Files) (fd : ℕ) (append : Bool) (nonblock : Bool) → StaysUnlessDone files (set_status_flags files fd append nonblock)
unfolding set_status_flags
set_status_flags_stays files fd append nonblock = search stays depth 14

pub set_nonblock_stays : (files : Files) (fd : ℕ) (on : Given Bool) → StaysUnlessDone files (set_nonblock files fd on)
unfolding set_nonblock
set_nonblock_stays files fd on = search stays depth 14

pub unlisted_command_stays : (files : Files) (fd : ℕ) → StaysUnlessDone files (unlisted_command files fd)
unfolding unlisted_command
unlisted_command_stays files fd = search stays depth 14

pub unlisted_request_stays : (files : Files) (fd : ℕ) → StaysUnlessDone files (unlisted_request files fd)
unfolding unlisted_request
unlisted_request_stays files fd = search stays depth 14
