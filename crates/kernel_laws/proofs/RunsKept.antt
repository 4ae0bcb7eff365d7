-- Whatever rows are made, one after another, a kernel stays one.
use Rattle.std.specs.Prelude.{ℤ}
use Rattle.kernel_core.specs.FileSystem.{IsTime}
use Rattle.kernel_laws.specs.Ends.{AreSoundFiles, IsSoundKernel}
use Rattle.kernel_laws.specs.Runs.{Accept, Access, Advance, Alarm, ArmTimer, Becomes, Begins, BytesReady, ChangeDirectory, ChangeMask, ChangeMode, ChangeOpenMode, ChangeToOpen, Close, CloseOnExec, Duplicate, DuplicateOnto, DuplicateOntoWith, Entries, FilesBecome, GoesOn, Kill, KillThread, KillThreadOf, Link, MakeDirectory, MakeLink, MakePipe, OnFiles, OpenFile, Pause, Pending, Poll, Post, Queue, RandomBytes, Reaches, Read, ReadAt, ReadClock, ReadLink, ReadTimer, RemoveName, Rename, Resolution, Seek, Select, SetAction, SetCloseOnExec, SetLimit, SetNonblock, SetStack, SetStatusFlags, SetTerminal, SetTimes, SetUmask, ShowFlags, ShowTerminal, Sleep, Status, StatusAtPath, Suspend, Sync, Truncate, TruncateOpen, UnlistedCommand, UnlistedRequest, WindowSize, WorkingDirectory, Write, WriteAt}
use Rattle.kernel_model.specs.Clock.{now}
use Rattle.kernel_model.specs.State.{Files, Kernel}
use Rattle.kernel_laws.proofs.CloseKept.{close_keeps, duplicate_onto_keeps, duplicate_onto_with_keeps}
use Rattle.kernel_laws.proofs.EndsKept.{access_ends, bytes_ready_ends, change_directory_ends, change_mode_ends, change_open_mode_ends, change_to_open_ends, close_on_exec_ends, duplicate_ends, entries_ends, link_ends, make_directory_ends, make_link_ends, make_pipe_ends, read_link_ends, remove_name_ends, rename_ends, seek_ends, set_close_on_exec_ends, set_nonblock_ends, set_status_flags_ends, set_terminal_settings_ends, set_times_ends, set_umask_ends, status_at_path_ends, status_ends, status_flags_ends, sync_ends, terminal_settings_ends, truncate_ends, truncate_open_ends, unlisted_command_ends, unlisted_request_ends, window_size_ends, working_directory_ends}
use Rattle.kernel_laws.proofs.KernelParts.{with_signals_kept}
use Rattle.kernel_laws.proofs.NamesKept.{link_row_keeps, make_directory_keeps, make_link_keeps, remove_name_keeps, rename_keeps}
use Rattle.kernel_laws.proofs.NodesRowsKept.{change_mode_keeps, change_open_mode_keeps, set_times_keeps, truncate_keeps, truncate_open_keeps}
use Rattle.kernel_laws.proofs.OpenRowsKept.{change_directory_keeps, change_to_open_keeps, open_file_ends, open_file_keeps}
use Rattle.kernel_laws.proofs.OpenThingsKept.{access_keeps, bytes_ready_keeps, close_on_exec_keeps, entries_keeps, read_at_keeps, read_link_keeps, set_close_on_exec_keeps, set_terminal_settings_keeps, set_umask_keeps, status_at_path_keeps, status_flags_keeps, status_keeps, sync_keeps, terminal_settings_keeps, unlisted_command_keeps, unlisted_request_keeps, window_size_keeps, working_directory_keeps}
use Rattle.kernel_laws.proofs.OtherKept.{alarm_keeps, arm_timer_keeps, poll_keeps, random_bytes_keeps, read_clock_keeps, read_timer_keeps, resolution_keeps, select_keeps, set_limit_keeps, sleep_keeps}
use Rattle.kernel_laws.proofs.SignalsKept.{accept_keeps, change_mask_keeps, kill_keeps, kill_thread_keeps, kill_thread_of_keeps, pause_keeps, pending_keeps, queue_keeps, set_action_keeps, set_stack_keeps, suspend_keeps}
use Rattle.kernel_laws.proofs.TransferEnds.{read_at_ends, write_at_ends}
use Rattle.kernel_laws.proofs.WholeKept.{accept_ends, advance_ends, alarm_ends, arm_timer_ends, change_mask_ends, kernel_read_ends, kernel_read_kept, kernel_write_ends, kernel_write_kept, kill_ends, kill_thread_ends, kill_thread_of_ends, sound_files, pause_ends, pending_ends, poll_ends, queue_ends, random_bytes_ends, read_clock_ends, read_timer_ends, resolution_ends, select_ends, set_action_ends, set_limit_ends, set_stack_ends, sleep_ends, suspend_ends}
use Rattle.kernel_laws.proofs.WriteKept.{write_at_keeps}
use Rattle.kernel_model.proofs.Advancing.{advance_kept}
use Rattle.kernel_model.proofs.DescribedRows.{seek_kept, set_nonblock_kept, set_status_flags_kept}
use Rattle.kernel_model.proofs.DuplicateKept.{duplicate_kept}
use Rattle.kernel_model.proofs.PipeKept.{make_pipe_kept}
use Rattle.kernel_model.proofs.Posting.{post_kept}

files_kept : (files : Files) (now : ℤ) (new : Files) → IsTime now → AreSoundFiles files → FilesBecome files now new → AreSoundFiles new
files_kept files now new time is (Close fd) = (close_keeps files is fd).kept
files_kept files now new time is (Duplicate fd from cloexec) = record { always = duplicate_kept files fd from cloexec is.always; ends = (duplicate_ends files is.ends fd from cloexec).kept }
files_kept files now new time is (DuplicateOnto fd onto) = (duplicate_onto_keeps files is fd onto).kept
files_kept files now new time is (DuplicateOntoWith fd onto cloexec) = (duplicate_onto_with_keeps files is fd onto cloexec).kept
files_kept files now new time is (MakePipe flags) = record { always = make_pipe_kept files flags is.always; ends = (make_pipe_ends files is.ends is.always flags).kept }
files_kept files now new time is (CloseOnExec fd) = record { always = (close_on_exec_keeps files is.always fd).kept; ends = (close_on_exec_ends files is.ends fd).kept }
files_kept files now new time is (SetCloseOnExec fd cloexec) = record { always = (set_close_on_exec_keeps files is.always fd cloexec).kept; ends = (set_close_on_exec_ends files is.ends fd cloexec).kept }
files_kept files now new time is (ShowFlags fd) = record { always = (status_flags_keeps files is.always fd).kept; ends = (status_flags_ends files is.ends fd).kept }
files_kept files now new time is (SetStatusFlags fd append nonblock) = record { always = set_status_flags_kept files fd is.always append nonblock; ends = (set_status_flags_ends files is.ends fd append nonblock).kept }
files_kept files now new time is (SetNonblock fd on) = record { always = set_nonblock_kept files fd is.always on; ends = (set_nonblock_ends files is.ends fd on).kept }
files_kept files now new time is (UnlistedCommand fd) = record { always = (unlisted_command_keeps files is.always fd).kept; ends = (unlisted_command_ends files is.ends fd).kept }
files_kept files now new time is (UnlistedRequest fd) = record { always = (unlisted_request_keeps files is.always fd).kept; ends = (unlisted_request_ends files is.ends fd).kept }
files_kept files now new time is (Seek fd offset origin) = record { always = seek_kept files fd is.always offset origin; ends = (seek_ends files is.ends fd offset origin).kept }
files_kept files now new time is (Status fd) = record { always = (status_keeps files is.always fd).kept; ends = (status_ends files is.ends fd).kept }
files_kept files now new time is (Entries fd records size room) = record { always = (entries_keeps files is.always fd records size room).kept; ends = (entries_ends files is.ends fd records size room).kept }
files_kept files now new time is (Sync fd) = record { always = (sync_keeps files is.always fd).kept; ends = (sync_ends files is.ends fd).kept }
files_kept files now new time is (BytesReady fd) = record { always = (bytes_ready_keeps files is.always fd).kept; ends = (bytes_ready_ends files is.ends fd).kept }
files_kept files now new time is (ShowTerminal fd) = record { always = (terminal_settings_keeps files is.always fd).kept; ends = (terminal_settings_ends files is.ends fd).kept }
files_kept files now new time is (SetTerminal fd settings) = record { always = (set_terminal_settings_keeps files is.always fd settings).kept; ends = (set_terminal_settings_ends files is.ends fd settings).kept }
files_kept files now new time is (WindowSize fd) = record { always = (window_size_keeps files is.always fd).kept; ends = (window_size_ends files is.ends fd).kept }
files_kept files now new time is (ReadAt fd place asked room) = record { always = (read_at_keeps files is.always fd place asked room).kept; ends = (read_at_ends files is.ends fd place asked room).kept }
files_kept files now new time is (WriteAt limit fd place asked bytes are) = record { always = (write_at_keeps files is.always now time limit bytes are fd place asked).kept; ends = (write_at_ends files is.ends limit now fd place asked bytes).kept }
files_kept files now new time is (OpenFile limit base path flags mode text) = record { always = (open_file_keeps files is.always now time limit base path text mode flags).kept; ends = (open_file_ends files is.always now time limit base path text mode is.ends flags).kept }
files_kept files now new time is (MakeDirectory base path mode text) = record { always = (make_directory_keeps files is.always now time base path text mode).kept; ends = (make_directory_ends files is.ends now base path mode).kept }
files_kept files now new time is (RemoveName base path directory text) = record { always = (remove_name_keeps files is.always now time base path text directory).kept; ends = (remove_name_ends files is.ends now base path directory).kept }
files_kept files now new time is (Link old_base old_path new_base new_path follow old_text new_text) = record { always = (link_row_keeps files is.always now time old_base old_path old_text new_base new_path new_text follow).kept; ends = (link_ends files is.ends now old_base old_path new_base new_path follow).kept }
files_kept files now new time is (MakeLink target base path short text) = record { always = (make_link_keeps files is.always now time base path text target short).kept; ends = (make_link_ends files is.ends now target base path).kept }
files_kept files now new time is (Rename old_base old_path new_base new_path old_text new_text) = record { always = (rename_keeps files is.always now time old_base old_path old_text new_base new_path new_text).kept; ends = (rename_ends files is.ends now old_base old_path new_base new_path).kept }
files_kept files now new time is (ReadLink base path size) = record { always = (read_link_keeps files is.always base path size).kept; ends = (read_link_ends files is.ends base path size).kept }
files_kept files now new time is (StatusAtPath base path flags) = record { always = (status_at_path_keeps files is.always base path flags).kept; ends = (status_at_path_ends files is.ends base path flags).kept }
files_kept files now new time is (Access base path mode) = record { always = (access_keeps files is.always base path mode).kept; ends = (access_ends files is.ends base path mode).kept }
files_kept files now new time is (ChangeMode base path mode) = record { always = (change_mode_keeps files is.always now time base path mode).kept; ends = (change_mode_ends files is.ends now base path mode).kept }
files_kept files now new time is (ChangeOpenMode fd mode) = record { always = (change_open_mode_keeps files is.always now time fd mode).kept; ends = (change_open_mode_ends files is.ends now fd mode).kept }
files_kept files now new time is (SetTimes base path times follow fits) = record { always = (set_times_keeps files is.always now time times fits base path follow).kept; ends = (set_times_ends files is.ends now base path times follow).kept }
files_kept files now new time is (Truncate base path size) = record { always = (truncate_keeps files is.always now time base path size).kept; ends = (truncate_ends files is.ends now base path size).kept }
files_kept files now new time is (TruncateOpen fd size) = record { always = (truncate_open_keeps files is.always now time fd size).kept; ends = (truncate_open_ends files is.ends now fd size).kept }
files_kept files now new time is (ChangeDirectory path) = record { always = (change_directory_keeps files is.always path).kept; ends = (change_directory_ends files is.ends path).kept }
files_kept files now new time is (ChangeToOpen fd) = record { always = (change_to_open_keeps files is.always fd).kept; ends = (change_to_open_ends files is.ends fd).kept }
files_kept files now new time is (WorkingDirectory size) = record { always = (working_directory_keeps files is.always size).kept; ends = (working_directory_ends files is.ends size).kept }
files_kept files now new time is (SetUmask umask) = record { always = (set_umask_keeps files is.always umask).kept; ends = (set_umask_ends files is.ends umask).kept }

kernel_kept : (kernel : Kernel) (new : Kernel) → IsSoundKernel kernel → Becomes kernel new → IsSoundKernel new
kernel_kept kernel new is (OnFiles files time row) = sound_files kernel files is (files_kept kernel.files (now kernel) files time (record { always = is.always.files; ends = is.ends }) row)
kernel_kept kernel new is (Read left fd asked room) = record { always = kernel_read_kept kernel is.always left fd asked room; ends = kernel_read_ends kernel is.ends left fd asked room }
kernel_kept kernel new is (Write limit fd asked bytes time are) = record { always = kernel_write_kept kernel is.always time limit fd asked bytes are; ends = kernel_write_ends kernel is.ends limit fd asked bytes }
kernel_kept kernel new is (Post info kept) = record { always = with_signals_kept kernel is.always _ (post_kept kernel.signals info kept is.always.signals); ends = is.ends }
kernel_kept kernel new is (Advance to kept) = record { always = advance_kept kernel to kept is.always; ends = advance_ends kernel is.ends to kept }
kernel_kept kernel new is (ReadClock quanta id) = record { always = (read_clock_keeps kernel is.always quanta id).kept; ends = (read_clock_ends kernel is.ends quanta id).kept }
kernel_kept kernel new is (Resolution id) = record { always = (resolution_keeps kernel is.always id).kept; ends = (resolution_ends kernel is.ends id).kept }
kernel_kept kernel new is (Sleep id absolute time) = record { always = (sleep_keeps kernel is.always id absolute time).kept; ends = (sleep_ends kernel is.ends id absolute time).kept }
kernel_kept kernel new is (ArmTimer which setting) = record { always = (arm_timer_keeps kernel is.always which setting).kept; ends = (arm_timer_ends kernel is.ends which setting).kept }
kernel_kept kernel new is (ReadTimer which) = record { always = (read_timer_keeps kernel is.always which).kept; ends = (read_timer_ends kernel is.ends which).kept }
kernel_kept kernel new is (Alarm seconds) = record { always = (alarm_keeps kernel is.always seconds).kept; ends = (alarm_ends kernel is.ends seconds).kept }
kernel_kept kernel new is (SetAction size signal action masked) = record { always = (set_action_keeps kernel is.always size signal action masked).kept; ends = (set_action_ends kernel is.ends size signal action).kept }
kernel_kept kernel new is (ChangeMask size how set words) = record { always = (change_mask_keeps kernel is.always size how set words).kept; ends = (change_mask_ends kernel is.ends size how set).kept }
kernel_kept kernel new is (Pending size) = record { always = (pending_keeps kernel is.always size).kept; ends = (pending_ends kernel is.ends size).kept }
kernel_kept kernel new is (Accept order waitable set time size) = record { always = (accept_keeps kernel is.always order waitable set time size).kept; ends = (accept_ends kernel is.ends order waitable set time size).kept }
kernel_kept kernel new is (Suspend size set) = record { always = (suspend_keeps kernel is.always size set).kept; ends = (suspend_ends kernel is.ends size set).kept }
kernel_kept kernel new is Pause = record { always = (pause_keeps kernel is.always).kept; ends = (pause_ends kernel is.ends).kept }
kernel_kept kernel new is (SetStack sp stack) = record { always = (set_stack_keeps kernel is.always sp stack).kept; ends = (set_stack_ends kernel is.ends sp stack).kept }
kernel_kept kernel new is (Kill pid signal) = record { always = (kill_keeps kernel is.always pid signal).kept; ends = (kill_ends kernel is.ends pid signal).kept }
kernel_kept kernel new is (KillThread tid signal) = record { always = (kill_thread_keeps kernel is.always tid signal).kept; ends = (kill_thread_ends kernel is.ends tid signal).kept }
kernel_kept kernel new is (KillThreadOf pid tid signal) = record { always = (kill_thread_of_keeps kernel is.always pid tid signal).kept; ends = (kill_thread_of_ends kernel is.ends pid tid signal).kept }
kernel_kept kernel new is (Queue pid signal sent) = record { always = (queue_keeps kernel is.always pid signal sent).kept; ends = (queue_ends kernel is.ends pid signal sent).kept }
kernel_kept kernel new is (Poll wait count entries) = record { always = (poll_keeps kernel is.always wait count entries).kept; ends = (poll_ends kernel is.ends wait count entries).kept }
kernel_kept kernel new is (Select wait count sets) = record { always = (select_keeps kernel is.always wait count sets).kept; ends = (select_ends kernel is.ends wait count sets).kept }
kernel_kept kernel new is (SetLimit pid resource limit fits) = record { always = (set_limit_keeps kernel is.always pid resource limit fits).kept; ends = (set_limit_ends kernel is.ends pid resource limit).kept }
kernel_kept kernel new is (RandomBytes asked room flags) = record { always = (random_bytes_keeps kernel is.always asked room flags).kept; ends = (random_bytes_ends kernel is.ends asked room flags).kept }

pub reached_is : (first kernel : Kernel) → IsSoundKernel first → Reaches first kernel → IsSoundKernel kernel
reached_is first kernel is Begins = is
reached_is first kernel is (GoesOn middle new before row) = kernel_kept middle new (reached_is first middle is before) row
