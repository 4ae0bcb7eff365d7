-- What becomes of a kernel, row by row (this project's own).
use Rattle.std.specs.Prelude.{All, Bool, List, Option, ℕ, ℤ, ◌<◌, ◌^◌}
use Rattle.kernel_core.specs.FileSystem.{IsTime}
use Rattle.kernel_core.specs.declared.mask.MaskChange.{MaskChange}
use Rattle.kernel_core.specs.declared.resource.Resource.{Resource}
use Rattle.kernel_core.specs.declared.signal.Sig.{Sig}
use Rattle.kernel_laws.specs.Arguments.{AreSeconds, IsShortText, IsText, WhereGiven, WhereRead}
use Rattle.kernel_model.specs.Always.{IsSet}
use Rattle.kernel_model.specs.Came.{Given}
use Rattle.kernel_model.specs.Clock.{now, alarm, arm_timer, read_clock, read_timer, resolution, sleep, TimerSetting}
use Rattle.kernel_model.specs.ContentRows.{bytes_ready, entries, Records, seek, set_terminal_settings, status, sync, terminal_settings, window_size}
use Rattle.kernel_model.specs.DescriptorRows.{close, close_on_exec, duplicate, duplicate_onto, duplicate_onto_with, make_pipe, PipeFlags, set_close_on_exec, set_nonblock, set_status_flags, status_flags, unlisted_command, unlisted_request}
use Rattle.kernel_model.specs.NameRows.{link, make_directory, make_link, read_link, remove_name, rename}
use Rattle.kernel_model.specs.NodeRows.{access, change_directory, change_mode, change_open_mode, change_to_open, set_times, set_umask, status_at_path, StatusFlags, Times, truncate, truncate_open, working_directory}
use Rattle.kernel_model.specs.Opening.{open_file}
use Rattle.kernel_model.specs.Paths.{Base}
use Rattle.kernel_model.specs.Readiness.{poll, PollEntry, select, Sets}
use Rattle.kernel_model.specs.Shared.{Info, OpenSet}
use Rattle.kernel_model.specs.SignalRows.{accept, advance, change_mask, kill, kill_thread, kill_thread_of, Named, pause, pending, post, queue, SentInfo, set_action, set_stack, suspend, with_signals}
use Rattle.kernel_model.specs.SignalSets.{SignalSet}
use Rattle.kernel_model.specs.State.{Files, Kernel}
use Rattle.kernel_model.specs.System.{random_bytes, set_limit}
use Rattle.kernel_model.specs.Transfers.{read_at, write_at}
use Rattle.kernel_model.specs.Whole.{kernel_read, kernel_write, with_files}
use Rattle.kernel_model.specs.declared.limit.Limit.{Limit}
use Rattle.kernel_model.specs.declared.signal.Action.{Action}
use Rattle.kernel_model.specs.declared.signal.SigStack.{SigStack}
use Rattle.kernel_model.specs.declared.terminal.TerminalSettings.{TerminalSettings}
use Rattle.kernel_model.specs.declared.time.TimeSpec.{TimeSpec}

-- What files become by a row at this time, whatever it comes to.
pub data FilesBecome (old : Files) (now : ℤ) : Files → Type 0 where
  -- descriptors
  Close : (fd : ℕ) → FilesBecome old now (close old fd).state
  Duplicate : (fd : ℕ) (from : Option ℕ) (cloexec : Bool) → FilesBecome old now (duplicate old fd from cloexec).state
  DuplicateOnto : (fd onto : ℕ) → FilesBecome old now (duplicate_onto old fd onto).state
  DuplicateOntoWith : (fd onto : ℕ) (cloexec : Option Bool) → FilesBecome old now (duplicate_onto_with old fd onto cloexec).state
  MakePipe : (flags : Option PipeFlags) → FilesBecome old now (make_pipe old flags).state
  CloseOnExec : (fd : ℕ) → FilesBecome old now (close_on_exec old fd).state
  SetCloseOnExec : (fd : ℕ) (cloexec : Bool) → FilesBecome old now (set_close_on_exec old fd cloexec).state
  ShowFlags : (fd : ℕ) → FilesBecome old now (status_flags old fd).state
  SetStatusFlags : (fd : ℕ) (append nonblock : Bool) → FilesBecome old now (set_status_flags old fd append nonblock).state
  SetNonblock : (fd : ℕ) (on : Given Bool) → FilesBecome old now (set_nonblock old fd on).state
  UnlistedCommand : (fd : ℕ) → FilesBecome old now (unlisted_command old fd).state
  UnlistedRequest : (fd : ℕ) → FilesBecome old now (unlisted_request old fd).state
  -- what is open
  Seek : (fd : ℕ) (offset : ℤ) (origin : ℕ) → FilesBecome old now (seek old fd offset origin).state
  Status : (fd : ℕ) → FilesBecome old now (status old fd).state
  Entries : (fd : ℕ) (records : Records) (size room : ℕ) → FilesBecome old now (entries old fd records size room).state
  Sync : (fd : ℕ) → FilesBecome old now (sync old fd).state
  BytesReady : (fd : ℕ) → FilesBecome old now (bytes_ready old fd).state
  ShowTerminal : (fd : ℕ) → FilesBecome old now (terminal_settings old fd).state
  SetTerminal : (fd : ℕ) (settings : Given TerminalSettings) → FilesBecome old now (set_terminal_settings old fd settings).state
  WindowSize : (fd : ℕ) → FilesBecome old now (window_size old fd).state
  -- transfers at a place
  ReadAt : (fd : ℕ) (place : ℤ) (asked : Given ℕ) (room : ℕ) → FilesBecome old now (read_at old fd place asked room).state
  WriteAt : (limit : Option ℕ) (fd : ℕ) (place : ℤ) (asked : Given ℕ) (bytes : List ℕ) → All (λ byte. byte < 256) bytes → FilesBecome old now (write_at old limit now fd place asked bytes).state
  -- names
  OpenFile : (limit : Option ℕ) (base : Base) (path : Given (List ℕ)) (flags : Option OpenSet) (mode : ℕ) → WhereRead IsText path → FilesBecome old now (open_file old limit now base path flags mode).state
  MakeDirectory : (base : Base) (path : Given (List ℕ)) (mode : ℕ) → WhereRead IsText path → FilesBecome old now (make_directory old now base path mode).state
  RemoveName : (base : Base) (path : Given (List ℕ)) (directory : Option Bool) → WhereRead IsText path → FilesBecome old now (remove_name old now base path directory).state
  Link : (old_base : Base) (old_path : Given (List ℕ)) (new_base : Base) (new_path : Given (List ℕ)) (follow : Option Bool) → WhereRead IsText old_path → WhereRead IsText new_path → FilesBecome old now (link old now old_base old_path new_base new_path follow).state
  MakeLink : (target : Given (List ℕ)) (base : Base) (path : Given (List ℕ)) → WhereRead IsShortText target → WhereRead IsText path → FilesBecome old now (make_link old now target base path).state
  Rename : (old_base : Base) (old_path : Given (List ℕ)) (new_base : Base) (new_path : Given (List ℕ)) → WhereRead IsText old_path → WhereRead IsText new_path → FilesBecome old now (rename old now old_base old_path new_base new_path).state
  ReadLink : (base : Base) (path : Given (List ℕ)) (size : ℤ) → FilesBecome old now (read_link old base path size).state
  -- nodes
  StatusAtPath : (base : Base) (path : Given (List ℕ)) (flags : Option StatusFlags) → FilesBecome old now (status_at_path old base path flags).state
  Access : (base : Base) (path : Given (List ℕ)) (mode : ℕ) → FilesBecome old now (access old base path mode).state
  ChangeMode : (base : Base) (path : Given (List ℕ)) (mode : ℕ) → FilesBecome old now (change_mode old now base path mode).state
  ChangeOpenMode : (fd mode : ℕ) → FilesBecome old now (change_open_mode old now fd mode).state
  SetTimes : (base : Base) (path : Option (Given (List ℕ))) (times : Option (Given Times)) (follow : Option Bool) → WhereGiven AreSeconds times → FilesBecome old now (set_times old now base path times follow).state
  Truncate : (base : Base) (path : Given (List ℕ)) (size : ℤ) → FilesBecome old now (truncate old now base path size).state
  TruncateOpen : (fd : ℕ) (size : ℤ) → FilesBecome old now (truncate_open old now fd size).state
  ChangeDirectory : (path : Given (List ℕ)) → FilesBecome old now (change_directory old path).state
  ChangeToOpen : (fd : ℕ) → FilesBecome old now (change_to_open old fd).state
  WorkingDirectory : (size : ℕ) → FilesBecome old now (working_directory old size).state
  SetUmask : (umask : ℕ) → FilesBecome old now (set_umask old umask).state

-- What the kernel becomes: by a row on files, by a read or a write, by the move of the clock, by a signal from outside, and by the other rows.
pub data Becomes (old : Kernel) : Kernel → Type 0 where
  -- files and time
  OnFiles : (files : Files) → IsTime (now old) → FilesBecome old.files (now old) files → Becomes old (with_files old files)
  Read : (left : List ℕ) (fd : ℕ) (asked : Given ℕ) (room : ℕ) → Becomes old (kernel_read old left fd asked room).state.kernel
  Write : (limit : Option ℕ) (fd : ℕ) (asked : Given ℕ) (bytes : List ℕ) → IsTime (now old) → All (λ byte. byte < 256) bytes
      → Becomes old (kernel_write old limit fd asked bytes).state.kernel
  Advance : (to : ℕ) (kept : Bool) → Becomes old (advance old to kept)
  -- a signal from outside
  Post : (info : Info) (kept : Bool) → Becomes old (with_signals old (post old.signals info kept).signals)
  -- time
  ReadClock : (quanta id : ℕ) → Becomes old (read_clock old quanta id).state
  Resolution : (id : ℕ) → Becomes old (resolution old id).state
  Sleep : (id : ℕ) (absolute : Option Bool) (time : Given TimeSpec) → Becomes old (sleep old id absolute time).state
  ArmTimer : (which : ℕ) (setting : Option (Given TimerSetting)) → Becomes old (arm_timer old which setting).state
  ReadTimer : (which : ℕ) → Becomes old (read_timer old which).state
  Alarm : (seconds : ℕ) → Becomes old (alarm old seconds).state
  -- signals
  SetAction : (size : ℕ) (signal : Option Sig) (action : Option (Given Action)) → WhereGiven (λ a. IsSet a.mask) action → Becomes old (set_action old size signal action).state
  ChangeMask : (size : ℕ) (how : Option MaskChange) (set : Option (Given SignalSet)) → WhereGiven IsSet set → Becomes old (change_mask old size how set).state
  Pending : (size : ℕ) → Becomes old (pending old size).state
  Accept : (order : List Sig) (waitable : SignalSet → SignalSet) (set : Given SignalSet) (time : Option (Given TimeSpec)) (size : ℕ) → Becomes old (accept old order waitable set time size).state
  Suspend : (size : ℕ) (set : Given SignalSet) → Becomes old (suspend old size set).state
  Pause : Becomes old (pause old).state
  SetStack : (sp : Option ℕ) (stack : Option (Given SigStack)) → Becomes old (set_stack old sp stack).state
  -- sending
  Kill : (pid : ℤ) (signal : Named) → Becomes old (kill old pid signal).state
  KillThread : (tid : ℤ) (signal : Named) → Becomes old (kill_thread old tid signal).state
  KillThreadOf : (pid tid : ℤ) (signal : Named) → Becomes old (kill_thread_of old pid tid signal).state
  Queue : (pid : ℤ) (signal : Named) (sent : Given SentInfo) → Becomes old (queue old pid signal sent).state
  -- readiness, limits and chance
  Poll : (wait : Given (Option ℕ)) (count : ℕ) (entries : Given (List PollEntry)) → Becomes old (poll old wait count entries).state
  Select : (wait : Given (Option ℕ)) (count : ℤ) (sets : Given Sets) → Becomes old (select old wait count sets).state
  SetLimit : (pid : ℤ) (resource : Option Resource) (limit : Option (Given Limit)) → WhereGiven (λ l. l.hard < 2 ^ 64) limit → Becomes old (set_limit old pid resource limit).state
  RandomBytes : (asked room flags : ℕ) → Becomes old (random_bytes old asked room flags).state

-- what the kernel becomes after any number of them
pub data Reaches (first : Kernel) : Kernel → Type 0 where
  Begins : Reaches first first
  GoesOn : (middle new : Kernel) → Reaches first middle → Becomes middle new → Reaches first new
