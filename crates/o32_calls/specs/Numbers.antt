-- The numbers of the calls of an o32 program (Linux arch/mips/include/uapi/asm/unistd.h, the o32 table).
use Rattle.std.specs.Prelude.{ℕ, Option, List, [], ◌∷◌}
use Rattle.number_tables.specs.Numbered.{numbered}
use Rattle.o32_calls.specs.declared.bridged_call.BridgedCall.TheVariants as group
use Rattle.o32_calls.specs.declared.bridged_call.BridgedCall.{BridgedCall}
use Rattle.o32_calls.specs.declared.descriptors.IoCall.TheVariants.{Read, Write, Close, Dup, Pipe, Ioctl, Fcntl, Dup2, Readv, Writev, Pread64, Pwrite64, Fcntl64, Dup3, Pipe2}
use Rattle.o32_calls.specs.declared.descriptors.IoCall.{IoCall}
use Rattle.o32_calls.specs.declared.files.EntriesCall.TheVariants.{Getdents, Getdents64}
use Rattle.o32_calls.specs.declared.files.EntriesCall.{EntriesCall}
use Rattle.o32_calls.specs.declared.files.OpenCall.TheVariants.{Open, Creat, Openat}
use Rattle.o32_calls.specs.declared.files.OpenCall.{OpenCall}
use Rattle.o32_calls.specs.declared.files.StatusCall.TheVariants.{Stat, Lstat, Fstat, Stat64, Lstat64, Fstat64, Fstatat64}
use Rattle.o32_calls.specs.declared.files.StatusCall.{StatusCall}
use Rattle.o32_calls.specs.declared.mappings.MapCall.TheVariants.{Brk, Mmap, Munmap, Mprotect, Msync, Mremap, Mmap2, Madvise}
use Rattle.o32_calls.specs.declared.mappings.MapCall.{MapCall}
use Rattle.o32_calls.specs.declared.names.FileCall.TheVariants.{Name, Node, Text, Size, Place}
use Rattle.o32_calls.specs.declared.names.FileCall.{FileCall}
use Rattle.o32_calls.specs.declared.names.NameCall.TheVariants.{Link, Unlink, Rename, Mkdir, Rmdir, Symlink, Mkdirat, Unlinkat, Renameat, Linkat, Symlinkat}
use Rattle.o32_calls.specs.declared.names.NameCall.{NameCall}
use Rattle.o32_calls.specs.declared.names.NodeCall.TheVariants.{Chdir, Chmod, Access, Umask, Fchmod, Fsync, Fchdir, Fdatasync, Fchmodat, Faccessat, Utimensat}
use Rattle.o32_calls.specs.declared.names.NodeCall.{NodeCall}
use Rattle.o32_calls.specs.declared.names.PlaceCall.TheVariants.{Lseek, Llseek}
use Rattle.o32_calls.specs.declared.names.PlaceCall.{PlaceCall}
use Rattle.o32_calls.specs.declared.names.SizeCall.TheVariants.{Truncate, Ftruncate, Truncate64, Ftruncate64}
use Rattle.o32_calls.specs.declared.names.SizeCall.{SizeCall}
use Rattle.o32_calls.specs.declared.names.TextCall.TheVariants.{Readlink, Getcwd, Readlinkat}
use Rattle.o32_calls.specs.declared.names.TextCall.{TextCall}
use Rattle.o32_calls.specs.declared.o32_call.O32Call.TheVariants.{Plain, Bridged}
use Rattle.o32_calls.specs.declared.o32_call.O32Call.{O32Call}
use Rattle.o32_calls.specs.declared.process.PlainCall.TheVariants.{Exit, Getpid, Getuid, Getgid, Geteuid, Getegid, Getppid, Cacheflush, SchedYield, Gettid, ExitGroup, SetTidAddress, SetThreadArea, SetRobustList}
use Rattle.o32_calls.specs.declared.process.PlainCall.{PlainCall}
use Rattle.o32_calls.specs.declared.process.SystemCall.TheVariants.{Getrlimit, Uname, Prlimit64, Getrandom}
use Rattle.o32_calls.specs.declared.process.SystemCall.{SystemCall}
use Rattle.o32_calls.specs.declared.signals.SignalCall.TheVariants.{Pause, Kill, Sigreturn, RtSigreturn, RtSigaction, RtSigprocmask, RtSigpending, RtSigqueueinfo, RtSigsuspend, Sigaltstack, Tkill, RestartSyscall, Tgkill}
use Rattle.o32_calls.specs.declared.signals.SignalCall.{SignalCall}
use Rattle.o32_calls.specs.declared.times.PollCall.TheVariants.{Poll, Ppoll}
use Rattle.o32_calls.specs.declared.times.PollCall.{PollCall}
use Rattle.o32_calls.specs.declared.times.SelectCall.TheVariants.{Newselect, Pselect6}
use Rattle.o32_calls.specs.declared.times.SelectCall.{SelectCall}
use Rattle.o32_calls.specs.declared.times.TimeCall.TheVariants.{Time, Gettimeofday, Nanosleep, ClockGettime, ClockGetres, ClockNanosleep}
use Rattle.o32_calls.specs.declared.times.TimeCall.{TimeCall}
use Rattle.o32_calls.specs.declared.times.TimerCall.TheVariants.{Alarm, Setitimer, Getitimer}
use Rattle.o32_calls.specs.declared.times.TimerCall.{TimerCall}

-- a call on descriptors and what they have open
abbrev pub io_number : IoCall → ℕ
io_number Read = 4003
io_number Write = 4004
io_number Close = 4006
io_number Dup = 4041
io_number Pipe = 4042
io_number Ioctl = 4054
io_number Fcntl = 4055
io_number Dup2 = 4063
io_number Readv = 4145
io_number Writev = 4146
io_number Pread64 = 4200
io_number Pwrite64 = 4201
io_number Fcntl64 = 4220
io_number Dup3 = 4327
io_number Pipe2 = 4328

-- a call that opens a file
abbrev pub open_number : OpenCall → ℕ
open_number Open = 4005
open_number Creat = 4008
open_number Openat = 4288

-- a call that tells a status
abbrev pub status_number : StatusCall → ℕ
status_number Stat = 4106
status_number Lstat = 4107
status_number Fstat = 4108
status_number Stat64 = 4213
status_number Lstat64 = 4214
status_number Fstat64 = 4215
status_number Fstatat64 = 4293

-- a call that lists a directory
abbrev pub entries_number : EntriesCall → ℕ
entries_number Getdents = 4141
entries_number Getdents64 = 4219

-- a call that makes, moves or removes a name
abbrev pub name_number : NameCall → ℕ
name_number Link = 4009
name_number Unlink = 4010
name_number Rename = 4038
name_number Mkdir = 4039
name_number Rmdir = 4040
name_number Symlink = 4083
name_number Mkdirat = 4289
name_number Unlinkat = 4294
name_number Renameat = 4295
name_number Linkat = 4296
name_number Symlinkat = 4297

-- a call on a file itself, or on what a process keeps of files: its working directory and its mask
abbrev pub node_number : NodeCall → ℕ
node_number Chdir = 4012
node_number Chmod = 4015
node_number Access = 4033
node_number Umask = 4060
node_number Fchmod = 4094
node_number Fsync = 4118
node_number Fchdir = 4133
node_number Fdatasync = 4152
node_number Fchmodat = 4299
node_number Faccessat = 4300
node_number Utimensat = 4316

-- a call that tells a path
abbrev pub text_number : TextCall → ℕ
text_number Readlink = 4085
text_number Getcwd = 4203
text_number Readlinkat = 4298

-- a call that sets the size of a file
abbrev pub size_number : SizeCall → ℕ
size_number Truncate = 4092
size_number Ftruncate = 4093
size_number Truncate64 = 4211
size_number Ftruncate64 = 4212

-- a call that sets a file offset
abbrev pub place_number : PlaceCall → ℕ
place_number Lseek = 4019
place_number Llseek = 4140

-- a call on mappings, or on the break
abbrev pub map_number : MapCall → ℕ
map_number Brk = 4045
map_number Mmap = 4090
map_number Munmap = 4091
map_number Mprotect = 4125
map_number Msync = 4144
map_number Mremap = 4167
map_number Mmap2 = 4210
map_number Madvise = 4218

-- a call on clocks, or a sleep
abbrev pub time_number : TimeCall → ℕ
time_number Time = 4013
time_number Gettimeofday = 4078
time_number Nanosleep = 4166
time_number ClockGettime = 4263
time_number ClockGetres = 4264
time_number ClockNanosleep = 4265

-- a call on the interval timer
abbrev pub timer_number : TimerCall → ℕ
timer_number Alarm = 4027
timer_number Setitimer = 4104
timer_number Getitimer = 4105

-- a call that asks which descriptors of an array are ready
abbrev pub poll_number : PollCall → ℕ
poll_number Poll = 4188
poll_number Ppoll = 4302

-- a call that asks which descriptors of sets are ready
abbrev pub select_number : SelectCall → ℕ
select_number Newselect = 4142
select_number Pselect6 = 4301

-- a call on signals, but for the one that accepts a signal
abbrev pub signal_number : SignalCall → ℕ
signal_number Pause = 4029
signal_number Kill = 4037
signal_number Sigreturn = 4119
signal_number RtSigreturn = 4193
signal_number RtSigaction = 4194
signal_number RtSigprocmask = 4195
signal_number RtSigpending = 4196
signal_number RtSigqueueinfo = 4198
signal_number RtSigsuspend = 4199
signal_number Sigaltstack = 4206
signal_number Tkill = 4236
signal_number RestartSyscall = 4253
signal_number Tgkill = 4266

-- a small call that asks the kernel, or the outside
abbrev pub system_number : SystemCall → ℕ
system_number Getrlimit = 4076
system_number Uname = 4122
system_number Prlimit64 = 4338
system_number Getrandom = 4353

-- a small call that asks the kernel for nothing
abbrev pub plain_number : PlainCall → ℕ
plain_number Exit = 4001
plain_number Getpid = 4020
plain_number Getuid = 4024
plain_number Getgid = 4047
plain_number Geteuid = 4049
plain_number Getegid = 4050
plain_number Getppid = 4064
plain_number Cacheflush = 4147
plain_number SchedYield = 4162
plain_number Gettid = 4222
plain_number ExitGroup = 4246
plain_number SetTidAddress = 4252
plain_number SetThreadArea = 4283
plain_number SetRobustList = 4309

-- rt_sigtimedwait, as in sigtimedwait(2)
abbrev pub rt_sigtimedwait_number : ℕ
rt_sigtimedwait_number = 4197

-- a call on files by their names, or on their sizes, places and times
abbrev pub file_number : FileCall → ℕ
file_number (Name call) = name_number call
file_number (Node call) = node_number call
file_number (Text call) = text_number call
file_number (Size call) = size_number call
file_number (Place call) = place_number call

-- a call that a bridge makes
abbrev pub bridged_number : BridgedCall → ℕ
bridged_number (group.Io call) = io_number call
bridged_number (group.Open call) = open_number call
bridged_number (group.Status call) = status_number call
bridged_number (group.Entries call) = entries_number call
bridged_number (group.File call) = file_number call
bridged_number (group.Map call) = map_number call
bridged_number (group.Time call) = time_number call
bridged_number (group.Timer call) = timer_number call
bridged_number (group.Poll call) = poll_number call
bridged_number (group.Select call) = select_number call
bridged_number group.RtSigtimedwait = rt_sigtimedwait_number
bridged_number (group.Signal call) = signal_number call
bridged_number (group.System call) = system_number call

-- the number of a call
abbrev pub o32_number : O32Call → ℕ
o32_number (Plain call) = plain_number call
o32_number (Bridged call) = bridged_number call

-- the calls
abbrev pub calls : List O32Call
calls =
    Plain Exit
    ∷ Bridged (group.Io Read)
    ∷ Bridged (group.Io Write)
    ∷ Bridged (group.Open Open)
    ∷ Bridged (group.Io Close)
    ∷ Bridged (group.Open Creat)
    ∷ Bridged (group.File (Name Link))
    ∷ Bridged (group.File (Name Unlink))
    ∷ Bridged (group.File (Node Chdir))
    ∷ Bridged (group.Time Time)
    ∷ Bridged (group.File (Node Chmod))
    ∷ Bridged (group.File (Place Lseek))
    ∷ Plain Getpid
    ∷ Plain Getuid
    ∷ Bridged (group.Timer Alarm)
    ∷ Bridged (group.Signal Pause)
    ∷ Bridged (group.File (Node Access))
    ∷ Bridged (group.Signal Kill)
    ∷ Bridged (group.File (Name Rename))
    ∷ Bridged (group.File (Name Mkdir))
    ∷ Bridged (group.File (Name Rmdir))
    ∷ Bridged (group.Io Dup)
    ∷ Bridged (group.Io Pipe)
    ∷ Bridged (group.Map Brk)
    ∷ Plain Getgid
    ∷ Plain Geteuid
    ∷ Plain Getegid
    ∷ Bridged (group.Io Ioctl)
    ∷ Bridged (group.Io Fcntl)
    ∷ Bridged (group.File (Node Umask))
    ∷ Bridged (group.Io Dup2)
    ∷ Plain Getppid
    ∷ Bridged (group.System Getrlimit)
    ∷ Bridged (group.Time Gettimeofday)
    ∷ Bridged (group.File (Name Symlink))
    ∷ Bridged (group.File (Text Readlink))
    ∷ Bridged (group.Map Mmap)
    ∷ Bridged (group.Map Munmap)
    ∷ Bridged (group.File (Size Truncate))
    ∷ Bridged (group.File (Size Ftruncate))
    ∷ Bridged (group.File (Node Fchmod))
    ∷ Bridged (group.Timer Setitimer)
    ∷ Bridged (group.Timer Getitimer)
    ∷ Bridged (group.Status Stat)
    ∷ Bridged (group.Status Lstat)
    ∷ Bridged (group.Status Fstat)
    ∷ Bridged (group.File (Node Fsync))
    ∷ Bridged (group.Signal Sigreturn)
    ∷ Bridged (group.System Uname)
    ∷ Bridged (group.Map Mprotect)
    ∷ Bridged (group.File (Node Fchdir))
    ∷ Bridged (group.File (Place Llseek))
    ∷ Bridged (group.Entries Getdents)
    ∷ Bridged (group.Select Newselect)
    ∷ Bridged (group.Map Msync)
    ∷ Bridged (group.Io Readv)
    ∷ Bridged (group.Io Writev)
    ∷ Plain Cacheflush
    ∷ Bridged (group.File (Node Fdatasync))
    ∷ Plain SchedYield
    ∷ Bridged (group.Time Nanosleep)
    ∷ Bridged (group.Map Mremap)
    ∷ Bridged (group.Poll Poll)
    ∷ Bridged (group.Signal RtSigreturn)
    ∷ Bridged (group.Signal RtSigaction)
    ∷ Bridged (group.Signal RtSigprocmask)
    ∷ Bridged (group.Signal RtSigpending)
    ∷ Bridged group.RtSigtimedwait
    ∷ Bridged (group.Signal RtSigqueueinfo)
    ∷ Bridged (group.Signal RtSigsuspend)
    ∷ Bridged (group.Io Pread64)
    ∷ Bridged (group.Io Pwrite64)
    ∷ Bridged (group.File (Text Getcwd))
    ∷ Bridged (group.Signal Sigaltstack)
    ∷ Bridged (group.Map Mmap2)
    ∷ Bridged (group.File (Size Truncate64))
    ∷ Bridged (group.File (Size Ftruncate64))
    ∷ Bridged (group.Status Stat64)
    ∷ Bridged (group.Status Lstat64)
    ∷ Bridged (group.Status Fstat64)
    ∷ Bridged (group.Map Madvise)
    ∷ Bridged (group.Entries Getdents64)
    ∷ Bridged (group.Io Fcntl64)
    ∷ Plain Gettid
    ∷ Bridged (group.Signal Tkill)
    ∷ Plain ExitGroup
    ∷ Plain SetTidAddress
    ∷ Bridged (group.Signal RestartSyscall)
    ∷ Bridged (group.Time ClockGettime)
    ∷ Bridged (group.Time ClockGetres)
    ∷ Bridged (group.Time ClockNanosleep)
    ∷ Bridged (group.Signal Tgkill)
    ∷ Plain SetThreadArea
    ∷ Bridged (group.Open Openat)
    ∷ Bridged (group.File (Name Mkdirat))
    ∷ Bridged (group.Status Fstatat64)
    ∷ Bridged (group.File (Name Unlinkat))
    ∷ Bridged (group.File (Name Renameat))
    ∷ Bridged (group.File (Name Linkat))
    ∷ Bridged (group.File (Name Symlinkat))
    ∷ Bridged (group.File (Text Readlinkat))
    ∷ Bridged (group.File (Node Fchmodat))
    ∷ Bridged (group.File (Node Faccessat))
    ∷ Bridged (group.Select Pselect6)
    ∷ Bridged (group.Poll Ppoll)
    ∷ Plain SetRobustList
    ∷ Bridged (group.File (Node Utimensat))
    ∷ Bridged (group.Io Dup3)
    ∷ Bridged (group.Io Pipe2)
    ∷ Bridged (group.System Prlimit64)
    ∷ Bridged (group.System Getrandom)
    ∷ []

-- the one of this number
abbrev pub call_of_number : ℕ → Option O32Call
call_of_number number = numbered o32_number calls number
