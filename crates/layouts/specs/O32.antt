-- The structures of an o32 program. Fields stand in the order in which a record names them; a
-- structure that both worlds have names them in one order.
use Rattle.std.specs.Prelude.{ℕ, true, List, [], ◌∷◌, ◌++◌}
use Rattle.layouts.specs.Shape.{Shape, byte, short, word, double, signed, row, text, moved}
use Rattle.layouts.specs.declared.field.Field.{Field}
use Rattle.layouts.specs.declared.o32.O32Structure.{O32Structure}
use Rattle.layouts.specs.declared.o32.O32Structure.TheVariants.{Stat, Stat64, Dirent, Dirent64, Iovec, Timespec, Timeval, Rlimit, Itimerval, Rlimit64, Pollfd, Winsize, Utsname, Termios, Sigaction, Stack, Siginfo, SiginfoFault, Sigcontext, Frame, RtFrame, RtFrameFault}

-- a structure with big-endian numbers
abbrev pub big_endian : ℕ → List Field → Shape
big_endian size fields = record { size = size; big = true; fields = fields }

-- dev, ino, mode, nlink, uid, gid, rdev, size, then atime, mtime and ctime each with its
-- nanoseconds, blksize, blocks (struct stat of Linux arch/mips/include/uapi/asm/stat.h)
abbrev pub stat : Shape
stat = big_endian 144
    (word 0 ∷ word 16 ∷ word 20 ∷ word 24 ∷ word 28 ∷ word 32 ∷ word 36 ∷ signed (word 48)
    ∷ signed (word 56) ∷ word 60 ∷ signed (word 64) ∷ word 68 ∷ signed (word 72) ∷ word 76
    ∷ word 80 ∷ word 84 ∷ [])

-- the same names (struct stat64 there)
abbrev pub stat64 : Shape
stat64 = big_endian 104
    (word 0 ∷ double 16 ∷ word 24 ∷ word 28 ∷ word 32 ∷ word 36 ∷ word 40 ∷ double 56
    ∷ signed (word 64) ∷ word 68 ∷ signed (word 72) ∷ word 76 ∷ signed (word 80) ∷ word 84
    ∷ word 88 ∷ double 96 ∷ [])

-- ino, off, reclen (the head of struct linux_dirent of getdents(2))
abbrev pub dirent : Shape
dirent = big_endian 10 (word 0 ∷ word 4 ∷ short 8 ∷ [])

-- ino, off, reclen, type (the head of struct linux_dirent64 of getdents64(2))
abbrev pub dirent64 : Shape
dirent64 = big_endian 19 (double 0 ∷ double 8 ∷ short 16 ∷ byte 18 ∷ [])

-- base, length (readv(2))
abbrev pub iovec : Shape
iovec = big_endian 8 (word 0 ∷ word 4 ∷ [])

-- seconds, nanoseconds or microseconds (clock_gettime(2), gettimeofday(2))
abbrev pub time : Shape
time = big_endian 8 (signed (word 0) ∷ signed (word 4) ∷ [])

-- soft, hard (getrlimit(2))
abbrev pub rlimit : Shape
rlimit = big_endian 8 (word 0 ∷ word 4 ∷ [])

-- the interval and then the value, each a time (setitimer(2))
abbrev pub itimerval : Shape
itimerval = big_endian 16 (time.fields ++ moved 8 time.fields)

-- soft, hard (prlimit(2))
abbrev pub rlimit64 : Shape
rlimit64 = big_endian 16 (double 0 ∷ double 8 ∷ [])

-- fd, events, revents (poll(2))
abbrev pub pollfd : Shape
pollfd = big_endian 8 (signed (word 0) ∷ short 4 ∷ short 6 ∷ [])

-- rows, columns and both in pixels (ioctl_tty(2))
abbrev pub winsize : Shape
winsize = big_endian 8 (row short 4 0)

-- six texts (uname(2))
abbrev pub utsname : Shape
utsname = big_endian 390 (text 0 ++ text 65 ++ text 130 ++ text 195 ++ text 260 ++ text 325)

-- four words of flags, the line, 23 characters (Linux arch/mips/include/uapi/asm/termbits.h)
abbrev pub termios : Shape
termios = big_endian 40 (row word 4 0 ++ byte 16 ∷ row byte 23 17)

-- flags, handler, four words of the mask (Linux arch/mips/include/uapi/asm/signal.h)
abbrev pub sigaction : Shape
sigaction = big_endian 24 (word 0 ∷ word 4 ∷ row word 4 8)

-- sp, size, flags (stack_t there)
abbrev pub stack : Shape
stack = big_endian 12 (word 0 ∷ word 4 ∷ word 8 ∷ [])

-- signo, code, errno, and for a signal that was sent pid, uid, value
-- (siginfo_t of Linux arch/mips/include/uapi/asm/siginfo.h)
abbrev pub siginfo : Shape
siginfo = big_endian 128 (signed (word 0) ∷ signed (word 4) ∷ signed (word 8) ∷ word 12 ∷ word 16 ∷ word 20 ∷ [])

-- signo, code, errno, and for a fault the address
abbrev pub siginfo_fault : Shape
siginfo_fault = big_endian 128 (signed (word 0) ∷ signed (word 4) ∷ signed (word 8) ∷ word 12 ∷ [])

-- pc, the 32 registers, HI, LO, each a word whose sign is carried on to 8 bytes
-- (this project's own profile, as the frames below)
abbrev pub signed_double : ℕ → Field
signed_double offset = signed (double offset)

abbrev pub sigcontext : Shape
sigcontext = big_endian 592
    (signed_double 8 ∷ row signed_double 32 16 ++ signed_double 552 ∷ signed_double 560 ∷ [])

-- where the parts of the frames lie, in bytes from a frame's start: the ucontext has the alternate
-- stack, the sigcontext and the mask
abbrev pub sigcontext_in_frame : ℕ
sigcontext_in_frame = 24

abbrev pub siginfo_in_rt_frame : ℕ
siginfo_in_rt_frame = 24

abbrev pub ucontext_in_rt_frame : ℕ
ucontext_in_rt_frame = 152

-- the frame of a handler without siginfo: the processor, the mask
abbrev pub frame : Shape
frame = big_endian 632 (moved sigcontext_in_frame sigcontext.fields ++ row word 4 616)

-- the alternate stack, the processor, the mask
abbrev pub ucontext : Shape
ucontext = big_endian 632 (moved 8 stack.fields ++ moved 24 sigcontext.fields ++ row word 4 616)

-- the frame of a handler with siginfo: the siginfo, the ucontext
abbrev pub rt_frame_of : Shape → Shape
rt_frame_of info = big_endian 784 (moved siginfo_in_rt_frame info.fields ++ moved ucontext_in_rt_frame ucontext.fields)

abbrev pub o32_shape : O32Structure → Shape
o32_shape Stat = stat
o32_shape Stat64 = stat64
o32_shape Dirent = dirent
o32_shape Dirent64 = dirent64
o32_shape Iovec = iovec
o32_shape Timespec = time
o32_shape Timeval = time
o32_shape Rlimit = rlimit
o32_shape Itimerval = itimerval
o32_shape Rlimit64 = rlimit64
o32_shape Pollfd = pollfd
o32_shape Winsize = winsize
o32_shape Utsname = utsname
o32_shape Termios = termios
o32_shape Sigaction = sigaction
o32_shape Stack = stack
o32_shape Siginfo = siginfo
o32_shape SiginfoFault = siginfo_fault
o32_shape Sigcontext = sigcontext
o32_shape Frame = frame
o32_shape RtFrame = rt_frame_of siginfo
o32_shape RtFrameFault = rt_frame_of siginfo_fault
