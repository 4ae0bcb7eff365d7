-- The structures of the native kernel, with the names of their fields in the order of an o32
-- program's.
use Rattle.std.specs.Prelude.{ℕ, false, List, [], ◌∷◌, ◌++◌}
use Rattle.layouts.specs.Shape.{Shape, byte, word, double, signed, row, moved}
use Rattle.layouts.specs.O32 as o32
use Rattle.layouts.specs.declared.field.Field.{Field}
use Rattle.layouts.specs.declared.native.NativeStructure.{NativeStructure}
use Rattle.layouts.specs.declared.native.NativeStructure.TheVariants.{Stat, Dirent64, Iovec, Timespec, Timeval, Rlimit, Itimerval, Pollfd, Winsize, Utsname, Termios, Sigaction, Stack, Siginfo}

-- a structure with little-endian numbers
abbrev pub little_endian : ℕ → List Field → Shape
little_endian size fields = record { size = size; big = false; fields = fields }

-- dev, ino, mode, nlink, uid, gid, rdev, size, then atime, mtime and ctime each with its
-- nanoseconds, blksize, blocks (struct stat of Linux include/uapi/asm-generic/stat.h)
abbrev pub stat : Shape
stat = little_endian 128
    (double 0 ∷ double 8 ∷ word 16 ∷ word 20 ∷ word 24 ∷ word 28 ∷ double 32 ∷ double 48
    ∷ signed (double 72) ∷ double 80 ∷ signed (double 88) ∷ double 96 ∷ signed (double 104) ∷ double 112
    ∷ word 56 ∷ double 64 ∷ [])

-- base, length (readv(2))
abbrev pub iovec : Shape
iovec = little_endian 16 (double 0 ∷ double 8 ∷ [])

-- seconds, nanoseconds or microseconds (clock_gettime(2), gettimeofday(2))
abbrev pub time : Shape
time = little_endian 16 (signed (double 0) ∷ signed (double 8) ∷ [])

-- soft, hard (prlimit(2))
abbrev pub rlimit : Shape
rlimit = little_endian 16 (double 0 ∷ double 8 ∷ [])

-- the interval and then the value, each a time (setitimer(2))
abbrev pub itimerval : Shape
itimerval = little_endian 32 (time.fields ++ moved 16 time.fields)

-- four words of flags, the line, 19 characters (Linux include/uapi/asm-generic/termbits.h)
abbrev pub termios : Shape
termios = little_endian 36 (row word 4 0 ++ byte 16 ∷ row byte 19 17)

-- flags, handler, two numbers of the mask (Linux include/uapi/asm-generic/signal.h)
abbrev pub sigaction : Shape
sigaction = little_endian 32 (double 8 ∷ double 0 ∷ row double 2 16)

-- sp, size, flags (stack_t there)
abbrev pub stack : Shape
stack = little_endian 24 (double 0 ∷ double 16 ∷ word 8 ∷ [])

-- signo, code, errno, pid, uid, value (siginfo_t of Linux include/uapi/asm-generic/siginfo.h)
abbrev pub siginfo : Shape
siginfo = little_endian 128 (signed (word 0) ∷ signed (word 8) ∷ signed (word 4) ∷ word 16 ∷ word 20 ∷ double 24 ∷ [])

-- the same fields as an o32 program's, in the other order of bytes
abbrev pub as_o32 : Shape → Shape
as_o32 shape = little_endian shape.size shape.fields

abbrev pub native_shape : NativeStructure → Shape
native_shape Stat = stat
native_shape Dirent64 = as_o32 o32.dirent64
native_shape Iovec = iovec
native_shape Timespec = time
native_shape Timeval = time
native_shape Rlimit = rlimit
native_shape Itimerval = itimerval
native_shape Pollfd = as_o32 o32.pollfd
native_shape Winsize = as_o32 o32.winsize
native_shape Utsname = as_o32 o32.utsname
native_shape Termios = termios
native_shape Sigaction = sigaction
native_shape Stack = stack
native_shape Siginfo = siginfo
