-- How many of its six arguments a native call takes (the manual page of each call, in section 2), and that it is handed 0 for each
-- that it doesn't take, and no byte of host memory where none of them is an address. (That it is, is this project's own.)
use Rattle.std.specs.Prelude.{◌≡◌, ℕ, ◌-◌, ◌==◌, ◌||◌, Bool, true, false, not, ⊤, List, [], ◌∷◌, drop, replicate, if◌then◌else◌}
use Rattle.kernel_core.specs.Bits.{has}
use Rattle.native_calls.specs.Arguments.{word}

abbrev pub is_among : ℕ → List ℕ → Bool
is_among number [] = false
is_among number (one ∷ numbers) = number == one || is_among number numbers

-- The numbers (Linux include/uapi/asm-generic/unistd.h)

-- dup, chdir, fchdir, close, fsync, fdatasync, uname, umask
abbrev pub with_one : List ℕ
with_one = 23 ∷ 49 ∷ 50 ∷ 57 ∷ 82 ∷ 83 ∷ 160 ∷ 166 ∷ []

-- getcwd, truncate, ftruncate, fchmod, pipe2, fstat, nanosleep, getitimer, clock_gettime, clock_getres, kill, tkill, sigaltstack,
-- rt_sigsuspend, rt_sigpending
abbrev pub with_two : List ℕ
with_two = 17 ∷ 45 ∷ 46 ∷ 52 ∷ 59 ∷ 80 ∷ 101 ∷ 102 ∷ 113 ∷ 114 ∷ 129 ∷ 130 ∷ 132 ∷ 133 ∷ 136 ∷ []

-- dup3, fcntl, ioctl, mkdirat, unlinkat, symlinkat, faccessat, fchmodat, getdents64, lseek, read, write, readv, writev, setitimer, tgkill,
-- rt_sigqueueinfo, getrandom
abbrev pub with_three : List ℕ
with_three = 24 ∷ 25 ∷ 29 ∷ 34 ∷ 35 ∷ 36 ∷ 48 ∷ 53 ∷ 61 ∷ 62 ∷ 63 ∷ 64 ∷ 65 ∷ 66 ∷ 103 ∷ 131 ∷ 138 ∷ 278 ∷ []

-- renameat, openat, pread64, pwrite64, readlinkat, newfstatat, utimensat, clock_nanosleep, rt_sigaction, rt_sigprocmask, rt_sigtimedwait,
-- prlimit64
abbrev pub with_four : List ℕ
with_four = 38 ∷ 56 ∷ 67 ∷ 68 ∷ 78 ∷ 79 ∷ 88 ∷ 115 ∷ 134 ∷ 135 ∷ 137 ∷ 261 ∷ []

-- linkat, ppoll
abbrev pub with_five : List ℕ
with_five = 37 ∷ 73 ∷ []

-- the most that a call takes: pselect6 all six; getpid and getppid none, and a number that no call has is handed none
abbrev pub most_arguments : ℕ → ℕ
most_arguments number =
    if is_among number with_one then 1
    else (if is_among number with_two then 2
    else (if is_among number with_three then 3
    else (if is_among number with_four then 4
    else (if is_among number with_five then 5
    else (if number == 72 then 6
    else 0)))))

-- The last argument of fcntl(2), ioctl(2) and openat(2) is taken by what they are asked for.

-- F_DUPFD, F_SETFD, F_SETFL, F_DUPFD_CLOEXEC (Linux include/uapi/asm-generic/fcntl.h and include/uapi/linux/fcntl.h)
abbrev pub commands_with_argument : List ℕ
commands_with_argument = 0 ∷ 2 ∷ 4 ∷ 1030 ∷ []

-- TCGETS, TCSETS, TCSETSW, TCSETSF, TIOCGWINSZ, FIONREAD, FIONBIO (Linux include/uapi/asm-generic/ioctls.h)
abbrev pub requests_with_argument : List ℕ
requests_with_argument = 0x5401 ∷ 0x5402 ∷ 0x5403 ∷ 0x5404 ∷ 0x5413 ∷ 0x541B ∷ 0x5421 ∷ []

-- O_CREAT, without which there is no mode (Linux include/uapi/asm-generic/fcntl.h)
abbrev pub create_flag : ℕ
create_flag = 0x40

abbrev pub takes_last : ℕ → List ℕ → Bool
takes_last number args =
    if number == 25 then is_among (word args 1) commands_with_argument
    else (if number == 29 then is_among (word args 1) requests_with_argument
    else (if number == 56 then has (word args 2) create_flag
    else true))

abbrev pub argument_count : ℕ → List ℕ → ℕ
argument_count number args = if takes_last number args then most_arguments number else most_arguments number - 1

-- the arguments behind those that the call takes are 0
abbrev pub AreUnusedZero : ℕ → List ℕ → Type 0
AreUnusedZero number args = drop (argument_count number args) args ≡ replicate (6 - argument_count number args) 0

-- Host memory

-- the calls that have no address among their arguments: dup, dup3, fcntl, ftruncate, fchdir, fchmod, close, lseek, fsync, fdatasync, kill,
-- tkill, tgkill, umask, getpid, getppid
abbrev pub without_address : List ℕ
without_address = 23 ∷ 24 ∷ 25 ∷ 46 ∷ 50 ∷ 52 ∷ 57 ∷ 62 ∷ 82 ∷ 83 ∷ 129 ∷ 130 ∷ 131 ∷ 166 ∷ 172 ∷ 173 ∷ []

abbrev pub takes_address : ℕ → Bool
takes_address number = not (is_among number without_address)

abbrev pub empty_unless : Bool → List ℕ → Type 0
empty_unless true memory = ⊤
empty_unless false memory = memory ≡ []

-- host memory has no byte where the call takes no address
abbrev pub IsPlaced : ℕ → List ℕ → Type 0
IsPlaced number memory = empty_unless (takes_address number) memory
