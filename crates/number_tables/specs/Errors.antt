-- The numbers of the errors in both worlds.
use Rattle.std.specs.Prelude.{ℕ, Option, List, [], ◌∷◌}
use Rattle.kernel_core.specs.declared.error.Errno.{Errno}
use Rattle.kernel_core.specs.declared.error.Errno.TheVariants.{EPERM, ENOENT, ESRCH, EINTR, EBADF, EAGAIN, ENOMEM, EACCES, EFAULT, EBUSY, EEXIST, ENODEV, ENOTDIR, EISDIR, EINVAL, EMFILE, ENOTTY, EFBIG, ENOSPC, ESPIPE, EPIPE, ERANGE, ENAMETOOLONG, EOVERFLOW, ENOSYS, ELOOP, ENOTEMPTY}
use Rattle.number_tables.specs.Numbered.{numbered}

-- the number of an error for an o32 program
-- (Linux include/uapi/asm-generic/errno-base.h and arch/mips/include/uapi/asm/errno.h)
abbrev pub o32_errno : Errno → ℕ
o32_errno EPERM = 1
o32_errno ENOENT = 2
o32_errno ESRCH = 3
o32_errno EINTR = 4
o32_errno EBADF = 9
o32_errno EAGAIN = 11
o32_errno ENOMEM = 12
o32_errno EACCES = 13
o32_errno EFAULT = 14
o32_errno EBUSY = 16
o32_errno EEXIST = 17
o32_errno ENODEV = 19
o32_errno ENOTDIR = 20
o32_errno EISDIR = 21
o32_errno EINVAL = 22
o32_errno EMFILE = 24
o32_errno ENOTTY = 25
o32_errno EFBIG = 27
o32_errno ENOSPC = 28
o32_errno ESPIPE = 29
o32_errno EPIPE = 32
o32_errno ERANGE = 34
o32_errno ENAMETOOLONG = 78
o32_errno EOVERFLOW = 79
o32_errno ENOSYS = 89
o32_errno ELOOP = 90
o32_errno ENOTEMPTY = 93

-- the number of an error for the native kernel
-- (Linux include/uapi/asm-generic/errno-base.h and errno.h)
abbrev pub native_errno : Errno → ℕ
native_errno EPERM = 1
native_errno ENOENT = 2
native_errno ESRCH = 3
native_errno EINTR = 4
native_errno EBADF = 9
native_errno EAGAIN = 11
native_errno ENOMEM = 12
native_errno EACCES = 13
native_errno EFAULT = 14
native_errno EBUSY = 16
native_errno EEXIST = 17
native_errno ENODEV = 19
native_errno ENOTDIR = 20
native_errno EISDIR = 21
native_errno EINVAL = 22
native_errno EMFILE = 24
native_errno ENOTTY = 25
native_errno EFBIG = 27
native_errno ENOSPC = 28
native_errno ESPIPE = 29
native_errno EPIPE = 32
native_errno ERANGE = 34
native_errno ENAMETOOLONG = 36
native_errno EOVERFLOW = 75
native_errno ENOSYS = 38
native_errno ELOOP = 40
native_errno ENOTEMPTY = 39

-- the errors
abbrev pub errors : List Errno
errors = EPERM ∷ ENOENT ∷ ESRCH ∷ EINTR ∷ EBADF ∷ EAGAIN ∷ ENOMEM ∷ EACCES ∷ EFAULT ∷ EBUSY ∷ EEXIST ∷ ENODEV ∷ ENOTDIR ∷ EISDIR ∷ EINVAL ∷ EMFILE ∷ ENOTTY ∷ EFBIG ∷ ENOSPC ∷ ESPIPE ∷ EPIPE ∷ ERANGE ∷ ENAMETOOLONG ∷ EOVERFLOW ∷ ENOSYS ∷ ELOOP ∷ ENOTEMPTY ∷ []

-- the one of this number, for an o32 program and for the native kernel
abbrev pub errno_of_o32 : ℕ → Option Errno
errno_of_o32 number = numbered o32_errno errors number

abbrev pub errno_of_native : ℕ → Option Errno
errno_of_native number = numbered native_errno errors number
