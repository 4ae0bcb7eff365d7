-- Numbers of errors are small.
use Rattle.std.proofs.Common.{◌<◌, ◌^◌, arith}
use Rattle.kernel_core.specs.declared.error.Errno.{Errno}
use Rattle.kernel_core.specs.declared.error.Errno.TheVariants.{EPERM, ENOENT, ESRCH, EINTR, EBADF, EAGAIN, ENOMEM, EACCES, EFAULT, EBUSY, EEXIST, ENODEV, ENOTDIR, EISDIR, EINVAL, EMFILE, ENOTTY, EFBIG, ENOSPC, ESPIPE, EPIPE, ERANGE, ENAMETOOLONG, EOVERFLOW, ENOSYS, ELOOP, ENOTEMPTY}
use Rattle.number_tables.specs.Errors.{native_errno}

pub number_is_small : (error : Errno) → native_errno error < 2 ^ 63
number_is_small EPERM = omega arith
number_is_small ENOENT = omega arith
number_is_small ESRCH = omega arith
number_is_small EINTR = omega arith
number_is_small EBADF = omega arith
number_is_small EAGAIN = omega arith
number_is_small ENOMEM = omega arith
number_is_small EACCES = omega arith
number_is_small EFAULT = omega arith
number_is_small EBUSY = omega arith
number_is_small EEXIST = omega arith
number_is_small ENODEV = omega arith
number_is_small ENOTDIR = omega arith
number_is_small EISDIR = omega arith
number_is_small EINVAL = omega arith
number_is_small EMFILE = omega arith
number_is_small ENOTTY = omega arith
number_is_small EFBIG = omega arith
number_is_small ENOSPC = omega arith
number_is_small ESPIPE = omega arith
number_is_small EPIPE = omega arith
number_is_small ERANGE = omega arith
number_is_small ENAMETOOLONG = omega arith
number_is_small EOVERFLOW = omega arith
number_is_small ENOSYS = omega arith
number_is_small ELOOP = omega arith
number_is_small ENOTEMPTY = omega arith
