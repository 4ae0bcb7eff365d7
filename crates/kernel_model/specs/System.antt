-- Limits, chance, names and ids (getrlimit(2), getrandom(2), uname(2), getpid(2)).
use Rattle.std.specs.Prelude.{ℕ, zero, suc, ◌+◌, ◌-◌, ◌/◌, ◌%◌, ◌^◌, ◌==◌, ℤ, Bool, ◌&&◌, ◌||◌, not, List, [], ◌∷◌, length, slice_index, slice_index_or, slice_set, Option, Some, None, codes, nat_lt, Ok}
use Rattle.kernel_core.specs.declared.error.Errno.TheVariants.{EINVAL, EPERM, ESRCH}
use Rattle.kernel_core.specs.declared.resource.Resource.{Resource}
use Rattle.kernel_core.specs.declared.resource.Resource.TheVariants as resources
use Rattle.kernel_model.specs.Came.{Did, Given, done, refused_if, with_given, with_some, given_or_none}
use Rattle.kernel_model.specs.SignalRows.{own_id, is_id}
use Rattle.kernel_model.specs.State.{Kernel, Chance}
use Rattle.kernel_model.specs.Table.{descriptor_limit}
use Rattle.kernel_model.specs.Transfers.{transferring}
use Rattle.kernel_model.specs.declared.limit.Limit.{Limit}

-- Limits

-- the place of a resource in the order of the names, from 0 to 15
abbrev pub resource_place : Resource → ℕ
resource_place resources.Cpu = 0
resource_place resources.Fsize = 1
resource_place resources.Data = 2
resource_place resources.Stack = 3
resource_place resources.Core = 4
resource_place resources.Nofile = 5
resource_place resources.As = 6
resource_place resources.Rss = 7
resource_place resources.Nproc = 8
resource_place resources.Memlock = 9
resource_place resources.Locks = 10
resource_place resources.Sigpending = 11
resource_place resources.Msgqueue = 12
resource_place resources.Nice = 13
resource_place resources.Rtprio = 14
resource_place resources.Rttime = 15

-- RLIM_INFINITY
abbrev pub infinity : ℕ
infinity = 2 ^ 64 - 1

abbrev pub unlimited : Limit
unlimited = record { soft = infinity; hard = infinity }

abbrev pub limit_at : Kernel → Resource → Limit
limit_at kernel resource = slice_index_or kernel.limits (resource_place resource) unlimited

abbrev pub is_nofile : Resource → Bool
is_nofile resource = resource_place resource == resource_place resources.Nofile

abbrev pub set_limit_to : Kernel → Resource → Option Limit → Did Kernel Limit
set_limit_to kernel resource None = done kernel (limit_at kernel resource)
set_limit_to kernel resource (Some limit) =
    refused_if (nat_lt limit.hard limit.soft) EINVAL kernel (
    refused_if (is_nofile resource && nat_lt descriptor_limit limit.hard) EPERM kernel (
    done (record kernel { limits = slice_set kernel.limits (resource_place resource) limit }) (limit_at kernel resource)))

-- prlimit(2); getrlimit(2) is this for itself without a new limit. The old limit is given, and limits have no effect. A process names
-- itself by 0 or by its id.
unfoldable pub set_limit : Kernel → ℤ → Option Resource → Option (Given Limit) → Did Kernel Limit
set_limit kernel pid resource limit =
    refused_if (not (is_id pid 0 || is_id pid own_id)) ESRCH kernel (
    with_some kernel EINVAL resource (λ resource.
    with_given kernel (given_or_none limit) (λ limit.
    set_limit_to kernel resource limit)))

-- Chance

-- so many bytes of a list from a place on, round and round
unfoldable pub round : List ℕ → ℕ → ℕ → List ℕ
round bytes at zero = []
round bytes at (suc count) = slice_index bytes (at % length bytes) ∷ round bytes (at + 1) count

abbrev pub after_chance : Chance → ℕ → Chance
after_chance chance count = record chance { at = (chance.at + count) % length chance.bytes }

-- Flags up to GRND_NONBLOCK (1), GRND_RANDOM (2) and GRND_INSECURE (4), the last two not both
abbrev pub are_random_flags : ℕ → Bool
are_random_flags flags = not (nat_lt 7 flags) && not ((flags / 2 % 2 == 1) && (flags / 4 % 2 == 1))

-- getrandom(2) of `asked` bytes, where `room` bytes from the first on can be stored
unfoldable pub random_bytes : Kernel → ℕ → ℕ → ℕ → Did Kernel (List ℕ)
random_bytes kernel asked room flags =
    refused_if (not (are_random_flags flags)) EINVAL kernel (
    transferring kernel (Ok asked) room [] (λ count.
    done (record kernel { chance = after_chance kernel.chance count }) (round kernel.chance.bytes kernel.chance.at count)))

-- Names and ids

-- uname(2): the names of the system, the node, the release, the version, the machine and the domain (this project's own)
abbrev pub system_names : List (List ℕ)
system_names = codes "Linux" ∷ codes "o32" ∷ codes "5.10.0" ∷ codes "#1" ∷ codes "mips" ∷ codes "(none)" ∷ []

-- getpid(2), gettid(2) and set_tid_address(2) give `own_id`, getppid(2) `parent_id`, and the four calls on users and groups this
abbrev pub user_id : ℕ
user_id = 0
