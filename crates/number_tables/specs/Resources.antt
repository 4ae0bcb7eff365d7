-- The numbers of the limits in both worlds.
use Rattle.std.specs.Prelude.{ℕ, Option, List, [], ◌∷◌}
use Rattle.kernel_core.specs.declared.resource.Resource.{Resource}
use Rattle.kernel_core.specs.declared.resource.Resource.TheVariants.{Cpu, Fsize, Data, Stack, Core, Nofile, As, Rss, Nproc, Memlock, Locks, Sigpending, Msgqueue, Nice, Rtprio, Rttime}
use Rattle.number_tables.specs.Numbered.{numbered}

-- the number of a resource for an o32 program
-- (Linux arch/mips/include/uapi/asm/resource.h and include/uapi/asm-generic/resource.h)
abbrev pub o32_resource : Resource → ℕ
o32_resource Cpu = 0
o32_resource Fsize = 1
o32_resource Data = 2
o32_resource Stack = 3
o32_resource Core = 4
o32_resource Nofile = 5
o32_resource As = 6
o32_resource Rss = 7
o32_resource Nproc = 8
o32_resource Memlock = 9
o32_resource Locks = 10
o32_resource Sigpending = 11
o32_resource Msgqueue = 12
o32_resource Nice = 13
o32_resource Rtprio = 14
o32_resource Rttime = 15

-- the number of a resource for the native kernel (Linux include/uapi/asm-generic/resource.h)
abbrev pub native_resource : Resource → ℕ
native_resource Cpu = 0
native_resource Fsize = 1
native_resource Data = 2
native_resource Stack = 3
native_resource Core = 4
native_resource Nofile = 7
native_resource As = 9
native_resource Rss = 5
native_resource Nproc = 6
native_resource Memlock = 8
native_resource Locks = 10
native_resource Sigpending = 11
native_resource Msgqueue = 12
native_resource Nice = 13
native_resource Rtprio = 14
native_resource Rttime = 15

-- the resources that have a limit
abbrev pub resources : List Resource
resources = Cpu ∷ Fsize ∷ Data ∷ Stack ∷ Core ∷ Nofile ∷ As ∷ Rss ∷ Nproc ∷ Memlock ∷ Locks ∷ Sigpending ∷ Msgqueue ∷ Nice ∷ Rtprio ∷ Rttime ∷ []

-- the one of this number, for an o32 program and for the native kernel
abbrev pub resource_of_o32 : ℕ → Option Resource
resource_of_o32 number = numbered o32_resource resources number

abbrev pub resource_of_native : ℕ → Option Resource
resource_of_native number = numbered native_resource resources number
