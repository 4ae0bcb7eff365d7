-- The numbers of the requests of ioctl(2) in both worlds.
use Rattle.std.specs.Prelude.{ℕ, Option, List, [], ◌∷◌}
use Rattle.kernel_core.specs.declared.request.Request.{Request}
use Rattle.kernel_core.specs.declared.request.Request.TheVariants.{Tcgets, Tcsets, Tcsetsw, Tcsetsf, Tiocgwinsz, Fionread, Fionbio, Fioclex, Fionclex}
use Rattle.number_tables.specs.Numbered.{numbered}

-- the number of a request for an o32 program (Linux arch/mips/include/uapi/asm/ioctls.h)
abbrev pub o32_request : Request → ℕ
o32_request Tcgets = 0x540D
o32_request Tcsets = 0x540E
o32_request Tcsetsw = 0x540F
o32_request Tcsetsf = 0x5410
o32_request Tiocgwinsz = 0x40087468
o32_request Fionread = 0x467F
o32_request Fionbio = 0x667E
o32_request Fioclex = 0x6601
o32_request Fionclex = 0x6602

-- the number of a request for the native kernel (Linux include/uapi/asm-generic/ioctls.h)
abbrev pub native_request : Request → ℕ
native_request Tcgets = 0x5401
native_request Tcsets = 0x5402
native_request Tcsetsw = 0x5403
native_request Tcsetsf = 0x5404
native_request Tiocgwinsz = 0x5413
native_request Fionread = 0x541B
native_request Fionbio = 0x5421
native_request Fioclex = 0x5451
native_request Fionclex = 0x5450

-- the requests
abbrev pub requests : List Request
requests = Tcgets ∷ Tcsets ∷ Tcsetsw ∷ Tcsetsf ∷ Tiocgwinsz ∷ Fionread ∷ Fionbio ∷ Fioclex ∷ Fionclex ∷ []

-- the one of this number, for an o32 program and for the native kernel
abbrev pub request_of_o32 : ℕ → Option Request
request_of_o32 number = numbered o32_request requests number

abbrev pub request_of_native : ℕ → Option Request
request_of_native number = numbered native_request requests number
