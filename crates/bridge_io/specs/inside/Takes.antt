-- A structure of the program that a native call is given in host memory, with its bytes in the order of the native kernel. (The form is this
-- project's own.)
use Rattle.std.specs.Prelude.{◌≡◌, ℕ, List, [], ◌∷◌, map, length, Option, Some, None}
use Rattle.guest_space.specs.Memory.{Memory}
use Rattle.native_calls.specs.HostBytes as host
use Rattle.o32_model.specs.GuestBytes.{structure, read_as}
use Rattle.bridge_io.specs.declared.structures.Structure.{Structure}
use Rattle.bridge_io.specs.declared.structures.Structure.TheVariants.{Pair, Int, Window, Settings}
use Rattle.bridge_io.specs.inside.Stores.{byte_from, places, size}

-- for each byte of a structure in host memory its place in the program's memory, or none for a byte that is 0
abbrev pub places_back : Structure → List (Option ℕ)
places_back Pair = Some 3 ∷ Some 2 ∷ Some 1 ∷ Some 0 ∷ Some 7 ∷ Some 6 ∷ Some 5 ∷ Some 4 ∷ []
places_back Int = Some 3 ∷ Some 2 ∷ Some 1 ∷ Some 0 ∷ []
places_back Window = Some 1 ∷ Some 0 ∷ Some 3 ∷ Some 2 ∷ Some 5 ∷ Some 4 ∷ Some 7 ∷ Some 6 ∷ []
places_back Settings =
    Some 3 ∷ Some 2 ∷ Some 1 ∷ Some 0 ∷ Some 7 ∷ Some 6 ∷ Some 5 ∷ Some 4 ∷ Some 11 ∷ Some 10 ∷ Some 9 ∷ Some 8 ∷ Some 15 ∷ Some 14 ∷ Some 13
    ∷ Some 12 ∷ Some 16 ∷ Some 17 ∷ Some 18 ∷ Some 19 ∷ Some 20 ∷ Some 33 ∷ Some 22 ∷ Some 21 ∷ Some 24 ∷ Some 25 ∷ Some 26 ∷ Some 27 ∷ Some 34
    ∷ Some 29 ∷ Some 30 ∷ Some 31 ∷ Some 32 ∷ Some 23 ∷ None ∷ None ∷ []

-- The structure that host memory has at a place is the program's in another order; none is there where the program's can't be read.
abbrev pub IsTaken : Memory → ℕ → Structure → List ℕ → ℕ → Type 0
IsTaken memory address kind room place =
    host.structure room place (size kind) ≡ read_as (λ bytes. map (byte_from bytes) (places_back kind)) (structure memory address (length (places kind)))
