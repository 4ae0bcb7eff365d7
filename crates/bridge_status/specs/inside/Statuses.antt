-- A native status as a structure of the program: each field has the low bytes of the native field of its name, in the program's order. (The
-- form is this project's own.)
use Rattle.std.specs.Prelude.{ℕ, ◌+◌, Bool, true, false, ◌||◌, List, [], ◌∷◌, ◌++◌, take, drop, replicate, nat_lt}
use Rattle.byteorder.specs.Endian.{little_number}
use Rattle.layouts.specs.Native as native
use Rattle.layouts.specs.Number.{bytes_of, unsigned}
use Rattle.layouts.specs.O32 as o32
use Rattle.layouts.specs.Shape.{Shape}
use Rattle.layouts.specs.declared.field.Field.{Field}
use Rattle.o32_model.specs.Status.{greatest_node}
use Rattle.o32_model.specs.Transfers.{small_file_limit}
use Rattle.bridge_status.specs.declared.structures.Form.{Form}
use Rattle.bridge_status.specs.declared.structures.Form.TheVariants.{Old, Wide}

-- the low bytes of a native number as a field's
abbrev pub low_bytes : Field → List ℕ → List ℕ
low_bytes field number = bytes_of true field.width (unsigned false field.width number)

-- some bytes with those of each native field in the field that stands at its place in the table
abbrev pub with_low_bytes : List Field → List Field → List ℕ → List ℕ → List ℕ
with_low_bytes [] natives status bytes = bytes
with_low_bytes (field ∷ fields) [] status bytes = bytes
with_low_bytes (field ∷ fields) (twin ∷ natives) status bytes =
    with_low_bytes fields natives status (take field.offset bytes ++ low_bytes field (drop twin.offset status) ++ drop (field.offset + field.width) bytes)

unfoldable pub shown : Shape → List ℕ → List ℕ
shown shape status = with_low_bytes shape.fields native.stat.fields status (replicate shape.size 0)

-- the structure of the program
abbrev pub shape_of : Form → Shape
shape_of Old = o32.stat
shape_of Wide = o32.stat64

-- whether the old structure can't hold the node number or the size
abbrev pub is_wide : List ℕ → Bool
is_wide status = nat_lt greatest_node (little_number 8 (drop 8 status)) || nat_lt small_file_limit (little_number 8 (drop 48 status))

abbrev pub is_too_wide : Form → List ℕ → Bool
is_too_wide Old status = is_wide status
is_too_wide Wide status = false
