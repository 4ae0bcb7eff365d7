-- How bytes are written at a place, and what is found out for that. (The form is this project's own.)
use Rattle.std.specs.Prelude.{◌≡◌, ◌⊎◌, ℕ, min, ℤ, ⊤, Bool, false, List, length, Option, Some, None, Ok}
use Rattle.std.specs.Int.{w64, cast_signed}
use Rattle.kernel_core.specs.Nodes.{Nodes, file_at}
use Rattle.kernel_model.specs.State.{Files}
use Rattle.kernel_model.specs.Transfers.{write_at}
use Rattle.kernel_model.specs.declared.descriptor.Description.{Description}
use Rattle.kernel_model.specs.declared.descriptor.Object.{Object}
use Rattle.kernel_model.specs.declared.descriptor.Object.TheVariants as objects
use Rattle.bridge_io.specs.inside.Rooms.{ContentRoom, LargeRoom, past_came}
use Rattle.bridge_io.specs.declared.room.Plan.{Plan}
use Rattle.bridge_io.specs.declared.room.Plan.TheVariants.{Write, Past}

-- What is no node is never written at a place.
abbrev pub NodeRoom : Nodes → ℕ → ℕ → Bool → ℕ → Object → Type 0
NodeRoom nodes limit room append at (objects.Stream stream) = ⊤
NodeRoom nodes limit room append at (objects.ReadEnd pipe) = ⊤
NodeRoom nodes limit room append at (objects.WriteEnd pipe) = ⊤
NodeRoom nodes limit room append at (objects.Node node) = ContentRoom limit room append at (file_at nodes node)

pub record SmallPlace (nodes : Nodes) (limit room : ℕ) (d : Description) (at : ℕ) : Type 0 where
  pub small : d.flags.largefile ≡ false
  pub rest : NodeRoom nodes limit room d.flags.append at d.object

abbrev pub HasPlace : Files → ℕ → ℕ → ℕ → Option Description → Type 0
HasPlace files limit room at None = ⊤
HasPlace files limit room at (Some d) = LargeRoom room d ⊎ SmallPlace files.nodes limit room d at

-- the write that comes to the same, whatever bytes there are
abbrev pub IsPlan : Files → ℕ → ℕ → ℤ → Plan → Type 0
IsPlan files limit fd place (Write most at) =
    (time : ℤ) (count : ℕ) (bytes : List ℕ)
    → write_at files (Some limit) time fd place (Ok count) bytes ≡ write_at files None time fd (cast_signed w64 at) (Ok (min count most)) bytes
IsPlan files limit fd place (Past writable file) =
    (time : ℤ) (count : ℕ) (bytes : List ℕ)
    → write_at files (Some limit) time fd place (Ok count) bytes ≡ record { state = files; came = past_came writable file count (length bytes) }
