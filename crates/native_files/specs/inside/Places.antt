-- Where a description is moved.
use Rattle.std.specs.Prelude.{ℕ, ℤ, pos, ◌+ℤ◌, Option, Some, None, nat_abs, not, if◌then◌else◌}
use Rattle.kernel_core.specs.declared.error.Errno.TheVariants.{EINVAL}
use Rattle.kernel_model.specs.Came.{Did, done, refused_if, with_some}
use Rattle.kernel_model.specs.ContentRows.{is_position, seek_from}
use Rattle.kernel_model.specs.State.{Files}
use Rattle.kernel_model.specs.Transfers.{moved_to}
use Rattle.kernel_model.specs.declared.descriptor.Description.{Description}

-- a place, where a description may have it
abbrev pub position_at : ℤ → Option ℕ
position_at place = if is_position place then Some (nat_abs place) else None

abbrev pub seek_to : Files → ℕ → Description → ℤ → Did Files ℕ
seek_to files fd description place =
    refused_if (not (is_position place)) EINVAL files (done (moved_to files fd description (nat_abs place)) (nat_abs place))

-- lseek(2) at a node
abbrev pub seek_node : Files → ℕ → Description → ℕ → ℤ → ℕ → Did Files ℕ
seek_node files fd description node offset origin =
    with_some files EINVAL (seek_from files.nodes description node origin) (λ from. seek_to files fd description (pos from +ℤ offset))
