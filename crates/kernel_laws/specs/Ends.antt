-- Which ends of pipes are open (pipe(2)), where rows let them go.
use Rattle.std.specs.Prelude.{◌≡◌, ℕ, ◌≤◌, Some, count_by}
use Rattle.kernel_core.specs.declared.open_flags.Access.TheVariants as accesses
use Rattle.kernel_model.specs.Always.{IsFiles, IsKernel, has_open, is_read_end, is_write_end}
use Rattle.kernel_model.specs.DescriptorRows.{Ends, PipeFlags, end_flags}
use Rattle.kernel_model.specs.Descriptions.{description_of, no_flags, opened}
use Rattle.kernel_model.specs.Pipes.{new_pipe, pipe_at}
use Rattle.kernel_model.specs.State.{Files, Kernel}
use Rattle.kernel_model.specs.declared.descriptor.Object.TheVariants as objects

-- An end of a pipe has one description at most: pipe(2) makes one of each, and every other descriptor of it is a duplicate.
pub record HasEndsOnce (files : Files) : Type 0 where
  pub reads : (pipe : ℕ) → count_by (has_open (is_read_end pipe)) files.table.live ≤ 1
  pub writes : (pipe : ℕ) → count_by (has_open (is_write_end pipe)) files.table.live ≤ 1

-- What every row keeps: all that a state always is, and that each end has one description at most.

pub record AreSoundFiles (files : Files) : Type 0 where
  pub always : IsFiles files
  pub ends : HasEndsOnce files

pub record IsSoundKernel (kernel : Kernel) : Type 0 where
  pub always : IsKernel kernel
  pub ends : HasEndsOnce kernel.files

-- What pipe(2) gives: a descriptor of each end of a new pipe, which is empty and has both ends open.
pub record LeadToPipe (files : Files) (at : Ends) (number : ℕ) (flags : PipeFlags) : Type 0 where
  pub read : opened files at.read ≡ Some (description_of (objects.ReadEnd number) (end_flags flags (no_flags accesses.Read)))
  pub write : opened files at.write ≡ Some (description_of (objects.WriteEnd number) (end_flags flags (no_flags accesses.Write)))
  pub pipe : pipe_at files.flow number ≡ Some new_pipe
