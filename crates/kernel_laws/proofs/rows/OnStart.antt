-- Worked rows on the first state: of a root with the file `f`, whose link count and holds are none of the tree's.
use Rattle.std.specs.Prelude.{◌≡◌, ◌-◌, ◌^◌, pos, [], ◌∷◌, codes, Some, None, Ok, refl}
use Rattle.std.specs.FinMap.{get, get-from_entries}
use Rattle.std.specs.Cmp.{nat_cmp_total}
use Rattle.kernel_core.specs.LoadedTree.{loaded}
use Rattle.kernel_core.specs.Nodes.{Inode, Directory}
use Rattle.kernel_core.specs.declared.error.Errno.TheVariants.{EBADF}
use Rattle.kernel_core.specs.declared.resource.Resource.TheVariants as resources
use Rattle.kernel_core.specs.declared.tree.Kind.TheVariants as kinds
use Rattle.kernel_core.specs.declared.tree.Tree.{Tree}
use Rattle.file_system_laws.proofs.Lookups.{get-update}
use Rattle.kernel_model.proofs.rows.Names.{entry}
use Rattle.kernel_model.specs.Begin.{Settings, first_state}
use Rattle.kernel_model.specs.Came.{done, refused}
use Rattle.kernel_model.specs.Clock.{real_time}
use Rattle.kernel_model.specs.Pipes.{nothing}
use Rattle.kernel_model.specs.State.{Kernel}
use Rattle.kernel_model.specs.System.{limit_at, random_bytes, round}
use Rattle.kernel_model.specs.Transfers.{read, write}
use Rattle.kernel_model.specs.Whole.{kernel_read, kernel_write}

tree : Tree
tree = record {
  nodes = record { number = 1; mode = 493; mtime = pos 5; kind = kinds.Dir (entry 3 (codes "f") 2 ∷ []) }
      ∷ record { number = 2; mode = 420; mtime = pos 7; kind = kinds.File 0 [] } ∷ [];
}

-- 2 s and 3 ns after the Unix epoch, on a terminal of 24 rows and 80 columns, with 20 bytes of chance
settings : Settings
settings = record {
  epoch_seconds = 2;
  epoch_nanoseconds = 3;
  terminal = Some (record { rows = 24; cols = 80 });
  random = 0 ∷ 1 ∷ 2 ∷ 3 ∷ 4 ∷ 5 ∷ 6 ∷ 7 ∷ 8 ∷ 9 ∷ 10 ∷ 11 ∷ 12 ∷ 13 ∷ 14 ∷ 15 ∷ 16 ∷ 17 ∷ 18 ∷ 19 ∷ [];
}

kernel : Kernel
kernel = first_state tree settings

-- the times are the tree's, in nanoseconds; the working directory holds the root
root_is : get kernel.files.nodes 1 ≡ Some (record {
  mode = 493;
  access = pos 5_000_000_000;
  modified = pos 5_000_000_000;
  changed = pos 5_000_000_000;
  links = 2;
  holds = 1;
  content = Directory (record { parent = Some 1; greatest = 3; entries = entry 3 (codes "f") 2 ∷ [] });
})
unfolding kernel first_state loaded tree entry
root_is = simp (get-update, get-from_entries {X = Inode} nat_cmp_total) refl

directory_is : kernel.files.directory ≡ 1
unfolding kernel first_state
directory_is = refl

umask_is : kernel.files.umask ≡ 18
unfolding kernel first_state
umask_is = refl

clock_is : kernel.clock ≡ 0
unfolding kernel first_state
clock_is = refl

real_time_is : real_time kernel ≡ 2_000_000_003
unfolding kernel first_state settings
real_time_is = refl

-- no limit but for descriptors and the stack

nofile_is : limit_at kernel resources.Nofile ≡ record { soft = 1024; hard = 1024 }
unfolding kernel first_state
nofile_is = refl

stack_is : limit_at kernel resources.Stack ≡ record { soft = 8_388_608; hard = 2 ^ 64 - 1 }
unfolding kernel first_state
stack_is = refl

core_is : limit_at kernel resources.Core ≡ record { soft = 2 ^ 64 - 1; hard = 2 ^ 64 - 1 }
unfolding kernel first_state
core_is = refl

-- the first stack took sixteen bytes of chance
chance_is : kernel.chance.at ≡ 16
unfolding kernel first_state settings
chance_is = refl

-- A read of the kernel

-- what is left of the input is no part of the state, and what was taken counts
reads_input : (kernel_read kernel (7 ∷ 8 ∷ 9 ∷ []) 0 (Ok 2) 2).state.left ≡ 9 ∷ []
unfolding kernel_read read kernel first_state
reads_input = refl

has_taken : (kernel_read kernel (7 ∷ 8 ∷ 9 ∷ []) 0 (Ok 2) 2).state.kernel.files.flow.moved.taken ≡ 2
unfolding kernel_read read kernel first_state
has_taken = refl

reads_no_output : kernel_read kernel [] 1 (Ok 2) 2 ≡ refused (record { kernel = kernel; left = [] }) EBADF
unfolding kernel_read read kernel first_state
reads_no_output = refl

-- A write of the kernel

-- what was sent stands beside the kernel, which counts it
writes_output : (kernel_write kernel None 1 (Ok 2) (72 ∷ 105 ∷ [])).state.sent ≡ record { out = 72 ∷ 105 ∷ []; err = [] }
unfolding kernel_write write kernel first_state
writes_output = refl

has_written : (kernel_write kernel None 2 (Ok 2) (72 ∷ 105 ∷ [])).state.kernel.files.flow.moved ≡ record { taken = 0; out = 0; err = 2 }
unfolding kernel_write write kernel first_state
has_written = refl

writes_no_input : kernel_write kernel None 0 (Ok 2) (72 ∷ 105 ∷ []) ≡ refused (record { kernel = kernel; sent = nothing }) EBADF
unfolding kernel_write write kernel first_state
writes_no_input = refl

-- from the end of the bytes of chance on they begin anew
takes_five : random_bytes kernel 5 5 0 ≡ done (record kernel { chance = record kernel.chance { at = 1 } }) (16 ∷ 17 ∷ 18 ∷ 19 ∷ 0 ∷ [])
unfolding random_bytes round kernel first_state settings
takes_five = refl
