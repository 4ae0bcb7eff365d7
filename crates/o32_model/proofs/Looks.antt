-- Rows that only look: the state stays whatever they come to.
use Rattle.std.proofs.Common.{◌≡◌, ℕ, Bool, true, false, List, refl}
use Rattle.std.specs.Prelude.{ℤ, pos, Option, Some, None, Ok, Err, if◌then◌else◌}
use Rattle.kernel_model.specs.Came.{Did, Given, done, refused, refused_if, with_given, with_some}
use Rattle.kernel_core.specs.declared.resource.Resource.{Resource}
use Rattle.kernel_model.specs.ContentRows.{status, bytes_ready, terminal_settings, window_size}
use Rattle.kernel_model.specs.NameRows.{read_link}
use Rattle.kernel_model.specs.NodeRows.{StatusFlags, status_at_path, status_of_base, working_directory}
use Rattle.kernel_model.specs.Paths.{Base, Working, Descriptor}
use Rattle.kernel_model.specs.Shared.{Errno}
use Rattle.kernel_model.specs.State.{Kernel, Files}
use Rattle.kernel_model.specs.System.{set_limit}

pub record LooksOnly {S V : Type 0} (state : S) (did : Did S V) : Type 0 where
  pub same : did.state ≡ state

module _ {S V : Type 0} (state : S) where
  pub done_looks : (value : V) → LooksOnly state (done state value)
  done_looks value = record { same = refl }

  pub refused_looks : (error : Errno) → LooksOnly {V = V} state (refused state error)
  refused_looks error = record { same = refl }

  pub if_looks : (wrong : Bool) (error : Errno) (rest : Did S V) → LooksOnly state rest → LooksOnly state (refused_if wrong error state rest)
  if_looks true error rest h = refused_looks error
  if_looks false error rest h = h

  pub given_looks : {A : Type 0} (given : Given A) (rest : A → Did S V) → ((value : A) → LooksOnly state (rest value)) → LooksOnly state (with_given state given rest)
  given_looks (Err error) rest h = refused_looks error
  given_looks (Ok value) rest h = h value

  pub some_looks : {A : Type 0} (error : Errno) (found : Option A) (rest : A → Did S V) → ((value : A) → LooksOnly state (rest value)) → LooksOnly state (with_some state error found rest)
  some_looks error None rest h = refused_looks error
  some_looks error (Some value) rest h = h value

pub choice_looks : {S V : Type 0} (state : S) (test : Bool) (first second : Did S V) → LooksOnly state first → LooksOnly state second
    → LooksOnly state (if test then first else second)
choice_looks state true first second h g = h
choice_looks state false first second h g = g

ruleset looks = (done_looks, refused_looks, if_looks, given_looks, some_looks, choice_looks)

pub status_looks : (files : Files) (fd : ℕ) → LooksOnly files (status files fd)
unfolding status
status_looks files fd = search looks depth 14

pub bytes_ready_looks : (files : Files) (fd : ℕ) → LooksOnly files (bytes_ready files fd)
unfolding bytes_ready
bytes_ready_looks files fd = search looks depth 14

pub terminal_settings_looks : (files : Files) (fd : ℕ) → LooksOnly files (terminal_settings files fd)
unfolding terminal_settings
terminal_settings_looks files fd = search looks depth 14

pub window_size_looks : (files : Files) (fd : ℕ) → LooksOnly files (window_size files fd)
unfolding window_size
window_size_looks files fd = search looks depth 14

base_looks : (files : Files) (base : Base) → LooksOnly files (status_of_base files base)
base_looks files Working = search looks
base_looks files (Descriptor fd) = status_looks files fd

pub status_at_path_looks : (files : Files) (base : Base) (path : Given (List ℕ)) (flags : Option StatusFlags) → LooksOnly files (status_at_path files base path flags)
unfolding status_at_path
status_at_path_looks files base path flags = search (looks, base_looks) depth 14

pub read_link_looks : (files : Files) (base : Base) (path : Given (List ℕ)) (size : ℤ) → LooksOnly files (read_link files base path size)
unfolding read_link
read_link_looks files base path size = search looks depth 14

pub working_directory_looks : (files : Files) (size : ℕ) → LooksOnly files (working_directory files size)
unfolding working_directory
working_directory_looks files size = search looks depth 14

pub limits_look : (kernel : Kernel) (resource : Option Resource) → LooksOnly kernel (set_limit kernel (pos 0) resource None)
unfolding set_limit
limits_look kernel resource = search looks depth 14
