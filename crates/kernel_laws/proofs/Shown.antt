-- Rows that show what others set.
use Rattle.std.proofs.Common.{◌≡◌, ℕ, ◌%◌, set, Bool, true, false, refl, sym, ◌∙◌, ap, arith}
use Rattle.std.specs.Prelude.{Option, Some, None, option_and_then, option_map, Ok, not, ℤ, pos, negsuc, nat_abs}
use Rattle.std.proofs.lemmas.List.{get_or-set_same}
use Rattle.kernel_core.specs.declared.error.Errno.TheVariants.{EBADF}
use Rattle.kernel_core.specs.declared.resource.Resource.{Resource}
use Rattle.kernel_laws.proofs.OtherKept.{place_low}
use Rattle.kernel_laws.proofs.Says.{Says, says}
use Rattle.kernel_laws.proofs.Undone.{stands}
use Rattle.kernel_model.proofs.Described.{within}
use Rattle.kernel_model.specs.Always.{IsKernel}
use Rattle.kernel_model.specs.Came.{Done, done, with_some}
use Rattle.kernel_model.specs.ContentRows.{is_position, seek}
use Rattle.kernel_model.specs.DescriptorRows.{close_on_exec, set_close_on_exec}
use Rattle.kernel_model.specs.Descriptions.{node_of, opened}
use Rattle.kernel_model.specs.NodeRows.{set_umask}
use Rattle.kernel_model.specs.State.{Files, Kernel}
use Rattle.kernel_model.specs.System.{resource_place, set_limit, unlimited}
use Rattle.kernel_model.specs.Table.{cloexec_at, set_cloexec, slot, with_cloexec}
use Rattle.kernel_model.specs.Transfers.{moved_to}
use Rattle.kernel_model.specs.declared.descriptor.Descriptor.{Descriptor}
use Rattle.kernel_model.specs.declared.descriptor.Description.{Description}
use Rattle.kernel_model.specs.declared.limit.Limit.{Limit}

-- The position

fits_still : (place : ℤ) → not (is_position place) ≡ false → is_position (pos (nat_abs place)) ≡ true
fits_still (pos n) e = by (is_position (pos n)) refl e where
  by : (b : Bool) → is_position (pos n) ≡ b → not b ≡ false → is_position (pos n) ≡ true
  by true p h = p
  by false p h = absurd cc
fits_still (negsuc n) e = absurd cc

module _ (files : Files) (fd : ℕ) where
  abbrev Stands : Files → ℕ → Type 0
  Stands state position = (seek state fd (pos 0) 1).came ≡ Done position

  moved_stands : (description : Description) → opened files fd ≡ Some description → (node : ℕ) → node_of description.object ≡ Some node → (place : ℤ) → not (is_position place) ≡ false
      → Stands (moved_to files fd description (nat_abs place)) (nat_abs place)
  moved_stands description e node is_node place fits = stands files fd description e node (nat_abs place) is_node (fits_still place fits)

  seek_says : (offset : ℤ) (origin : ℕ) → Says Stands (seek files fd offset origin)
  unfolding seek
  seek_says offset origin = search (says, moved_stands) depth 14

  pub shows_position : (offset : ℤ) (origin position : ℕ) → (seek files fd offset origin).came ≡ Done position
      → (seek (seek files fd offset origin).state fd (pos 0) 1).came ≡ Done position
  shows_position offset origin position e = (seek_says offset origin).said position e

-- Close-on-exec

module _ (files : Files) (fd : ℕ) (cloexec : Bool) (old : Description) (open_as : opened files fd ≡ Some old) where
  abbrev set_there : Files
  set_there = record files { table = with_cloexec files.table fd cloexec }

  there : (found : Option Descriptor) → slot files.table.fds fd ≡ found → slot set_there.table.fds fd ≡ option_map (set_cloexec cloexec) found
  there None e = absurd (let wrong : None ≡ Some old = sym (ap (λ o. option_and_then (λ n. slot files.table.live n) (option_map (λ d. d.number) o)) e) ∙ open_as in cc)
  there (Some descriptor) e =
      get_or-set_same files.table.fds fd (option_map (set_cloexec cloexec) (slot files.table.fds fd)) None (within files.table.fds fd descriptor e)
      ∙ ap (λ o. option_map (set_cloexec cloexec) o) e

  same_number : (found : Option Descriptor) → option_map (λ d. d.number) (option_map (set_cloexec cloexec) found) ≡ option_map (λ d. d.number) found
  same_number None = refl
  same_number (Some descriptor) = refl

  open_there : opened set_there fd ≡ Some old
  open_there =
      ap (λ o. option_and_then (λ n. slot files.table.live n) (option_map (λ d. d.number) o)) (there (slot files.table.fds fd) refl)
      ∙ ap (λ o. option_and_then (λ n. slot files.table.live n) o) (same_number (slot files.table.fds fd)) ∙ open_as

  set_now : cloexec_at (slot set_there.table.fds fd) ≡ cloexec
  set_now = by (slot files.table.fds fd) refl where
    by : (found : Option Descriptor) → slot files.table.fds fd ≡ found → cloexec_at (slot set_there.table.fds fd) ≡ cloexec
    by None e = absurd (let wrong : None ≡ Some old = sym (ap (λ o. option_and_then (λ n. slot files.table.live n) (option_map (λ d. d.number) o)) e) ∙ open_as in cc)
    by (Some descriptor) e = ap (λ o. cloexec_at o) (there (Some descriptor) e)

  pub shows_cloexec : (close_on_exec (set_close_on_exec files fd cloexec).state fd).came ≡ Done cloexec
  unfolding close_on_exec set_close_on_exec
  shows_cloexec =
      ap (λ o. (close_on_exec (with_some {V = Unit {0}} files EBADF o (λ _. done set_there tt)).state fd).came) open_as
      ∙ ap (λ o. (with_some {V = Bool} set_there EBADF o (λ _. done set_there (cloexec_at (slot set_there.table.fds fd)))).came) open_there
      ∙ ap (λ b. Done b) set_now

-- The umask

pub shows_umask : (files : Files) (first second : ℕ) → (set_umask (set_umask files first).state second).came ≡ Done (first % 0x200)
unfolding set_umask
shows_umask files first second = refl

-- A limit

module _ (kernel : Kernel) (is : IsKernel kernel) (resource : Resource) (limit : Limit) where
  abbrev Shows : Kernel → Limit → Type 0
  Shows state old = (set_limit state (pos 0) (Some resource) None).came ≡ Done limit

  limit_there : (old : Limit) → Shows (record kernel { limits = set kernel.limits (resource_place resource) limit }) old
  unfolding set_limit
  limit_there old =
      ap (λ l. Done l) (get_or-set_same kernel.limits (resource_place resource) limit unlimited (omega (arith, place_low resource, is.limits)))

  limit_says : (pid : ℤ) → Says Shows (set_limit kernel pid (Some resource) (Some (Ok limit)))
  unfolding set_limit
  limit_says pid = search (says, limit_there) depth 14

  pub shows_limit : (pid : ℤ) (old : Limit) → (set_limit kernel pid (Some resource) (Some (Ok limit))).came ≡ Done old
      → (set_limit (set_limit kernel pid (Some resource) (Some (Ok limit))).state (pos 0) (Some resource) None).came ≡ Done limit
  shows_limit pid old e = (limit_says pid).said old e
