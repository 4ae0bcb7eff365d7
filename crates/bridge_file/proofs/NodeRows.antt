-- The rows of calls on nodes, as native calls.
use Rattle.std.proofs.Common.{◌≡◌, ℕ, ◌<◌, ◌^◌, ◌%◌, List, [], ◌∷◌, Option, Some, None, Ok, Err, refl, ap, subst, arith}
use Rattle.std.specs.Prelude.{ℤ, true, ◌==◌, ◌&&◌, not, nat_lt}
use Rattle.std.specs.FinMap.{get}
use Rattle.kernel_core.specs.declared.error.Errno.{Errno}
use Rattle.kernel_core.specs.declared.error.Errno.TheVariants.{EACCES, EBADF, EINVAL, ENOTDIR}
use Rattle.kernel_model.specs.Came.{Did, Given, refused, told_zero}
use Rattle.kernel_model.specs.Clock.{now}
use Rattle.kernel_model.specs.ContentRows.{sync}
use Rattle.kernel_model.specs.Descriptions.{node_of, opened}
use Rattle.kernel_model.specs.NodeRows.{access, change_mode, change_open_mode, change_directory, change_to_open, is_not_executable, on_open_node, set_umask}
use Rattle.kernel_core.specs.Nodes.{is_directory}
use Rattle.kernel_model.specs.Paths.{Working, directory_of, walk_to_node}
use Rattle.kernel_model.specs.State.{Kernel, Files}
use Rattle.kernel_model.specs.Whole.{on_files, marked}
use Rattle.native_calls.specs.Nodes as native
use Rattle.native_calls.specs.Status as native_status
use Rattle.native_calls.specs.Table.{native_call}
use Rattle.o32_model.specs.NodeCalls as o32
use Rattle.o32_model.specs.PathArguments.{base}
use Rattle.o32_model.specs.Step.{Guest, O32Step}
use Rattle.bridge_paths.proofs.Passed.{Fits}
use Rattle.bridge_paths.specs.Passed.{Bounded}
use Rattle.bridge_paths.specs.Passed.{Mirrors}
use Rattle.bridge_paths.specs.Passed.{by_reply}
use Rattle.bridge_paths.proofs.Rows.{Anything, bounded_given, bounded_if, bounded_some, fits_zero, same_gives, word}
use Rattle.bridge_file.proofs.Rows.{one_path}
use Rattle.bridge_file.specs.inside.Paths.{MirrorsPath}

-- Access

abbrev access_as : Kernel → ℕ → ℕ → Given (List ℕ) → Did Kernel ℕ
access_as kernel from mode path = told_zero (on_files kernel (access kernel.files (base from) path mode))

access_bounded : (files : Files) (from mode : ℕ) (path : List ℕ) → Bounded Anything (access files (base from) (Ok path) mode).came
unfolding access
access_bounded files from mode path =
    bounded_if Anything (nat_lt 7 mode) EINVAL files _
    (bounded_given Anything files (walk_to_node files (base from) path true) _ (λ node.
    bounded_if Anything ((mode % 2 == 1) && is_not_executable (get files.nodes node)) EACCES files _ tt))

access_fits : (kernel : Kernel) (from mode : ℕ) (path : List ℕ) → Fits (access_as kernel from mode (Ok path)).came
access_fits kernel from mode path = fits_zero _ (access_bounded kernel.files from mode path)

access_lost : (kernel : Kernel) (from mode : ℕ) (error : Errno) → access_as kernel from mode (Err error) ≡ refused kernel error
unfolding access
access_lost kernel from mode error = refl

access_of : (guest : Guest) (kernel : Kernel) (address from mode : ℕ) → MirrorsPath guest kernel address
    (native_call 48 (from ∷ 65536 ∷ mode ∷ 0 ∷ 0 ∷ 0 ∷ []) kernel) (o32.access_row kernel guest (base (from % 2 ^ 32)) address (mode % 2 ^ 32))
unfolding native.faccessat_row o32.access_row
access_of guest kernel address from mode =
    one_path guest kernel address (access_as kernel (from % 2 ^ 32) (mode % 2 ^ 32)) (access_fits kernel (from % 2 ^ 32) (mode % 2 ^ 32)) (access_lost kernel (from % 2 ^ 32) (mode % 2 ^ 32))

pub access_mirrors : (guest : Guest) (kernel : Kernel) (address given_from given_mode from mode : ℕ) → given_from ≡ from → given_mode ≡ mode → from < 2 ^ 32 → mode < 2 ^ 32
    → MirrorsPath guest kernel address (native_call 48 (given_from ∷ 65536 ∷ given_mode ∷ 0 ∷ 0 ∷ 0 ∷ []) kernel) (o32.access_row kernel guest (base from) address mode)
access_mirrors guest kernel address given_from given_mode from mode one two first second =
    let e1 = word given_from from one first in
    let e2 = word given_mode mode two second in
    subst (λ (step : List ℕ → O32Step). MirrorsPath guest kernel address (native_call 48 (given_from ∷ 65536 ∷ given_mode ∷ 0 ∷ 0 ∷ 0 ∷ []) kernel) step)
    (λ i. o32.access_row kernel guest (base (e1 i)) address (e2 i))
    (access_of guest kernel address given_from given_mode)

-- Modes

abbrev chmod_as : Kernel → ℕ → ℕ → Given (List ℕ) → Did Kernel ℕ
chmod_as kernel from mode path = told_zero (marked kernel (λ files now. change_mode files now (base from) path mode))

chmod_bounded : (files : Files) (now : ℤ) (from mode : ℕ) (path : List ℕ) → Bounded Anything (change_mode files now (base from) (Ok path) mode).came
unfolding change_mode
chmod_bounded files now from mode path =
    bounded_given Anything files (walk_to_node files (base from) path true) _ (λ node. tt)

chmod_fits : (kernel : Kernel) (from mode : ℕ) (path : List ℕ) → Fits (chmod_as kernel from mode (Ok path)).came
chmod_fits kernel from mode path = fits_zero _ (chmod_bounded kernel.files (now kernel) from mode path)

chmod_lost : (kernel : Kernel) (from mode : ℕ) (error : Errno) → chmod_as kernel from mode (Err error) ≡ refused kernel error
unfolding change_mode
chmod_lost kernel from mode error = refl

chmod_of : (guest : Guest) (kernel : Kernel) (address from mode : ℕ) → MirrorsPath guest kernel address
    (native_call 53 (from ∷ 65536 ∷ mode ∷ 0 ∷ 0 ∷ 0 ∷ []) kernel) (o32.chmod_row kernel guest (base (from % 2 ^ 32)) address (mode % 2 ^ 32))
unfolding native.fchmodat_row o32.chmod_row
chmod_of guest kernel address from mode =
    one_path guest kernel address (chmod_as kernel (from % 2 ^ 32) (mode % 2 ^ 32)) (chmod_fits kernel (from % 2 ^ 32) (mode % 2 ^ 32)) (chmod_lost kernel (from % 2 ^ 32) (mode % 2 ^ 32))

pub chmod_mirrors : (guest : Guest) (kernel : Kernel) (address given_from given_mode from mode : ℕ) → given_from ≡ from → given_mode ≡ mode → from < 2 ^ 32 → mode < 2 ^ 32
    → MirrorsPath guest kernel address (native_call 53 (given_from ∷ 65536 ∷ given_mode ∷ 0 ∷ 0 ∷ 0 ∷ []) kernel) (o32.chmod_row kernel guest (base from) address mode)
chmod_mirrors guest kernel address given_from given_mode from mode one two first second =
    let e1 = word given_from from one first in
    let e2 = word given_mode mode two second in
    subst (λ (step : List ℕ → O32Step). MirrorsPath guest kernel address (native_call 53 (given_from ∷ 65536 ∷ given_mode ∷ 0 ∷ 0 ∷ 0 ∷ []) kernel) step)
    (λ i. o32.chmod_row kernel guest (base (e1 i)) address (e2 i))
    (chmod_of guest kernel address given_from given_mode)

pub bounded_on_node : (files : Files) (node : Option ℕ) (change : ℕ → Files) → Bounded Anything (on_open_node files node change).came
bounded_on_node files None change = tt
bounded_on_node files (Some node) change = tt

abbrev fchmod_as : Kernel → ℕ → ℕ → Did Kernel ℕ
fchmod_as kernel fd mode = told_zero (marked kernel (λ files now. change_open_mode files now fd mode))

fchmod_fits : (kernel : Kernel) (fd mode : ℕ) → Fits (fchmod_as kernel fd mode).came
unfolding change_open_mode
fchmod_fits kernel fd mode =
    fits_zero _ (bounded_some Anything kernel.files EBADF (opened kernel.files fd) _ (λ description. bounded_on_node kernel.files (node_of description.object) _))

pub fchmod_mirrors : (guest : Guest) (kernel : Kernel) (memory left : List ℕ) (given_fd given_mode fd mode : ℕ) → given_fd ≡ fd → given_mode ≡ mode → fd < 2 ^ 32 → mode < 2 ^ 32
    → Mirrors guest (by_reply guest.words) (native_call 52 (given_fd ∷ given_mode ∷ 0 ∷ 0 ∷ 0 ∷ 0 ∷ []) kernel memory left) (o32.fchmod_row kernel guest fd mode left)
unfolding native.fchmod_row o32.fchmod_row
fchmod_mirrors guest kernel memory left given_fd given_mode fd mode one two first second =
    let e1 = word given_fd fd one first in
    let e2 = word given_mode mode two second in
    same_gives guest memory left (fchmod_as kernel (given_fd % 2 ^ 32) (given_mode % 2 ^ 32)) (fchmod_as kernel fd mode) (fchmod_as kernel fd mode)
    (λ i. fchmod_as kernel (e1 i) (e2 i)) refl (fchmod_fits kernel fd mode)

-- Syncing

abbrev sync_as : Kernel → ℕ → Did Kernel ℕ
sync_as kernel fd = told_zero (on_files kernel (sync kernel.files fd))

sync_fits : (kernel : Kernel) (fd : ℕ) → Fits (sync_as kernel fd).came
unfolding sync
sync_fits kernel fd =
    fits_zero _ (bounded_some Anything kernel.files EBADF (opened kernel.files fd) _ (λ description.
    bounded_some Anything kernel.files EINVAL (node_of description.object) _ (λ node. tt)))

pub fsync_mirrors : (guest : Guest) (kernel : Kernel) (memory left : List ℕ) (given_fd fd : ℕ) → given_fd ≡ fd → fd < 2 ^ 32
    → Mirrors guest (by_reply guest.words) (native_call 82 (given_fd ∷ 0 ∷ 0 ∷ 0 ∷ 0 ∷ 0 ∷ []) kernel memory left) (o32.sync_row kernel guest fd left)
unfolding native_status.sync_row o32.sync_row
fsync_mirrors guest kernel memory left given_fd fd one first =
    same_gives guest memory left (sync_as kernel (given_fd % 2 ^ 32)) (sync_as kernel fd) (sync_as kernel fd)
    (ap (sync_as kernel) (word given_fd fd one first)) refl (sync_fits kernel fd)

pub fdatasync_mirrors : (guest : Guest) (kernel : Kernel) (memory left : List ℕ) (given_fd fd : ℕ) → given_fd ≡ fd → fd < 2 ^ 32
    → Mirrors guest (by_reply guest.words) (native_call 83 (given_fd ∷ 0 ∷ 0 ∷ 0 ∷ 0 ∷ 0 ∷ []) kernel memory left) (o32.sync_row kernel guest fd left)
unfolding native_status.sync_row o32.sync_row
fdatasync_mirrors guest kernel memory left given_fd fd one first =
    same_gives guest memory left (sync_as kernel (given_fd % 2 ^ 32)) (sync_as kernel fd) (sync_as kernel fd)
    (ap (sync_as kernel) (word given_fd fd one first)) refl (sync_fits kernel fd)

-- The working directory

abbrev chdir_as : Kernel → Given (List ℕ) → Did Kernel ℕ
chdir_as kernel path = told_zero (on_files kernel (change_directory kernel.files path))

chdir_bounded : (files : Files) (path : List ℕ) → Bounded Anything (change_directory files (Ok path)).came
unfolding change_directory
chdir_bounded files path =
    bounded_given Anything files (walk_to_node files Working path true) _ (λ node.
    bounded_if Anything (not (is_directory files.nodes node)) ENOTDIR files _ tt)

chdir_fits : (kernel : Kernel) (path : List ℕ) → Fits (chdir_as kernel (Ok path)).came
chdir_fits kernel path = fits_zero _ (chdir_bounded kernel.files path)

chdir_lost : (kernel : Kernel) (error : Errno) → chdir_as kernel (Err error) ≡ refused kernel error
unfolding change_directory
chdir_lost kernel error = refl

pub chdir_mirrors : (guest : Guest) (kernel : Kernel) (address : ℕ)
    → MirrorsPath guest kernel address (native_call 49 (65536 ∷ 0 ∷ 0 ∷ 0 ∷ 0 ∷ 0 ∷ []) kernel) (o32.chdir_row kernel guest address)
unfolding native.chdir_row o32.chdir_row
chdir_mirrors guest kernel address = one_path guest kernel address (chdir_as kernel) (chdir_fits kernel) (chdir_lost kernel)

abbrev fchdir_as : Kernel → ℕ → Did Kernel ℕ
fchdir_as kernel fd = told_zero (on_files kernel (change_to_open kernel.files fd))

fchdir_bounded : (files : Files) (fd : ℕ) → Bounded Anything (change_to_open files fd).came
unfolding change_to_open
fchdir_bounded files fd =
    bounded_given Anything files (directory_of files.nodes (opened files fd)) _ (λ directory. tt)

fchdir_fits : (kernel : Kernel) (fd : ℕ) → Fits (fchdir_as kernel fd).came
fchdir_fits kernel fd = fits_zero _ (fchdir_bounded kernel.files fd)

pub fchdir_mirrors : (guest : Guest) (kernel : Kernel) (memory left : List ℕ) (given_fd fd : ℕ) → given_fd ≡ fd → fd < 2 ^ 32
    → Mirrors guest (by_reply guest.words) (native_call 50 (given_fd ∷ 0 ∷ 0 ∷ 0 ∷ 0 ∷ 0 ∷ []) kernel memory left) (o32.fchdir_row kernel guest fd left)
unfolding native.fchdir_row o32.fchdir_row
fchdir_mirrors guest kernel memory left given_fd fd one first =
    same_gives guest memory left (fchdir_as kernel (given_fd % 2 ^ 32)) (fchdir_as kernel fd) (fchdir_as kernel fd)
    (ap (fchdir_as kernel) (word given_fd fd one first)) refl (fchdir_fits kernel fd)

-- The mask of new nodes

abbrev umask_as : Kernel → ℕ → Did Kernel ℕ
umask_as kernel mask = on_files kernel (set_umask kernel.files mask)

umask_fits : (kernel : Kernel) (mask : ℕ) → kernel.files.umask < 2 ^ 16 → Fits (umask_as kernel mask).came
unfolding set_umask
umask_fits kernel mask small = omega arith

pub umask_mirrors : (guest : Guest) (kernel : Kernel) (memory left : List ℕ) (given mask : ℕ) → kernel.files.umask < 2 ^ 16 → given ≡ mask → mask < 2 ^ 32
    → Mirrors guest (by_reply guest.words) (native_call 166 (given ∷ 0 ∷ 0 ∷ 0 ∷ 0 ∷ 0 ∷ []) kernel memory left) (o32.umask_row kernel guest mask left)
unfolding native.umask_row o32.umask_row
umask_mirrors guest kernel memory left given mask small one first =
    same_gives guest memory left (umask_as kernel (given % 2 ^ 32)) (umask_as kernel mask) (umask_as kernel mask)
    (ap (umask_as kernel) (word given mask one first)) refl (umask_fits kernel mask small)
