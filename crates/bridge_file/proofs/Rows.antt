-- The rows of calls with paths, as native calls.
use Rattle.std.proofs.Common.{◌≡◌, ℕ, ◌<◌, ◌^◌, ◌%◌, List, [], ◌∷◌, Option, Bool, false, Ok, Err, refl, ap, subst, ◌∙◌, arith, lit<}
use Rattle.std.specs.Prelude.{ℤ, ◌==◌, ◌/◌}
use Rattle.std.proofs.lemmas.Bool.Decides.{nat_tests}
use Rattle.native_calls.specs.Flags.{only_flag}
use Rattle.host_mem.specs.Memory.{first_address}
use Rattle.kernel_core.specs.declared.error.Errno.{Errno}
use Rattle.kernel_core.specs.declared.error.Errno.TheVariants.{EINVAL, ENOENT, EPERM}
use Rattle.kernel_model.specs.Came.{Did, Given, refused, told_zero}
use Rattle.kernel_core.specs.NameCalls.{is_empty_list, link_refusal, make_refusal, rename_refusal, symlink_refusal}
use Rattle.kernel_core.specs.Nodes.{is_directory}
use Rattle.kernel_core.specs.PathWalk.{Place}
use Rattle.kernel_model.specs.Clock.{now}
use Rattle.kernel_model.specs.NameRows.{make_directory, remove_name, link, make_link, makes_file_before_slash, rename}
use Rattle.kernel_model.specs.Paths.{is_missing_before_slash, walk, walk_to_node}
use Rattle.kernel_model.specs.State.{Kernel, Files}
use Rattle.kernel_model.specs.Whole.{marked}
use Rattle.native_calls.specs.Names as native
use Rattle.native_calls.specs.Paths as host
use Rattle.native_calls.specs.Step as native_step
use Rattle.native_calls.specs.Table.{native_call}
use Rattle.o32_model.specs.Names as o32
use Rattle.o32_model.specs.PathArguments.{base, one_flag}
use Rattle.o32_model.specs.Paths as guest_paths
use Rattle.o32_model.specs.Step as o32_step
use Rattle.o32_model.specs.Step.{Guest}
use Rattle.bridge_paths.proofs.Passed.{Fits}
use Rattle.bridge_paths.specs.Passed.{Bounded}
use Rattle.bridge_paths.proofs.Rows.{Anything, bounded_by, bounded_either, bounded_given, bounded_if, bounded_some, fits_zero, one_only, same_gives, word}
use Rattle.bridge_file.specs.inside.Paths.{MirrorsPath, MirrorsPaths}

-- Rows of one path, by what was read at it

module _ (guest : Guest) (kernel : Kernel) (address : ℕ) (row : Given (List ℕ) → Did Kernel ℕ)
    (fits : (path : List ℕ) → Fits (row (Ok path)).came) (lost : (error : Errno) → row (Err error) ≡ refused kernel error) where
  pub one_path : MirrorsPath guest kernel address
      (λ memory left. native_step.gives memory (row (host.path_at memory first_address)) left)
      (λ left. o32_step.gives guest (row (guest_paths.path_at guest.memory address)) left)
  one_path = record {
    found = λ path memory there here left. same_gives guest memory left _ _ (row (Ok path)) (ap row here) (ap row there) (fits path);
    lost = λ error there left. ap (λ (d : Did Kernel ℕ). o32_step.gives guest d left) (ap row there ∙ lost error);
  }

-- Rows of two

module _ (guest : Guest) (kernel : Kernel) (first second : ℕ) (row : Given (List ℕ) → Given (List ℕ) → Did Kernel ℕ)
    (fits : (one two : List ℕ) → Fits (row (Ok one) (Ok two)).came)
    (first_lost : (error : Errno) (other : Given (List ℕ)) → row (Err error) other ≡ refused kernel error)
    (second_lost : (one : List ℕ) (error : Errno) → row (Ok one) (Err error) ≡ refused kernel error) where
  pub two_paths : MirrorsPaths guest kernel first second
      (λ at memory left. native_step.gives memory (row (host.path_at memory first_address) (host.path_at memory at)) left)
      (λ left. o32_step.gives guest (row (guest_paths.path_at guest.memory first) (guest_paths.path_at guest.memory second)) left)
  two_paths = record {
    found = λ one two memory at there also here behind left.
        same_gives guest memory left _ _ (row (Ok one) (Ok two)) (λ i. row (here i) (behind i)) (λ i. row (there i) (also i)) (fits one two);
    first_lost = λ error there left.
        ap (λ (d : Did Kernel ℕ). o32_step.gives guest d left)
        (ap (λ (p : Given (List ℕ)). row p (guest_paths.path_at guest.memory second)) there ∙ first_lost error (guest_paths.path_at guest.memory second));
    second_lost = λ one error there also left.
        ap (λ (d : Did Kernel ℕ). o32_step.gives guest d left) ((λ i. row (there i) (also i)) ∙ second_lost one error);
  }

-- Directories

abbrev mkdir_as : Kernel → ℕ → ℕ → Given (List ℕ) → Did Kernel ℕ
mkdir_as kernel from mode path = told_zero (marked kernel (λ files now. make_directory files now (base from) path mode))

mkdir_bounded : (files : Files) (now : ℤ) (from mode : ℕ) (path : List ℕ) → Bounded Anything (make_directory files now (base from) (Ok path) mode).came
unfolding make_directory
mkdir_bounded files now from mode path =
    bounded_given Anything files (walk files (base from) path false) _ (λ (place : Place).
    bounded_by Anything (make_refusal files.nodes place) files _ tt)

mkdir_fits : (kernel : Kernel) (from mode : ℕ) (path : List ℕ) → Fits (mkdir_as kernel from mode (Ok path)).came
mkdir_fits kernel from mode path = fits_zero _ (mkdir_bounded kernel.files (now kernel) from mode path)

mkdir_lost : (kernel : Kernel) (from mode : ℕ) (error : Errno) → mkdir_as kernel from mode (Err error) ≡ refused kernel error
unfolding make_directory
mkdir_lost kernel from mode error = refl

mkdir_of : (guest : Guest) (kernel : Kernel) (address from mode : ℕ) → MirrorsPath guest kernel address
    (native_call 34 (from ∷ 65536 ∷ mode ∷ 0 ∷ 0 ∷ 0 ∷ []) kernel) (o32.mkdir_row kernel guest (base (from % 2 ^ 32)) address (mode % 2 ^ 32))
unfolding native.mkdirat_row o32.mkdir_row
mkdir_of guest kernel address from mode =
    one_path guest kernel address (mkdir_as kernel (from % 2 ^ 32) (mode % 2 ^ 32)) (mkdir_fits kernel (from % 2 ^ 32) (mode % 2 ^ 32)) (mkdir_lost kernel (from % 2 ^ 32) (mode % 2 ^ 32))

pub mkdir_mirrors : (guest : Guest) (kernel : Kernel) (address given_from given_mode from mode : ℕ) → given_from ≡ from → given_mode ≡ mode → from < 2 ^ 32 → mode < 2 ^ 32
    → MirrorsPath guest kernel address (native_call 34 (given_from ∷ 65536 ∷ given_mode ∷ 0 ∷ 0 ∷ 0 ∷ []) kernel) (o32.mkdir_row kernel guest (base from) address mode)
mkdir_mirrors guest kernel address given_from given_mode from mode one two first second =
    let e1 = word given_from from one first in
    let e2 = word given_mode mode two second in
    subst (λ (step : List ℕ → o32_step.O32Step). MirrorsPath guest kernel address (native_call 34 (given_from ∷ 65536 ∷ given_mode ∷ 0 ∷ 0 ∷ 0 ∷ []) kernel) step)
    (λ i. o32.mkdir_row kernel guest (base (e1 i)) address (e2 i))
    (mkdir_of guest kernel address given_from given_mode)

-- A number of which a call takes one flag

directory_flag : (number : ℕ) → only_flag 0x200 number ≡ one_flag 0x200 number
directory_flag number = one_only 0x200 number (number / 0x200 % 2 == 1) refl (lit< tt) (λ zero. grind (arith, nat_tests)) (λ same. grind (arith, nat_tests))

link_flag : (number : ℕ) → only_flag 0x400 number ≡ one_flag 0x400 number
link_flag number = one_only 0x400 number (number / 0x400 % 2 == 1) refl (lit< tt) (λ zero. grind (arith, nat_tests)) (λ same. grind (arith, nat_tests))

-- Removing

abbrev remove_as : Kernel → ℕ → Option Bool → Given (List ℕ) → Did Kernel ℕ
remove_as kernel from directory path = told_zero (marked kernel (λ files now. remove_name files now (base from) path directory))

remove_bounded : (files : Files) (now : ℤ) (from : ℕ) (directory : Option Bool) (path : List ℕ) → Bounded Anything (remove_name files now (base from) (Ok path) directory).came
unfolding remove_name
remove_bounded files now from directory path =
    bounded_some Anything files _ directory _ (λ is.
    bounded_given Anything files _ _ (λ (place : Place).
    bounded_either Anything is _ _
    (bounded_by Anything _ files _ (bounded_some Anything files _ place.node _ (λ node. tt)))
    (bounded_by Anything _ files _ (bounded_some Anything files _ place.node _ (λ node. tt)))))

remove_fits : (kernel : Kernel) (from : ℕ) (directory : Option Bool) (path : List ℕ) → Fits (remove_as kernel from directory (Ok path)).came
remove_fits kernel from directory path = fits_zero _ (remove_bounded kernel.files (now kernel) from directory path)

remove_lost : (kernel : Kernel) (from : ℕ) (directory : Option Bool) (error : Errno) → remove_as kernel from directory (Err error) ≡ refused kernel error
unfolding remove_name
remove_lost kernel from directory error = refl

remove_of : (guest : Guest) (kernel : Kernel) (address from flags : ℕ) → MirrorsPath guest kernel address
    (native_call 35 (from ∷ 65536 ∷ flags ∷ 0 ∷ 0 ∷ 0 ∷ []) kernel) (o32.remove_row kernel guest (base (from % 2 ^ 32)) address (only_flag 0x200 (flags % 2 ^ 32)))
unfolding native.unlinkat_row o32.remove_row
remove_of guest kernel address from flags =
    one_path guest kernel address (remove_as kernel (from % 2 ^ 32) (only_flag 0x200 (flags % 2 ^ 32))) (remove_fits kernel (from % 2 ^ 32) _) (remove_lost kernel (from % 2 ^ 32) _)

pub remove_mirrors : (guest : Guest) (kernel : Kernel) (address given_from given_flags from flags : ℕ) → given_from ≡ from → given_flags ≡ flags → from < 2 ^ 32 → flags < 2 ^ 32
    → MirrorsPath guest kernel address (native_call 35 (given_from ∷ 65536 ∷ given_flags ∷ 0 ∷ 0 ∷ 0 ∷ []) kernel) (o32.remove_row kernel guest (base from) address (one_flag 0x200 flags))
remove_mirrors guest kernel address given_from given_flags from flags one two first second =
    let e1 = word given_from from one first in
    let e2 : only_flag 0x200 (given_flags % 2 ^ 32) ≡ one_flag 0x200 flags = ap (only_flag 0x200) (word given_flags flags two second) ∙ directory_flag flags in
    subst (λ (step : List ℕ → o32_step.O32Step). MirrorsPath guest kernel address (native_call 35 (given_from ∷ 65536 ∷ given_flags ∷ 0 ∷ 0 ∷ 0 ∷ []) kernel) step)
    (λ i. o32.remove_row kernel guest (base (e1 i)) address (e2 i))
    (remove_of guest kernel address given_from given_flags)

-- Symbolic links

abbrev symlink_as : Kernel → ℕ → Given (List ℕ) → Given (List ℕ) → Did Kernel ℕ
symlink_as kernel from target path = told_zero (marked kernel (λ files now. make_link files now target (base from) path))

symlink_bounded : (files : Files) (now : ℤ) (from : ℕ) (target path : List ℕ) → Bounded Anything (make_link files now (Ok target) (base from) (Ok path)).came
unfolding make_link
symlink_bounded files now from target path =
    bounded_if Anything (is_empty_list target) ENOENT files _
    (bounded_given Anything files (walk files (base from) path false) _ (λ (place : Place).
    bounded_if Anything (is_missing_before_slash path place) ENOENT files _
    (bounded_by Anything (symlink_refusal files.nodes place target) files _ tt)))

symlink_fits : (kernel : Kernel) (from : ℕ) (target path : List ℕ) → Fits (symlink_as kernel from (Ok target) (Ok path)).came
symlink_fits kernel from target path = fits_zero _ (symlink_bounded kernel.files (now kernel) from target path)

symlink_first : (kernel : Kernel) (from : ℕ) (error : Errno) (other : Given (List ℕ)) → symlink_as kernel from (Err error) other ≡ refused kernel error
unfolding make_link
symlink_first kernel from error other = refl

symlink_second : (kernel : Kernel) (from : ℕ) (target : List ℕ) (error : Errno) → symlink_as kernel from (Ok target) (Err error) ≡ refused kernel error
unfolding make_link
symlink_second kernel from target error = refl

symlink_of : (guest : Guest) (kernel : Kernel) (target address from : ℕ) → MirrorsPaths guest kernel target address
    (λ at. native_call 36 (65536 ∷ from ∷ at ∷ 0 ∷ 0 ∷ 0 ∷ []) kernel) (o32.symlink_row kernel guest target (base (from % 2 ^ 32)) address)
unfolding native.symlinkat_row o32.symlink_row
symlink_of guest kernel target address from =
    two_paths guest kernel target address (symlink_as kernel (from % 2 ^ 32)) (symlink_fits kernel (from % 2 ^ 32)) (symlink_first kernel (from % 2 ^ 32)) (symlink_second kernel (from % 2 ^ 32))

pub symlink_mirrors : (guest : Guest) (kernel : Kernel) (target address given_from from : ℕ) → given_from ≡ from → from < 2 ^ 32
    → MirrorsPaths guest kernel target address (λ at. native_call 36 (65536 ∷ given_from ∷ at ∷ 0 ∷ 0 ∷ 0 ∷ []) kernel) (o32.symlink_row kernel guest target (base from) address)
symlink_mirrors guest kernel target address given_from from one first =
    let e1 = word given_from from one first in
    subst (λ (step : List ℕ → o32_step.O32Step). MirrorsPaths guest kernel target address (λ at. native_call 36 (65536 ∷ given_from ∷ at ∷ 0 ∷ 0 ∷ 0 ∷ []) kernel) step)
    (λ i. o32.symlink_row kernel guest target (base (e1 i)) address)
    (symlink_of guest kernel target address given_from)

-- Renaming

abbrev rename_as : Kernel → ℕ → ℕ → Given (List ℕ) → Given (List ℕ) → Did Kernel ℕ
rename_as kernel old_from new_from old new = told_zero (marked kernel (λ files now. rename files now (base old_from) old (base new_from) new))

rename_bounded : (files : Files) (now : ℤ) (old_from new_from : ℕ) (old new : List ℕ) → Bounded Anything (rename files now (base old_from) (Ok old) (base new_from) (Ok new)).came
unfolding rename
rename_bounded files now old_from new_from old new =
    bounded_given Anything files (walk files (base old_from) old false) _ (λ (from : Place).
    bounded_some Anything files ENOENT from.node _ (λ moved.
    bounded_given Anything files (walk files (base new_from) new false) _ (λ (to : Place).
    bounded_if Anything (makes_file_before_slash files.nodes moved from new to) ENOENT files _
    (bounded_by Anything (rename_refusal files.nodes from to) files _ tt))))

rename_fits : (kernel : Kernel) (old_from new_from : ℕ) (old new : List ℕ) → Fits (rename_as kernel old_from new_from (Ok old) (Ok new)).came
rename_fits kernel old_from new_from old new = fits_zero _ (rename_bounded kernel.files (now kernel) old_from new_from old new)

rename_first : (kernel : Kernel) (old_from new_from : ℕ) (error : Errno) (other : Given (List ℕ)) → rename_as kernel old_from new_from (Err error) other ≡ refused kernel error
unfolding rename
rename_first kernel old_from new_from error other = refl

rename_second : (kernel : Kernel) (old_from new_from : ℕ) (old : List ℕ) (error : Errno) → rename_as kernel old_from new_from (Ok old) (Err error) ≡ refused kernel error
unfolding rename
rename_second kernel old_from new_from old error = refl

rename_of : (guest : Guest) (kernel : Kernel) (old new old_from new_from : ℕ) → MirrorsPaths guest kernel old new
    (λ at. native_call 38 (old_from ∷ 65536 ∷ new_from ∷ at ∷ 0 ∷ 0 ∷ []) kernel) (o32.rename_row kernel guest (base (old_from % 2 ^ 32)) old (base (new_from % 2 ^ 32)) new)
unfolding native.renameat_row o32.rename_row
rename_of guest kernel old new old_from new_from =
    two_paths guest kernel old new (rename_as kernel (old_from % 2 ^ 32) (new_from % 2 ^ 32)) (rename_fits kernel (old_from % 2 ^ 32) (new_from % 2 ^ 32))
    (rename_first kernel (old_from % 2 ^ 32) (new_from % 2 ^ 32)) (rename_second kernel (old_from % 2 ^ 32) (new_from % 2 ^ 32))

pub rename_mirrors : (guest : Guest) (kernel : Kernel) (old new given_old given_new old_from new_from : ℕ) → given_old ≡ old_from → given_new ≡ new_from → old_from < 2 ^ 32 → new_from < 2 ^ 32
    → MirrorsPaths guest kernel old new (λ at. native_call 38 (given_old ∷ 65536 ∷ given_new ∷ at ∷ 0 ∷ 0 ∷ []) kernel) (o32.rename_row kernel guest (base old_from) old (base new_from) new)
rename_mirrors guest kernel old new given_old given_new old_from new_from one two first second =
    let e1 = word given_old old_from one first in
    let e2 = word given_new new_from two second in
    subst (λ (step : List ℕ → o32_step.O32Step). MirrorsPaths guest kernel old new (λ at. native_call 38 (given_old ∷ 65536 ∷ given_new ∷ at ∷ 0 ∷ 0 ∷ []) kernel) step)
    (λ i. o32.rename_row kernel guest (base (e1 i)) old (base (e2 i)) new)
    (rename_of guest kernel old new given_old given_new)

-- Links

abbrev link_as : Kernel → ℕ → ℕ → Option Bool → Given (List ℕ) → Given (List ℕ) → Did Kernel ℕ
link_as kernel old_from new_from follow old new = told_zero (marked kernel (λ files now. link files now (base old_from) old (base new_from) new follow))

link_bounded : (files : Files) (now : ℤ) (old_from new_from : ℕ) (follow : Option Bool) (old new : List ℕ) → Bounded Anything (link files now (base old_from) (Ok old) (base new_from) (Ok new) follow).came
unfolding link
link_bounded files now old_from new_from follow old new =
    bounded_some Anything files EINVAL follow _ (λ follow.
    bounded_given Anything files (walk_to_node files (base old_from) old follow) _ (λ node.
    bounded_given Anything files (walk files (base new_from) new false) _ (λ (place : Place).
    bounded_if Anything (is_directory files.nodes node) EPERM files _
    (bounded_if Anything (is_missing_before_slash new place) ENOENT files _
    (bounded_by Anything (link_refusal files.nodes node place) files _ tt)))))

link_fits : (kernel : Kernel) (old_from new_from : ℕ) (follow : Option Bool) (old new : List ℕ) → Fits (link_as kernel old_from new_from follow (Ok old) (Ok new)).came
link_fits kernel old_from new_from follow old new = fits_zero _ (link_bounded kernel.files (now kernel) old_from new_from follow old new)

link_first : (kernel : Kernel) (old_from new_from : ℕ) (follow : Option Bool) (error : Errno) (other : Given (List ℕ)) → link_as kernel old_from new_from follow (Err error) other ≡ refused kernel error
unfolding link
link_first kernel old_from new_from follow error other = refl

link_second : (kernel : Kernel) (old_from new_from : ℕ) (follow : Option Bool) (old : List ℕ) (error : Errno) → link_as kernel old_from new_from follow (Ok old) (Err error) ≡ refused kernel error
unfolding link
link_second kernel old_from new_from follow old error = refl

link_of : (guest : Guest) (kernel : Kernel) (old new old_from new_from flags : ℕ) → MirrorsPaths guest kernel old new
    (λ at. native_call 37 (old_from ∷ 65536 ∷ new_from ∷ at ∷ flags ∷ 0 ∷ []) kernel)
    (λ left. o32_step.gives guest (o32.linked kernel guest (base (old_from % 2 ^ 32)) old (base (new_from % 2 ^ 32)) new (only_flag 0x400 (flags % 2 ^ 32))) left)
unfolding native.linkat_row
link_of guest kernel old new old_from new_from flags =
    two_paths guest kernel old new (link_as kernel (old_from % 2 ^ 32) (new_from % 2 ^ 32) (only_flag 0x400 (flags % 2 ^ 32)))
    (link_fits kernel (old_from % 2 ^ 32) (new_from % 2 ^ 32) _)
    (link_first kernel (old_from % 2 ^ 32) (new_from % 2 ^ 32) _) (link_second kernel (old_from % 2 ^ 32) (new_from % 2 ^ 32) _)

pub link_mirrors : (guest : Guest) (kernel : Kernel) (old new given_old given_new given_flags old_from new_from flags : ℕ)
    → given_old ≡ old_from → given_new ≡ new_from → given_flags ≡ flags → old_from < 2 ^ 32 → new_from < 2 ^ 32 → flags < 2 ^ 32
    → MirrorsPaths guest kernel old new (λ at. native_call 37 (given_old ∷ 65536 ∷ given_new ∷ at ∷ given_flags ∷ 0 ∷ []) kernel)
    (λ left. o32_step.gives guest (o32.linked kernel guest (base old_from) old (base new_from) new (one_flag 0x400 flags)) left)
link_mirrors guest kernel old new given_old given_new given_flags old_from new_from flags one two three first second third =
    let e1 = word given_old old_from one first in
    let e2 = word given_new new_from two second in
    let e3 : only_flag 0x400 (given_flags % 2 ^ 32) ≡ one_flag 0x400 flags = ap (only_flag 0x400) (word given_flags flags three third) ∙ link_flag flags in
    subst (λ (step : List ℕ → o32_step.O32Step). MirrorsPaths guest kernel old new (λ at. native_call 37 (given_old ∷ 65536 ∷ given_new ∷ at ∷ given_flags ∷ 0 ∷ []) kernel) step)
    (λ i left. o32_step.gives guest (o32.linked kernel guest (base (e1 i)) old (base (e2 i)) new (e3 i)) left)
    (link_of guest kernel old new given_old given_new given_flags)
