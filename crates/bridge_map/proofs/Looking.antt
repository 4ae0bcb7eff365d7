-- What native calls tell of a file that a mapping is to show.
use Rattle.std.proofs.Common.{◌≡◌, ◌≤◌, ◌<◌, ◌%◌, ◌^◌, ◌==◌, ℕ, Bool, true, false, List, [], ◌∷◌, length, min, Option, Some, None, Ok, refl, sym, ap, subst, ◌∙◌, arith, lit≤}
use Rattle.std.proofs.lemmas.Bool.Decides.{nat_tests}
use Rattle.std.proofs.lemmas.Int.{to_z_pos}
use Rattle.std.specs.FinMap.{get}
use Rattle.std.specs.Int.{w64, cast_signed}
use Rattle.std.specs.Prelude.{ℤ, pos, int_lt, option_map, option_and_then, if◌then◌else◌}
use Rattle.host_mem.specs.Memory.{first_address, written}
use Rattle.kernel_core.specs.Bits.{one_if}
use Rattle.kernel_core.specs.Nodes.{Directory, File, Inode, Link, NodeContent, file_at, file_in, in_inode}
use Rattle.kernel_core.specs.declared.error.Errno.TheVariants.{EACCES, EBADF, EFAULT, EINVAL, ESPIPE}
use Rattle.kernel_core.specs.declared.open_flags.Access.{Access}
use Rattle.kernel_core.specs.declared.open_flags.Access.TheVariants as accesses
use Rattle.kernel_model.specs.Came.{Did, done, refused_if, told_as, with_some}
use Rattle.kernel_model.specs.DescriptorRows.{status_flags}
use Rattle.kernel_model.specs.Descriptions.{content_at, if_reads, node_of, opened, reads}
use Rattle.kernel_model.specs.Shared.{OpenSet}
use Rattle.kernel_model.specs.State.{Files, Kernel}
use Rattle.kernel_model.specs.Transfers.{at_place, read_at, read_content, transfer_limit, transferring}
use Rattle.kernel_model.specs.Whole.{on_files}
use Rattle.kernel_model.specs.declared.descriptor.Description.{Description}
use Rattle.native_calls.specs.Descriptors as descriptors
use Rattle.native_calls.specs.HostBytes.{accessible}
use Rattle.native_calls.specs.Step as native_step
use Rattle.native_calls.specs.Step.{NativeStep}
use Rattle.native_calls.specs.Table.{native_call}
use Rattle.native_calls.specs.Transfers as transfers
use Rattle.number_tables.specs.OpenNumbers.{access_number, native_open}
use Rattle.bridge_map.proofs.Quietly.{IsQuiet}
use Rattle.bridge_map.specs.Shown.{access_error, access_error_told, file_error, file_error_told, file_of}

-- F_GETFL

one_if-le : (set : Bool) → one_if set ≤ 1
one_if-le true = lit≤ tt
one_if-le false = lit≤ tt

access_number-le : (access : Access) → access_number access ≤ 2
access_number-le accesses.Read = lit≤ tt
access_number-le accesses.Write = lit≤ tt
access_number-le accesses.ReadWrite = lit≤ tt

two_bits : (flags : OpenSet) → native_open flags % 4 ≡ access_number flags.access
two_bits flags = omega (arith, one_if-le, access_number-le)

access_told : (access : Access) (number : ℕ) → number % 4 ≡ access_number access → (if number % 4 == 1 then Some EACCES else None) ≡ (if reads access then None else Some EACCES)
access_told accesses.Read number is = ap (λ (n : ℕ). if n == 1 then Some EACCES else None) is
access_told accesses.Write number is = ap (λ (n : ℕ). if n == 1 then Some EACCES else None) is
access_told accesses.ReadWrite number is = ap (λ (n : ℕ). if n == 1 then Some EACCES else None) is

-- what the call does, by what is open
flags_told : Kernel → List ℕ → List ℕ → Option Description → NativeStep
flags_told kernel memory left there =
    native_step.gives memory (told_as native_open (on_files kernel (with_some kernel.files EBADF there (λ (d : Description). done kernel.files d.flags)))) left

flags_quiet : (kernel : Kernel) (memory left : List ℕ) (there : Option Description) → IsQuiet (flags_told kernel memory left there) kernel left
unfolding flags_told
flags_quiet kernel memory left None = record { stays = refl; rest = refl; sends = refl }
flags_quiet kernel memory left (Some description) = record { stays = refl; rest = refl; sends = refl }

flags_error : (kernel : Kernel) (memory left : List ℕ) (there : Option Description) → access_error_told (flags_told kernel memory left there).reply ≡ access_error there
unfolding flags_told
flags_error kernel memory left None = refl
flags_error kernel memory left (Some description) = access_told description.flags.access (native_open description.flags) (two_bits description.flags)

getfl_is : (kernel : Kernel) (memory left : List ℕ) (first fd : ℕ) → first % 2 ^ 32 ≡ fd
    → native_call 25 (first ∷ 3 ∷ 0 ∷ 0 ∷ 0 ∷ 0 ∷ []) kernel memory left ≡ flags_told kernel memory left (opened kernel.files fd)
unfolding descriptors.fcntl_row status_flags flags_told
getfl_is kernel memory left first fd same = ap (λ (n : ℕ). flags_told kernel memory left (opened kernel.files n)) same

pub getfl_quiet : (kernel : Kernel) (memory left : List ℕ) (first fd : ℕ) → first ≡ fd → fd < 2 ^ 32
    → IsQuiet (native_call 25 (first ∷ 3 ∷ 0 ∷ 0 ∷ 0 ∷ 0 ∷ []) kernel memory left) kernel left
getfl_quiet kernel memory left first fd is word =
    subst (λ (s : NativeStep). IsQuiet s kernel left) (sym (getfl_is kernel memory left first fd (omega arith))) (flags_quiet kernel memory left (opened kernel.files fd))

pub getfl_tells : (kernel : Kernel) (memory left : List ℕ) (first fd : ℕ) → first ≡ fd → fd < 2 ^ 32
    → access_error_told (native_call 25 (first ∷ 3 ∷ 0 ∷ 0 ∷ 0 ∷ 0 ∷ []) kernel memory left).reply ≡ access_error (opened kernel.files fd)
getfl_tells kernel memory left first fd is word =
    ap (λ (s : NativeStep). access_error_told s.reply) (getfl_is kernel memory left first fd (omega arith)) ∙ flags_error kernel memory left (opened kernel.files fd)

-- A read at a place of what is open for reading

unfoldable pub read_of : Files → Description → ℕ → ℕ → Did Files (List ℕ)
read_of files description at most =
    with_some files ESPIPE (node_of description.object) (λ (node : ℕ). read_content files at most (λ _. files) (content_at files.nodes node))

at_or_above : (at : ℕ) → int_lt (pos at) (pos 0) ≡ false
at_or_above at = grind (arith, nat_tests)

not_none : (count : ℕ) → 0 < count → (count == 0) ≡ false
not_none count some = grind (arith, nat_tests)

module _ (files : Files) (description : Description) (at count room : ℕ) where
  rest_of : Bool → Bool → Bool → Did Files (List ℕ)
  rest_of below no_byte no_room =
      refused_if below EINVAL files (
      with_some files ESPIPE (node_of description.object) (λ (node : ℕ).
      if no_byte then done files []
      else refused_if no_room EFAULT files (read_content files at (min (min count room) transfer_limit) (λ _. files) (content_at files.nodes node))))

  pub read_at_is : (fd : ℕ) → opened files fd ≡ Some description → reads description.flags.access ≡ true → 0 < count → 0 < room
      → read_at files fd (pos at) (Ok count) room ≡ read_of files description at (min (min count room) transfer_limit)
  unfolding read_at read_of rest_of
  read_at_is fd there may_read bytes space =
      ap (λ (o : Option Description). with_some files EBADF (if_reads o) (λ (d : Description). at_place files (pos at) d.object (λ place node. transferring files (Ok count) room [] (λ most. read_content files place most (λ _. files) (content_at files.nodes node))))) there
      ∙ ap (λ (b : Bool). with_some files EBADF (if b then Some description else None) (λ (d : Description). at_place files (pos at) d.object (λ place node. transferring files (Ok count) room [] (λ most. read_content files place most (λ _. files) (content_at files.nodes node))))) may_read
      ∙ ap (λ (b : Bool). rest_of b (count == 0) (room == 0)) (at_or_above at)
      ∙ ap (λ (b : Bool). rest_of false b (room == 0)) (not_none count bytes)
      ∙ ap (λ (b : Bool). rest_of false false b) (not_none room space)

-- the file that a node is

pub file_found : (found : Option Inode) → in_inode file_in found ≡ option_and_then file_in (option_map (λ (i : Inode). i.content) found)
file_found None = refl
file_found (Some inode) = refl

content_read : Kernel → List ℕ → List ℕ → ℕ → Option NodeContent → NativeStep
content_read kernel room left at content =
    native_step.fills (written room first_address) room (on_files kernel (read_content kernel.files at 1 (λ _. kernel.files) content)) left

content_quiet : (kernel : Kernel) (room left : List ℕ) (at : ℕ) (content : Option NodeContent) → IsQuiet (content_read kernel room left at content) kernel left
unfolding content_read
content_quiet kernel room left at None = record { stays = refl; rest = refl; sends = refl }
content_quiet kernel room left at (Some (File content)) = record { stays = refl; rest = refl; sends = refl }
content_quiet kernel room left at (Some (Directory listing)) = record { stays = refl; rest = refl; sends = refl }
content_quiet kernel room left at (Some (Link target)) = record { stays = refl; rest = refl; sends = refl }

content_error : (kernel : Kernel) (room left : List ℕ) (at : ℕ) (content : Option NodeContent) → file_error_told (content_read kernel room left at content).reply ≡ file_error (option_and_then file_in content)
unfolding content_read
content_error kernel room left at None = refl
content_error kernel room left at (Some (File content)) = refl
content_error kernel room left at (Some (Directory listing)) = refl
content_error kernel room left at (Some (Link target)) = refl

byte_read : Kernel → List ℕ → List ℕ → ℕ → Description → NativeStep
byte_read kernel room left at description = native_step.fills (written room first_address) room (on_files kernel (read_of kernel.files description at 1)) left

byte_quiet : (kernel : Kernel) (room left : List ℕ) (at : ℕ) (description : Description) → IsQuiet (byte_read kernel room left at description) kernel left
unfolding byte_read read_of content_read
byte_quiet kernel room left at description = by_node (node_of description.object)
  where
    by_node : (node : Option ℕ)
        → IsQuiet (native_step.fills (written room first_address) room (on_files kernel (with_some kernel.files ESPIPE node (λ (n : ℕ). read_content kernel.files at 1 (λ _. kernel.files) (content_at kernel.files.nodes n)))) left) kernel left
    by_node None = record { stays = refl; rest = refl; sends = refl }
    by_node (Some node) = content_quiet kernel room left at (content_at kernel.files.nodes node)

byte_error : (kernel : Kernel) (room left : List ℕ) (at : ℕ) (description : Description) → file_error_told (byte_read kernel room left at description).reply ≡ file_error (file_of kernel.files description)
unfolding byte_read read_of content_read
byte_error kernel room left at description = by_node (node_of description.object)
  where
    by_node : (node : Option ℕ)
        → file_error_told (native_step.fills (written room first_address) room (on_files kernel (with_some kernel.files ESPIPE node (λ (n : ℕ). read_content kernel.files at 1 (λ _. kernel.files) (content_at kernel.files.nodes n)))) left).reply
        ≡ file_error (option_and_then (file_at kernel.files.nodes) node)
    by_node None = refl
    by_node (Some node) = content_error kernel room left at (content_at kernel.files.nodes node) ∙ ap file_error (sym (file_found (get kernel.files.nodes node)))

byte_is : (kernel : Kernel) (left room : List ℕ) (first fd place : ℕ) (description : Description) → first ≡ fd → fd < 2 ^ 32 → place < 2 ^ 63 → length room ≡ 1
    → opened kernel.files fd ≡ Some description → reads description.flags.access ≡ true
    → native_call 67 (first ∷ 65536 ∷ 1 ∷ place ∷ 0 ∷ 0 ∷ []) kernel room left ≡ byte_read kernel room left place description
unfolding transfers.pread_row byte_read
byte_is kernel left room first fd place description first_is word low one there may_read =
    let number : first % 2 ^ 32 ≡ fd = omega arith in
    let there_is_room : accessible room 65536 1 ≡ 1 = grind (arith, nat_tests) in
    let fills : Did Files (List ℕ) → NativeStep = λ did. native_step.fills (written room first_address) room (on_files kernel did) left in
    ap (λ (n : ℕ). fills (read_at kernel.files n (cast_signed w64 place) (Ok 1) (accessible room 65536 1))) number
    ∙ ap (λ (z : ℤ). fills (read_at kernel.files fd z (Ok 1) (accessible room 65536 1))) (to_z_pos w64 place low)
    ∙ ap (λ (n : ℕ). fills (read_at kernel.files fd (pos place) (Ok 1) n)) there_is_room
    ∙ ap fills (read_at_is kernel.files description place 1 1 fd there may_read (omega arith) (omega arith))

module _ (kernel : Kernel) (left room : List ℕ) (first fd place : ℕ) (description : Description) (first_is : first ≡ fd) (word : fd < 2 ^ 32) (low : place < 2 ^ 63) (one : length room ≡ 1)
    (there : opened kernel.files fd ≡ Some description) (may_read : reads description.flags.access ≡ true) where
  pub pread_quiet : IsQuiet (native_call 67 (first ∷ 65536 ∷ 1 ∷ place ∷ 0 ∷ 0 ∷ []) kernel room left) kernel left
  pread_quiet = subst (λ (s : NativeStep). IsQuiet s kernel left) (sym (byte_is kernel left room first fd place description first_is word low one there may_read)) (byte_quiet kernel room left place description)

  pub pread_tells : file_error_told (native_call 67 (first ∷ 65536 ∷ 1 ∷ place ∷ 0 ∷ 0 ∷ []) kernel room left).reply ≡ file_error (file_of kernel.files description)
  pread_tells = ap (λ (s : NativeStep). file_error_told s.reply) (byte_is kernel left room first fd place description first_is word low one there may_read) ∙ byte_error kernel room left place description
