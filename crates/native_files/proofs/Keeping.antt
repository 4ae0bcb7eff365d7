-- Rows that leave the files as they are.
use Rattle.std.proofs.Common.{◌≡◌, ℕ, ℤ, pos, Bool, true, false, cond, ◌==◌, List, [], Option, None, Some, Ok, Err, refl}
use Rattle.std.specs.Prelude.{int_lt, min, nat_abs}
use Rattle.kernel_core.specs.declared.error.Errno.{Errno}
use Rattle.kernel_core.specs.declared.error.Errno.TheVariants.{EBADF, EFAULT, EINVAL, ESPIPE}
use Rattle.kernel_core.specs.Nodes.{NodeContent, File, Directory, Link}
use Rattle.kernel_model.specs.Came.{Did, Given, done, refused_if, with_some}
use Rattle.kernel_model.specs.Descriptions.{content_at, node_of, readable}
use Rattle.kernel_model.specs.State.{Files}
use Rattle.kernel_model.specs.Transfers.{read_at, read_content, transferring}

-- what is kept by each part of a row

some_keeps : {V A : Type 0} (files : Files) (error : Errno) (o : Option A) (rest : A → Did Files V) → ((a : A) → (rest a).state ≡ files) → (with_some files error o rest).state ≡ files
some_keeps files error None rest keeps = refl
some_keeps files error (Some a) rest keeps = keeps a

if_keeps : {V : Type 0} (files : Files) (wrong : Bool) (error : Errno) (rest : Did Files V) → rest.state ≡ files → (refused_if wrong error files rest).state ≡ files
if_keeps files true error rest keeps = refl
if_keeps files false error rest keeps = keeps

done_keeps : {V : Type 0} (files : Files) (none : Bool) (value : V) (rest : Did Files V) → rest.state ≡ files → (cond none (done files value) rest).state ≡ files
done_keeps files true value rest keeps = refl
done_keeps files false value rest keeps = keeps

transferring_keeps : {V : Type 0} (files : Files) (asked : Given ℕ) (accessible : ℕ) (none : V) (rest : ℕ → Did Files V) → ((most : ℕ) → (rest most).state ≡ files)
    → (transferring files asked accessible none rest).state ≡ files
transferring_keeps files (Err error) accessible none rest keeps = refl
transferring_keeps files (Ok count) accessible none rest keeps =
    done_keeps files (count == 0) none _
    (if_keeps files (accessible == 0) EFAULT (rest (min (min count accessible) 0x7FFFF000)) (keeps (min (min count accessible) 0x7FFFF000)))

content_keeps : (files : Files) (at most : ℕ) (o : Option NodeContent) → (read_content files at most (λ _. files) o).state ≡ files
content_keeps files at most None = refl
content_keeps files at most (Some (File content)) = refl
content_keeps files at most (Some (Directory listing)) = refl
content_keeps files at most (Some (Link target)) = refl

module _ (files : Files) (fd : ℕ) (place : ℤ) (asked : Given ℕ) (room : ℕ) where
  abbrev at_node : ℕ → Did Files (List ℕ)
  at_node node = transferring files asked room [] (λ most. read_content files (nat_abs place) most (λ _. files) (content_at files.nodes node))

  pub read_at-keeps : (read_at files fd place asked room).state ≡ files
  unfolding read_at
  read_at-keeps =
      some_keeps files EBADF (readable files fd) (λ description. refused_if (int_lt place (pos 0)) EINVAL files (with_some files ESPIPE (node_of description.object) at_node)) (λ description.
      if_keeps files (int_lt place (pos 0)) EINVAL (with_some files ESPIPE (node_of description.object) at_node) (
      some_keeps files ESPIPE (node_of description.object) at_node (λ node.
      transferring_keeps files asked room [] (λ most. read_content files (nat_abs place) most (λ _. files) (content_at files.nodes node)) (λ most.
      content_keeps files (nat_abs place) most (content_at files.nodes node)))))

pub ruleset read_at_keeps = (read_at-keeps)
