-- Reads of a node's content, as rows.
use Rattle.std.proofs.Common.{◌≡◌, ℕ, List, length, Option, None, Some, Result, Ok, Err, refl, sym, ap, ◌∙◌}
use Rattle.kernel_core.specs.FileContent.{readable}
use Rattle.kernel_core.specs.Nodes.{NodeContent, File, Directory, Link}
use Rattle.kernel_core.specs.declared.error.Errno.{Errno}
use Rattle.kernel_model.specs.Came.{Came, Done, Refused, Waits, came_as}
use Rattle.kernel_model.specs.State.{Files}
use Rattle.kernel_model.specs.Transfers.{file_bytes, read_content}
use Rattle.file_blocks.proofs.ByteLemmas.{length-bytes_at}
use Rattle.native_files.specs.Answers.{IsUndone, came_of}
use Rattle.native_files.specs.inside.Contents.{content_read}

-- the files after a read that answered so
abbrev pub after_read : Files → (ℕ → Files) → Result ℕ Errno → Files
after_read files after (Ok count) = after count
after_read files after (Err error) = files

module _ (files : Files) (at most : ℕ) (after : ℕ → Files) where
  pub content-came : (o : Option NodeContent) → (read_content files at most after o).came ≡ content_read at most o
  content-came None = refl
  content-came (Some (File content)) = refl
  content-came (Some (Directory listing)) = refl
  content-came (Some (Link target)) = refl

  pub content-state : (o : Option NodeContent) (result : Result ℕ Errno) → came_of result ≡ came_as length (content_read at most o)
      → (read_content files at most after o).state ≡ after_read files after result
  content-state None (Ok count) same = absurd (cc)
  content-state None (Err error) same = refl
  content-state (Some (File content)) (Ok count) same =
      let number : count ≡ length (file_bytes content at most) = cc in
      ap after (sym (number ∙ length-bytes_at content.blocks (readable content at most) at))
  content-state (Some (File content)) (Err error) same = absurd (cc)
  content-state (Some (Directory listing)) (Ok count) same = absurd (cc)
  content-state (Some (Directory listing)) (Err error) same = refl
  content-state (Some (Link target)) (Ok count) same = absurd (cc)
  content-state (Some (Link target)) (Err error) same = refl

-- what a read comes to is undone where it gives no bytes
pub undone-told : (came : Came (List ℕ)) → IsUndone (Some (came_as length came)) came
undone-told (Done bytes) = tt
undone-told (Refused error) = refl
undone-told (Waits wake) = refl
