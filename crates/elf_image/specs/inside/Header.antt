-- What the rules of a file's header and of its load headers leave true.
use Rattle.std.specs.Prelude.{ℕ, ◌+◌, ◌*◌, ◌^◌, ◌<◌, ◌≤◌, All, length, List}
use Rattle.elf_image.specs.Fields.{e_phoff, e_phnum}
use Rattle.elf_image.specs.declared.program_header.ProgramHeader.{ProgramHeader}

-- a file that has its header, and its program header table where there is one
abbrev pub HasHeader : List ℕ → Type 0
HasHeader bytes = (52 ≤ length bytes) × (0 < e_phnum bytes → e_phoff bytes + 32 * e_phnum bytes ≤ length bytes)

-- headers whose bytes can be loaded from a file of so many bytes
pub record AreInside (size : ℕ) (hs : List ProgramHeader) : Type 0 where
  pub inside : All (λ h. 0 < h.filesz → h.offset + h.filesz ≤ size) hs
  pub below : All (λ h. h.vaddr + h.filesz < 2 ^ 32) hs
