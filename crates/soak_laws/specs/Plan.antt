-- What the soak program asks a loader for. The program is this project's own.
use Rattle.std.specs.Prelude.{ℕ, List, [], ◌∷◌, length}
use Rattle.elf_image.specs.declared.load_plan.Plan.{Plan}
use Rattle.elf_image.specs.declared.load_plan.Segment.{Segment}
use Rattle.soak_program.specs.Executable.{contents}
use Rattle.soak_program.specs.Instructions.{code_of, instructions}

-- bytes at an address, with a protection (PROT_READ 1, PROT_WRITE 2, PROT_EXEC 4)
abbrev pub segment : ℕ → ℕ → List ℕ → Segment
segment address protection bytes = record { vaddr = address; memsz = length bytes; prot = protection; bytes = bytes }

-- the table of its two headers is not loaded
abbrev pub soak_plan : ℕ → Plan
soak_plan count = record {
  entry = 0x00400000;
  phdr = 0;
  phnum = 2;
  segments = segment 0x00400000 5 (code_of (instructions count)) ∷ segment 0x10000000 3 contents ∷ [];
}
