-- What the file of the program asks for.
use Rattle.std.proofs.Common.{◌≡◌, ℕ, ◌*◌, ◌<◌, ◌≤◌, false, List, [], ◌∷◌, ◌++◌, length, refl, ap, ◌∙◌, arith}
use Rattle.std.specs.Prelude.{nat_le, map}
use Rattle.std.specs.List.{find}
use Rattle.std.proofs.lemmas.Bool.Decides.{nat_tests}
use Rattle.elf_image.specs.Fields.{e_entry, e_phnum, e_phoff, half, loads, word}
use Rattle.elf_image.specs.Loading.{address_by, holds, plan_of, segment_of, table_address}
use Rattle.elf_image.specs.declared.load_plan.Plan.{Plan}
use Rattle.elf_image.specs.declared.load_plan.Segment.{Segment}
use Rattle.elf_image.specs.declared.program_header.ProgramHeader.{ProgramHeader}
use Rattle.soak_program.specs.Executable.{contents, file_header, file_of, headers, segment_header, soak_file}
use Rattle.soak_program.specs.Instructions.{code_of, instructions}
use Rattle.soak_program.proofs.Counting.{length-code}
use Rattle.soak_laws.specs.Plan.{segment, soak_plan}
use Rattle.soak_laws.proofs.Accepted.{loads_in}
use Rattle.soak_laws.proofs.Shape.{behind, code_header, code_in, data_at, data_header, data_in, in_parts}

entry_in : (size : ℕ) (rest : List ℕ) → e_entry (headers size ++ rest) ≡ 0x00400000
unfolding headers file_header segment_header word
entry_in size rest = refl

place_in : (size : ℕ) (rest : List ℕ) → e_phoff (headers size ++ rest) ≡ 52
unfolding headers file_header segment_header word
place_in size rest = refl

count_in : (size : ℕ) (rest : List ℕ) → e_phnum (headers size ++ rest) ≡ 2
unfolding headers file_header segment_header half
count_in size rest = refl

not_loaded : (size offset : ℕ) → 52 < offset → address_by 52 (find (holds 52 64) (code_header size ∷ data_header offset ∷ [])) ≡ 0
not_loaded size offset far =
    let past : nat_le offset 52 ≡ false = grind (arith, nat_tests) in
    simp past

abbrev plan : ℕ → ℕ → ℕ → List Segment → Plan
plan entry phdr phnum segments = record { entry = entry; phdr = phdr; phnum = phnum; segments = segments }

segments_in : (code : List ℕ) → 0 < length code → length code ≤ 2400000 → map (segment_of (file_of code)) (loads (file_of code)) ≡ segment 0x00400000 5 code ∷ segment 0x10000000 3 contents ∷ []
segments_in code some few =
    let file = file_of code in
    let code_segment : List ℕ → Segment = λ (bytes : List ℕ). record { vaddr = 0x00400000; memsz = length code; prot = 5; bytes = bytes } in
    let data_segment : List ℕ → Segment = λ (bytes : List ℕ). record { vaddr = 0x10000000; memsz = 8; prot = 3; bytes = bytes } in
    ap (λ (hs : List ProgramHeader). map (segment_of file) hs) (loads_in code some few)
    ∙ ap (λ (bytes : List ℕ). code_segment bytes ∷ segment_of file (data_header (data_at (length code))) ∷ []) (code_in code)
    ∙ ap (λ (bytes : List ℕ). code_segment code ∷ data_segment bytes ∷ []) (data_in code)

planned : (code : List ℕ) → 0 < length code → length code ≤ 2400000 → plan_of (file_of code) ≡ plan 0x00400000 0 2 (segment 0x00400000 5 code ∷ segment 0x10000000 3 contents ∷ [])
planned code some few =
    let file = file_of code in
    let size = length code in
    let entry : e_entry file ≡ 0x00400000 = ap e_entry (in_parts code) ∙ entry_in size (behind code) in
    let place : e_phoff file ≡ 52 = ap e_phoff (in_parts code) ∙ place_in size (behind code) in
    let count : e_phnum file ≡ 2 = ap e_phnum (in_parts code) ∙ count_in size (behind code) in
    let address : table_address file ≡ 0 =
    ap (λ p. address_by p (find (holds p (32 * e_phnum file)) (loads file))) place
    ∙ ap (λ n. address_by 52 (find (holds 52 (32 * n)) (loads file))) count
    ∙ ap (λ (hs : List ProgramHeader). address_by 52 (find (holds 52 64) hs)) (loads_in code some few)
    ∙ not_loaded size (data_at size) (omega arith) in
    ap (λ (n : ℕ). plan n (table_address file) (e_phnum file) (map (segment_of file) (loads file))) entry
    ∙ ap (λ (n : ℕ). plan 0x00400000 n (e_phnum file) (map (segment_of file) (loads file))) address
    ∙ ap (λ (n : ℕ). plan 0x00400000 0 n (map (segment_of file) (loads file))) count
    ∙ ap (λ (ss : List Segment). plan 0x00400000 0 2 ss) (segments_in code some few)

pub soak_planned : (count : ℕ) → count ≤ 65536 → plan_of (soak_file count) ≡ soak_plan count
unfolding soak_file
soak_planned count few =
    let size = length-code count in
    planned (code_of (instructions count)) (omega arith) (omega arith)
