-- The file of the program breaks no rule, and asks for its two segments.
use Rattle.std.proofs.Common.{◌≡◌, ℕ, ◌<◌, ◌≤◌, true, false, List, [], ◌∷◌, ◌++◌, length, None, ap, ◌∙◌, arith}
use Rattle.std.specs.Prelude.{nat_lt, ◌==◌}
use Rattle.std.specs.List.{list_any, filter}
use Rattle.std.proofs.lemmas.Bool.Decides.{nat_tests}
use Rattle.elf_image.specs.Fields.{is_load, loads, program_headers}
use Rattle.elf_image.specs.Rules.{first_broken, first_failure, header_rules, loads_rules, whole_rules}
use Rattle.elf_image.specs.declared.program_header.ProgramHeader.{ProgramHeader}
use Rattle.elf_image.proofs.Judging.{broken-append-none, whole-none}
use Rattle.elf_image.proofs.Whole.{failure-later}
use Rattle.soak_program.specs.Executable.{file_of, soak_file}
use Rattle.soak_program.specs.Instructions.{code_of, instructions}
use Rattle.soak_program.proofs.Counting.{length-code}
use Rattle.soak_laws.proofs.Shape.{behind, code_header, data_at, data_header, in_parts, length-file, table}
use Rattle.soak_laws.proofs.Judged.{header_kept, loads_kept, pages_kept}

two_loads : (size offset : ℕ) → 0 < size → filter is_load (code_header size ∷ data_header offset ∷ []) ≡ code_header size ∷ data_header offset ∷ []
two_loads size offset some =
    let there : nat_lt 0 size ≡ true = grind (arith, nat_tests) in
    simp there

table_in : (code : List ℕ) → length code ≤ 2400000 → program_headers (file_of code) ≡ code_header (length code) ∷ data_header (data_at (length code)) ∷ []
table_in code few = ap program_headers (in_parts code) ∙ table (length code) (behind code) (omega arith)

pub loads_in : (code : List ℕ) → 0 < length code → length code ≤ 2400000 → loads (file_of code) ≡ code_header (length code) ∷ data_header (data_at (length code)) ∷ []
loads_in code some few = ap (filter is_load) (table_in code few) ∙ two_loads (length code) (data_at (length code)) some

accepted : (code : List ℕ) → 0 < length code → length code ≤ 2400000 → first_failure (file_of code) ≡ None
accepted code some few =
    let size = length code in
    let offset = data_at size in
    let both = code_header size ∷ data_header offset ∷ [] in
    let head : first_broken (header_rules (file_of code)) ≡ None = ap (λ t. first_broken (header_rules t)) (in_parts code) ∙ header_kept size (behind code) in
    let asks : list_any (λ (h : ProgramHeader). h.kind == 3) (program_headers (file_of code)) ≡ false = ap (list_any (λ (h : ProgramHeader). h.kind == 3)) (table_in code few) in
    let judged : first_broken (loads_rules (length (file_of code)) [] both) ≡ None = loads_kept (length (file_of code)) size offset (length-file code) (omega arith) (omega arith) some few in
    failure-later (file_of code) head asks
    ∙ ap (λ (hs : List ProgramHeader). first_broken (loads_rules (length (file_of code)) [] hs ++ whole_rules hs)) (loads_in code some few)
    ∙ broken-append-none (loads_rules (length (file_of code)) [] both) (whole_rules both) judged
    ∙ whole-none both (omega arith) (pages_kept size offset some few)

pub soak_accepted : (count : ℕ) → count ≤ 65536 → first_failure (soak_file count) ≡ None
unfolding soak_file
soak_accepted count few =
    let size = length-code count in
    accepted (code_of (instructions count)) (omega arith) (omega arith)
