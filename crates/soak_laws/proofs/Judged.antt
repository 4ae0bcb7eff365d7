-- The rules, one part after the other.
use Rattle.std.proofs.Common.{◌≡◌, ℕ, ◌+◌, ◌%◌, ◌<◌, ◌≤◌, true, false, List, [], ◌∷◌, ◌++◌, length, None, arith}
use Rattle.std.specs.Prelude.{nat_lt, map}
use Rattle.std.proofs.lemmas.Bool.Decides.{nat_tests}
use Rattle.elf_image.specs.Fields.{half, span_of, word}
use Rattle.elf_image.specs.Span.{pages_touched}
use Rattle.elf_image.specs.Rules.{first_broken, header_rules, loads_rules}
use Rattle.elf_image.specs.inside.Taken.{AreApart}
use Rattle.elf_image.proofs.Counting.{pages-all}
use Rattle.soak_program.specs.Executable.{file_header, headers, segment_header}
use Rattle.soak_laws.proofs.Shape.{code_header, data_header}

lt-false : (a b : ℕ) → b ≤ a → nat_lt a b ≡ false
lt-false a b h = grind (arith, nat_tests)

lt-true : (a b : ℕ) → a < b → nat_lt a b ≡ true
lt-true a b h = grind (arith, nat_tests)

pub header_kept : (size : ℕ) (rest : List ℕ) → first_broken (header_rules (headers size ++ rest)) ≡ None
unfolding headers file_header segment_header half word header_rules
header_kept size rest =
    let long : nat_lt (length (headers size ++ rest)) 52 ≡ false = lt-false (length (headers size ++ rest)) 52 (omega arith) in
    let table : nat_lt (length (headers size ++ rest)) 116 ≡ false = lt-false (length (headers size ++ rest)) 116 (omega arith) in
    simp (long, table)

pub loads_kept : (file size offset : ℕ) → file ≡ offset + 8 → offset % 4096 ≡ 0 → 4096 + size ≤ offset → 0 < size → size ≤ 2400000 → first_broken (loads_rules file [] (code_header size ∷ data_header offset ∷ [])) ≡ None
loads_kept file size offset whole page fits some few =
    let a : nat_lt 0 size ≡ true = lt-true 0 size some in
    let b : nat_lt file (4096 + size) ≡ false = lt-false file (4096 + size) (omega arith) in
    let c : nat_lt size size ≡ false = lt-false size size (omega arith) in
    let d : nat_lt 0x7F7F0000 (0x00400000 + size) ≡ false = lt-false 0x7F7F0000 (0x00400000 + size) (omega arith) in
    let e : nat_lt file (offset + 8) ≡ false = lt-false file (offset + 8) (omega arith) in
    let f : nat_lt 0x10000000 (0x00400000 + size) ≡ false = lt-false 0x10000000 (0x00400000 + size) (omega arith) in
    simp (a, b, c, d, e, f, page)

pub pages_kept : (size offset : ℕ) → 0 < size → size ≤ 2400000 → pages_touched (map span_of (code_header size ∷ data_header offset ∷ [])) ≤ 120000
pages_kept size offset some few =
    let es : List (ℕ × ℕ) = (0x00400000, 0x00400000 + size) ∷ (0x10000000, 0x10000008) ∷ [] in
    let apart : AreApart es = (omega arith, omega arith, (omega arith, tt), (omega arith, omega arith, tt, tt)) in
    let count = pages-all es apart in
    omega (arith, count)
