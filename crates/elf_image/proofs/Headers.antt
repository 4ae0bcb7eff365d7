-- The program header table, one header after the other.
use Rattle.std.proofs.Common.{◌≡◌, ℕ, suc, ◌+◌, List, [], ◌∷◌, ◌++◌, sym, ap, ◌∙◌, append_assoc, arith}
use Rattle.elf_image.specs.Fields.{header_at, headers_at}
use Rattle.elf_image.specs.declared.program_header.ProgramHeader.{ProgramHeader}

-- one header more is in front
pub headers-step : (bytes : List ℕ) (place n m : ℕ) (front all : List ProgramHeader) (h : ProgramHeader) → n ≡ m + 1 → h ≡ header_at bytes place → front ++ headers_at bytes place n ≡ all → (front ++ h ∷ []) ++ headers_at bytes (place + 32) m ≡ all
headers-step bytes place n m front all h count is whole =
    let e : n ≡ suc m = omega arith in
    let split : headers_at bytes place n ≡ header_at bytes place ∷ headers_at bytes (place + 32) m = ap (headers_at bytes place) e in
    append_assoc front (h ∷ []) (headers_at bytes (place + 32) m)
    ∙ ap (λ (x : ProgramHeader). front ++ x ∷ headers_at bytes (place + 32) m) is
    ∙ ap (λ (r : List ProgramHeader). front ++ r) (sym split)
    ∙ whole
