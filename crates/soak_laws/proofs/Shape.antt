-- The file in parts, and what its headers say.
use Rattle.std.proofs.Common.{◌≡◌, ℕ, ◌+◌, ◌-◌, ◌^◌, ◌<◌, List, [], ◌∷◌, ◌++◌, length, take, drop, refl, ap, subst, ◌∙◌, arith, append_assoc, length-append}
use Rattle.std.specs.Prelude.{replicate}
use Rattle.std.specs.Int.{to_be_bytes, w32}
use Rattle.std.proofs.lemmas.List.{length-replicate}
use Rattle.std.proofs.Math.Seq.{drop-append_seam, take-append_seam}
use Rattle.byteorder.specs.Endian.{big_number}
use Rattle.elf_image.specs.Fields.{half, header_at, program_headers, word}
use Rattle.elf_image.specs.declared.program_header.ProgramHeader.{ProgramHeader}
use Rattle.soak_program.specs.Executable.{contents, file_header, file_of, headers, page_end, segment_header, whole_pages}

-- the zeros behind bytes
zeros : List ℕ → List ℕ
zeros bytes = replicate (page_end (length bytes) - length bytes) 0

filled : (bytes : List ℕ) → whole_pages bytes ≡ bytes ++ zeros bytes
unfolding whole_pages zeros
filled bytes = refl

length-filled : (bytes : List ℕ) → length (whole_pages bytes) ≡ page_end (length bytes)
unfolding whole_pages
length-filled bytes =
    let both = length-append bytes (replicate (page_end (length bytes) - length bytes) 0) in
    let more = length-replicate {A = ℕ} (page_end (length bytes) - length bytes) 0 in
    omega (arith, both, more)

length-headers : (size : ℕ) → length (headers size) ≡ 116
unfolding headers file_header segment_header
length-headers size = refl

-- the first page
abbrev pub front : ℕ → List ℕ
front size = whole_pages (headers size)

length-front : (size : ℕ) → length (front size) ≡ 4096
length-front size = length-filled (headers size) ∙ ap page_end (length-headers size)

-- where the data stands
abbrev pub data_at : ℕ → ℕ
data_at size = page_end (4096 + size)

length-body : (code : List ℕ) → length (whole_pages (front (length code) ++ code)) ≡ data_at (length code)
length-body code =
    length-filled (front (length code) ++ code)
    ∙ ap page_end (length-append (front (length code)) code ∙ ap (λ n. n + length code) (length-front (length code)))

pub length-file : (code : List ℕ) → length (file_of code) ≡ data_at (length code) + 8
length-file code =
    length-append (whole_pages (front (length code) ++ code)) contents ∙ ap (λ n. n + 8) (length-body code)

regroup : (a b c d e : List ℕ) → (((a ++ b) ++ c) ++ d) ++ e ≡ a ++ (b ++ (c ++ (d ++ e)))
regroup a b c d e = simp append_assoc

-- behind the headers
pub behind : List ℕ → List ℕ
behind code = zeros (headers (length code)) ++ (code ++ (zeros (front (length code) ++ code) ++ contents))

pub in_parts : (code : List ℕ) → file_of code ≡ headers (length code) ++ behind code
unfolding behind
in_parts code =
    ap (λ t. t ++ contents) (filled (front (length code) ++ code)
    ∙ ap (λ t. (t ++ code) ++ zeros (front (length code) ++ code)) (filled (headers (length code))))
    ∙ regroup (headers (length code)) (zeros (headers (length code))) code (zeros (front (length code) ++ code)) contents

-- the code in the file, and the data
pub code_in : (code : List ℕ) → take (length code) (drop 4096 (file_of code)) ≡ code
code_in code =
    let rest = zeros (front (length code) ++ code) ++ contents in
    let split : file_of code ≡ front (length code) ++ (code ++ rest) =
    ap (λ t. t ++ contents) (filled (front (length code) ++ code))
    ∙ append_assoc (front (length code) ++ code) (zeros (front (length code) ++ code)) contents
    ∙ append_assoc (front (length code)) code rest in
    let dropped : drop 4096 (front (length code) ++ (code ++ rest)) ≡ code ++ rest =
    subst (λ n. drop n (front (length code) ++ (code ++ rest)) ≡ code ++ rest) (length-front (length code)) (drop-append_seam (front (length code)) (code ++ rest)) in
    ap (λ t. take (length code) t) (ap (drop 4096) split ∙ dropped) ∙ take-append_seam code rest

pub data_in : (code : List ℕ) → take 8 (drop (data_at (length code)) (file_of code)) ≡ contents
data_in code =
    ap (take 8) (subst (λ n. drop n (file_of code) ≡ contents) (length-body code) (drop-append_seam (whole_pages (front (length code) ++ code)) contents))

number_back : (x : ℕ) → x < 2 ^ 32 → big_number 4 (to_be_bytes w32 x) ≡ x
number_back x h = omega arith

abbrev pub code_header : ℕ → ProgramHeader
code_header size = record { kind = 1; offset = 4096; vaddr = 0x00400000; filesz = size; memsz = size; flags = 5 }

abbrev pub data_header : ℕ → ProgramHeader
data_header offset = record { kind = 1; offset = offset; vaddr = 0x10000000; filesz = 8; memsz = 8; flags = 6 }

first : (size : ℕ) (rest : List ℕ) → size < 2 ^ 32 → header_at (headers size ++ rest) 52 ≡ code_header size
unfolding headers file_header segment_header word
first size rest h = ap code_header (number_back size h)

second : (size : ℕ) (rest : List ℕ) → data_at size < 2 ^ 32 → header_at (headers size ++ rest) 84 ≡ data_header (data_at size)
unfolding headers file_header segment_header word
second size rest h = ap data_header (number_back (data_at size) h)

pub table : (size : ℕ) (rest : List ℕ) → data_at size < 2 ^ 32 → program_headers (headers size ++ rest) ≡ code_header size ∷ data_header (data_at size) ∷ []
unfolding headers file_header segment_header half word
table size rest h =
    ap (λ (x : ProgramHeader). x ∷ header_at (headers size ++ rest) 84 ∷ []) (first size rest (omega arith))
    ∙ ap (λ (x : ProgramHeader). code_header size ∷ x ∷ []) (second size rest h)
