-- The control characters of a terminal between the two worlds.
use Rattle.std.specs.Prelude.{ℕ, zero, suc, ◌==◌, List, [], ◌∷◌, map, slice_index, if◌then◌else◌, Option, None, Some}

-- the characters that both worlds have: the place in an o32 program's list, and in the native one.
-- INTR, QUIT, ERASE, KILL; MIN, TIME, EOL2; SWTC, START, STOP, SUSP; REPRINT, DISCARD, WERASE, LNEXT;
-- EOF, EOL (Linux arch/mips/include/uapi/asm/termbits.h, include/uapi/asm-generic/termbits.h)
abbrev pub shared : List (ℕ × ℕ)
shared =
    (0, 0) ∷ (1, 1) ∷ (2, 2) ∷ (3, 3) ∷ (4, 6) ∷ (5, 5) ∷ (6, 16) ∷ (7, 7) ∷ (8, 8) ∷ (9, 9) ∷ (10, 10)
    ∷ (12, 12) ∷ (13, 13) ∷ (14, 14) ∷ (15, 15) ∷ (16, 4) ∷ (17, 11) ∷ []

-- the character that has a place in one world, of those of the other; 0 where the other has none
abbrev pub native_from : List (ℕ × ℕ) → List ℕ → ℕ → ℕ
native_from [] o32 place = 0
native_from (row ∷ rows) o32 place = if row.1 == place then slice_index o32 row.0 else native_from rows o32 place

abbrev pub o32_from : List (ℕ × ℕ) → List ℕ → ℕ → ℕ
o32_from [] native place = 0
o32_from (row ∷ rows) native place = if row.0 == place then slice_index native row.1 else o32_from rows native place

abbrev pub count_up : ℕ → ℕ → List ℕ
count_up first zero = []
count_up first (suc n) = first ∷ count_up (suc first) n

abbrev pub native_characters : List ℕ → List ℕ
native_characters o32 = map (native_from shared o32) (count_up 0 19)

abbrev pub o32_characters : List ℕ → List ℕ
o32_characters native = map (o32_from shared native) (count_up 0 23)
