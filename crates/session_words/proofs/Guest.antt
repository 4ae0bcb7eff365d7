-- The guest's words are read up to the first that holds a NUL.
use Rattle.std.proofs.Common.{◌≡◌, ℕ, ◌+◌, List, [], ◌∷◌, Bool, true, false, cond, Option, Some, option_map, String, string_bytes, arith, refl, sym, ap, ◌∙◌}
use Rattle.std.specs.List.{position, position_from}
use Rattle.std.proofs.lemmas.Iterator.Adapters.{position_from-zero}
use Rattle.session_words.specs.Words.{Line, Reading, WrongAt, has_nul, read_guest, texts}
use Rattle.session_words.specs.inside.Reader.{guest_reading}

-- a word holds a NUL
abbrev holds : {A : Type 0} → String A → Bool
holds word = has_nul (string_bytes word)

-- the reading where the first word that holds a NUL is at this place
abbrev reading_at : Line → ℕ → Option ℕ → Reading
reading_at line from place = guest_reading line (option_map (λ i. from + i) place)

guest_word : {A : Type 0} (line : Line) (from place : ℕ) (rest : List (String A)) (nul : Bool) →
    read_guest line (from + (place + 1)) (texts rest) ≡ reading_at line from (position_from holds (place + 1) rest) →
    cond nul (WrongAt (from + place)) (read_guest line (from + place + 1) (texts rest))
    ≡ reading_at line from (cond nul (Some place) (position_from holds (place + 1) rest))
guest_word line from place rest true after = refl
guest_word line from place rest false after =
    let next : from + place + 1 ≡ from + (place + 1) = omega arith in ap (λ n. read_guest line n (texts rest)) next ∙ after

guest_from : {A : Type 0} (line : Line) (from place : ℕ) (words : List (String A)) →
    read_guest line (from + place) (texts words) ≡ reading_at line from (position_from holds place words)
guest_from line from place [] = refl
guest_from line from place (word ∷ rest) =
    guest_word line from place rest (has_nul (string_bytes word)) (guest_from line from (place + 1) rest)

pub guest_words : {A : Type 0} (line : Line) (from : ℕ) (words : List (String A)) →
    read_guest line from (texts words) ≡ guest_reading line (option_map (λ i. from + i) (position (λ word. has_nul (string_bytes word)) words))
guest_words line from words =
    let start : from ≡ from + 0 = omega arith in
    ap (λ n. read_guest line n (texts words)) start ∙ guest_from line from 0 words
    ∙ ap (reading_at line from) (sym (position_from-zero holds words))
