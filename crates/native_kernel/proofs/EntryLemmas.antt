-- The entries of a directory, one behind the other.
use Rattle.std.proofs.Common.{◌≡◌, ℕ, ◌+◌, ◌<◌, List, ◌∷◌, ◌++◌, length, map, drop, get_or, add-one, drop-cons, append_assoc, sym, ap, ◌∙◌}
use Rattle.std.specs.List.{flat_map}
use Rattle.native_calls.specs.Status.{entry_bytes}
use Rattle.native_files.specs.Answers.{entry_told}
use Rattle.native_files.specs.declared.progress.Entry.{Entry}

split : (entries : List Entry) (place : ℕ) (entry other : Entry) → place < length entries → entry ≡ get_or entries place other
    → drop place entries ≡ entry ∷ drop (place + 1) entries
split entries place entry other below found =
    rw (found, add-one) (drop-cons entries place other below)

-- one more entry is added
pub more_entries : (entries : List Entry) (place : ℕ) (entry other : Entry) (bytes new all : List ℕ) → entry ≡ get_or entries place other
    → new ≡ bytes ++ entry_bytes (entry_told entry) → place < length entries
    → bytes ++ flat_map entry_bytes (map entry_told (drop place entries)) ≡ all
    → new ++ flat_map entry_bytes (map entry_told (drop (place + 1) entries)) ≡ all
more_entries entries place entry other bytes new all found added below so_far =
    let first : List ℕ = entry_bytes (entry_told entry) in
    let rest : List ℕ = flat_map entry_bytes (map entry_told (drop (place + 1) entries)) in
    ap (λ (b : List ℕ). b ++ rest) added
    ∙ append_assoc bytes first rest
    ∙ ap (λ (e : List Entry). bytes ++ flat_map entry_bytes (map entry_told e)) (sym (split entries place entry other below found))
    ∙ so_far
