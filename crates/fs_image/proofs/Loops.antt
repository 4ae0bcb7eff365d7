-- Reading many of a kind, as a loop does.
use Rattle.std.proofs.Common.{◌≡◌, ℕ, suc, ◌-◌, ◌+◌, ◌≤◌, ◌<◌, List, [], ◌∷◌, ◌++◌, Result, Ok, Err, refl, sym, ◌∙◌, arith}
use Rattle.fs_image.specs.declared.refusal.ImageRefusal.{ImageRefusal}
use Rattle.fs_image.specs.declared.refusal.ImageError.{ImageError}
use Rattle.fs_image.specs.declared.refusal.ImageError.TheVariants.{Refused, NoMemory}
use Rattle.fs_image.specs.Reading.{many}
use Rattle.fs_image.specs.Meaning.{Fails}

abbrev pub Reader : Type 0 → Type 0
Reader A = List A → ℕ → List ℕ → Result (A × List ℕ) ImageRefusal

-- one more was read
pub many-next : {A : Type 0} (read : Reader A) (count i : ℕ) (before seen : List A) (file : ℕ) (rest : List ℕ) (x : A) (after : List ℕ) (total : Result (List A × List ℕ) ImageRefusal)
    → i < count → seen ≡ before → read seen file rest ≡ Ok (x, after) → many read (count - i) before file rest ≡ total
    → many read (count - (i + 1)) (before ++ x ∷ []) file after ≡ total
unfolding many
many-next read count i before seen file rest x after total below same got so_far =
    let k : count - i ≡ suc (count - (i + 1)) = omega arith in
    let here : read before file rest ≡ Ok (x, after) = rw (← same) got in
    sym (rw (k, here) refl) ∙ so_far

-- the next one fails
pub many-fails : {A : Type 0} (read : Reader A) (error : ImageError) (count i : ℕ) (before seen : List A) (file : ℕ) (rest : List ℕ) (total : Result (List A × List ℕ) ImageRefusal)
    → i < count → seen ≡ before → Fails error (read seen file rest) → many read (count - i) before file rest ≡ total → Fails error total
unfolding many
many-fails read NoMemory count i before seen file rest total below same failed so_far = tt
many-fails read (Refused refusal) count i before seen file rest total below same failed so_far =
    let k : count - i ≡ suc (count - (i + 1)) = omega arith in
    let here : read before file rest ≡ Err refusal = rw (← same) failed in
    sym so_far ∙ rw (k, here) refl

-- all were read
pub many-done : {A : Type 0} (read : Reader A) (count i : ℕ) (before : List A) (file : ℕ) (rest : List ℕ) (total : Result (List A × List ℕ) ImageRefusal)
    → count ≤ i → many read (count - i) before file rest ≡ total → total ≡ Ok (before, rest)
unfolding many
many-done read count i before file rest total past so_far =
    let k : count - i ≡ 0 = omega arith in
    sym so_far ∙ rw k refl
