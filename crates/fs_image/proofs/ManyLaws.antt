-- Many of a kind that are read are those that were written, and the other way round.
use Rattle.std.proofs.Common.{◌≡◌, ℕ, zero, suc, List, [], ◌∷◌, ◌++◌, length, Ok, refl, sym, ap, subst, ◌∙◌, append_assoc, arith}
use Rattle.std.specs.List.{flat_map}
use Rattle.std.proofs.lemmas.List.{append-nil}
use Rattle.std.proofs.lemmas.List.Concat.{flat_map-cons}
use Rattle.fs_image.specs.Reading.{many}
use Rattle.fs_image.proofs.FieldLaws.{IsBytes, Takes, Takes-then, bind_ok, ok_is}
use Rattle.fs_image.proofs.Loops.{Reader}

-- behind those before, so many were taken from the front
pub record Took {A : Type 0} (text : A → List ℕ) (before : List A) (rest : List ℕ) (count : ℕ) (got : List A × List ℕ) : Type 0 where
  pub added : List A
  pub is : got.0 ≡ before ++ added
  pub len : length added ≡ count
  pub takes : Takes rest (flat_map text added) got.1

-- what one step takes and keeps, all steps do
pub many_take : {A : Type 0} (read : Reader A) (text : A → List ℕ) (Keeps : List A → Type 0) (file : ℕ)
    → ((before : List A) (rest : List ℕ) (x : A × List ℕ) → Keeps before → IsBytes rest → read before file rest ≡ Ok x → Takes rest (text x.0) x.1 × Keeps (before ++ x.0 ∷ []))
    → (count : ℕ) (before : List A) (rest : List ℕ) (got : List A × List ℕ) → Keeps before → IsBytes rest → many read count before file rest ≡ Ok got
    → Took text before rest count got × Keeps got.0
unfolding many
many_take {A} read text Keeps file step zero before rest got kept fits e =
    let P : List A × List ℕ → Type 0 = λ y. Took text before rest 0 y × Keeps y.0 in
    subst P (ok_is (before, rest) got e) (record { added = []; is = sym (append-nil before); len = refl; takes = record { parts = refl; rest_fits = fits } }, kept)
many_take {A} read text Keeps file step (suc count) before rest got kept fits e =
    let b = bind_ok (read before file rest) (λ next. many read count (before ++ next.0 ∷ []) file next.1) got e in
    let one = step before rest b.0 kept fits b.1 in
    let more = many_take read text Keeps file step count (before ++ b.0.0 ∷ []) b.0.1 got one.1 one.0.rest_fits b.2 in
    let both = Takes-then rest (text b.0.0) b.0.1 (flat_map text more.0.added) got.1 one.0 more.0.takes in (
      record {
        added = b.0.0 ∷ more.0.added;
        is = more.0.is ∙ append_assoc before (b.0.0 ∷ []) more.0.added;
        len = omega (arith, more.0.len);
        takes = rw (flat_map-cons text b.0.0 more.0.added) both;
      },
      more.1,
    )

-- where each of a list is read again behind those before it, the list is
pub many_again : {A : Type 0} (read : Reader A) (text : A → List ℕ) (file : ℕ) (whole : List A)
    → ((before : List A) (x : A) (after : List A) (rest : List ℕ) → whole ≡ before ++ x ∷ after → read before file (text x ++ rest) ≡ Ok (x, rest))
    → (before xs : List A) (rest : List ℕ) → whole ≡ before ++ xs → many read (length xs) before file (flat_map text xs ++ rest) ≡ Ok (whole, rest)
unfolding many
many_again read text file whole one before [] rest e = ap (λ (w : List _). Ok (w, rest)) (sym (e ∙ append-nil before))
many_again read text file whole one before (x ∷ xs) rest e =
    let regrouped : flat_map text (x ∷ xs) ++ rest ≡ text x ++ (flat_map text xs ++ rest) = ap (λ (t : List ℕ). t ++ rest) (flat_map-cons text x xs) ∙ append_assoc (text x) (flat_map text xs) rest in
    let first = one before x xs (flat_map text xs ++ rest) e in
    let others = many_again read text file whole one (before ++ x ∷ []) xs rest (e ∙ sym (append_assoc before (x ∷ []) xs)) in
    ap (many read (suc (length xs)) before file) regrouped ∙ (rw first others)
