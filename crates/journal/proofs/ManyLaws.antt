-- Many of a kind that are read are those that were written, and the other way round.
use Rattle.std.proofs.Common.{◌≡◌, ℕ, zero, suc, List, [], ◌∷◌, ◌++◌, length, All, Ok, refl, sym, ap, subst, ◌∙◌, append_assoc, arith}
use Rattle.std.specs.List.{flat_map}
use Rattle.std.proofs.lemmas.List.Concat.{flat_map-cons}
use Rattle.std.proofs.lemmas.List.Elements.{All-nil, All-cons, All-head, All-tail}
use Rattle.journal.specs.Reading.{◌>>=◌, many}
use Rattle.journal.proofs.FieldLaws.{IsBytes, Takes, Takes-then, bind_ok, ok_is}
use Rattle.journal.proofs.Loops.{Reader}

-- so many were taken from the front, each in its form
pub record Took {A : Type 0} (text : A → List ℕ) (P : A → Type 0) (rest : List ℕ) (count : ℕ) (got : List A × List ℕ) : Type 0 where
  pub len : length got.0 ≡ count
  pub takes : Takes rest (flat_map text got.0) got.1
  pub keep : All P got.0

-- what one step takes and keeps, all steps do
pub many_take : {A : Type 0} (read : Reader A) (text : A → List ℕ) (P : A → Type 0) (file : ℕ)
    → ((rest : List ℕ) (x : A × List ℕ) → IsBytes rest → read file rest ≡ Ok x → Takes rest (text x.0) x.1 × P x.0)
    → (count : ℕ) (rest : List ℕ) (got : List A × List ℕ) → IsBytes rest → many read count file rest ≡ Ok got → Took text P rest count got
unfolding many
many_take {A} read text P file step zero rest got fits e =
    let Q : List A × List ℕ → Type 0 = λ y. Took text P rest 0 y in
    subst Q (ok_is ([], rest) got e) (record { len = refl; takes = record { parts = refl; rest_fits = fits }; keep = All-nil P })
many_take {A} read text P file step (suc count) rest got fits e =
    let b = bind_ok (read file rest) (λ next. many read count file next.1 >>= λ others. Ok (next.0 ∷ others.0, others.1)) got e in
    let c = bind_ok (many read count file b.0.1) (λ others. Ok (b.0.0 ∷ others.0, others.1)) got b.2 in
    let one = step rest b.0 fits b.1 in
    let more = many_take read text P file step count b.0.1 c.0 one.0.rest_fits c.1 in
    let both = Takes-then rest (text b.0.0) b.0.1 (flat_map text c.0.0) c.0.1 one.0 more.takes in
    let Q : List A × List ℕ → Type 0 = λ y. Took text P rest (suc count) y in
    subst Q (ok_is (b.0.0 ∷ c.0.0, c.0.1) got c.2) (record {
      len = omega (arith, more.len);
      takes = rw (flat_map-cons text b.0.0 c.0.0) both;
      keep = All-cons P b.0.0 c.0.0 one.1 more.keep;
    })

-- where each of a list is read again, the list is
pub many_again : {A : Type 0} (read : Reader A) (text : A → List ℕ) (P : A → Type 0) (file : ℕ)
    → ((x : A) (rest : List ℕ) → P x → read file (text x ++ rest) ≡ Ok (x, rest))
    → (xs : List A) (rest : List ℕ) → All P xs → many read (length xs) file (flat_map text xs ++ rest) ≡ Ok (xs, rest)
unfolding many
many_again read text P file one [] rest all = refl
many_again read text P file one (x ∷ xs) rest all =
    let regrouped : flat_map text (x ∷ xs) ++ rest ≡ text x ++ (flat_map text xs ++ rest) = ap (λ (t : List ℕ). t ++ rest) (flat_map-cons text x xs) ∙ append_assoc (text x) (flat_map text xs) rest in
    let first = one x (flat_map text xs ++ rest) (All-head P x xs all) in
    let others = many_again read text P file one xs rest (All-tail P x xs all) in
    ap (many read (suc (length xs)) file) regrouped ∙ rw (first, others) refl
