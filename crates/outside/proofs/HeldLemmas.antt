-- The files that are held open: a change at the place of a name, and which names are held.
use Rattle.std.proofs.Common.{◌≡◌, ◌≢◌, ℕ, zero, suc, ◌<◌, ◌≤◌, Bool, false, List, [], ◌∷◌, ◌++◌, length, get_or, set, Option, None, Some, position, ap, sym, ◌∙◌, arith, subst, ⊎_elim, inl, inr, true≢false, Result, Ok, Err, OnOk, OnErr}
use Rattle.std.specs.Str.{bytes_eq}
use Rattle.std.specs.List.{position_or_len}
use Rattle.std.proofs.lemmas.Bool.Decides.{nat_tests}
use Rattle.std.proofs.lemmas.List.{get_or_default}
use Rattle.std.proofs.lemmas.List.Quantifiers.{position-Some}
use Rattle.std.proofs.lemmas.List.Elements.{Contains-push_cases, All-nil, All-cons}
use Rattle.std.proofs.lemmas.List.Sums.{fails_before_first}
use Rattle.std.proofs.lemmas.Slice.Eq.{bytes_eq-Decides}
use Rattle.outside.specs.Held.{HeldFile, ChangesHeld}
use Rattle.outside.specs.inside.Holding.{IsHeld, AreHeld, ChangesAt}

-- this is the place of the first file of this name
pub record IsHeldAt (files : List HeldFile) (name : List ℕ) (place : ℕ) (d : HeldFile) : Type 0 where
  pub within : place < length files
  pub same : (get_or files place d).name ≡ name
  pub before : (k : ℕ) → k < place → (get_or files k d).name ≢ name

differs : (a b : List ℕ) → bytes_eq a b ≡ false → a ≢ b
differs a b e same = true≢false (sym ((bytes_eq-Decides a b).1 same) ∙ e)

pub IsHeldAt-position : (files : List HeldFile) (name : List ℕ) (place : ℕ) (d : HeldFile) → position (λ file. bytes_eq file.name name) files ≡ Some place → IsHeldAt files name place d
IsHeldAt-position files name place d found =
    let h = position-Some (λ (file : HeldFile). bytes_eq file.name name) files place d found in
    record {
      within = h.0;
      same = (bytes_eq-Decides (get_or files place d).name name).0 h.1;
      before = λ k lt. differs (get_or files k d).name name (h.2 k lt);
    }

IsHeldAt-tail : (file : HeldFile) (files : List HeldFile) (name : List ℕ) (place : ℕ) (d : HeldFile) → IsHeldAt (file ∷ files) name (suc place) d → IsHeldAt files name place d
IsHeldAt-tail file files name place d p = record {
  within = omega (arith, p.within);
  same = p.same;
  before = λ k lt. p.before (suc k) (omega arith);
}

-- a change at that place is one of the latest file of the name
pub ChangesHeld-set : (files : List HeldFile) (name : List ℕ) (place : ℕ) (d : HeldFile) (after : Option (List ℕ)) (P : Option (List ℕ) → Option (List ℕ) → Type 0) → IsHeldAt files name place d → P (get_or files place d).bytes after → ChangesHeld files (set files place (record (get_or files place d) { bytes = after })) name P
ChangesHeld-set [] name place d after P p h = absurd (omega (arith, p.within))
ChangesHeld-set (file ∷ files) name zero d after P p h =
    ([], files, file.bytes, after, ap (λ n. record { name = n; bytes = file.bytes } ∷ files) p.same, ap (λ n. record { name = n; bytes = after } ∷ files) p.same, All-nil (λ (f : HeldFile). f.name ≢ name), h)
ChangesHeld-set (file ∷ files) name (suc place) d after P p h =
    let (later, earlier, before, now, was, is, others, holds) = ChangesHeld-set files name place d after P (IsHeldAt-tail file files name place d p) h in
    (file ∷ later, earlier, before, now, ap (λ l. file ∷ l) was, ap (λ l. file ∷ l) is, All-cons (λ (f : HeldFile). f.name ≢ name) file later (p.before 0 (omega arith)) others, holds)

-- a change of what a file holds leaves each name held
pub IsHeld-set : (files : List HeldFile) (place : ℕ) (d : HeldFile) (after : Option (List ℕ)) (name : List ℕ) → IsHeld files name → IsHeld (set files place (record (get_or files place d) { bytes = after })) name
IsHeld-set [] place d after name held = held
IsHeld-set (file ∷ files) zero d after name held = held
IsHeld-set (file ∷ files) (suc place) d after name (inl same) = inl same
IsHeld-set (file ∷ files) (suc place) d after name (inr held) = inr (IsHeld-set files place d after name held)

pub AreHeld-set : (files : List HeldFile) (place : ℕ) (d : HeldFile) (after : Option (List ℕ)) (names : List (List ℕ)) → AreHeld files names → AreHeld (set files place (record (get_or files place d) { bytes = after })) names
AreHeld-set files place d after names all = record { each = λ name at. IsHeld-set files place d after name (all.each name at) }

-- no name is held where no file has it
not_held : (files : List HeldFile) (name : List ℕ) → ((k : ℕ) (d : HeldFile) → k < length files → bytes_eq (get_or files k d).name name ≡ false) → IsHeld files name → ⊥
not_held [] name none held = held
not_held (file ∷ files) name none (inl same) = differs file.name name (none 0 file (omega arith)) same
not_held (file ∷ files) name none (inr held) = not_held files name (λ k d lt. none (suc k) d (omega arith)) held

no_position : (p : HeldFile → Bool) (files : List HeldFile) → position p files ≡ None → length files ≤ position_or_len p files
no_position p files e = grind (arith, nat_tests)

pub held-no_position : (files : List HeldFile) (name : List ℕ) → position (λ file. bytes_eq file.name name) files ≡ None → IsHeld files name → ⊥
held-no_position files name e held =
    let p : HeldFile → Bool = λ file. bytes_eq file.name name in
    let long : length files ≤ position_or_len p files = no_position p files e in
    not_held files name (λ k d lt. fails_before_first p files k d (omega arith)) held

-- where an answer says one thing, it says what follows from it
pub on_ok-then : {T E : Type 0} (r : Result T E) (P Q : Type 0) → (P → Q) → OnOk r P → OnOk r Q
on_ok-then (Ok x) P Q f p = f p
on_ok-then (Err e) P Q f p = tt

pub on_err-then : {T E : Type 0} (r : Result T E) (P Q : Type 0) → (P → Q) → OnErr r P → OnErr r Q
on_err-then (Ok x) P Q f p = tt
on_err-then (Err e) P Q f p = f p

-- a write to the file at a place, whose name stays
pub ChangesAt-write : (files : List HeldFile) (place : ℕ) (file : HeldFile) (name : List ℕ) (before after : Option (List ℕ)) (P : Option (List ℕ) → Option (List ℕ) → Type 0) → place < length files → record { name = name; bytes = before } ≡ file → file ≡ get_or files place file → P before after → ChangesAt files (set files place (record { name = name; bytes = after })) place P
ChangesAt-write files place file name before after P lt was at h d =
    let same : record { name = name; bytes = before } ≡ get_or files place d = was ∙ at ∙ get_or_default files place file d lt in (
      after,
      ap (λ (f : HeldFile). set files place (record f { bytes = after })) same,
      subst (λ (f : HeldFile). P f.bytes after) same h,
    )

-- where the latest file of the name is at that place, that file changes
pub ChangesHeld-at : (old new : List HeldFile) (name : List ℕ) (place : ℕ) (P : Option (List ℕ) → Option (List ℕ) → Type 0) → position (λ file. bytes_eq file.name name) old ≡ Some place → ChangesAt old new place P → ChangesHeld old new name P
ChangesHeld-at old new name place P found changed =
    let d : HeldFile = record { name = name; bytes = None } in
    let (after, is, h) = changed d in
    subst (λ l. ChangesHeld old l name P) (sym is) (ChangesHeld-set old name place d after P (IsHeldAt-position old name place d found) h)

-- and each name stays held, whatever the write answered
pub AreHeld-at : {T E : Type 0} (r : Result T E) (old new : List HeldFile) (place : ℕ) (P Q : Option (List ℕ) → Option (List ℕ) → Type 0) → OnOk r (ChangesAt old new place P) → OnErr r (ChangesAt old new place Q) → (names : List (List ℕ)) → AreHeld old names → AreHeld new names
AreHeld-at (Ok x) old new place P Q whole part names all =
    let d : HeldFile = record { name = []; bytes = None } in
    let (after, is, h) = whole d in
    subst (λ l. AreHeld l names) (sym is) (AreHeld-set old place d after names all)
AreHeld-at (Err e) old new place P Q whole part names all =
    let d : HeldFile = record { name = []; bytes = None } in
    let (after, is, h) = part d in
    subst (λ l. AreHeld l names) (sym is) (AreHeld-set old place d after names all)

-- a file more in front, whose name is added
pub AreHeld-more : (file : HeldFile) (files : List HeldFile) (names : List (List ℕ)) → AreHeld files names → AreHeld (file ∷ files) (names ++ file.name ∷ [])
AreHeld-more file files names all = record {
  each = λ name at. ⊎_elim (λ h. inr (all.each name h)) (λ e. inl e) (Contains-push_cases names file.name name at);
}
