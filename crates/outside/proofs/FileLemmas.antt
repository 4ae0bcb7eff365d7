-- The content of a list of files, at the place of a name and after a change there.
use Rattle.std.proofs.Common.{◌≡◌, ◌≢◌, ℕ, zero, suc, ◌<◌, ◌≤◌, Bool, true, false, cond, List, [], ◌∷◌, ◌++◌, length, get_or, set, Option, None, Some, position, IfNone, IfSome, refl, ap, sym, ◌∙◌, arith, subst, append-nil, ⊎_elim, Contains, true≢false, Result, Ok, Err, OnErr}
use Rattle.std.specs.Str.{bytes_eq}
use Rattle.std.specs.List.{position_or_len}
use Rattle.std.proofs.lemmas.Bool.Decides.{nat_tests}
use Rattle.std.proofs.lemmas.List.Quantifiers.{position-Some}
use Rattle.std.proofs.lemmas.List.Elements.{Contains-push_cases}
use Rattle.std.proofs.lemmas.List.Sums.{fails_before_first}
use Rattle.std.proofs.lemmas.Slice.Eq.{bytes_eq-Decides}
use Rattle.outside.specs.Content.{FileBytes, content_of}
use Rattle.outside.specs.inside.Present.{IsThere, AreThere}
use Rattle.outside.specs.Files.{ChangesFile, IsEmptied, Gains, GainsPart}
use Rattle.outside.proofs.OutputLemmas.{IsPrefix-empty}

-- this is the place of the first file of this name
pub record IsPlace (files : List FileBytes) (name : List ℕ) (place : ℕ) (d : FileBytes) : Type 0 where
  pub within : place < length files
  pub same : bytes_eq (get_or files place d).name name ≡ true
  pub before : (k : ℕ) → k < place → bytes_eq (get_or files k d).name name ≡ false

pub IsPlace-position : (files : List FileBytes) (name : List ℕ) (place : ℕ) (d : FileBytes) → position (λ file. bytes_eq file.name name) files ≡ Some place → IsPlace files name place d
IsPlace-position files name place d found =
    let h = position-Some (λ (file : FileBytes). bytes_eq file.name name) files place d found in
    record { within = h.0; same = h.1; before = h.2 }

IsPlace-tail : (file : FileBytes) (files : List FileBytes) (name : List ℕ) (place : ℕ) (d : FileBytes) → IsPlace (file ∷ files) name (suc place) d → IsPlace files name place d
IsPlace-tail file files name place d p = record {
  within = omega (arith, p.within);
  same = p.same;
  before = λ k lt. p.before (suc k) (omega arith);
}

-- the content at the place of a name is that file's
pub content_of-place : (files : List FileBytes) (name : List ℕ) (place : ℕ) (d : FileBytes) → IsPlace files name place d → content_of files name ≡ Some (get_or files place d).bytes
content_of-place [] name place d p = absurd (omega (arith, p.within))
content_of-place (file ∷ files) name zero d p = rw p.same refl
content_of-place (file ∷ files) name (suc place) d p = rw (p.before 0 (omega arith)) (content_of-place files name place d (IsPlace-tail file files name place d p))

-- after a change of the bytes there, the content of that name is the new one
pub content_of-set : (files : List FileBytes) (name : List ℕ) (place : ℕ) (d : FileBytes) (bytes : List ℕ) → IsPlace files name place d → content_of (set files place (record (get_or files place d) { bytes = bytes })) name ≡ Some bytes
content_of-set [] name place d bytes p = absurd (omega (arith, p.within))
content_of-set (file ∷ files) name zero d bytes p = rw p.same refl
content_of-set (file ∷ files) name (suc place) d bytes p = rw (p.before 0 (omega arith)) (content_of-set files name place d bytes (IsPlace-tail file files name place d p))

-- and the content of other names is the same
pub content_of-set_other : (files : List FileBytes) (place : ℕ) (d : FileBytes) (bytes other : List ℕ) → bytes_eq (get_or files place d).name other ≡ false → content_of (set files place (record (get_or files place d) { bytes = bytes })) other ≡ content_of files other
content_of-set_other [] place d bytes other differs = refl
content_of-set_other (file ∷ files) zero d bytes other differs = rw differs refl
content_of-set_other (file ∷ files) (suc place) d bytes other differs =
    ap (λ rest. cond (bytes_eq file.name other) (Some file.bytes) rest) (content_of-set_other files place d bytes other differs)

-- a name that no file has
content_of-none : (files : List FileBytes) (name : List ℕ) → ((k : ℕ) (d : FileBytes) → k < length files → bytes_eq (get_or files k d).name name ≡ false) → content_of files name ≡ None
content_of-none [] name none = refl
content_of-none (file ∷ files) name none = rw (none 0 file (omega arith)) (content_of-none files name (λ k d lt. none (suc k) d (omega arith)))

no_position : (p : FileBytes → Bool) (files : List FileBytes) → position p files ≡ None → length files ≤ position_or_len p files
no_position p files e = grind (arith, nat_tests)

pub content_of-no_position : (files : List FileBytes) (name : List ℕ) → position (λ file. bytes_eq file.name name) files ≡ None → content_of files name ≡ None
content_of-no_position files name e =
    let p : FileBytes → Bool = λ file. bytes_eq file.name name in
    let long : length files ≤ position_or_len p files = no_position p files e in
    content_of-none files name (λ k d lt. fails_before_first p files k d (omega arith))

-- two names that differ
pub bytes_eq-differ : (a b : List ℕ) → a ≢ b → bytes_eq a b ≡ false
bytes_eq-differ a b ne = elim (bytes_eq a b) as (λ t. (t ≡ true → a ≡ b) → t ≡ false) [ true ↦ λ h. absurd (ne (h refl)) | false ↦ λ h. refl ] (bytes_eq-Decides a b).0

pub bytes_eq-same : (a : List ℕ) → bytes_eq a a ≡ true
bytes_eq-same a = (bytes_eq-Decides a a).1 refl

-- a file more at the end
pub content_of-push : (files : List FileBytes) (name bytes : List ℕ) → content_of files name ≡ None → content_of (files ++ record { name = name; bytes = bytes } ∷ []) name ≡ Some bytes
content_of-push [] name bytes e = rw (bytes_eq-same name) refl
content_of-push (file ∷ files) name bytes e =
    elim (bytes_eq file.name name) as (λ t. cond t (Some file.bytes) (content_of files name) ≡ None → cond t (Some file.bytes) (content_of (files ++ record { name = name; bytes = bytes } ∷ []) name) ≡ Some bytes) [
      | true ↦ λ h. cc
      | false ↦ λ h. content_of-push files name bytes h
    ] e

pub content_of-push_other : (files : List FileBytes) (name bytes other : List ℕ) → bytes_eq name other ≡ false → content_of (files ++ record { name = name; bytes = bytes } ∷ []) other ≡ content_of files other
content_of-push_other [] name bytes other differs = rw differs refl
content_of-push_other (file ∷ files) name bytes other differs =
    ap (λ rest. cond (bytes_eq file.name other) (Some file.bytes) rest) (content_of-push_other files name bytes other differs)

-- the name at the place of another name differs
other-place : (files : List FileBytes) (name other : List ℕ) (place : ℕ) (d : FileBytes) → IsPlace files name place d → other ≢ name → bytes_eq (get_or files place d).name other ≡ false
other-place files name other place d p ne =
    let e : (get_or files place d).name ≡ name = (bytes_eq-Decides (get_or files place d).name name).0 p.same in
    bytes_eq-differ (get_or files place d).name other (λ h. ne (sym h ∙ e))

-- a file at its place, emptied
pub emptied-set : (files : List FileBytes) (name : List ℕ) (place : ℕ) (d : FileBytes) → position (λ file. bytes_eq file.name name) files ≡ Some place → ChangesFile (Some (content_of files)) (Some (content_of (set files place (record (get_or files place d) { bytes = [] })))) name IsEmptied
emptied-set files name place d found =
    let p = IsPlace-position files name place d found in
    (content_of-set files name place d [] p, λ other ne. content_of-set_other files place d [] other (other-place files name other place d p ne))

-- a file at its place, with more at its end
pub gained-set : (files : List FileBytes) (name : List ℕ) (place : ℕ) (d : FileBytes) (more : List ℕ) → position (λ file. bytes_eq file.name name) files ≡ Some place → ChangesFile (Some (content_of files)) (Some (content_of (set files place (record (get_or files place d) { bytes = (get_or files place d).bytes ++ more })))) name (Gains more)
gained-set files name place d more found =
    let p = IsPlace-position files name place d found in (
      ((get_or files place d).bytes, content_of-place files name place d p, content_of-set files name place d ((get_or files place d).bytes ++ more) p),
      λ other ne. content_of-set_other files place d ((get_or files place d).bytes ++ more) other (other-place files name other place d p ne),
    )

-- a new file that is empty
pub emptied-push : (files : List FileBytes) (name : List ℕ) → position (λ file. bytes_eq file.name name) files ≡ None → ChangesFile (Some (content_of files)) (Some (content_of (files ++ record { name = name; bytes = [] } ∷ []))) name IsEmptied
emptied-push files name none =
    (content_of-push files name [] (content_of-no_position files name none), λ other ne. content_of-push_other files name [] other (bytes_eq-differ name other (λ h. ne (sym h))))

pub content_of-position : (files : List FileBytes) (name : List ℕ) (place : ℕ) → position (λ file. bytes_eq file.name name) files ≡ Some place → (d : FileBytes) → content_of files name ≡ Some (get_or files place d).bytes
content_of-position files name place found d = content_of-place files name place d (IsPlace-position files name place d found)

-- what a look-up of a name found
pub absent_at : (files : List FileBytes) (name : List ℕ) (found : Option ℕ) → found ≡ position (λ file. bytes_eq file.name name) files → IfNone found (content_of files name ≡ None)
absent_at files name None e = content_of-no_position files name (sym e)
absent_at files name (Some place) e = tt

pub there_at : (files : List FileBytes) (name : List ℕ) (found : Option ℕ) → found ≡ position (λ file. bytes_eq file.name name) files → IfSome found (λ place. (d : FileBytes) → content_of files name ≡ Some (get_or files place d).bytes)
there_at files name None e = tt
there_at files name (Some place) e = content_of-position files name place (sym e)

-- where nothing changed, a part was added
pub part-nothing : (files : List FileBytes) (name more : List ℕ) → IsThere files name → ChangesFile (Some (content_of files)) (Some (content_of files)) name (GainsPart more)
part-nothing files name more there =
    (([], IsPrefix-empty more, (there.0, there.1, there.1 ∙ ap Some (sym (append-nil there.0)))), λ other ne. refl)

-- no name was made yet
pub AreThere-none : (files : List FileBytes) → AreThere files []
AreThere-none files = record { each = λ name at. absurd (omega (arith, at.1)) }

-- each name that had its file has it after a change of one file, which is there after it
pub AreThere-changed : (old new : List FileBytes) (names : List (List ℕ)) (name : List ℕ) → ((other : List ℕ) → other ≢ name → content_of new other ≡ content_of old other) → IsThere new name → AreThere old names → AreThere new names
AreThere-changed old new names name others there all = record {
  each = λ other at.
      elim (bytes_eq other name) as (λ t. ((t ≡ true → other ≡ name) × (other ≡ name → t ≡ true)) → IsThere new other) [
        | true ↦ λ h. subst (IsThere new) (sym (h.0 refl)) there
        | false ↦ λ h. let before = all.each other at in (before.0, others other (λ e. true≢false (sym (h.1 e))) ∙ before.1)
      ] (bytes_eq-Decides other name);
}

pub AreThere-emptied : (old new : List FileBytes) (name : List ℕ) → ChangesFile (Some (content_of old)) (Some (content_of new)) name IsEmptied → (names : List (List ℕ)) → AreThere old names → AreThere new names
AreThere-emptied old new name changed names all = AreThere-changed old new names name changed.1 ([], changed.0) all

pub AreThere-gained : (old new : List FileBytes) (name more : List ℕ) → ChangesFile (Some (content_of old)) (Some (content_of new)) name (Gains more) → (names : List (List ℕ)) → AreThere old names → AreThere new names
AreThere-gained old new name more changed names all = AreThere-changed old new names name changed.1 (changed.0.0 ++ more, changed.0.2) all

-- and the name of a file that is there can be added to them
pub AreThere-push : (files : List FileBytes) (names : List (List ℕ)) (name : List ℕ) → AreThere files names → IsThere files name → AreThere files (names ++ name ∷ [])
AreThere-push files names name all there = record {
  each = λ other at. ⊎_elim (λ h. all.each other h) (λ e. subst (IsThere files) e there) (Contains-push_cases names name other at);
}

-- where nothing changed, a part was added to a file that was made
pub part-made : (files : List FileBytes) (names : List (List ℕ)) (name more : List ℕ) → AreThere files names → Contains names name → ChangesFile (Some (content_of files)) (Some (content_of files)) name (GainsPart more)
part-made files names name more all at = part-nothing files name more (all.each name at)

-- what holds always holds on an error
pub on_err-always : {T E : Type 0} (r : Result T E) (P : Type 0) → P → OnErr r P
on_err-always (Ok x) P p = tt
on_err-always (Err e) P p = p
