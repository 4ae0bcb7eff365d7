-- Ranges of numbers that get the same entry, and how many of them had none.
use Rattle.std.proofs.Common.{◌≡◌, ◌≢◌, ◌≤◌, ◌<◌, ◌+◌, ◌-◌, ◌/◌, ◌%◌, zero, suc, ℕ, Bool, true, false, cond, List, [], ◌∷◌, ◌++◌, Option, Some, None, is_some, length, take, replicate, set, get_or, refl, sym, ap, subst, ◌∙◌, arith, inl, inr}
use Rattle.std.specs.List.{FoldsTo, AppendsResults}
use Rattle.std.proofs.lemmas.Bool.{cases_lt}
use Rattle.std.proofs.lemmas.Bool.Decides.{eqb_tells}
use Rattle.std.proofs.lemmas.List.{get_or-set_same, get_or-set_other, get_or-append_right, get_or_append_left, get_or-replicate, length-replicate, length-append, take_all}
use Rattle.raw_pages.specs.inside.Tables.{entry_of, entry_count, IsLeaf, Fills, absent_among}
use Rattle.raw_pages.proofs.Counts.{none_of_replicated}
use Rattle.raw_pages.proofs.Tables.{no_entry, same_leaf, other_leaf}

-- with no entries each number has none
pub absent_among-all : (X : Type 0) (first n : ℕ) → absent_among {X = X} (λ _. None) first n ≡ n
unfolding absent_among
absent_among-all X first zero = refl
absent_among-all X first (suc n) = let less = absent_among-all X first n in omega (arith, less)

module _ {X : Type 0} where
  pub absent_among-none : (f : ℕ → Option X) (first : ℕ) → absent_among f first 0 ≡ 0
  unfolding absent_among
  absent_among-none f first = refl

  pub absent_among-more : (f : ℕ → Option X) (first n : ℕ) → absent_among f first (n + 1) ≡ absent_among f first n + cond (is_some (f (first + n))) 0 1
  unfolding absent_among
  absent_among-more f first n = let e : n + 1 ≡ suc n = omega arith in ap (absent_among f first) e

  pub absent_among-le : (f : ℕ → Option X) (first n : ℕ) → absent_among f first n ≤ n
  unfolding absent_among
  absent_among-le f first zero = omega arith
  absent_among-le f first (suc n) = one_more (is_some (f (first + n))) _ _ (absent_among-le f first n)
    where
      one_more : (b : Bool) (k m : ℕ) → k ≤ m → k + cond b 0 1 ≤ suc m
      one_more true k m h = omega arith
      one_more false k m h = omega arith

  -- the same entries at other numbers
  pub absent_among-moved : (f g : ℕ → Option X) (a b n : ℕ) → ((k : ℕ) → k < n → f (a + k) ≡ g (b + k)) → absent_among f a n ≡ absent_among g b n
  unfolding absent_among
  absent_among-moved f g a b zero same = refl
  absent_among-moved f g a b (suc n) same =
      (λ i. absent_among-moved f g a b n (λ k h. same k (omega arith)) i + cond (is_some (same n (omega arith) i)) 0 1)

  -- no number yet
  pub fills-none : (f : ℕ → Option X) (first : ℕ) (x : X) → Fills f f first first x
  fills-none f first x = record { inside = λ q low high. absurd (omega arith); below = λ q h. refl; past = λ q h. refl }

  -- one number more
  pub fills-more : (f g h : ℕ → Option X) (first end : ℕ) (x : X) → first ≤ end → Fills f g first end x → h end ≡ Some x → ((q : ℕ) → q ≢ end → h q ≡ g q) → Fills f h first (end + 1) x
  fills-more f g h first end x order fills here others = record {
    inside = λ q low high. elim (cases_lt q end) [
      | inl earlier ↦ others q (λ e. absurd (omega arith)) ∙ fills.inside q low earlier
      | inr last ↦ (let e : q ≡ end = omega arith in ap h e) ∙ here
    ];
    below = λ q low. others q (λ e. absurd (omega arith)) ∙ fills.below q low;
    past = λ q high. others q (λ e. absurd (omega arith)) ∙ fills.past q (omega arith);
  }

  -- the same entries, looked at otherwise
  pub fills-from : (e f g : ℕ → Option X) (first end : ℕ) (x : X) → ((q : ℕ) → f q ≡ e q) → Fills f g first end x → Fills e g first end x
  fills-from e f g first end x same fills = record {
    inside = fills.inside;
    below = λ q low. fills.below q low ∙ same q;
    past = λ q high. fills.past q high ∙ same q;
  }

  -- an entry put at the next place
  pub fills-put : (before es : List (Option X)) (first place : ℕ) (x : X) (v : Option X) → first ≤ place → place < length es → v ≡ Some x
      → Fills (λ (p : ℕ). get_or before p None) (λ (p : ℕ). get_or es p None) first place x
      → Fills (λ (p : ℕ). get_or before p None) (λ (p : ℕ). get_or (set es place v) p None) first (place + 1) x
  fills-put before es first place x v order room is fills =
      fills-more (λ (p : ℕ). get_or before p None) (λ (p : ℕ). get_or es p None) (λ (p : ℕ). get_or (set es place v) p None) first place x order fills
      (get_or-set_same es place v None room ∙ is) (λ q apart. get_or-set_other es place q v None apart)

  -- and how many there were none
  pub absent-put : (f g : ℕ → Option X) (first place : ℕ) (x : X) (fresh : ℕ) (b : Bool) → first ≤ place → Fills f g first place x → fresh ≡ absent_among f first (place - first)
      → is_some (g place) ≡ b → fresh + cond b 0 1 ≡ absent_among f first (place + 1 - first)
  absent-put f g first place x fresh b order fills counted is =
      let same : is_some (f (first + (place - first))) ≡ b =
      ap (λ k. is_some (f k)) (let e : first + (place - first) ≡ place = omega arith in e) ∙ ap is_some (sym (fills.past place (omega arith))) ∙ is in
      (λ i. counted i + cond (sym same i) 0 1)
      ∙ sym (absent_among-more f first (place - first))
      ∙ ap (absent_among f first) (let e : place - first + 1 ≡ place + 1 - first = omega arith in e)

  -- what each call made is the same
  pub all-made : {F : Type 0} (step : F → X → F → Type 0) (x : X) (f : F) → ((y : X) (q : F) → step f y q → (q ≡ f) × (y ≡ x)) → (ys : List X) (last : F)
      → FoldsTo step f ys last → ys ≡ replicate (length ys) x
  all-made step x f same [] last folds = refl
  all-made step x f same (y ∷ ys) last folds =
      let here = same y folds.0 folds.1 in
      λ i. here.1 i ∷ all-made step x f same ys last (subst (λ j. FoldsTo step j ys last) here.0 folds.2) i

  -- a list that was made longer by such calls
  pub made-longer : {F : Type 0} (step : F → X → F → Type 0) (x : X) (f : F) → ((y : X) (q : F) → step f y q → (q ≡ f) × (y ≡ x)) → (old new : List X) (n : ℕ)
      → length old ≤ n → length new ≡ n → AppendsResults step (take n old) new f → new ≡ old ++ replicate (n - length old) x
  made-longer step x f same old new n more size (ys, last, is, folds) =
      let kept = take_all n old more in
      let made = all-made step x f same ys last folds in
      let whole : length new ≡ length old + length ys = ap length is ∙ length-append (take n old) ys ∙ ap (λ s. length s + length ys) kept in
      let long : length ys ≡ n - length old = omega (arith, whole, size) in
      is ∙ (λ i. kept i ++ made i) ∙ ap (λ k. old ++ replicate k x) long

  -- a list of three parts, of which the middle one alone has entries
  pub fills-parts : (first end long : ℕ) (x : X) → first ≤ end
      → Fills (λ _. None) (λ (p : ℕ). get_or (replicate first None ++ (replicate (end - first) (Some x) ++ replicate long None)) p None) first end x
  fills-parts first end long x order = record {
    inside = λ q low high.
        get_or-append_right (replicate first None) (replicate (end - first) (Some x) ++ replicate long None) first q None (length-replicate {A = Option X} first None) low
        ∙ get_or_append_left (replicate (end - first) (Some x)) (replicate long None) None (q - first) (let size = length-replicate {A = Option X} (end - first) (Some x) in omega (arith, size))
        ∙ get_or-replicate (end - first) (q - first) (Some x) None (omega arith);
    below = λ q low.
        get_or_append_left (replicate first None) (replicate (end - first) (Some x) ++ replicate long None) None q (let size = length-replicate {A = Option X} first None in omega (arith, size))
        ∙ no_entry [] first q;
    past = λ q high.
        get_or-append_right (replicate first None) (replicate (end - first) (Some x) ++ replicate long None) first q None (length-replicate {A = Option X} first None) (omega arith)
        ∙ get_or-append_right (replicate (end - first) (Some x)) (replicate long None) (end - first) (q - first) None (length-replicate {A = Option X} (end - first) (Some x)) (omega arith)
        ∙ no_entry [] long (q - first - (end - first));
  }

  count-append : (xs ys : List (Option X)) → entry_count (xs ++ ys) ≡ entry_count xs + entry_count ys
  unfolding entry_count
  count-append [] ys = omega arith
  count-append (x ∷ xs) ys = let rest = count-append xs ys in omega (arith, rest)

  count-full : (n : ℕ) (x : X) → entry_count (replicate n (Some x)) ≡ n
  unfolding entry_count
  count-full zero x = refl
  count-full (suc n) x = let rest = count-full n x in omega (arith, rest)

  -- such a table's count
  pub leaf-parts : (first end : ℕ) (x : X) (es : List (Option X)) → first ≤ end → end ≤ 1024
      → es ≡ replicate first None ++ (replicate (end - first) (Some x) ++ replicate (1024 - end) None) → IsLeaf es (end - first)
  leaf-parts first end x es order inside is =
      let front = length-replicate {A = Option X} first None in
      let middle = length-replicate {A = Option X} (end - first) (Some x) in
      let back = length-replicate {A = Option X} (1024 - end) None in
      let all = ap length is ∙ length-append (replicate first None) (replicate (end - first) (Some x) ++ replicate (1024 - end) None) in
      let rest = length-append (replicate (end - first) (Some x)) (replicate (1024 - end) None) in
      let sum = ap entry_count is ∙ count-append (replicate first None) (replicate (end - first) (Some x) ++ replicate (1024 - end) None) in
      let part = count-append (replicate (end - first) (Some x)) (replicate (1024 - end) None) in
      let none = none_of_replicated X first in
      let full = count-full (end - first) x in
      let past = none_of_replicated X (1024 - end) in
      record { whole = omega (arith, front, middle, back, all, rest); counted = omega (arith, sum, part, none, full, past) }

  -- numbers of one table whose entries are filled in the table
  module _ (leaves : List (Option (List (Option X)))) (i first end pf pe : ℕ) (f : ℕ → Option X) (at : i ≡ first / 1024) (some : first < end) (one : first / 1024 ≡ (end - 1) / 1024)
      (from : pf ≡ first % 1024) (to : pe ≡ (end - 1) % 1024 + 1) (old : (q : ℕ) → q / 1024 ≡ i → entry_of leaves q ≡ f (q % 1024)) where
    pub fills-leaf : (es : List (Option X)) (x : X) → i < length leaves → Fills f (λ (p : ℕ). get_or es p None) pf pe x
        → Fills (entry_of leaves) (entry_of (set leaves i (Some es))) first end x
    fills-leaf es x room fills = record {
      inside = λ q low high.
          let same : q / 1024 ≡ i = omega arith in
          let above : pf ≤ q % 1024 = omega arith in
          let under : q % 1024 < pe = omega arith in
          same_leaf leaves i (Some es) q same room ∙ fills.inside (q % 1024) above under;
      below = λ q low. elim (eqb_tells (q / 1024) i) [
        | inl same ↦
            let here = same.1 in
            let under : q % 1024 < pf = omega arith in
            same_leaf leaves i (Some es) q here room ∙ fills.below (q % 1024) under ∙ sym (old q here)
        | inr apart ↦ other_leaf leaves i (Some es) q apart.1
      ];
      past = λ q high. elim (eqb_tells (q / 1024) i) [
        | inl same ↦
            let here = same.1 in
            let above : pe ≤ q % 1024 = omega arith in
            same_leaf leaves i (Some es) q here room ∙ fills.past (q % 1024) above ∙ sym (old q here)
        | inr apart ↦ other_leaf leaves i (Some es) q apart.1
      ];
    }

    pub absent-leaf : absent_among (entry_of leaves) first (end - first) ≡ absent_among f pf (pe - pf)
    absent-leaf =
        let long : end - first ≡ pe - pf = omega arith in
        ap (absent_among (entry_of leaves) first) long
        ∙ absent_among-moved (entry_of leaves) f first pf (pe - pf) (λ k below.
        let same : (first + k) / 1024 ≡ i = omega arith in
        let place : (first + k) % 1024 ≡ pf + k = omega arith in
        old (first + k) same ∙ ap f place)
