-- What is read one after another is all that is kept: blocks by rising index, entries by rising cookie, and nodes by rising number.
use Rattle.std.proofs.Common.{◌≡◌, ◌≤◌, ◌<◌, ◌+◌, ℕ, Bool, true, false, cond, ltb, nat_lt, List, [], ◌∷◌, ◌++◌, map, filter, Some, None, refl, sym, ap, subst, ◌∙◌, arith}
use Rattle.std.specs.declared.cmp.Ordering.TheVariants.{Less, Greater}
use Rattle.std.specs.Ordering.{nat_cmp}
use Rattle.std.specs.Cmp.{nat_cmp_total, nat_cmp_is, ranked}
use Rattle.std.specs.List.{AllByRecursion}
use Rattle.std.specs.List.Sorted.{IsStrictlySortedBy}
use Rattle.std.specs.FinMap.{find, put, entries, empty, get-entries, entries-insert, len-empty, len-entries}
use Rattle.std.specs.FinMap.Entries.{by_order}
use Rattle.std.proofs.lemmas.Bool.{ltb-true, ltb-false, lt-ltb, eq-eqb, ne_eqb}
use Rattle.std.proofs.lemmas.Bool.Decides.{nat_tests}
use Rattle.std.proofs.lemmas.List.{map-append, nil_from_length}
use Rattle.std.proofs.lemmas.List.Elements.{recursion_from_All}
use Rattle.kernel_core.specs.FileContent.{Blocks}
use Rattle.kernel_core.specs.ValidTree.{IsEntry}
use Rattle.kernel_core.specs.declared.tree.DirEntry.{DirEntry}
use Rattle.directory_names.specs.Names.{NamedNode, Names, AreNames, plain, entry_after}
use Rattle.file_blocks.specs.Kept.{IsFirstFrom, NoneFrom}
use Rattle.file_blocks.proofs.Uses.{kept_below, kept_below-zero, kept_below-absent, kept_below-next, kept_below-end}
use Rattle.native_vfs.specs.inside.Saving.{block_of}
use Rattle.native_vfs.proofs.tables.Lookups.{tied}

-- Blocks

greater : (k n : ℕ) → n < k → nat_cmp k n ≡ Greater
greater k n below = sym (nat_cmp_is k n Greater below)

-- an entry past all others is put behind them
put-last : {X : Type 0} (k : ℕ) (v : X) (es : List (ℕ × X)) → AllByRecursion (λ e. e.0 < k) es → put nat_cmp k v es ≡ es ++ (k, v) ∷ []
put-last k v [] below = refl
put-last k v (e ∷ es) below =
    ap (λ o. by_order o ((k, v) ∷ e ∷ es) ((e.0, v) ∷ es) (e ∷ put nat_cmp k v es)) (greater k e.0 below.0)
    ∙ ap (λ r. e ∷ r) (put-last k v es below.1)

all_below : {X : Type 0} (k : ℕ) (es : List (ℕ × X)) → ((q : ℕ) → k ≤ q → find nat_cmp q es ≡ None) → AllByRecursion (λ e. e.0 < k) es
all_below k [] none = tt
all_below k (e ∷ es) none = (
  here,
  all_below k es (λ q above. sym (ap (λ b. cond b (Some e.1) (find nat_cmp q es)) (tied q e.0 ∙ ne_eqb q e.0 (λ same. let h = here in absurd (omega (arith, h, same, above))))) ∙ none q above),
)
  where
    here : e.0 < k
    here = by (ltb e.0 k) refl
      where
        by : (b : Bool) → ltb e.0 k ≡ b → e.0 < k
        by true is = ltb-true e.0 k is
        by false is =
            let found : Some e.1 ≡ None = sym (ap (λ b. cond b (Some e.1) (find nat_cmp e.0 es)) (tied e.0 e.0 ∙ eq-eqb e.0 e.0 refl)) ∙ none e.0 (ltb-false e.0 k is) in
            absurd (cc)

module _ (blocks : Blocks) where
  pub blocks-none : map block_of (entries (kept_below blocks 0)) ≡ []
  blocks-none =
      ap (map block_of) (ap entries (kept_below-zero blocks)
      ∙ nil_from_length (entries (empty {R = nat_cmp})) (sym (len-entries (empty {R = nat_cmp})) ∙ len-empty nat_cmp (List ℕ)))

  pub blocks-next : (from index : ℕ) (block : List ℕ) → IsFirstFrom blocks from index block
      → map block_of (entries (kept_below blocks (index + 1))) ≡ map block_of (entries (kept_below blocks from)) ++ record { index = index; bytes = block } ∷ []
  blocks-next from index block first =
      ap (map block_of) (
      ap entries (kept_below-next blocks from index block first)
      ∙ entries-insert nat_cmp_total (kept_below blocks from) index block
      ∙ put-last index block (entries (kept_below blocks from)) (all_below index (entries (kept_below blocks from))
      (λ q above. sym (get-entries (kept_below blocks from) q) ∙ kept_below-absent blocks from q (let low = first.from_there in omega (arith, low, above)))))
      ∙ map-append block_of (entries (kept_below blocks from)) ((index, block) ∷ [])

  pub blocks-all : (from : ℕ) → NoneFrom blocks from → map block_of (entries (kept_below blocks from)) ≡ map block_of (entries blocks)
  blocks-all from none = ap (λ m. map block_of (entries m)) (kept_below-end blocks from none)

-- Entries

-- the entries above a cookie
abbrev pub above : ℕ → List NamedNode → List NamedNode
above cookie es = filter (λ e. nat_lt cookie e.cookie) es

less_is : (a b : ℕ) → nat_cmp a b ≡ Less → a < b
less_is a b less = ranked a b Less (sym less)

all_above : (cookie least : ℕ) (es : List NamedNode) → cookie ≤ least → AllByRecursion (λ y. nat_cmp least y ≡ Less) (map (λ e. e.cookie) (map plain es)) → above cookie es ≡ es
all_above cookie least [] low rising = refl
all_above cookie least (e ∷ es) low rising =
    ap (λ b. cond b (e ∷ above cookie es) (above cookie es)) (lt-ltb cookie e.cookie (let h = less_is least e.cookie rising.0 in omega (arith, h, low)))
    ∙ ap (λ r. e ∷ r) (all_above cookie least es low rising.1)

first_above : (cookie : ℕ) (es : List NamedNode) (e : NamedNode) → IsStrictlySortedBy nat_cmp (map (λ e. e.cookie) (map plain es)) → entry_after es cookie ≡ Some e
    → (cookie < e.cookie) × (above cookie es ≡ e ∷ above e.cookie es)
unfolding IsStrictlySortedBy
first_above cookie [] e rising found = absurd (cc)
first_above cookie (f ∷ es) e rising found = by (first_above cookie es e rising.1) (nat_lt cookie f.cookie) refl
  where
    by : (entry_after es cookie ≡ Some e → (cookie < e.cookie) × (above cookie es ≡ e ∷ above e.cookie es)) → (b : Bool) → nat_lt cookie f.cookie ≡ b
        → (cookie < e.cookie) × (above cookie (f ∷ es) ≡ e ∷ above e.cookie (f ∷ es))
    by behind true is =
        let here : Some f ≡ Some e = sym (ap (λ b. cond b (Some f) (entry_after es cookie)) is) ∙ found in
        let same : f ≡ e = cc in
        let lower = ltb-true cookie f.cookie is in
        let rest : above cookie es ≡ above f.cookie (f ∷ es) =
        all_above cookie f.cookie es (omega (arith, lower)) rising.0
        ∙ sym (ap (λ b. cond b (f ∷ above f.cookie es) (above f.cookie es)) (itself f.cookie) ∙ all_above f.cookie f.cookie es (omega arith) rising.0) in
        subst (λ g. (cookie < g.cookie) × (above cookie (f ∷ es) ≡ g ∷ above g.cookie (f ∷ es))) same
        (lower, ap (λ b. cond b (f ∷ above cookie es) (above cookie es)) is ∙ ap (λ r. f ∷ r) rest)
      where
        itself : (n : ℕ) → nat_lt n n ≡ false
        itself n = grind (arith, nat_tests)
    by behind false is =
        let later = behind (sym (ap (λ b. cond b (Some f) (entry_after es cookie)) is) ∙ found) in
        let low = ltb-false cookie f.cookie is in
        let high = later.0 in
        let past : nat_lt e.cookie f.cookie ≡ false = grind (arith, nat_tests) in (
          high,
          ap (λ b. cond b (f ∷ above cookie es) (above cookie es)) is ∙ later.1
              ∙ ap (λ r. e ∷ r) (sym (ap (λ b. cond b (f ∷ above e.cookie es) (above e.cookie es)) past)),
        )

pub none_above : (cookie : ℕ) (es : List NamedNode) → entry_after es cookie ≡ None → above cookie es ≡ []
none_above cookie [] none = refl
none_above cookie (f ∷ es) none = by (none_above cookie es) (nat_lt cookie f.cookie) refl
  where
    by : (entry_after es cookie ≡ None → above cookie es ≡ []) → (b : Bool) → nat_lt cookie f.cookie ≡ b → above cookie (f ∷ es) ≡ []
    by behind true is = absurd (let h : Some f ≡ None = sym (ap (λ b. cond b (Some f) (entry_after es cookie)) is) ∙ none in cc)
    by behind false is =
        ap (λ b. cond b (f ∷ above cookie es) (above cookie es)) is
        ∙ behind (sym (ap (λ b. cond b (Some f) (entry_after es cookie)) is) ∙ none)

-- the entry after a cookie is the first above it
pub above-next : (names : Names) (cookie : ℕ) (e : NamedNode) → AreNames names → entry_after names.entries cookie ≡ Some e
    → above cookie names.entries ≡ e ∷ above e.cookie names.entries
above-next names cookie e are found = (first_above cookie names.entries e are.entries.rising found).1

-- no cookie is as low as 0
pub above-zero : (names : Names) → AreNames names → above 0 names.entries ≡ names.entries
above-zero names are = go names.entries (recursion_from_All IsEntry (map plain names.entries) are.entries.each)
  where
    go : (es : List NamedNode) → AllByRecursion IsEntry (map plain es) → above 0 es ≡ es
    go [] each = refl
    go (e ∷ es) each =
        ap (λ b. cond b (e ∷ above 0 es) (above 0 es)) (lt-ltb 0 e.cookie (let h = each.0.low in omega (arith, h)))
        ∙ ap (λ r. e ∷ r) (go es each.1)

-- what was read and the entries that are left are all
pub entries-next : (names : Names) (cookie : ℕ) (e : NamedNode) (read : List DirEntry) → AreNames names → entry_after names.entries cookie ≡ Some e
    → read ++ map plain (above cookie names.entries) ≡ map plain names.entries
    → (read ++ plain e ∷ []) ++ map plain (above e.cookie names.entries) ≡ map plain names.entries
entries-next names cookie e read are found all =
    push read (plain e) (map plain (above e.cookie names.entries))
    ∙ ap (λ es. read ++ map plain es) (sym (above-next names cookie e are found)) ∙ all
  where
    push : {X : Type 0} (xs : List X) (x : X) (ys : List X) → (xs ++ x ∷ []) ++ ys ≡ xs ++ x ∷ ys
    push [] x ys = refl
    push (y ∷ xs) x ys = ap (λ r. y ∷ r) (push xs x ys)
