-- What a look-up gives after a new name and after a removal, which entries it finds, and which entry comes after a cookie.
use Rattle.std.proofs.Common.{◌≡◌, ℕ, zero, suc, ◌<◌, ◌≤◌, Bool, true, false, cond, not, nat_lt, List, [], ◌∷◌, ◌++◌, length, map, filter, All, Contains, slice_index_or, Option, None, Some, refl, sym, ap, subst, ◌∙◌, arith, true≢false}
use Rattle.std.specs.declared.cmp.Ordering.TheVariants.{Less}
use Rattle.std.specs.List.{AllByRecursion, IsDistinct, find}
use Rattle.std.specs.List.Sorted.{IsStrictlySortedBy}
use Rattle.std.specs.Cmp.Lexicographic.{same_text}
use Rattle.std.specs.Option.{option_map}
use Rattle.std.specs.Ordering.{nat_cmp, is_gt}
use Rattle.std.specs.Str.{bytes_eq}
use Rattle.std.proofs.lemmas.Bool.{ltb-true, ltb-false}
use Rattle.std.proofs.lemmas.Cmp.{nat_list_eq_equiv}
use Rattle.std.proofs.lemmas.List.Elements.{All-nil, All-cons, All-weaker}
use Rattle.std.proofs.lemmas.Map.Keys.{le_from_not_gt}
use Rattle.std.proofs.lemmas.Option.{same_Some}
use Rattle.directory_names.specs.declared.entry.NodeRef.{NodeRef}
use Rattle.directory_names.specs.Names.{NamedNode, Names, AreNames, plain, node_of, find_name, entry_after, with_entry, without}

not_none : {T : Type 0} (x : T) → Some x ≡ None → ⊥
not_none x h = cc

-- Look-ups

-- what a look-up gives where the first entry has these bytes as its name or has not
pub first_or : (e : NamedNode) (entries : List NamedNode) (name : List ℕ) (b : Bool) → bytes_eq name e.name ≡ b
    → find_name (e ∷ entries) name ≡ cond b (Some (node_of e)) (find_name entries name)
first_or e entries name true is = ap (λ b. option_map node_of (cond b (Some e) (find (λ f. bytes_eq name f.name) entries))) is
first_or e entries name false is = ap (λ b. option_map node_of (cond b (Some e) (find (λ f. bytes_eq name f.name) entries))) is

-- a name that is not found is not the first entry's, and not found behind it
none_behind : (e : NamedNode) (entries : List NamedNode) (name : List ℕ) → find_name (e ∷ entries) name ≡ None
    → (bytes_eq name e.name ≡ false) × (find_name entries name ≡ None)
none_behind e entries name none = by (bytes_eq name e.name) refl
  where
    by : (b : Bool) → bytes_eq name e.name ≡ b → (bytes_eq name e.name ≡ false) × (find_name entries name ≡ None)
    by true is = absurd (not_none (node_of e) (sym (first_or e entries name true is) ∙ none))
    by false is = (is, sym (first_or e entries name false is) ∙ none)

pushed : (e : NamedNode) (entries : List NamedNode) (new : NamedNode) (other : List ℕ) → bytes_eq new.name e.name ≡ false
    → find_name (entries ++ new ∷ []) other ≡ cond (bytes_eq other new.name) (Some (node_of new)) (find_name entries other)
    → (b d : Bool) → bytes_eq other e.name ≡ b → bytes_eq other new.name ≡ d
    → find_name ((e ∷ entries) ++ new ∷ []) other ≡ cond (bytes_eq other new.name) (Some (node_of new)) (find_name (e ∷ entries) other)
pushed e entries new other differ rest true true is same =
    absurd (true≢false (sym is ∙ nat_list_eq_equiv.congr other new.name e.name same ∙ differ))
pushed e entries new other differ rest true false is same =
    first_or e (entries ++ new ∷ []) other true is
    ∙ ap (λ d. cond d (Some (node_of new)) (Some (node_of e))) (sym same)
    ∙ ap (cond (bytes_eq other new.name) (Some (node_of new))) (sym (first_or e entries other true is))
pushed e entries new other differ rest false d is same =
    first_or e (entries ++ new ∷ []) other false is ∙ rest
    ∙ ap (cond (bytes_eq other new.name) (Some (node_of new))) (sym (first_or e entries other false is))

-- After a new name, which was not there, it is found with its node, and each other as before.
find_name-push : (entries : List NamedNode) (new : NamedNode) (other : List ℕ) → find_name entries new.name ≡ None
    → find_name (entries ++ new ∷ []) other ≡ cond (bytes_eq other new.name) (Some (node_of new)) (find_name entries other)
find_name-push [] new other none =
    elim (bytes_eq other new.name) as (λ b. option_map node_of (cond b (Some new) None) ≡ cond b (Some (node_of new)) None) [ true ↦ refl | false ↦ refl ]
find_name-push (e ∷ entries) new other none =
    let behind = none_behind e entries new.name none in
    pushed e entries new other behind.0 (find_name-push entries new other behind.1) (bytes_eq other e.name) (bytes_eq other new.name) refl refl

pub find_name-with_entry : (names : Names) (cookie : ℕ) (name : List ℕ) (node : NodeRef) (other : List ℕ) → find_name names.entries name ≡ None
    → find_name (with_entry names cookie name node).entries other ≡ cond (bytes_eq other name) (Some node) (find_name names.entries other)
find_name-with_entry names cookie name node other none =
    find_name-push names.entries (record { cookie = cookie; name = name; number = node.number; key = node.key }) other none

abbrev others : List ℕ → List NamedNode → List NamedNode
others name entries = filter (λ e. not (bytes_eq name e.name)) entries

filtered : (e : NamedNode) (entries : List NamedNode) (name other : List ℕ)
    → find_name (others name entries) other ≡ cond (bytes_eq name other) None (find_name entries other)
    → (b d : Bool) → bytes_eq name e.name ≡ b → bytes_eq other e.name ≡ d
    → find_name (others name (e ∷ entries)) other ≡ cond (bytes_eq name other) None (find_name (e ∷ entries) other)
filtered e entries name other rest true true is same =
    let gone : bytes_eq name other ≡ true = nat_list_eq_equiv.congr name e.name other is ∙ nat_list_eq_equiv.symm e.name other ∙ same in
    ap (λ b. find_name (cond (not b) (e ∷ others name entries) (others name entries)) other) is ∙ rest
    ∙ ap (λ b. cond b None (find_name entries other)) gone ∙ sym (ap (λ b. cond b None (find_name (e ∷ entries) other)) gone)
filtered e entries name other rest true false is same =
    ap (λ b. find_name (cond (not b) (e ∷ others name entries) (others name entries)) other) is ∙ rest
    ∙ ap (cond (bytes_eq name other) None) (sym (first_or e entries other false same))
filtered e entries name other rest false true is same =
    let kept : bytes_eq name other ≡ false =
    nat_list_eq_equiv.symm name other ∙ nat_list_eq_equiv.congr other e.name name same ∙ nat_list_eq_equiv.symm e.name name ∙ is in
    ap (λ b. find_name (cond (not b) (e ∷ others name entries) (others name entries)) other) is ∙ first_or e (others name entries) other true same
    ∙ sym (first_or e entries other true same) ∙ sym (ap (λ b. cond b None (find_name (e ∷ entries) other)) kept)
filtered e entries name other rest false false is same =
    ap (λ b. find_name (cond (not b) (e ∷ others name entries) (others name entries)) other) is ∙ first_or e (others name entries) other false same
    ∙ rest ∙ ap (cond (bytes_eq name other) None) (sym (first_or e entries other false same))

-- After a removal the name is not found, and each other as before.
find_name-filter : (entries : List NamedNode) (name other : List ℕ)
    → find_name (filter (λ e. not (bytes_eq name e.name)) entries) other ≡ cond (bytes_eq name other) None (find_name entries other)
find_name-filter [] name other =
    let none : Option NodeRef = None in
    elim (bytes_eq name other) as (λ b. none ≡ cond b none none) [ true ↦ refl | false ↦ refl ]
find_name-filter (e ∷ entries) name other =
    filtered e entries name other (find_name-filter entries name other) (bytes_eq name e.name) (bytes_eq other e.name) refl refl

pub find_name-without : (names : Names) (name other : List ℕ)
    → find_name (without names name).entries other ≡ cond (bytes_eq name other) None (find_name names.entries other)
find_name-without names name other = find_name-filter names.entries name other

found_behind : (e : NamedNode) (entries : List NamedNode) (x : NamedNode) → AllByRecursion (λ y. bytes_eq e.name y ≡ false) (map (λ f. f.name) (map plain entries))
    → (k : ℕ) → k < length entries → slice_index_or entries k x ≡ x → bytes_eq x.name e.name ≡ false
found_behind e [] x apart k within is = absurd (omega (arith, within))
found_behind e (f ∷ entries) x apart zero within is = nat_list_eq_equiv.symm x.name e.name ∙ ap (λ g. bytes_eq e.name g.name) (sym is) ∙ apart.0
found_behind e (f ∷ entries) x apart (suc k) within is = found_behind e entries x apart.1 k (omega (arith, within)) is

found_at : (entries : List NamedNode) (x : NamedNode) → IsDistinct bytes_eq (map (λ e. e.name) (map plain entries))
    → (k : ℕ) → k < length entries → slice_index_or entries k x ≡ x → find_name entries x.name ≡ Some (node_of x)
unfolding IsDistinct
found_at [] x distinct k within is = absurd (omega (arith, within))
found_at (e ∷ entries) x distinct zero within is =
    first_or e entries x.name true (ap (λ f. bytes_eq f.name e.name) (sym is) ∙ nat_list_eq_equiv.refl e.name) ∙ ap (λ f. Some (node_of f)) is
found_at (e ∷ entries) x distinct (suc k) within is =
    first_or e entries x.name false (found_behind e entries x distinct.0 k (omega (arith, within)) is)
    ∙ found_at entries x distinct.1 k (omega (arith, within)) is

-- Each entry is found by its name, since no other has it.
pub find_name-entry : (names : Names) (entry : NamedNode) → AreNames names → Contains names.entries entry
    → find_name names.entries entry.name ≡ Some (node_of entry)
find_name-entry names entry are there = found_at names.entries entry are.entries.distinct there.0 there.1 there.2

-- What is found is an entry's.
pub record IsFound (entries : List NamedNode) (name : List ℕ) (node : NodeRef) : Type 0 where
  pub entry : NamedNode
  pub there : Contains entries entry
  pub has_name : entry.name ≡ name
  pub has_node : node_of entry ≡ node

of_first : (e : NamedNode) (entries : List NamedNode) (name : List ℕ) (node : NodeRef) → find_name (e ∷ entries) name ≡ Some node
    → (find_name entries name ≡ Some node → IsFound entries name node) → (b : Bool) → bytes_eq name e.name ≡ b → IsFound (e ∷ entries) name node
of_first e entries name node found behind true is = record {
  entry = e;
  there = (0, omega arith, refl);
  has_name = sym (same_text name e.name (sym is));
  has_node = same_Some (node_of e) node (sym (first_or e entries name true is) ∙ found);
}
of_first e entries name node found behind false is =
    let rest = behind (sym (first_or e entries name false is) ∙ found) in
    record {
      entry = rest.entry;
      there = (suc rest.there.0, omega (arith, rest.there.1), rest.there.2);
      has_name = rest.has_name;
      has_node = rest.has_node;
    }

pub entry-find_name : (entries : List NamedNode) (name : List ℕ) (node : NodeRef) → find_name entries name ≡ Some node → IsFound entries name node
entry-find_name [] name node found = absurd (not_none node (sym found))
entry-find_name (e ∷ entries) name node found = of_first e entries name node found (entry-find_name entries name node) (bytes_eq name e.name) refl

-- The entry after a cookie

-- an entry of these whose cookie is above this one, and of such the least
pub record IsNext (entries : List NamedNode) (cookie : ℕ) (entry : NamedNode) : Type 0 where
  pub there : Contains entries entry
  pub above : cookie < entry.cookie
  pub least : All (λ e. cookie < e.cookie → entry.cookie ≤ e.cookie) entries

all_later : (e : NamedNode) (entries : List NamedNode) → AllByRecursion (λ y. nat_cmp e.cookie y ≡ Less) (map (λ f. f.cookie) (map plain entries))
    → All (λ f. e.cookie ≤ f.cookie) entries
all_later e [] later = All-nil _
all_later e (f ∷ entries) later =
    All-cons (λ g. e.cookie ≤ g.cookie) f entries (le_from_not_gt e.cookie f.cookie (ap is_gt later.0)) (all_later e entries later.1)

after_first : (e : NamedNode) (entries : List NamedNode) (cookie : ℕ) (b : Bool) → nat_lt cookie e.cookie ≡ b
    → entry_after (e ∷ entries) cookie ≡ cond b (Some e) (entry_after entries cookie)
after_first e entries cookie b is = ap (λ c. cond c (Some e) (entry_after entries cookie)) is

next_or : (e : NamedNode) (entries : List NamedNode) (cookie : ℕ) (next : NamedNode)
    → AllByRecursion (λ y. nat_cmp e.cookie y ≡ Less) (map (λ f. f.cookie) (map plain entries))
    → entry_after (e ∷ entries) cookie ≡ Some next → (entry_after entries cookie ≡ Some next → IsNext entries cookie next)
    → (b : Bool) → nat_lt cookie e.cookie ≡ b → IsNext (e ∷ entries) cookie next
next_or e entries cookie next later comes behind true is =
    let same : e ≡ next = same_Some e next (sym (after_first e entries cookie true is) ∙ comes) in
    subst (IsNext (e ∷ entries) cookie) same (record {
      there = (0, omega arith, refl);
      above = ltb-true cookie e.cookie is;
      least = All-cons (λ f. cookie < f.cookie → e.cookie ≤ f.cookie) e entries (λ _. omega arith)
          (All-weaker (λ f. e.cookie ≤ f.cookie) (λ f. cookie < f.cookie → e.cookie ≤ f.cookie) (λ f h _. h) entries (all_later e entries later));
    })
next_or e entries cookie next later comes behind false is =
    let rest = behind (sym (after_first e entries cookie false is) ∙ comes) in
    record {
      there = (suc rest.there.0, omega (arith, rest.there.1), rest.there.2);
      above = rest.above;
      least = All-cons (λ f. cookie < f.cookie → next.cookie ≤ f.cookie) e entries
          (λ above. absurd (omega (arith, above, ltb-false cookie e.cookie is))) rest.least;
    }

next_of : (entries : List NamedNode) (cookie : ℕ) (next : NamedNode) → IsStrictlySortedBy nat_cmp (map (λ e. e.cookie) (map plain entries))
    → entry_after entries cookie ≡ Some next → IsNext entries cookie next
unfolding IsStrictlySortedBy
next_of [] cookie next rising comes = absurd (not_none next (sym comes))
next_of (e ∷ entries) cookie next rising comes =
    next_or e entries cookie next rising.0 comes (next_of entries cookie next rising.1) (nat_lt cookie e.cookie) refl

pub IsNext-entry_after : (names : Names) (cookie : ℕ) (next : NamedNode) → AreNames names → entry_after names.entries cookie ≡ Some next
    → IsNext names.entries cookie next
IsNext-entry_after names cookie next are comes = next_of names.entries cookie next are.entries.rising comes

none_above : (e : NamedNode) (entries : List NamedNode) (cookie : ℕ) → entry_after (e ∷ entries) cookie ≡ None
    → (entry_after entries cookie ≡ None → All (λ f. f.cookie ≤ cookie) entries) → (b : Bool) → nat_lt cookie e.cookie ≡ b
    → All (λ f. f.cookie ≤ cookie) (e ∷ entries)
none_above e entries cookie none behind true is = absurd (not_none e (sym (after_first e entries cookie true is) ∙ none))
none_above e entries cookie none behind false is =
    All-cons (λ f. f.cookie ≤ cookie) e entries (ltb-false cookie e.cookie is) (behind (sym (after_first e entries cookie false is) ∙ none))

-- where none comes, no entry's cookie is above this one
pub none-entry_after : (entries : List NamedNode) (cookie : ℕ) → entry_after entries cookie ≡ None → All (λ e. e.cookie ≤ cookie) entries
none-entry_after [] cookie none = All-nil _
none-entry_after (e ∷ entries) cookie none =
    none_above e entries cookie none (none-entry_after entries cookie) (nat_lt cookie e.cookie) refl
