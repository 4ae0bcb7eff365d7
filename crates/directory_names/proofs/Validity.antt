-- The names stay names that a directory may have.
use Rattle.std.proofs.Common.{◌≡◌, ℕ, ◌<◌, ◌≤◌, Bool, true, false, cond, not, ◌||◌, List, [], ◌∷◌, ◌++◌, map, All, None, Some, refl, sym, subst, arith}
use Rattle.std.specs.List.{IsDistinct, find, list_any}
use Rattle.std.specs.List.Sorted.{IsStrictlySortedBy}
use Rattle.std.specs.Option.{option_map}
use Rattle.std.specs.Ordering.{nat_cmp}
use Rattle.std.specs.Str.{bytes_eq}
use Rattle.std.proofs.lemmas.Cmp.{nat_list_eq_equiv}
use Rattle.std.proofs.lemmas.List.{map-append}
use Rattle.std.proofs.lemmas.List.Elements.{All-nil, All-push, All-weaker, All-map, All-filter}
use Rattle.std.proofs.lemmas.Map.Keys.{IsDistinct-push}
use Rattle.kernel_core.specs.declared.tree.DirEntry.{DirEntry}
use Rattle.kernel_core.specs.ValidTree.{IsName, IsEntry, AreEntries, greatest_cookie}
use Rattle.directory_names.specs.declared.entry.NodeRef.{NodeRef}
use Rattle.directory_names.specs.Names.{NamedNode, Names, AreNames, plain, node_of, find_name, with_entry, without}
use Rattle.directory_names.proofs.Lists.{rising-push, rising-filter, distinct-filter}
use Rattle.directory_names.proofs.PlainLemmas.{plain-with_entry, plain-without}

-- no entry
pub AreNames-none : (spare : ℕ) → AreNames (record { greatest = 2; spare = spare; entries = [] })
unfolding IsStrictlySortedBy IsDistinct
AreNames-none spare = record {
  low = omega arith;
  high = omega arith;
  had = All-nil _;
  entries = record { each = All-nil _; rising = tt; distinct = tt };
}

-- how much room there is does not matter
pub AreNames-room : (names : Names) (spare : ℕ) → AreNames names → AreNames (record names { spare = spare })
AreNames-room names spare are = record { low = are.low; high = are.high; had = are.had; entries = are.entries }

not_none : {T : Type 0} (x : T) → Some x ≡ None → ⊥
not_none x h = cc

-- a name that stands for no node is no entry's
absent_name : (entries : List NamedNode) (name : List ℕ) → find_name entries name ≡ None → list_any (bytes_eq name) (map (λ e. e.name) (map plain entries)) ≡ false
absent_name [] name none = refl
absent_name (e ∷ entries) name none =
    elim (bytes_eq name e.name) as (λ b. option_map node_of (cond b (Some e) (find (λ f. bytes_eq name f.name) entries)) ≡ None → (b || list_any (bytes_eq name) (map (λ f. f.name) (map plain entries))) ≡ false) [
      | true ↦ λ is. absurd (not_none (node_of e) is)
      | false ↦ λ is. absent_name entries name is
    ] none

-- an entry more at the end of entries that a tree may have
entries-push : (entries : List DirEntry) (new : DirEntry) → AreEntries entries → IsEntry new
    → All (λ e. e.cookie < new.cookie) entries → list_any (bytes_eq new.name) (map (λ e. e.name) entries) ≡ false
    → AreEntries (entries ++ new ∷ [])
entries-push entries new are is below absent = record {
  each = All-push IsEntry entries new are.each is;
  rising = subst (IsStrictlySortedBy nat_cmp) (sym (map-append (λ e. e.cookie) entries (new ∷ [])))
      (rising-push (map (λ e. e.cookie) entries) new.cookie are.rising (All-map (λ k. k < new.cookie) (λ e. e.cookie) entries below));
  distinct = subst (IsDistinct bytes_eq) (sym (map-append (λ e. e.name) entries (new ∷ [])))
      (IsDistinct-push nat_list_eq_equiv (map (λ e. e.name) entries) new.name are.distinct absent);
}

-- a new entry above all cookies
pub AreNames-with_entry : (names : Names) (cookie : ℕ) (name : List ℕ) (node : NodeRef) → AreNames names
    → names.greatest < cookie → cookie ≤ greatest_cookie → IsName name → find_name names.entries name ≡ None
    → AreNames (with_entry names cookie name node)
AreNames-with_entry names cookie name node are above within is none =
    let new : DirEntry = record { cookie = cookie; name = name; node = node.number } in
    let below : All (λ e. e.cookie < cookie) names.entries =
    All-weaker (λ e. e.cookie ≤ names.greatest) (λ e. e.cookie < cookie) (λ e h. omega (arith, h, above)) names.entries are.had in
    record {
      low = omega (arith, are.low, above);
      high = within;
      had = All-push (λ e. e.cookie ≤ cookie) names.entries _ (All-weaker (λ e. e.cookie < cookie) (λ e. e.cookie ≤ cookie) (λ e h. omega (arith, h)) names.entries below) (omega arith);
      entries = subst AreEntries (sym (plain-with_entry names cookie name node))
          (entries-push (map plain names.entries) new are.entries
          (record { low = omega (arith, are.low, above); high = within; name = is })
          (All-map (λ e. e.cookie < cookie) plain names.entries below) (absent_name names.entries name none));
    }

-- a removal
pub AreNames-without : (names : Names) (name : List ℕ) → AreNames names → AreNames (without names name)
AreNames-without names name are =
    let test : DirEntry → Bool = λ e. not (bytes_eq name e.name) in
    let entries : List DirEntry = map plain names.entries in
    record {
      low = are.low;
      high = are.high;
      had = All-filter _ (λ e. e.cookie ≤ names.greatest) names.entries are.had;
      entries = subst AreEntries (sym (plain-without names name)) (record {
        each = All-filter test IsEntry entries are.entries.each;
        rising = rising-filter (λ e. e.cookie) test nat_cmp entries are.entries.rising;
        distinct = distinct-filter (λ e. e.name) test bytes_eq entries are.entries.distinct;
      });
    }

-- names are the same where their three parts are
pub same_names : {g h s t : ℕ} {es fs : List NamedNode} → g ≡ h → s ≡ t → es ≡ fs
    → ◌≡◌ {A = Names} (record { greatest = g; spare = s; entries = es }) (record { greatest = h; spare = t; entries = fs })
same_names greatest spare entries i = record { greatest = greatest i; spare = spare i; entries = entries i }
