-- The names of one directory as contracts see them: its entries in the order in which they were made, and what a look-up,
-- a new name and a removal make of them. The cookie of an entry is the `d_off` of getdents(2); `.` and `..` have the cookies
-- 1 and 2 and are no entries. That a new entry has the next cookie, and that none is used again, is this project's own rule.
use Rattle.std.specs.Prelude.{ℕ, ◌+◌, ◌≤◌, not, List, [], ◌∷◌, ◌++◌, map, filter, All, Option, option_map, nat_lt, refl}
use Rattle.std.specs.Coded.{Coded, code_by, coded×, coded_ℕ, coded_list}
use Rattle.std.specs.List.{find}
use Rattle.std.specs.Str.{bytes_eq}
use Rattle.kernel_core.specs.declared.tree.DirEntry.{DirEntry}
use Rattle.kernel_core.specs.ValidTree.{AreEntries, greatest_cookie}
use Rattle.directory_names.specs.declared.entry.NodeRef.{NodeRef}
use Rattle.directory_names.specs.declared.entry.EntryView.{EntryView}

-- a name, with the number of the node that it names and the key of that node's place
pub record NamedNode : Type 0 where
  pub cookie : ℕ
  pub name : List ℕ
  pub number : ℕ
  pub key : ℕ

-- A directory's names: the greatest cookie that it ever had, for how many more entries there is room already, and its entries.
pub record Names : Type 0 where
  pub greatest : ℕ
  pub spare : ℕ
  pub entries : List NamedNode

abbrev pub named_node_code : Coded NamedNode
named_node_code =
    code_by (ℕ × (List ℕ × (ℕ × ℕ))) (coded× coded_ℕ (coded× (coded_list coded_ℕ) (coded× coded_ℕ coded_ℕ)))
    (λ e. (e.cookie, (e.name, (e.number, e.key)))) (λ t. record { cookie = t.0; name = t.1.0; number = t.1.1.0; key = t.1.1.1 }) (λ _. refl)

abbrev pub names_code : Coded Names
names_code =
    code_by (ℕ × (ℕ × List NamedNode)) (coded× coded_ℕ (coded× coded_ℕ (coded_list named_node_code)))
    (λ n. (n.greatest, (n.spare, n.entries))) (λ t. record { greatest = t.0; spare = t.1.0; entries = t.1.1 }) (λ _. refl)

-- the entry as a tree has it, which knows no key
abbrev pub plain : NamedNode → DirEntry
plain entry = record { cookie = entry.cookie; name = entry.name; node = entry.number }

-- the names that a directory may have
pub record AreNames (names : Names) : Type 0 where
  pub low : 2 ≤ names.greatest
  pub high : names.greatest ≤ greatest_cookie
  pub had : All (λ e. e.cookie ≤ names.greatest) names.entries
  pub entries : AreEntries (map plain names.entries)

-- the node that an entry names
abbrev pub node_of : NamedNode → NodeRef
node_of entry = record { number = entry.number; key = entry.key }

-- the node of the entry with the name
abbrev pub find_name : List NamedNode → List ℕ → Option NodeRef
find_name entries name = option_map node_of (find (λ e. bytes_eq name e.name) entries)

-- The entry of the least cookie above this one. The entries stand by rising cookie, so it is the first that is above.
abbrev pub entry_after : List NamedNode → ℕ → Option NamedNode
entry_after entries cookie = find (λ e. nat_lt cookie e.cookie) entries

-- an entry as it is shown
abbrev pub shown : EntryView → NamedNode
shown view = record { cookie = view.cookie; name = view.name.now; number = view.node.number; key = view.node.key }

-- the names with one more entry, whose cookie is then the greatest
abbrev pub with_entry : Names → ℕ → List ℕ → NodeRef → Names
with_entry names cookie name node =
    let entry : NamedNode = record { cookie = cookie; name = name; number = node.number; key = node.key } in
    record names { greatest = cookie; entries = names.entries ++ entry ∷ [] }

-- the names with a new one: its cookie is the next that the directory never had
abbrev pub added : Names → List ℕ → NodeRef → Names
added names name node = with_entry names (names.greatest + 1) name node

-- the names without this one, where it is there; its cookie stays used
abbrev pub without : Names → List ℕ → Names
without names name = record names { entries = filter (λ e. not (bytes_eq name e.name)) names.entries }
