-- The key that a name leads to, against the number that it names.
use Rattle.std.proofs.Common.{◌≡◌, ℕ, Bool, true, false, List, [], ◌∷◌, Option, Some, None, is_some, cond, refl, ◌∙◌, ap}
use Rattle.std.proofs.lemmas.List.Elements.{All-head, All-tail}
use Rattle.std.specs.Prelude.{option_map, if◌then◌else◌, All, codes, find}
use Rattle.std.specs.Option.{unwrap_or}
use Rattle.std.specs.Str.{bytes_eq}
use Rattle.kernel_core.specs.Nodes.{entry_named}
use Rattle.kernel_core.specs.PathWalk.{named}
use Rattle.directory_names.specs.Names.{NamedNode, find_name, node_of}
use Rattle.directory_names.specs.declared.entry.NodeRef.{NodeRef}
use Rattle.native_vfs.specs.Keyed.{Keyed, IsLiveKey, number_at, AreLiveKeys}
use Rattle.native_vfs.specs.inside.Stored.{listing_of, number_of}
use Rattle.native_vfs.specs.inside.Walking.{LeadsTo, OptionLeadsTo, DirectoryLeadsTo, named_key, key_of}
use Rattle.native_vfs.specs.declared.stored.StoredDirectory.{StoredDirectory}
use Rattle.native_vfs.proofs.tables.Names.{found-named}

reference-number : (system : Keyed) (reference : NodeRef) → LeadsTo system reference → number_at system reference.key ≡ reference.number
reference-number system reference leads = ap (λ o. unwrap_or o 0) leads

option-number : (system : Keyed) (o : Option NodeRef) → OptionLeadsTo system o → option_map (number_at system) (option_map key_of o) ≡ option_map number_of o
option-number system None leads = refl
option-number system (Some reference) leads = ap (λ n. Some n) (reference-number system reference leads)

option-live : (system : Keyed) (o : Option NodeRef) → OptionLeadsTo system o → AreLiveKeys system (option_map key_of o)
option-live system None leads = leads
option-live system (Some reference) leads = ap is_some leads

find-leads :
    (system : Keyed) (entries : List NamedNode) (name : List ℕ) → All (λ e. LeadsTo system (record { number = e.number; key = e.key })) entries →
    OptionLeadsTo system (find_name entries name)
find-leads system [] name leads = tt
find-leads system (e ∷ entries) name leads =
    by (bytes_eq name e.name) (find-leads system entries name (All-tail (λ e. LeadsTo system (record { number = e.number; key = e.key })) e entries leads))
  where
    by : (same : Bool) → OptionLeadsTo system (find_name entries name) →
        OptionLeadsTo system (option_map node_of (cond same (Some e) (find (λ x. bytes_eq name x.name) entries)))
    by true later = All-head (λ e. LeadsTo system (record { number = e.number; key = e.key })) e entries leads
    by false later = later

pub named-number :
    (system : Keyed) (at : ℕ) (directory : StoredDirectory) (name : List ℕ) → DirectoryLeadsTo system directory →
    option_map (number_at system) (named_key at directory name) ≡ named (number_at system at) (listing_of directory) name
named-number system at directory [] leads = refl
named-number system at directory (byte ∷ bytes) leads =
    by (bytes_eq (byte ∷ bytes) (codes ".")) (bytes_eq (byte ∷ bytes) (codes ".."))
  where
    by : (dot dots : Bool) →
        option_map (number_at system) (if dot then Some at else (if dots then option_map key_of directory.parent else option_map key_of (find_name directory.names.entries (byte ∷ bytes))))
        ≡ (if dot then Some (number_at system at) else (if dots then (listing_of directory).parent else option_map (λ e. e.node) (entry_named (listing_of directory).entries (byte ∷ bytes))))
    by true dots = refl
    by false true = option-number system directory.parent leads.parent
    by false false =
        option-number system (find_name directory.names.entries (byte ∷ bytes)) (find-leads system directory.names.entries (byte ∷ bytes) leads.names)
        ∙ found-named directory.names.entries (byte ∷ bytes)

pub named-live :
    (system : Keyed) (at : ℕ) (directory : StoredDirectory) (name : List ℕ) → IsLiveKey system at → DirectoryLeadsTo system directory →
    AreLiveKeys system (named_key at directory name)
named-live system at directory [] live leads = live
named-live system at directory (byte ∷ bytes) live leads =
    by (bytes_eq (byte ∷ bytes) (codes ".")) (bytes_eq (byte ∷ bytes) (codes ".."))
  where
    by : (dot dots : Bool) →
        AreLiveKeys system (if dot then Some at else (if dots then option_map key_of directory.parent else option_map key_of (find_name directory.names.entries (byte ∷ bytes))))
    by true dots = live
    by false true = option-live system directory.parent leads.parent
    by false false = option-live system (find_name directory.names.entries (byte ∷ bytes)) (find-leads system directory.names.entries (byte ∷ bytes) leads.names)
