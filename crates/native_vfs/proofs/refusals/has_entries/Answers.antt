use Rattle.std.proofs.Common.{◌≡◌, Bool, false, not, Bor, Option, Some, None, ap, ◌∙◌, rules}
use Rattle.std.specs.Prelude.{option_map, MatchOption}
use Rattle.kernel_core.specs.NameCalls.{is_empty_list}
use Rattle.kernel_core.specs.Nodes.{Listing, entries_in}
use Rattle.native_vfs.specs.inside.Stored.{listing_of}
use Rattle.native_vfs.specs.declared.stored.StoredDirectory.{StoredDirectory}
use Rattle.native_vfs.proofs.tables.Reasons.{entries-there}
use Rattle.native_vfs.proofs.refusals.has_entries.Goals as goal

-- what is said of the directory where there is one
by-directory : (o : Option Listing) (d : Option (Bor StoredDirectory)) (has : Bool) (Said : Bor StoredDirectory → Type 0) → option_map (λ d. listing_of d.now) d ≡ o
    → MatchOption d (has ≡ false) Said → ((directory : Bor StoredDirectory) → Some (listing_of directory.now) ≡ o → Said directory → has ≡ not (is_empty_list (entries_in o)))
    → has ≡ not (is_empty_list (entries_in o))
by-directory o None has Said listing none some = none ∙ ap (λ l. not (is_empty_list (entries_in l))) listing
by-directory o (Some directory) has Said listing said some = some directory listing said

pub returns : goal.returns
returns c = by-directory _ c.directory.result c.is_some_and.result _ c.directory.ensures.listing c.is_some_and.ensures (λ directory listing said. search (rules, entries-there))
