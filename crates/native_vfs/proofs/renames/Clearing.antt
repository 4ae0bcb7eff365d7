-- What stood under a name that is to stand for another node.
use Rattle.std.proofs.Common.{◌≡◌, ◌≢◌, ℕ, Bool, true, false, cond, ℤ, Some, is_some, sym, ap, subst, ◌∙◌}
use Rattle.std.specs.FinMap.{get}
use Rattle.kernel_core.specs.FileSystem.{IsFileSystem}
use Rattle.kernel_core.specs.NameCalls.{after_unlink, after_rmdir, replace_name, has_entries, is_no_entry}
use Rattle.kernel_core.specs.Nodes.{is_directory}
use Rattle.kernel_core.specs.PathWalk.{Place}
use Rattle.file_system_laws.proofs.Places.{Stands, stands_of, stands_of_file, not_itself}
use Rattle.file_system_laws.proofs.Tallies.{own, IsTree, opened}
use Rattle.native_vfs.specs.Keyed.{AgreesAt, KeepsKeys, place_at}
use Rattle.native_vfs.specs.inside.Removals.{IsLoss}
use Rattle.native_vfs.specs.inside.Renames.{MayGive, IsCleared}
use Rattle.native_vfs.specs.inside.Stored.{Table, nodes_of, keyed_of, number_of_key, HasDistinctNumbers}
use Rattle.native_vfs.specs.declared.place.Place.{Place as KeyedPlace}
use Rattle.native_vfs.proofs.removals.Stages.{placed, named-node}
use Rattle.native_vfs.proofs.tables.Tables.{number_at-table, key-found, node-there}

-- a table that stays as it is keeps its keys
pub keeps-same : (table : Table) → HasDistinctNumbers table → KeepsKeys (keyed_of table) (keyed_of table)
unfolding keyed_of
keeps-same table distinct key number = (
  λ found. (found, let f = key-found table key number found in ap (λ n. is_some (get (nodes_of table) n)) (sym f.2) ∙ ap is_some (node-there table key f.0 distinct f.1)),
  λ both. both.0,
)

pub cleared-none : (table : Table) (directory : ℕ) → HasDistinctNumbers table → IsCleared table table directory
cleared-none table directory distinct = record { keys = keeps-same table distinct; leads = λ reference lead live. lead; room = λ room. room }

pub cleared-loss : (old new : Table) (node directory : ℕ) → IsLoss old new node → directory ≢ node → IsCleared old new directory
cleared-loss old new node directory loss apart = record { keys = loss.keys; leads = loss.leads; room = loss.room directory apart }

module _ (table : Table) (system : IsFileSystem (nodes_of table)) (at : KeyedPlace) (agrees : AgreesAt (keyed_of table) at) (old : ℕ) (is : at.node ≡ Some old) where
  abbrev place : Place
  place = place_at (keyed_of table) at

  abbrev tree : IsTree (own (nodes_of table)) (nodes_of table)
  tree = opened (nodes_of table) system

  key_apart : Stands (nodes_of table) place.directory at.name (number_of_key table old) → at.dir ≢ old
  key_apart s same =
      not_itself (nodes_of table) tree place.directory at.name (number_of_key table old) s (ap (number_of_key table) (sym same) ∙ sym (number_at-table table at.dir))

  -- the name's directory is not what goes
  pub file-apart : is_directory (nodes_of table) (number_of_key table old) ≡ false → at.dir ≢ old
  file-apart plain = key_apart (stands_of_file (nodes_of table) tree place (number_of_key table old) (placed table at agrees) (named-node table at agrees old is) plain)

  pub directory-apart : is_no_entry at.name ≡ false → at.dir ≢ old
  directory-apart proper = key_apart (stands_of (nodes_of table) place (number_of_key table old) (placed table at agrees) (named-node table at agrees old is) proper)

  pub gives-empty : MayGive (nodes_of table) place.node → is_directory (nodes_of table) (number_of_key table old) ≡ true → has_entries (nodes_of table) (number_of_key table old) ≡ false
  gives-empty gives = subst (MayGive (nodes_of table)) (named-node table at agrees old is) gives

  module _ (now : ℤ) where
    by_kind : (b : Bool) → is_directory (nodes_of table) (number_of_key table old) ≡ b
        → replace_name (nodes_of table) place place.node now
        ≡ cond b (after_rmdir (nodes_of table) place (number_of_key table old) now) (after_unlink (nodes_of table) place (number_of_key table old) now)
    by_kind b kind =
        ap (λ o. replace_name (nodes_of table) place o now) (named-node table at agrees old is)
        ∙ ap (λ b. cond b (after_rmdir (nodes_of table) place (number_of_key table old) now) (after_unlink (nodes_of table) place (number_of_key table old) now)) kind

    pub replaces-directory : is_directory (nodes_of table) (number_of_key table old) ≡ true
        → after_rmdir (nodes_of table) place (number_of_key table old) now ≡ replace_name (nodes_of table) place place.node now
    replaces-directory kind = sym (by_kind true kind)

    pub replaces-file : is_directory (nodes_of table) (number_of_key table old) ≡ false
        → after_unlink (nodes_of table) place (number_of_key table old) now ≡ replace_name (nodes_of table) place place.node now
    replaces-file plain = sym (by_kind false plain)
