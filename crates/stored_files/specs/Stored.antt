-- The store of a session, and what becomes of one of its files. This project's own.
use Rattle.std.specs.Prelude.{ℕ, ◌≡◌, List, [], ◌∷◌, ◌++◌, Option, None, Some}
use Rattle.outside.specs.Files.{Files, ChangesFile, IsUnchangedOrEmptied}
use Rattle.outside.specs.Output.{IsPrefix}
use Rattle.outside.specs.Turned.{TurnedLoad}

-- what is seen of a store: its files, the names of those that it made, the names of the loads that it answered, the loads that it turned away,
-- and its count of faulty writes
pub record Stored : Type 0 where
  pub files : Option Files
  pub created : List (List ℕ)
  pub loads : List (List ℕ)
  pub turned : List TurnedLoad
  pub write_faults : ℕ

abbrev pub stored_of : {F : Type 0} → (F → Option Files) → (F → List (List ℕ)) → (F → List (List ℕ)) → (F → List TurnedLoad) → (F → ℕ) → F → Stored
stored_of files created loads turned write_faults store = record {
  files = files store;
  created = created store;
  loads = loads store;
  turned = turned store;
  write_faults = write_faults store;
}

-- the file has this text
abbrev pub HasText : List ℕ → Option (List ℕ) → Option (List ℕ) → Type 0
HasText text before after = after ≡ Some text

-- the file of this name was made and has this text, and every other stands as it was
pub record SavesText (name text : List ℕ) (old new : Stored) : Type 0 where
  pub files : ChangesFile old.files new.files name (HasText text)
  pub created : new.created ≡ old.created ++ name ∷ []
  pub loads : new.loads ≡ old.loads
  pub turned : new.turned ≡ old.turned

-- the file was made and has a text of this form
abbrev pub WritesText : List ℕ → (List ℕ → Type 0) → Stored → Stored → Type 0
WritesText name HasForm old new = (text : List ℕ) × HasForm text × SavesText name text old new

-- the file was not made: it stands as it was or is empty, and every other stands
pub record IsUnmade (name : List ℕ) (old new : Stored) : Type 0 where
  pub files : ChangesFile old.files new.files name IsUnchangedOrEmptied
  pub created : new.created ≡ old.created
  pub loads : new.loads ≡ old.loads
  pub turned : new.turned ≡ old.turned

-- what becomes of a file where one is named; where none is, the store stands
abbrev pub IfNamed : Option (List ℕ) → (List ℕ → Stored → Stored → Type 0) → Stored → Stored → Type 0
IfNamed None Becomes old new = new ≡ old
IfNamed (Some name) Becomes old new = Becomes name old new

-- the first text, and a part of the second behind it
abbrev pub IsPartly : List ℕ → List ℕ → List ℕ → Type 0
IsPartly first more text = (part : List ℕ) × IsPrefix part more × (text ≡ first ++ part)
