-- The files of a store, as a map from names to bytes where it tells them. A store that tells none tells none later on either. This project's own.
use Rattle.std.specs.Prelude.{◌≡◌, ◌≢◌, ◌⊎◌, ℕ, ◌<◌, ◌≤◌, List, [], ◌++◌, length, Option, None, Some, Result, Ok, Err, ⊤}
use Rattle.outside.specs.Output.{IsPrefix}
use Rattle.outside.specs.declared.errors.LoadError.{LoadError}
use Rattle.outside.specs.declared.errors.LoadError.TheVariants as answers

-- the bytes of the file of a name, None where there is no such file
abbrev pub Files : Type 0
Files = List ℕ → Option (List ℕ)

-- the file of this name has these bytes
abbrev pub HasFile : Option Files → List ℕ → List ℕ → Type 0
HasFile None name bytes = ⊤
HasFile (Some files) name bytes = files name ≡ Some bytes

-- there is no file of this name
abbrev pub HasNoFile : Option Files → List ℕ → Type 0
HasNoFile None name = ⊤
HasNoFile (Some files) name = files name ≡ None

-- the file of this name is longer than the limit
abbrev pub HasLongFile : Option Files → List ℕ → ℕ → Type 0
HasLongFile None name limit = ⊤
HasLongFile (Some files) name limit = (bytes : List ℕ) × (files name ≡ Some bytes) × (limit < length bytes)

-- what an answer to a load of this name says of the file
abbrev pub AnswersLoad : Option Files → List ℕ → ℕ → List ℕ → Result (Unit {0}) LoadError → Type 0
AnswersLoad files name limit into (Ok done) = HasFile files name into × (length into ≤ limit)
AnswersLoad files name limit into (Err answers.Missing) = HasNoFile files name
AnswersLoad files name limit into (Err answers.TooLong) = HasLongFile files name limit
AnswersLoad files name limit into (Err answers.Failed) = ⊤
AnswersLoad files name limit into (Err answers.NoMemory) = ⊤

-- the file of this name went from what P has first to what it has second, and no file of another name changed
abbrev pub ChangesFile : Option Files → Option Files → List ℕ → (Option (List ℕ) → Option (List ℕ) → Type 0) → Type 0
ChangesFile None new name P = new ≡ None
ChangesFile (Some old) None name P = ⊥
ChangesFile (Some old) (Some new) name P = P (old name) (new name) × ((other : List ℕ) → other ≢ name → new other ≡ old other)

-- the file is there and empty
abbrev pub IsEmptied : Option (List ℕ) → Option (List ℕ) → Type 0
IsEmptied before after = after ≡ Some []

-- the file stands as it was, or is there and empty
abbrev pub IsUnchangedOrEmptied : Option (List ℕ) → Option (List ℕ) → Type 0
IsUnchangedOrEmptied before after = (after ≡ before) ⊎ (after ≡ Some [])

-- the bytes were added at the end of the file, which was there
abbrev pub Gains : List ℕ → Option (List ℕ) → Option (List ℕ) → Type 0
Gains bytes before after = (text : List ℕ) × (before ≡ Some text) × (after ≡ Some (text ++ bytes))

-- a prefix of the bytes was added at the end of the file, which was there
abbrev pub GainsPart : List ℕ → Option (List ℕ) → Option (List ℕ) → Type 0
GainsPart bytes before after = (part : List ℕ) × IsPrefix part bytes × Gains part before after
