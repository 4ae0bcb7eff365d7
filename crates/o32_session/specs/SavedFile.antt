-- What becomes of the files of a store, by the words and the end alone. This project's own.
use Rattle.std.specs.Prelude.{ℕ, ◌≡◌, ◌⊎◌, List, Option, Some, None}
use Rattle.outside.specs.Files.{Files, ChangesFile}
use Rattle.outside.specs.Output.{IsPrefix}
use Rattle.kernel_core.specs.ValidTree.{IsValidTree}
use Rattle.kernel_core.specs.declared.tree.Tree.{Tree}
use Rattle.fs_image.specs.Text.{text_of}
use Rattle.o32_session.specs.Words.{Command, Reading, Asks, ReplayCommand, RunCommand, SoakCommand, WrongAt, command_of, read_words}
use Rattle.session_files.specs.Inputs.{Names, names_of}
use Rattle.session_files.specs.declared.end.End.{End}
use Rattle.session_files.specs.declared.end.End.TheVariants.{Exited, Killed, Budget, Blocked, Soaked, Replayed, Refused, Diverged, ReadFault, WriteFault, NoMemory}

-- the file has the text of a valid tree
abbrev pub HasTreeText : Option (List ℕ) → Type 0
HasTreeText after = (tree : Tree) × IsValidTree tree × (after ≡ Some (text_of tree))

-- the file stands as it was, or has a first part of the text of a tree
abbrev pub StandsOrHasPart : Option (List ℕ) → Option (List ℕ) → Type 0
StandsOrHasPart before after = (after ≡ before) ⊎ ((tree : Tree) × (part : List ℕ) × IsPrefix part (text_of tree) × (after ≡ Some part))

-- what an end says of the file of `--save`, before and after
abbrev pub IsFileAfter : End → Option (List ℕ) → Option (List ℕ) → Type 0
IsFileAfter (Exited status) before after = HasTreeText after
IsFileAfter (Killed signal) before after = HasTreeText after
IsFileAfter Budget before after = HasTreeText after
IsFileAfter Blocked before after = HasTreeText after
IsFileAfter (Soaked finish) before after = after ≡ before
IsFileAfter (Replayed finish) before after = after ≡ before
IsFileAfter (Diverged turn wanted found) before after = after ≡ before
IsFileAfter (Refused given) before after = after ≡ before
IsFileAfter ReadFault before after = after ≡ before
IsFileAfter WriteFault before after = StandsOrHasPart before after
IsFileAfter NoMemory before after = StandsOrHasPart before after

-- the file stands as it was, or is there
abbrev pub StandsOrIsThere : Option (List ℕ) → Option (List ℕ) → Type 0
StandsOrIsThere before after = (after ≡ before) ⊎ ((text : List ℕ) × (after ≡ Some text))

-- what an end says of the file of `--trace`, of that of `--native` and of that of `--journal`, before and after
abbrev pub IsTextAfter : End → Option (List ℕ) → Option (List ℕ) → Type 0
IsTextAfter (Exited status) before after = (text : List ℕ) × (after ≡ Some text)
IsTextAfter (Killed signal) before after = (text : List ℕ) × (after ≡ Some text)
IsTextAfter Budget before after = (text : List ℕ) × (after ≡ Some text)
IsTextAfter Blocked before after = (text : List ℕ) × (after ≡ Some text)
IsTextAfter (Soaked finish) before after = after ≡ before
IsTextAfter (Replayed finish) before after = after ≡ before
IsTextAfter (Diverged turn wanted found) before after = after ≡ before
IsTextAfter (Refused given) before after = after ≡ before
IsTextAfter ReadFault before after = StandsOrIsThere before after
IsTextAfter WriteFault before after = StandsOrIsThere before after
IsTextAfter NoMemory before after = StandsOrIsThere before after

abbrev pub TextsTo : Option (List ℕ) → End → Option Files → Option Files → Type 0
TextsTo None end old new = new ≡ old
TextsTo (Some name) end old new = ChangesFile old new name (IsTextAfter end)

-- and but for these no file changes
abbrev pub SavesTo : Option (List ℕ) → End → Option Files → Option Files → Type 0
SavesTo None end old new = new ≡ old
SavesTo (Some name) end old new = ChangesFile old new name (IsFileAfter end)

-- what becomes of the files of these names: first of that of the trace, then of those of the native log and of the journal, and last of the one
-- that is saved
abbrev pub WritesFiles : Names → End → Option Files → Option Files → Type 0
WritesFiles names end old new =
    (traced : Option Files)
    × (logged : Option Files)
    × (kept : Option Files)
    × TextsTo names.trace end old traced
    × TextsTo names.native end traced logged
    × TextsTo names.journal end logged kept
    × SavesTo names.save end kept new

abbrev pub SavesReading : List (List ℕ) → Reading → End → Option Files → Option Files → Type 0
SavesReading words (WrongAt word) end old new = new ≡ old
SavesReading words (Asks line) end old new = WritesFiles (names_of words line) end old new

-- a replay changes no file, and neither does the soak program's run
abbrev pub SavesCommand : Command → List (List ℕ) → End → Option Files → Option Files → Type 0
SavesCommand RunCommand words end old new = SavesReading words (read_words words) end old new
SavesCommand ReplayCommand words end old new = new ≡ old
SavesCommand SoakCommand words end old new = new ≡ old

abbrev pub SavesWords : List (List ℕ) → End → Option Files → Option Files → Type 0
SavesWords words end old new = SavesCommand (command_of words) words end old new
