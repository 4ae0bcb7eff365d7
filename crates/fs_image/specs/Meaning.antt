-- What the bytes of a file mean as an image: a tree, or the first rule that fails. This project's own format.
use Rattle.std.specs.Prelude.{◌≡◌, ℕ, List, Option, Some, None, Result, Ok, Err}
use Rattle.kernel_core.specs.declared.tree.Tree.{Tree}
use Rattle.fs_image.specs.declared.refusal.ImageRefusal.{ImageRefusal}
use Rattle.fs_image.specs.declared.refusal.ImageError.{ImageError}
use Rattle.fs_image.specs.declared.refusal.ImageError.TheVariants.{Refused, NoMemory}
use Rattle.fs_image.specs.Refusal.{unless}
use Rattle.fs_image.specs.Reading.{◌>>=◌, reading_of}
use Rattle.fs_image.specs.Naming.{naming_failure}

-- the rules of the whole tree come after the reading
unfoldable pub meaning_of : List ℕ → Result Tree ImageRefusal
meaning_of bytes = reading_of bytes >>= λ tree. unless (naming_failure tree) tree

abbrev pub failure_in : {A : Type 0} → Result A ImageRefusal → Option ImageRefusal
failure_in (Ok value) = None
failure_in (Err refusal) = Some refusal

-- the first rule that fails, with its offset; None for the text of a valid tree
abbrev pub first_failure : List ℕ → Option ImageRefusal
first_failure bytes = failure_in (meaning_of bytes)

-- an answer, seen by `view`, is what is meant; want of memory says nothing
abbrev pub Fails : {B : Type 0} → ImageError → Result B ImageRefusal → Type 0
Fails (Refused refusal) meant = meant ≡ Err refusal
Fails NoMemory meant = Unit {0}

abbrev pub GivesBy : {A B : Type 0} → (A → B) → Result A ImageError → Result B ImageRefusal → Type 0
GivesBy view (Ok value) meant = meant ≡ Ok (view value)
GivesBy view (Err error) meant = Fails error meant

abbrev pub Gives : {A : Type 0} → Result A ImageError → Result A ImageRefusal → Type 0
Gives result meant = GivesBy (λ value. value) result meant

-- an error is that of the first rule that fails; want of memory says nothing
abbrev pub IsCause : Option ImageRefusal → ImageError → Type 0
IsCause failure (Refused refusal) = failure ≡ Some refusal
IsCause failure NoMemory = Unit {0}
