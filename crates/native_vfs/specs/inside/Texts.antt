-- The texts that a walk still has to read: a path, or the target of a link, and below it those that it interrupted.
use Rattle.std.specs.Prelude.{◌≡◌, ◌≤◌, ◌<◌, slice_index, ℕ, Bool, false, ◌==◌, List, [], ◌∷◌, ◌++◌, length, map, All}
use Rattle.std.specs.Borrow.{Bor}
use Rattle.std.specs.List.{list_any}
use Rattle.kernel_core.specs.PathWalk.{components, begins_with_slash}

abbrev pub is_slash : ℕ → Bool
is_slash byte = byte == 47

abbrev pub is_nul : ℕ → Bool
is_nul byte = byte == 0

abbrev pub AreBytes : List ℕ → Type 0
AreBytes text = (place : ℕ) → slice_index text place < 256

abbrev pub texts : List (Bor (List ℕ)) → List (List ℕ)
texts references = map (λ t. t.now) references

-- the components of texts of which the last one is read first
unfoldable pub stacked : List (List ℕ) → List (List ℕ)
stacked [] = []
stacked (bottom ∷ above) = stacked above ++ components bottom

-- a text without NUL that does not begin with a slash
pub record IsTrimmed (text : List ℕ) : Type 0 where
  pub begins : begins_with_slash text ≡ false
  pub plain : list_any is_nul text ≡ false

pub record IsLater (text : List ℕ) : Type 0 where
  pub some : 1 ≤ length text
  pub trimmed : IsTrimmed text

-- the text that is read, which is empty only where no other is left, and the others, each of which has a component
pub record AreTexts (text : List ℕ) (later : List (List ℕ)) : Type 0 where
  pub top : IsTrimmed text
  pub each : All IsLater later
  pub ends : text ≡ [] → later ≡ []
