-- The map that keeps the names, with the order of their cookies, as one list of entries.
use Rattle.std.specs.Prelude.{◌≡◌, ℕ, ◌==◌, min, Bool, true, false, All, List, [], ◌∷◌, ◌++◌, slice_get, Option, Some, Vec, option_map}
use Rattle.std.specs.List.{IsDistinct}
use Rattle.std.specs.Map.{lookup, keys_of}
use Rattle.std.specs.Option.{option_to_list}
use Rattle.std.specs.Str.{bytes_eq}
use Rattle.directory_names.specs.declared.entry.Place.{Place}
use Rattle.directory_names.specs.Names.{NamedNode}

-- a name of the map with what stands at it
abbrev pub named : {A : Type 0} → Vec ℕ A × Place → NamedNode
named (name, place) =
    record { cookie = place.cookie; name = name.items; number = place.node.number; key = place.node.key }

-- the entries by the order of their seats
abbrev pub listed : {A : Type 0} → List (Vec ℕ A × Place) → List (ℕ × ℕ) → List NamedNode
listed names [] = []
listed names (seat ∷ seats) = option_to_list (option_map named (slice_get names seat.1)) ++ listed names seats

-- for how many more entries there is room: one at most
abbrev pub room : Bool → ℕ → ℕ
room true spare = min 1 spare
room false spare = 0

-- the entry at the seat's index has the seat's cookie
abbrev pub IsSeat : {A : Type 0} → List (Vec ℕ A × Place) → ℕ × ℕ → Type 0
IsSeat names seat = option_map (λ e. e.1.cookie) (slice_get names seat.1) ≡ Some seat.0

-- Names and seats that belong together: each seat is an entry's, each entry has a seat, and the names differ.
pub record Agree {A : Type 0} (names : List (Vec ℕ A × Place)) (seats : List (ℕ × ℕ)) : Type 0 where
  pub are_seats : All (IsSeat names) seats
  pub are_seated : (index : ℕ) (e : Vec ℕ A × Place) → slice_get names index ≡ Some e → lookup (λ cookie. e.1.cookie == cookie) seats ≡ Some index
  pub distinct : IsDistinct (λ x y. bytes_eq x.items y.items) (keys_of names)
