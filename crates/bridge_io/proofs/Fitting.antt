-- What rows give: numbers that a register holds, and no more bytes than there is room for.
use Rattle.std.proofs.Common.{◌≡◌, ℕ, ◌+◌, ◌<◌, ◌≤◌, Option, Some, None, List, length, refl, arith, lit<, length-drop, Ok, Err}
use Rattle.std.specs.Prelude.{⊤, ℤ, pos, int_lt, nat_abs, Bool, true, false, min, position, drop, is_none, option_map, if◌then◌else◌, ◌==◌}
use Rattle.std.proofs.lemmas.List.Quantifiers.{position-Some}
use Rattle.kernel_core.specs.declared.error.Errno.{Errno}
use Rattle.kernel_core.specs.declared.error.Errno.TheVariants.{EINVAL, ESPIPE}
use Rattle.kernel_model.specs.Descriptions.{node_of}
use Rattle.kernel_model.specs.declared.descriptor.Object.{Object}
use Rattle.kernel_model.specs.Came.{Came, Done, Refused, Waits, Did, Given, refused_if, with_some, with_given, came_as}
use Rattle.kernel_model.specs.Table.{lowest_free}
use Rattle.kernel_model.specs.Transfers.{at_place, transferring, transfer_limit}
use Rattle.bridge_log.proofs.Replies.{Fits}
use Rattle.bridge_log.specs.Bounds.{Bounded}

pub bounded_some : {S V A : Type 0} (P : V → Type 0) (state : S) (error : Errno) (there : Option A) (rest : A → Did S V) → ((a : A) → there ≡ Some a → Bounded P (rest a).came) → Bounded P (with_some state error there rest).came
bounded_some P state error None rest each = tt
bounded_some P state error (Some a) rest each = each a refl

pub bounded_given : {S V A : Type 0} (P : V → Type 0) (state : S) (there : Given A) (rest : A → Did S V) → ((a : A) → Bounded P (rest a).came) → Bounded P (with_given state there rest).came
bounded_given P state (Err error) rest each = tt
bounded_given P state (Ok a) rest each = each a

pub bounded_if : {S V : Type 0} (P : V → Type 0) (wrong : Bool) (error : Errno) (state : S) (rest : Did S V) → Bounded P rest.came → Bounded P (refused_if wrong error state rest).came
bounded_if P true error state rest bounded = tt
bounded_if P false error state rest bounded = bounded

pub bounded_either : {S V : Type 0} (P : V → Type 0) (test : Bool) (one other : Did S V) → Bounded P one.came → Bounded P other.came → Bounded P (if test then one else other).came
bounded_either P true one other first second = first
bounded_either P false one other first second = second

pub bounded_transferring : {S V : Type 0} (P : V → Type 0) (state : S) (asked : Given ℕ) (accessible : ℕ) (none : V) (rest : ℕ → Did S V) → P none → ((most : ℕ) → most ≤ accessible → Bounded P (rest most).came)
    → Bounded P (transferring state asked accessible none rest).came
bounded_transferring P state asked accessible none rest nothing each =
    bounded_given P state asked _ (λ count.
    bounded_either P (count == 0) _ _ nothing
    (bounded_if P (accessible == 0) _ state _ (each (min (min count accessible) transfer_limit) (omega arith))))

pub bounded_at_place : {S V : Type 0} (P : V → Type 0) (state : S) (place : ℤ) (object : Object) (rest : ℕ → ℕ → Did S V) → ((at node : ℕ) → Bounded P (rest at node).came) → Bounded P (at_place state place object rest).came
bounded_at_place P state place object rest each =
    bounded_if P (int_lt place (pos 0)) EINVAL state (with_some state ESPIPE (node_of object) (rest (nat_abs place)))
    (bounded_some P state ESPIPE (node_of object) (rest (nat_abs place)) (λ node _. each (nat_abs place) node))

pub fits_zero : (came : Came (Unit {0})) → Bounded (λ _. ⊤) came → Fits (came_as (λ _. 0) came)
fits_zero (Done found) bounded = lit< tt
fits_zero (Refused error) bounded = tt
fits_zero (Waits wake) bounded = bounded

-- a free place lies below the number of places

free_below : {A : Type 0} (slots : List (Option A)) (from new : ℕ) (at : Option ℕ) → position (λ s. is_none s) (drop from slots) ≡ at → option_map (λ k. from + k) at ≡ Some new → new < length slots
free_below slots from new None found same = absurd cc
free_below slots from new (Some k) found same =
    let inside = (position-Some (λ s. is_none s) (drop from slots) k None found).0 in
    let is : from + k ≡ new = cc in
    omega (arith, length-drop from slots)

pub lowest_below : {A : Type 0} (slots : List (Option A)) (from new : ℕ) → lowest_free slots from ≡ Some new → new < length slots
lowest_below slots from new same = free_below slots from new (position (λ s. is_none s) (drop from slots)) refl same
