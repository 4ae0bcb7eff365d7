-- What two steps add together.
use Rattle.std.proofs.Common.{◌≡◌, ℕ, List, [], ◌++◌, Option, None, Some, refl, append_assoc, ap, sym, ◌∙◌, append-nil}
use Rattle.outside.specs.Output.{with_text, GainsText, GainsBetween, IsPrefix}

-- a text is a prefix of itself
pub IsPrefix-refl : (text : List ℕ) → IsPrefix text text
IsPrefix-refl text = record { rest = []; whole = append-nil text }

-- the empty text is a prefix of each
pub IsPrefix-empty : (text : List ℕ) → IsPrefix [] text
IsPrefix-empty text = record { rest = text; whole = refl }

pub IsPrefix-trans : {front middle text : List ℕ} → IsPrefix front middle → IsPrefix middle text → IsPrefix front text
IsPrefix-trans {front} {middle} {text} p q =
    record { rest = p.rest ++ q.rest; whole = sym (append_assoc front p.rest q.rest) ∙ ap (λ xs. xs ++ q.rest) p.whole ∙ q.whole }

-- more at the end of the whole text
pub IsPrefix-longer : {front text : List ℕ} (more : List ℕ) → IsPrefix front text → IsPrefix front (text ++ more)
IsPrefix-longer {front} {text} more p =
    record { rest = p.rest ++ more; whole = sym (append_assoc front p.rest more) ∙ ap (λ xs. xs ++ more) p.whole }

-- the same before both
pub IsPrefix-after : {front text : List ℕ} (before : List ℕ) → IsPrefix front text → IsPrefix (before ++ front) (before ++ text)
IsPrefix-after {front} {text} before p =
    record { rest = p.rest; whole = append_assoc before front p.rest ∙ ap (λ xs. before ++ xs) p.whole }

-- nothing was added
pub GainsText-nothing : (old : Option (List ℕ)) → GainsText old old []
GainsText-nothing None = record { after = refl }
GainsText-nothing (Some text) = record { after = ap Some (sym (append-nil text)) }

with_text-twice : (text : Option (List ℕ)) (first second : List ℕ) → with_text (with_text text first) second ≡ with_text text (first ++ second)
with_text-twice None first second = refl
with_text-twice (Some text) first second = ap Some (append_assoc text first second)

-- one text was added, and then another
pub GainsText-then : {old middle new : Option (List ℕ)} {first second : List ℕ} → GainsText old middle first → GainsText middle new second → GainsText old new (first ++ second)
GainsText-then {old} {middle} {new} {first} {second} p q =
    record { after = q.after ∙ ap (λ text. with_text text second) p.after ∙ with_text-twice old first second }

-- exactly this was added, so between it and it
pub GainsBetween-exact : {old new : Option (List ℕ)} {text : List ℕ} → GainsText old new text → GainsBetween old new text text
GainsBetween-exact {old} {new} {text} p = record { more = text; at_least = IsPrefix-refl text; at_most = IsPrefix-refl text; gained = p }

-- nothing was added, of any text
pub GainsBetween-nothing : (old : Option (List ℕ)) (high : List ℕ) → GainsBetween old old [] high
GainsBetween-nothing old high = record { more = []; at_least = IsPrefix-refl []; at_most = IsPrefix-empty high; gained = GainsText-nothing old }

-- a text was added, and then a part of another
pub GainsBetween-after : {old middle new : Option (List ℕ)} {text low high : List ℕ} → GainsText old middle text → GainsBetween middle new low high → GainsBetween old new (text ++ low) (text ++ high)
GainsBetween-after {old} {middle} {new} {text} {low} {high} p q =
    record { more = text ++ q.more; at_least = IsPrefix-after text q.at_least; at_most = IsPrefix-after text q.at_most; gained = GainsText-then p q.gained }

-- the same, where the part may be empty
pub GainsBetween-part : {old middle new : Option (List ℕ)} {text high : List ℕ} → GainsText old middle text → GainsBetween middle new [] high → GainsBetween old new text (text ++ high)
GainsBetween-part {old} {middle} {new} {text} {high} p q =
    record { more = text ++ q.more; at_least = record { rest = q.more; whole = refl }; at_most = IsPrefix-after text q.at_most; gained = GainsText-then p q.gained }

-- a lesser lower bound
pub GainsBetween-lower : {old new : Option (List ℕ)} {low high : List ℕ} {less : List ℕ} → IsPrefix less low → GainsBetween old new low high → GainsBetween old new less high
GainsBetween-lower p q = record { more = q.more; at_least = IsPrefix-trans p q.at_least; at_most = q.at_most; gained = q.gained }

-- a greater upper bound
pub GainsBetween-raise : {old new : Option (List ℕ)} {low high : List ℕ} {greater : List ℕ} → GainsBetween old new low high → IsPrefix high greater → GainsBetween old new low greater
GainsBetween-raise q p = record { more = q.more; at_least = q.at_least; at_most = IsPrefix-trans q.at_most p; gained = q.gained }

-- more at the end of the upper bound
pub GainsBetween-longer : {old new : Option (List ℕ)} {low high : List ℕ} (more : List ℕ) → GainsBetween old new low high → GainsBetween old new low (high ++ more)
GainsBetween-longer more q = record { more = q.more; at_least = q.at_least; at_most = IsPrefix-longer more q.at_most; gained = q.gained }
