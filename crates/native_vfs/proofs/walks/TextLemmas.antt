-- The texts that a walk interrupted.
use Rattle.std.proofs.Common.{◌≡◌, ◌≤◌, ℕ, List, [], ◌∷◌, ◌++◌, length, Option, Some, None, refl, sym, ◌∙◌, ap, append_assoc, arith}
use Rattle.std.specs.Prelude.{All, Bool, true, ◌==◌}
use Rattle.std.proofs.lemmas.Bool.{eqb-true}
use Rattle.std.specs.Borrow.{Bor}
use Rattle.std.specs.Option.{unwrap_or, option_to_list}
use Rattle.std.proofs.lemmas.List.{append-nil, map-append}
use Rattle.std.proofs.lemmas.List.{nil_from_length}
use Rattle.std.proofs.lemmas.List.Elements.{All-pop}
use Rattle.kernel_core.specs.PathWalk.{components, components_after}
use Rattle.native_vfs.proofs.walks.Components.{components-first}
use Rattle.native_vfs.specs.inside.Texts.{texts, stacked, IsTrimmed, IsLater, AreTexts}

-- a text is empty where its length is 0
pub is-empty : (empty : Bool) (text : List ℕ) → empty ≡ (length text == 0) → empty ≡ true → text ≡ []
is-empty empty text e h = nil_from_length text (eqb-true (length text) 0 (sym e ∙ h))

pub empty-is : (empty : Bool) (text : List ℕ) → empty ≡ (length text == 0) → text ≡ [] → empty ≡ true
empty-is empty text e h = e ∙ ap (λ t. length t == 0) h

-- the last text comes first
pub stacked-push : (later : List (List ℕ)) (text : List ℕ) → stacked (later ++ text ∷ []) ≡ components text ++ stacked later
unfolding stacked
stacked-push [] text = sym (append-nil (components text))
stacked-push (bottom ∷ above) text =
    ap (λ rest. rest ++ components bottom) (stacked-push above text) ∙ append_assoc (components text) (stacked above) (components bottom)

pub stacked-none : stacked [] ≡ []
unfolding stacked
stacked-none = refl

pub components-none : components [] ≡ []
unfolding components_after
components-none = refl

-- What is left of the texts

pub left-none : (text : List ℕ) (later : List (List ℕ)) → AreTexts text later → text ≡ [] → components text ++ stacked later ≡ []
left-none text later are e =
    ap (λ t. components t ++ stacked later) e ∙ ap (λ c. c ++ stacked later) components-none ∙ ap stacked (are.ends e) ∙ stacked-none

pub none-left : (text : List ℕ) (later : List (List ℕ)) → AreTexts text later → components text ++ stacked later ≡ [] → text ≡ []
none-left [] later are e = refl
none-left (byte ∷ rest) later are e =
    let first = ap (λ c. c ++ stacked later) (components-first (byte ∷ rest) (omega arith) are.top.begins) in
    absurd (cons_none _ _ (sym first ∙ e))
  where
    cons_none : {A : Type 0} (x : A) (xs : List A) → x ∷ xs ≡ [] → ⊥
    cons_none x xs h = cc

pub left-later : (text : List ℕ) (later : List (List ℕ)) → text ≡ [] → components text ++ stacked later ≡ stacked later
left-later text later e = ap (λ t. components t ++ stacked later) e ∙ ap (λ c. c ++ stacked later) components-none

-- A text is kept for later

pub texts-push : (later : List (Bor (List ℕ))) (text : Bor (List ℕ)) → texts (later ++ text ∷ []) ≡ texts later ++ text.now ∷ []
texts-push later text = map-append (λ t. t.now) later (text ∷ [])

pub interrupted : (old new : List (Bor (List ℕ))) (text : Bor (List ℕ)) → new ≡ old ++ text ∷ [] → stacked (texts new) ≡ components text.now ++ stacked (texts old)
interrupted old new text e = ap (λ l. stacked (texts l)) e ∙ ap stacked (texts-push old text) ∙ stacked-push (texts old) text.now

-- A text is read again

resumed-texts : (old new : List (Bor (List ℕ))) (text : Bor (List ℕ)) → old ≡ new ++ text ∷ [] → texts old ≡ texts new ++ text.now ∷ []
resumed-texts old new text e = ap texts e ∙ texts-push new text

pub resumed-same :
    (old new : List (Bor (List ℕ))) (popped : Option (Bor (List ℕ))) (left : Bor (List ℕ)) → left.now ≡ [] → old ≡ new ++ option_to_list popped →
    components (unwrap_or popped left).now ++ stacked (texts new) ≡ components left.now ++ stacked (texts old)
resumed-same old new None left e items = ap (λ l. components left.now ++ stacked (texts l)) (sym (append-nil new) ∙ sym items)
resumed-same old new (Some text) left e items = sym (left-later left.now (texts old) e ∙ interrupted new old text items)

longer : (text : List ℕ) → 1 ≤ length text → text ≡ [] → ⊥
longer text some e = let none : length text ≡ 0 = ap length e in omega (arith, none, some)

pub resumed-valid :
    (old new : List (Bor (List ℕ))) (popped : Option (Bor (List ℕ))) (left : Bor (List ℕ)) → IsTrimmed left.now → All IsLater (texts old) →
    old ≡ new ++ option_to_list popped → (popped ≡ None → new ≡ []) → AreTexts (unwrap_or popped left).now (texts new)
resumed-valid old new None left trimmed each items none = record {
  top = trimmed;
  each = (All-pop IsLater (texts old) (texts new) None (ap texts items ∙ map-append (λ t. t.now) new []) each).0;
  ends = λ _. ap texts (none refl);
}
resumed-valid old new (Some text) left trimmed each items none =
    let both = All-pop IsLater (texts old) (texts new) (Some text.now) (resumed-texts old new text items) each in
    record { top = both.1.trimmed; each = both.0; ends = λ e. absurd (longer text.now both.1.some e) }
