-- The words of a record against the machine's, one after the other.
use Rattle.std.proofs.Common.{◌≡◌, ◌≢◌, ◌<◌, ◌==◌, ℕ, suc, ◌+◌, Bool, true, false, List, ◌∷◌, length, drop, get_or, Some, None, sym, ap, ◌∙◌, add-one, if◌then◌else◌, arith}
use Rattle.std.proofs.Math.Seq.{drop-cons, drop-length}
use Rattle.std.proofs.lemmas.Bool.{eq-eqb}
use Rattle.std.proofs.lemmas.Bool.Decides.{nat_tests}
use Rattle.replay_core.specs.Replay.{first_difference}

opened : (wanted found : List ℕ) (place : ℕ) → place < length wanted → place < length found
    → first_difference (drop place wanted) (drop place found)
    ≡ (if get_or wanted place 0 == get_or found place 0 then first_difference (drop (suc place) wanted) (drop (suc place) found)
    else Some (record { wanted = get_or wanted place 0; found = get_or found place 0 }))
opened wanted found place first second =
    ap (λ (l : List ℕ). first_difference l (drop place found)) (drop-cons wanted place 0 first)
    ∙ ap (λ (l : List ℕ). first_difference (get_or wanted place 0 ∷ drop (suc place) wanted) l) (drop-cons found place 0 second)

pub same_word : (wanted found : List ℕ) (place : ℕ) → place < length wanted → place < length found → get_or wanted place 0 ≡ get_or found place 0
    → first_difference (drop (place + 1) wanted) (drop (place + 1) found) ≡ first_difference (drop place wanted) (drop place found)
same_word wanted found place first second same =
    let test : (get_or wanted place 0 == get_or found place 0) ≡ true = eq-eqb _ _ same in
    ap (λ (n : ℕ). first_difference (drop n wanted) (drop n found)) (add-one place)
    ∙ sym (opened wanted found place first second
    ∙ ap (λ (b : Bool). if b then first_difference (drop (suc place) wanted) (drop (suc place) found) else Some (record { wanted = get_or wanted place 0; found = get_or found place 0 })) test)

pub other_word : (wanted found : List ℕ) (place : ℕ) → place < length wanted → place < length found → get_or wanted place 0 ≢ get_or found place 0
    → first_difference (drop place wanted) (drop place found) ≡ Some (record { wanted = get_or wanted place 0; found = get_or found place 0 })
other_word wanted found place first second other =
    let test : (get_or wanted place 0 == get_or found place 0) ≡ false = grind (arith, nat_tests) in
    opened wanted found place first second
    ∙ ap (λ (b : Bool). if b then first_difference (drop (suc place) wanted) (drop (suc place) found) else Some (record { wanted = get_or wanted place 0; found = get_or found place 0 })) test

pub no_more_words : (wanted found : List ℕ) (place : ℕ) → place ≡ length wanted → first_difference (drop place wanted) (drop place found) ≡ None
no_more_words wanted found place end =
    ap (λ (n : ℕ). first_difference (drop n wanted) (drop place found)) end ∙ ap (λ (l : List ℕ). first_difference l (drop place found)) (drop-length wanted)
