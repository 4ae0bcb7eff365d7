-- One set after the other
use Rattle.std.proofs.Common.{◌≡◌, ◌∙◌, ap, sym, true, false, ℕ, List, ◌++◌, arith, rules, to_z, of_z}
use Rattle.std.proofs.lemmas.Int.{ints}
use mir.Syntax.{w32}
use Rattle.o32_model.specs.Results.{Piece, all_fit, piece_unless_null, with_pieces}
use Rattle.o32_model.specs.Selecting.{word_count}
use Rattle.bridge_limits.proofs.Passed.{effected_then}
use Rattle.bridge_select.specs.inside.FdSets.{words_bytes}
use Rattle.bridge_select.proofs.Pieces.{if_answered, on_stored, second_refused, second_unfit, stored_after, three_fit, three_stored}
use Rattle.bridge_select.proofs.telling.store_sets.Goals as goal

-- as pieces of so many words
abbrev one : ℕ → List ℕ → ℕ → List Piece
one address set words = piece_unless_null address (words_bytes words set)

abbrev three : ℕ → ℕ → ℕ → List ℕ → List ℕ → List ℕ → ℕ → List Piece
three read write except one_set other third words = (one read one_set words ++ one write other words) ++ one except third words

pub returns-then-not-branch-2-clause-answer : goal.returns-then-not-branch-2-clause-answer
returns-then-not-branch-2-clause-answer c =
    let a = c.args.asked in
    let s = c.args.sets.now in
    let words = c.word_count-words.result in
    let same : to_z w32 (of_z w32 a.count) ≡ a.count = omega (arith, ints) in
    let first : all_fit c.args.space.now (one a.read s.read words) ≡ true = search (rules, c.in_ok-store_set.ensures.answer) in
    let second : all_fit c.store_set.new.space (one a.write s.write words) ≡ false = search (rules, c.in_ok-store_set-2.ensures.answer) in
    sym (second_unfit c.args.space.now (one a.read s.read words) (one a.write s.write words) (one a.except s.except words) c.store_set.new.space first c.in_ok-store_set.ensures.stored second)
    ∙ ap (λ (n : ℕ). all_fit c.args.space.now (three a.read a.write a.except s.read s.write s.except n)) (c.word_count-words.ensures.value ∙ ap word_count same)

pub returns-then-not-branch-2-clause-stored : goal.returns-then-not-branch-2-clause-stored
returns-then-not-branch-2-clause-stored c =
    let a = c.args.asked in
    let s = c.args.sets.now in
    let words = c.word_count-words.result in
    let same : to_z w32 (of_z w32 a.count) ≡ a.count = omega (arith, ints) in
    let first : all_fit c.args.space.now (one a.read s.read words) ≡ true = search (rules, c.in_ok-store_set.ensures.answer) in
    let second : all_fit c.store_set.new.space (one a.write s.write words) ≡ false = search (rules, c.in_ok-store_set-2.ensures.answer) in
    c.in_ok-store_set-2.ensures.stored
    ∙ sym (second_refused c.args.space.now (one a.read s.read words) (one a.write s.write words) (one a.except s.except words) c.store_set.new.space first c.in_ok-store_set.ensures.stored second)
    ∙ ap (λ (n : ℕ). with_pieces c.args.space.now (three a.read a.write a.except s.read s.write s.except n)) (c.word_count-words.ensures.value ∙ ap word_count same)

pub returns-then-not-branch-2-clause-effects : goal.returns-then-not-branch-2-clause-effects
returns-then-not-branch-2-clause-effects c = λ processor sent.
    effected_then (c.in_ok-store_set.ensures.effects processor sent) (c.in_ok-store_set-2.ensures.effects processor sent)

pub returns-clause-answer : goal.returns-clause-answer
returns-clause-answer c =
    let a = c.args.asked in
    let s = c.args.sets.now in
    let words = c.word_count-words.result in
    let same : to_z w32 (of_z w32 a.count) ≡ a.count = omega (arith, ints) in
    let first : all_fit c.args.space.now (one a.read s.read words) ≡ true = search (rules, c.in_ok-store_set.ensures.answer) in
    let second : all_fit c.store_set.new.space (one a.write s.write words) ≡ true = search (rules, c.in_ok-store_set-2.ensures.answer) in
    if_answered c.store_set-3.result _ _
    (sym (ap (λ (n : ℕ). all_fit c.args.space.now (three a.read a.write a.except s.read s.write s.except n)) (c.word_count-words.ensures.value ∙ ap word_count same))
    ∙ three_fit c.args.space.now (one a.read s.read words) (one a.write s.write words) (one a.except s.except words) c.store_set.new.space first c.in_ok-store_set.ensures.stored
    c.store_set-2.new.space second c.in_ok-store_set-2.ensures.stored)
    c.store_set-3.ensures.answer

pub returns-clause-stored : goal.returns-clause-stored
returns-clause-stored c =
    let a = c.args.asked in
    let s = c.args.sets.now in
    let words = c.word_count-words.result in
    let same : to_z w32 (of_z w32 a.count) ≡ a.count = omega (arith, ints) in
    let first : all_fit c.args.space.now (one a.read s.read words) ≡ true = search (rules, c.in_ok-store_set.ensures.answer) in
    let second : all_fit c.store_set.new.space (one a.write s.write words) ≡ true = search (rules, c.in_ok-store_set-2.ensures.answer) in
    on_stored c.store_set-3.result c.store_set-3.new.space _ _
    (sym (ap (λ (n : ℕ). with_pieces c.args.space.now (three a.read a.write a.except s.read s.write s.except n)) (c.word_count-words.ensures.value ∙ ap word_count same))
    ∙ three_stored c.args.space.now (one a.read s.read words) (one a.write s.write words) (one a.except s.except words) c.store_set.new.space first c.in_ok-store_set.ensures.stored
    c.store_set-2.new.space second c.in_ok-store_set-2.ensures.stored)
    c.store_set-3.ensures.stored

pub returns-clause-effects : goal.returns-clause-effects
returns-clause-effects c =
    stored_after c.store_set-3.result _ _ _ _ _ _ (λ processor sent. effected_then (c.in_ok-store_set.ensures.effects processor sent) (c.in_ok-store_set-2.ensures.effects processor sent)) c.store_set-3.ensures.effects
