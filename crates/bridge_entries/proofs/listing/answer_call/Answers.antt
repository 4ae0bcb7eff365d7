-- The position is known, the entries are listed, and the position is put where it has to be.
use Rattle.std.proofs.Common.{◌≡◌, ◌⊎◌, ◌*◌, ◌<◌, ◌^◌, ℕ, None, Some, inl, inr, sym, ap, subst, ◌∙◌}
use Rattle.kernel_core.specs.FileSystem.{IsFileSystem}
use Rattle.kernel_model.specs.Descriptions.{opened}
use Rattle.kernel_model.specs.State.{Kernel}
use Rattle.o32_model.specs.Words.{argument}
use Rattle.bridge_entries.proofs.NarrowCalls.{asked_is, listed_then, moved_then, passed_to}
use Rattle.bridge_entries.proofs.Quietly.{still_told, went_stop}
use Rattle.bridge_entries.proofs.Settling.{Stays, Moves, settle}
use Rattle.bridge_entries.proofs.listing.answer_call.Goals as goal

some_is : {A : Type 0} {a b : A} → Some a ≡ Some b → a ≡ b
some_is same = cc

pub returns-in_err-before-clause-goes : goal.returns-in_err-before-clause-goes
returns-in_err-before-clause-goes g c = λ left told.
    went_stop _ c.from_residual.result _ _ _ _ _ _ _ _ c.from_residual.ensures.0 (c.in_err-before.ensures.goes left told)

pub returns-in_err-reply-clause-goes : goal.returns-in_err-reply-clause-goes
returns-in_err-reply-clause-goes g c = λ left told.
    let seen = c.in_ok-before.ensures.goes left told in
    let valid : IsFileSystem c.position.new.below.kernel.now.files.nodes = subst (λ (k : Kernel). IsFileSystem k.files.nodes) (sym seen.1.same) c.files_valid.ensures.nodes in
    went_stop _ c.from_residual-in_err-reply.result _ _ _ _ _ _ _ _ c.from_residual-in_err-reply.ensures.0 (c.in_err-reply.ensures.goes valid left (still_told seen.1 told) ∙ seen.1.rest)

pub returns-in_err-answer-clause-goes : goal.returns-in_err-answer-clause-goes
returns-in_err-answer-clause-goes g c = λ left told.
    let seen = c.in_ok-before.ensures.goes left told in
    let valid : IsFileSystem c.position.new.below.kernel.now.files.nodes = subst (λ (k : Kernel). IsFileSystem k.files.nodes) (sym seen.1.same) c.files_valid.ensures.nodes in
    let listed = c.in_ok-reply.ensures.goes valid left (still_told seen.1 told) in
    went_stop _ c.from_residual-in_err-answer.result _ _ _ _ _ _ _ _ c.from_residual-in_err-answer.ensures.0 (listed.1.rest ∙ seen.1.rest)

pub returns-in-None-clause-goes : goal.returns-in-None-clause-goes
returns-in-None-clause-goes g c = λ left told.
    let seen = c.in_ok-before.ensures.goes left told in
    let valid : IsFileSystem c.position.new.below.kernel.now.files.nodes = subst (λ (k : Kernel). IsFileSystem k.files.nodes) (sym seen.1.same) c.files_valid.ensures.nodes in
    let listed = listed_then (argument c.args.words.now 0) (2 * c.min-asked.result) c.list.new.below.memory.now c.in_ok-reply.reply seen.1 (c.in_ok-reply.ensures.goes valid left (still_told seen.1 told)) in
    let settled : Stays c.args.below.now.kernel.now (argument c.args.words.now 0) (argument c.args.words.now 2) c.min-asked.result c.args.room c.args.words.now c.in_ok-answer.answer ⊎ Moves c.args.below.now.kernel.now (argument c.args.words.now 0) (argument c.args.words.now 2) c.min-asked.result c.args.room c.args.words.now c.in_ok-answer.answer =
    settle c.args.below.now.kernel.now (argument c.args.words.now 0) (argument c.args.words.now 2) c.min-asked.result c.args.room c.args.words.now c.in_ok-answer.answer c.unwrap_or.result c.in_ok-reply.reply c.list.new.below.memory.now listed.0
    (λ none. c.in_ok-answer.ensures.none (c.bytes_back.ensures ∙ none)) (λ first rest all back. c.in_ok-answer.ensures.some first rest all (c.bytes_back.ensures ∙ back))
    c.files_valid.ensures.nodes (asked_is (argument c.args.words.now 2) c.args.room c.min-asked.result c.min-asked.ensures) c.in_ok-before.before seen.0 c.unwrap_or.ensures in
    elim settled [ inl stays ↦ (stays.given, passed_to stays.same listed.1) | inr moves ↦ absurd (let bad : Some moves.to ≡ None = sym moves.place ∙ c.in-None.is in cc) ]

pub returns-in_err-put_position-in-Some-clause-goes : goal.returns-in_err-put_position-in-Some-clause-goes
returns-in_err-put_position-in-Some-clause-goes g c = λ left told.
    let seen = c.in_ok-before.ensures.goes left told in
    let valid : IsFileSystem c.position.new.below.kernel.now.files.nodes = subst (λ (k : Kernel). IsFileSystem k.files.nodes) (sym seen.1.same) c.files_valid.ensures.nodes in
    let listed = listed_then (argument c.args.words.now 0) (2 * c.min-asked.result) c.list.new.below.memory.now c.in_ok-reply.reply seen.1 (c.in_ok-reply.ensures.goes valid left (still_told seen.1 told)) in
    let settled : Stays c.args.below.now.kernel.now (argument c.args.words.now 0) (argument c.args.words.now 2) c.min-asked.result c.args.room c.args.words.now c.in_ok-answer.answer ⊎ Moves c.args.below.now.kernel.now (argument c.args.words.now 0) (argument c.args.words.now 2) c.min-asked.result c.args.room c.args.words.now c.in_ok-answer.answer =
    settle c.args.below.now.kernel.now (argument c.args.words.now 0) (argument c.args.words.now 2) c.min-asked.result c.args.room c.args.words.now c.in_ok-answer.answer c.unwrap_or.result c.in_ok-reply.reply c.list.new.below.memory.now listed.0
    (λ none. c.in_ok-answer.ensures.none (c.bytes_back.ensures ∙ none)) (λ first rest all back. c.in_ok-answer.ensures.some first rest all (c.bytes_back.ensures ∙ back))
    c.files_valid.ensures.nodes (asked_is (argument c.args.words.now 2) c.args.room c.min-asked.result c.min-asked.ensures) c.in_ok-before.before seen.0 c.unwrap_or.ensures in
    elim settled [
      | inl stays ↦ absurd (let bad : Some c.in-Some.place ≡ None = sym c.in-Some.is ∙ stays.place in cc)
      | inr moves ↦ went_stop _ c.from_residual-in_err-put_position-in-Some.result _ _ _ _ _ _ _ _ c.from_residual-in_err-put_position-in-Some.ensures.0
          (c.in_err-put_position-in-Some.ensures.goes moves.description moves.node (ap (λ (k : Kernel). opened k.files (argument c.args.words.now 0)) listed.1.same ∙ moves.there) moves.is_node
          (subst (λ (n : ℕ). n < 2 ^ 31) (sym (some_is (sym c.in-Some.is ∙ moves.place))) moves.small) left (still_told listed.1 told) ∙ listed.1.rest)
    ]

pub returns-in_ok-put_position-in-Some-clause-goes : goal.returns-in_ok-put_position-in-Some-clause-goes
returns-in_ok-put_position-in-Some-clause-goes g c = λ left told.
    let seen = c.in_ok-before.ensures.goes left told in
    let valid : IsFileSystem c.position.new.below.kernel.now.files.nodes = subst (λ (k : Kernel). IsFileSystem k.files.nodes) (sym seen.1.same) c.files_valid.ensures.nodes in
    let listed = listed_then (argument c.args.words.now 0) (2 * c.min-asked.result) c.list.new.below.memory.now c.in_ok-reply.reply seen.1 (c.in_ok-reply.ensures.goes valid left (still_told seen.1 told)) in
    let settled : Stays c.args.below.now.kernel.now (argument c.args.words.now 0) (argument c.args.words.now 2) c.min-asked.result c.args.room c.args.words.now c.in_ok-answer.answer ⊎ Moves c.args.below.now.kernel.now (argument c.args.words.now 0) (argument c.args.words.now 2) c.min-asked.result c.args.room c.args.words.now c.in_ok-answer.answer =
    settle c.args.below.now.kernel.now (argument c.args.words.now 0) (argument c.args.words.now 2) c.min-asked.result c.args.room c.args.words.now c.in_ok-answer.answer c.unwrap_or.result c.in_ok-reply.reply c.list.new.below.memory.now listed.0
    (λ none. c.in_ok-answer.ensures.none (c.bytes_back.ensures ∙ none)) (λ first rest all back. c.in_ok-answer.ensures.some first rest all (c.bytes_back.ensures ∙ back))
    c.files_valid.ensures.nodes (asked_is (argument c.args.words.now 2) c.args.room c.min-asked.result c.min-asked.ensures) c.in_ok-before.before seen.0 c.unwrap_or.ensures in
    elim settled [
      | inl stays ↦ absurd (let bad : Some c.in-Some.place ≡ None = sym c.in-Some.is ∙ stays.place in cc)
      | inr moves ↦ (
        moves.given,
        moved_then (argument c.args.words.now 0) c.in-Some.place moves.to moves.description listed.1
            (c.in_ok-put_position-in-Some.ensures.goes moves.description moves.node (ap (λ (k : Kernel). opened k.files (argument c.args.words.now 0)) listed.1.same ∙ moves.there) moves.is_node
            (subst (λ (n : ℕ). n < 2 ^ 31) (sym (some_is (sym c.in-Some.is ∙ moves.place))) moves.small) left (still_told listed.1 told)).1
            (some_is (sym c.in-Some.is ∙ moves.place)) moves.same,
      )
    ]
