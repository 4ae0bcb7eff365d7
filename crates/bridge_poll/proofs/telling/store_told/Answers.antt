-- One entry after the other
use Rattle.std.proofs.Common.{◌≡◌, ℕ, ◌+◌, ◌-◌, true, false, List, ap, sym, ◌∙◌, rules, arith}
use Rattle.kernel_model.specs.Shared.{PollSet}
use Rattle.o32_model.specs.GuestBytes.{is_storable, with_stored}
use Rattle.o32_model.specs.Results.{all_fit, with_pieces}
use Rattle.bridge_limits.proofs.Passed.{effected_then}
use Rattle.bridge_poll.proofs.Stores.{all_done, one_fits, one_refused, one_stored, one_unfit, pieces_from}
use Rattle.bridge_poll.specs.inside.Telling.{piece_of}
use Rattle.bridge_poll.proofs.telling.store_told.Goals as goal

pub returns-then-not-branch-clause-answer : goal.returns-then-not-branch-clause-answer
returns-then-not-branch-clause-answer c =
    let memory = c.loop-done.space in
    let at = c.loop-done.at in
    let put = c.in_ok-store_entry.ensures.stored ∙ ap (λ (e : PollSet). with_stored memory at (piece_of memory at e)) c.told_of.ensures in
    let not : is_storable memory at 8 ≡ false = search (rules, c.in_ok-store_entry.ensures.answer) in
    sym (c.loop-done.invariant.answer ∙ one_unfit memory c.store_entry.new.space at c.args.entries.count c.loop-done._done c.loop-done.rest.now c.loop-done-test.true put not)

pub returns-then-not-branch-clause-stored : goal.returns-then-not-branch-clause-stored
returns-then-not-branch-clause-stored c =
    let memory = c.loop-done.space in
    let at = c.loop-done.at in
    let put = c.in_ok-store_entry.ensures.stored ∙ ap (λ (e : PollSet). with_stored memory at (piece_of memory at e)) c.told_of.ensures in
    let not : is_storable memory at 8 ≡ false = search (rules, c.in_ok-store_entry.ensures.answer) in
    one_refused memory c.store_entry.new.space at c.args.entries.count c.loop-done._done c.loop-done.rest.now c.loop-done-test.true put not ∙ sym c.loop-done.invariant.stored

pub returns-then-not-branch-clause-effects : goal.returns-then-not-branch-clause-effects
returns-then-not-branch-clause-effects c = λ processor sent. effected_then (c.loop-done.invariant.effects processor sent) (c.in_ok-store_entry.ensures.effects processor sent)

pub loop-done-preserved : goal.loop-done-preserved
loop-done-preserved c =
    let memory = c.loop-done.space in
    let after = c.store_entry.new.space in
    let at = c.loop-done.at in
    let put = c.in_ok-store_entry.ensures.stored ∙ ap (λ (e : PollSet). with_stored memory at (piece_of memory at e)) c.told_of.ensures in
    let there : is_storable memory at 8 ≡ true = search (rules, c.in_ok-store_entry.ensures.answer) in
    record {
      answer =
          c.loop-done.invariant.answer ∙ one_fits memory after at c.args.entries.count c.loop-done._done c.loop-done.rest.now c.loop-done-test.true put there
          ∙ ap (λ (l : List ℕ). all_fit after (pieces_from after (at + 8) (c.args.entries.count - (c.loop-done._done + 1)) l)) (sym c.behind-rest.ensures);
      stored =
          c.loop-done.invariant.stored ∙ one_stored memory after at c.args.entries.count c.loop-done._done c.loop-done.rest.now c.loop-done-test.true put there
          ∙ ap (λ (l : List ℕ). with_pieces after (pieces_from after (at + 8) (c.args.entries.count - (c.loop-done._done + 1)) l)) (sym c.behind-rest.ensures);
      effects = λ processor sent. effected_then (c.loop-done.invariant.effects processor sent) (c.in_ok-store_entry.ensures.effects processor sent);
      native = c.store_entry.ensures.native ∙ c.loop-done.invariant.native;
    }

pub returns-clause-answer : goal.returns-clause-answer
returns-clause-answer c =
    let none : c.args.entries.count - c.loop-done._done ≡ 0 = omega arith in
    sym (c.loop-done.invariant.answer ∙ (all_done c.loop-done.space c.loop-done.at (c.args.entries.count - c.loop-done._done) c.loop-done.rest.now none).0)

pub returns-clause-stored : goal.returns-clause-stored
returns-clause-stored c =
    let none : c.args.entries.count - c.loop-done._done ≡ 0 = omega arith in
    sym (c.loop-done.invariant.stored ∙ (all_done c.loop-done.space c.loop-done.at (c.args.entries.count - c.loop-done._done) c.loop-done.rest.now none).1)
