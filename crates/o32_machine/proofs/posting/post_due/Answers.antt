-- One event after the other is posted.
use Rattle.std.proofs.Common.{◌≡◌, ◌+◌, Option, None, sym, ap, ◌∙◌, rules}
use Rattle.std.specs.Prelude.{slice_get}
use Rattle.o32_machine.proofs.Coming.{due_there}
use Rattle.bridge_log.proofs.Histories.{logged_then}
use Rattle.o32_machine.proofs.EventPosts.{all_posted, one_posted}
use Rattle.o32_machine.proofs.Logging.{event_follows}
use Rattle.o32_machine.specs.Emulator.{at_clock, coming_of}
use Rattle.o32_turns.specs.Turn.{whole}
use Rattle.o32_turns.specs.Going.{within_of}
use Rattle.o32_turns.specs.Posting.{events_posted}
use Rattle.schedule.specs.Cursor.{place_after}
use Rattle.schedule.specs.declared.Schedule.{Schedule}
use Rattle.schedule.specs.declared.events.Due.{Due}
use Rattle.o32_machine.proofs.posting.post_due.Goals as goal

pub loop-due-preserved : goal.loop-due-preserved
loop-due-preserved c =
    let old = c.loop-due.schedule in
    let there = due_there c.args.clock (slice_get old.events old.at) c.in-Some.due (sym c.due.ensures.event ∙ c.in-Some.is) in
    let cursor : c.due.new.self ≡ record old { at = old.at + 1 } = c.due.ensures.cursor ∙ ap (λ (r : Option Due). record old { at = place_after r old.at }) c.in-Some.is in
    record {
      given = c.due.ensures.given c.loop-due.invariant.given;
      stands = c.post_event.ensures.clock ∙ c.loop-due.invariant.stands;
      so_far = λ processor coming idle.
          c.loop-due.invariant.so_far processor coming idle
          ∙ one_posted c.args.clock processor c.args.space.now coming idle old.events old.at c.in-Some.due c.loop-due.going c.post_event.new.going c.loop-due.k c.post_event.new.k there.0 there.1
          (c.in_ok-post_event.ensures.posts processor coming idle)
          ∙ ap (λ (s : Schedule). events_posted whole (coming_of s) (within_of c.post_event.new.going processor c.args.space.now (at_clock c.args.clock c.post_event.new.k) coming idle)) (sym cursor);
      logged = λ processor left sent.
          logged_then (c.loop-due.invariant.logged processor left sent)
          (logged_then (c.in_ok-tell_time.ensures.leads c.loop-due.k left sent (sym c.clock.ensures) c.next_time.ensures)
          (c.in_ok-tell_post.ensures.leads c.loop-due.k c.post_event.new.k left sent
          (event_follows c.tell_time.new.self.told c.loop-due.going c.post_event.new.going processor c.args.space.now c.loop-due.k c.post_event.new.k c.in-Some.due left sent
          (c.in_ok-post_event.ensures.posts processor) c.event_info.result c.event_info.ensures.info)));
      told = search rules;
    }

pub returns-clause-posted : goal.returns-clause-posted
returns-clause-posted c = λ processor coming idle.
    let old = c.loop-due.schedule in
    let none : c.due.result ≡ None = c.in_default.is in
    let cursor : c.due.new.self ≡ old = c.due.ensures.cursor ∙ ap (λ (r : Option Due). record old { at = place_after r old.at }) none in
    c.loop-due.invariant.so_far processor coming idle
    ∙ all_posted c.args.clock processor c.args.space.now coming idle old.events old.at c.loop-due.going c.loop-due.k (sym c.due.ensures.event ∙ none)
    ∙ ap (λ (s : Schedule). within_of c.loop-due.going processor c.args.space.now (at_clock c.args.clock c.loop-due.k) (coming_of s) idle) (sym cursor)
