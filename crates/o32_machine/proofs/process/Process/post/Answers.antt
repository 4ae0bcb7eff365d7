-- The events are posted, and then the timer's signal.
use Rattle.o32_machine.proofs.EventPosts.{all_due_posted}
use Rattle.o32_machine.specs.Emulator.{ProcessState, coming_of}
use Rattle.std.proofs.Common.{ap, inr, Ok, Result}
use Rattle.kernel_core.specs.declared.core_error.NoMemory.{NoMemory}
use Rattle.o32_machine.proofs.Logging.{any_ok, posts_logged}
use Rattle.o32_machine.proofs.process.Process.post.Goals as goal

pub returns-clause-posted : goal.returns-clause-posted
returns-clause-posted c =
    let inside : ProcessState = record {
      processor = c.self.inside.core.cpu;
      memory = c.self.inside.core.space;
      kernel = c.self.inside.core.kernel;
      going = c.self.inside.going;
      coming = coming_of c.self.inside.schedule;
      idle = c.self.inside.idle;
    } in
    let done : Result (Unit {0}) NoMemory = Ok tt in
    any_ok c.tell_timer.result _
    (all_due_posted c.args.clock inside c.post_due.new.going c.post_timer.new.going c.post_due.new.k c.post_timer.new.k (coming_of c.post_due.new.schedule)
    c.in_ok-post_due.ensures.posted done c.args.self.now c.self.view_is c.in_ok-post_timer.ensures.posts)

pub returns-clause-native : goal.returns-clause-native
returns-clause-native c =
    posts_logged c.args.self.now.going c.post_due.new.going c.post_timer.new.going c.self.inside.core.cpu c.self.inside.core.space c.args.self.now.kernel c.self.inside.core.kernel c.post_due.new.k c.post_timer.new.k
    c.args.clock c.next_time-next.result c.args.native.now c.post_due.new.native c.tell_timer.new.self (ap (λ (p : ProcessState). p.kernel) c.self.view_is) (c.in_ok-post_due.ensures.native c.self.inside.core.cpu) c.next_time-next.ensures
    (c.in_ok-post_timer.ensures.posts c.self.inside.core.cpu) c.tell_timer.result c.tell_timer.ensures.leads

pub returns-clause-ready : goal.returns-clause-ready
returns-clause-ready c = any_ok c.tell_timer.result _ (inr c.in_ok-post_timer.ensures.waits)
