-- The native call leaves the kernel, and its answer is what the row comes to.
use Rattle.std.proofs.Common.{ℕ, ◌^◌, ◌<◌, List, arith}
use Rattle.outside.specs.Streams.{contents}
use Rattle.bridge_limits.proofs.Passed.{looked_stop}
use Rattle.bridge_poll.proofs.Answering.{answered_there, looks_there, memory_of, reply_of}
use Rattle.bridge_poll.specs.declared.asking.Answer.{Answer}
use Rattle.bridge_poll.specs.inside.Asking.{IsAnswer, polling}
use Rattle.bridge_poll.specs.inside.Entries.{bytes_put, memory_with, place_of}
use Rattle.bridge_poll.proofs.asking.ask.Goals as goal

pub returns-clause-looks : goal.returns-clause-looks
returns-clause-looks g c = λ left told.
    let kernel = c.args.below.now.kernel.now in
    let guest = c.args.space.now in
    let entries = c.args.entries in
    let room = c.put_limits.new.mem in
    let placed = c.in_ok-placed.placed in
    let small : entries.count < 2 ^ 32 = omega arith in
    let did = polling kernel guest entries c.args.limits in
    let memory = memory_of kernel (memory_with room (bytes_put guest entries)) (place_of room (bytes_put guest entries)) placed.time did.came in
    let look = λ (left : List ℕ). looks_there kernel guest entries c.args.limits room placed.time placed.mask c.from-count.result c.from-size.result c.whole.ensures c.from-count.ensures small c.from-size.ensures
    c.in_ok-placed.ensures.time c.in_ok-placed.ensures.mask c.put_entries.new.mem c.in_ok-place.place c.in_ok-place.ensures.put c.in_ok-place.ensures.place left in
    let seen = c.in_ok-reply.ensures.looks (reply_of did.came) memory look left told in (
      answered_there kernel guest entries c.args.limits room placed.time placed.mask c.from-count.result c.from-size.result c.whole.ensures c.from-count.ensures small c.from-size.ensures
          c.in_ok-placed.ensures.time c.in_ok-placed.ensures.mask c.came_of.result c.in_ok-reply.reply c.in_ok-place.place c.look.new.self.memory.now c.came_of.ensures seen.0.answered c.in_ok-place.ensures.place seen.0.stored,
      seen.1,
    )

pub returns-in_err-reply-clause-looks : goal.returns-in_err-reply-clause-looks
returns-in_err-reply-clause-looks g c = λ left told.
    let kernel = c.args.below.now.kernel.now in
    let guest = c.args.space.now in
    let entries = c.args.entries in
    let room = c.put_limits.new.mem in
    let placed = c.in_ok-placed.placed in
    let small : entries.count < 2 ^ 32 = omega arith in
    let did = polling kernel guest entries c.args.limits in
    let memory = memory_of kernel (memory_with room (bytes_put guest entries)) (place_of room (bytes_put guest entries)) placed.time did.came in
    let look = λ (left : List ℕ). looks_there kernel guest entries c.args.limits room placed.time placed.mask c.from-count.result c.from-size.result c.whole.ensures c.from-count.ensures small c.from-size.ensures
    c.in_ok-placed.ensures.time c.in_ok-placed.ensures.mask c.put_entries.new.mem c.in_ok-place.place c.in_ok-place.ensures.put c.in_ok-place.ensures.place left in
    let before = contents g.I.Source.left g.O.Sink.written g.E.Sink.written c.args.dev.now in
    let after = contents g.I.Source.left g.O.Sink.written g.E.Sink.written c.look.new.dev in
    looked_stop (λ (answer : Answer). IsAnswer kernel c.args.limits.wait did entries.count answer c.look.new.self.memory.now) c.from_residual-in_err-reply.result kernel c.look.new.self.kernel.now before after left c.args.below.now.log.now c.look.new.self.log.now
    c.from_residual-in_err-reply.ensures.0 (c.in_err-reply.ensures.looks (reply_of did.came) memory look left told)
