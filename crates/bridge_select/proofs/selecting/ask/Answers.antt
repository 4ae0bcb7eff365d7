-- The native call is a look.
use Rattle.std.proofs.Common.{◌≡◌, ◌∙◌, List, ℕ, refl, arith, to_z, of_z}
use Rattle.std.proofs.lemmas.Int.{ints}
use mir.Syntax.{w32}
use Rattle.outside.specs.Streams.{contents}
use Rattle.bridge_limits.proofs.Passed.{looked_stop}
use Rattle.bridge_select.specs.declared.telling.Answer.{Answer}
use Rattle.bridge_select.specs.inside.Requests.{requested}
use Rattle.bridge_select.specs.inside.Telling.{Answered}
use Rattle.bridge_select.proofs.Asking.{answered, looks, native_reply, native_room}
use Rattle.bridge_select.proofs.selecting.ask.Goals as goal

pub returns-clause-looks : goal.returns-clause-looks
returns-clause-looks g c = λ left told.
    let kernel = c.args.below.now.kernel.now in
    let program = c.args.space.now in
    let asked = requested c.args.request.now in
    let places = c.in_ok-places.places in
    let room = c.put_request.new.mem in
    let hands = c.in_ok-places.ensures in
    let same : to_z w32 (of_z w32 c.args.request.now.asked.count) ≡ c.args.request.now.asked.count = omega (arith, ints) in
    let look = λ (left : List ℕ). looks kernel program asked places room hands c.extended.result left (c.extended.ensures ∙ same) in
    let seen = c.in_ok-reply.ensures.looks (native_reply kernel program asked places room hands) (native_room kernel program asked places room hands) look left told in (
      answered kernel program asked places room hands (record { reply = c.in_ok-reply.reply; places = places }) c.look.new.self.memory.now refl seen.0.answered seen.0.stored,
      seen.1,
    )

pub returns-in_err-reply-clause-looks : goal.returns-in_err-reply-clause-looks
returns-in_err-reply-clause-looks g c = λ left told.
    let kernel = c.args.below.now.kernel.now in
    let program = c.args.space.now in
    let asked = requested c.args.request.now in
    let places = c.in_ok-places.places in
    let room = c.put_request.new.mem in
    let hands = c.in_ok-places.ensures in
    let same : to_z w32 (of_z w32 c.args.request.now.asked.count) ≡ c.args.request.now.asked.count = omega (arith, ints) in
    let look = λ (left : List ℕ). looks kernel program asked places room hands c.extended.result left (c.extended.ensures ∙ same) in
    let before = contents g.I.Source.left g.O.Sink.written g.E.Sink.written c.args.dev.now in
    let after = contents g.I.Source.left g.O.Sink.written g.E.Sink.written c.look.new.dev in
    looked_stop (λ (answer : Answer). Answered kernel program asked answer c.look.new.self.memory.now) c.from_residual-in_err-reply.result kernel c.look.new.self.kernel.now before after left c.args.below.now.log.now c.look.new.self.log.now
    c.from_residual-in_err-reply.ensures.0
    (c.in_err-reply.ensures.looks (native_reply kernel program asked places room hands) (native_room kernel program asked places room hands) look left told)
