use Rattle.std.proofs.Common.{ap, sym, ◌≡◌, ◌∙◌, arith, pos, to_z}
use Rattle.std.proofs.lemmas.Int.{ints}
use Rattle.kernel_core.specs.declared.reply.Reply.TheVariants as replies
use mir.Syntax.{w64}
use Rattle.kernel_model.specs.System.{are_random_flags}
use Rattle.native_kernel.proofs.SystemLemmas.{random_is}
use Rattle.native_kernel.proofs.kernel.NativeKernel.getrandom.Goals as goal

pub returns-clause-row : goal.returns-clause-row
returns-clause-row c =
    let known = sym (ap are_random_flags c.from.ensures) ∙ sym c.are_random_flags.ensures ∙ c.if-not-are_random_flags.false in
    let answer : to_z w64 c.min-most.result ≡ pos c.min-most.result = omega (arith, ints) in
    random_is c.args.self.now _ c.put_chance.new.chance c.args.mem.now c.put_chance.new.mem c.args.buffer c.args.count
    c.accessible-room.result c.min-most.result c.args.flags _
    c.self.view_is known c.if-count-eq0.false c.if-room-eq0.false c.accessible-room.ensures c.min-most.ensures
    c.put_chance.ensures.stored c.put_chance.ensures.goes_on (ap (λ z. replies.Done z) answer)
