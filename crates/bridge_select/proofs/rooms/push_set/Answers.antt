use Rattle.std.proofs.Common.{◌≡◌, Ok, Err, ap, arith, subst, ◌∙◌, to_z, of_z}
use Rattle.std.proofs.lemmas.Int.{ints}
use mir.Syntax.{w32}
use Rattle.kernel_model.specs.Readiness.{counted_fds}
use Rattle.o32_model.specs.Selecting.{word_count}
use Rattle.bridge_select.proofs.Handed.{FoundSet, set_not_found, set_pushed}
use Rattle.bridge_select.proofs.rooms.push_set.Goals as goal

pub returns-in-Err-clause-set : goal.returns-in-Err-clause-set
returns-in-Err-clause-set c = λ behind.
    let same : to_z w32 (of_z w32 c.args.asked.count) ≡ c.args.asked.count = omega (arith, ints) in
    let words : c.word_count.result ≡ word_count c.args.asked.count = c.word_count.ensures.value ∙ ap word_count same in
    let failed = c.in-Err.ensures (counted_fds c.args.asked.count) (omega (arith, words)) in
    set_not_found c.args.mem.now behind c.args.space.now c.args.address (word_count c.args.asked.count) (counted_fds c.args.asked.count) c.in-Err.field-0 c.if-address-eq0.false
    (λ none. omega arith)
    (subst (FoundSet c.args.space.now c.args.address (counted_fds c.args.asked.count) (Err c.in-Err.field-0)) words failed)

pub returns-in-Ok-clause-set : goal.returns-in-Ok-clause-set
returns-in-Ok-clause-set c =
    let same : to_z w32 (of_z w32 c.args.asked.count) ≡ c.args.asked.count = omega (arith, ints) in
    let words : c.word_count.result ≡ word_count c.args.asked.count = c.word_count.ensures.value ∙ ap word_count same in
    let found = c.in-Ok.ensures (counted_fds c.args.asked.count) (omega (arith, words)) in
    set_pushed c.push.result c.push.new.self c.args.mem.now c.native_bytes.result c.in-Ok.set c.args.space.now c.args.address (word_count c.args.asked.count) (counted_fds c.args.asked.count) c.if-address-eq0.false
    (omega arith) (omega arith) c.native_bytes.ensures.words c.native_bytes.ensures.bytes
    (subst (FoundSet c.args.space.now c.args.address (counted_fds c.args.asked.count) (Ok _)) words found)
    c.push.ensures.ok c.push.ensures.address
