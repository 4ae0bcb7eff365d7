-- The native call tells for the row, or mirrors it where the old limit is not asked for.
use Rattle.std.proofs.Common.{ℕ, [], ◌∷◌, sym, subst, arith}
use Rattle.std.specs.Int.{cast_signed, w32}
use Rattle.guest_space.specs.Memory.{Memory}
use Rattle.native_calls.specs.Table.{native_call}
use Rattle.o32_model.specs.Answered.{Answers}
use Rattle.o32_model.specs.Small.{prlimit_row}
use Rattle.o32_model.specs.Words.{argument}
use Rattle.outside.specs.Streams.{contents}
use Rattle.bridge_io.specs.Passed.{Mirrors}
use Rattle.bridge_io.specs.Passed.{by_reply}
use Rattle.bridge_system.proofs.LimitMirrors.{each_fits, prlimit_mirrors, prlimit_tells}
use Rattle.bridge_system.specs.inside.Tells.{IsTaken}
use Rattle.bridge_system.proofs.limits.prlimit.Goals as goal

pub returns-then-old-eq0-clause-row : goal.returns-then-old-eq0-clause-row
returns-then-old-eq0-clause-row g c = λ guest same memory left told.
    let step = prlimit_row c.args.below.now.kernel.now guest (cast_signed w32 (argument c.args.words.now 0)) (argument c.args.words.now 1) (argument c.args.words.now 2) (argument c.args.words.now 3) in
    subst (λ (m : Memory). Answers (step left) c.number_call.result c.number_call.new.self.kernel.now m guest.processor
    (contents g.I.Source.left g.O.Sink.written g.E.Sink.written c.args.dev.now) (contents g.I.Source.left g.O.Sink.written g.E.Sink.written c.number_call.new.dev)) memory
    (c.number_call.ensures.row guest step same (λ left. subst (λ (o : ℕ). Mirrors guest (by_reply guest.words) (native_call 261 (c.from.result ∷ c.native_number.result ∷ c.in_ok-place.place ∷ 0 ∷ 0 ∷ 0 ∷ []) c.args.below.now.kernel.now c.take_limit.new.mem left) (prlimit_row c.args.below.now.kernel.now guest (cast_signed w32 (argument c.args.words.now 0)) (argument c.args.words.now 1) (argument c.args.words.now 2) o left)) (sym c.if-old-eq0.true)
    (prlimit_mirrors guest c.args.below.now.kernel.now c.take_limit.new.mem left c.from.result (argument c.args.words.now 0) c.native_number.result (argument c.args.words.now 1) c.in_ok-place.place (argument c.args.words.now 2) (each_fits c.args.below.now.kernel.now c.limits_fit.ensures) c.from.ensures (omega arith) c.native_number.ensures
    (subst (λ (m : Memory). IsTaken m (argument c.args.words.now 2) c.take_limit.new.mem c.in_ok-place.place) (sym memory) c.in_ok-place.ensures.taken))) left told)

pub returns-then-old-eq0-clause-kept : goal.returns-then-old-eq0-clause-kept
returns-then-old-eq0-clause-kept g c = λ guest same memory.
    c.number_call.ensures.kept guest (prlimit_row c.args.below.now.kernel.now guest (cast_signed w32 (argument c.args.words.now 0)) (argument c.args.words.now 1) (argument c.args.words.now 2) (argument c.args.words.now 3)) same (λ left. subst (λ (o : ℕ). Mirrors guest (by_reply guest.words) (native_call 261 (c.from.result ∷ c.native_number.result ∷ c.in_ok-place.place ∷ 0 ∷ 0 ∷ 0 ∷ []) c.args.below.now.kernel.now c.take_limit.new.mem left) (prlimit_row c.args.below.now.kernel.now guest (cast_signed w32 (argument c.args.words.now 0)) (argument c.args.words.now 1) (argument c.args.words.now 2) o left)) (sym c.if-old-eq0.true)
    (prlimit_mirrors guest c.args.below.now.kernel.now c.take_limit.new.mem left c.from.result (argument c.args.words.now 0) c.native_number.result (argument c.args.words.now 1) c.in_ok-place.place (argument c.args.words.now 2) (each_fits c.args.below.now.kernel.now c.limits_fit.ensures) c.from.ensures (omega arith) c.native_number.ensures
    (subst (λ (m : Memory). IsTaken m (argument c.args.words.now 2) c.take_limit.new.mem c.in_ok-place.place) (sym memory) c.in_ok-place.ensures.taken)))

pub returns-clause-row : goal.returns-clause-row
returns-clause-row g c = λ guest same memory.
    c.tell_call.ensures.row guest (prlimit_row c.args.below.now.kernel.now guest (cast_signed w32 (argument c.args.words.now 0)) (argument c.args.words.now 1) (argument c.args.words.now 2) (argument c.args.words.now 3)) same memory
    (λ left. prlimit_tells guest c.args.below.now.kernel.now c.take_limit.new.mem left c.from-2.result (argument c.args.words.now 0) c.native_number-2.result (argument c.args.words.now 1) c.in_ok-place.place (argument c.args.words.now 2) (argument c.args.words.now 3) (each_fits c.args.below.now.kernel.now c.limits_fit.ensures) c.in_ok-place.ensures.room c.from-2.ensures (omega arith) c.native_number-2.ensures
    (subst (λ (m : Memory). IsTaken m (argument c.args.words.now 2) c.take_limit.new.mem c.in_ok-place.place) (sym memory) c.in_ok-place.ensures.taken) c.if-old-eq0.false)

pub returns-clause-kept : goal.returns-clause-kept
returns-clause-kept g c = λ guest same memory.
    c.tell_call.ensures.kept guest (prlimit_row c.args.below.now.kernel.now guest (cast_signed w32 (argument c.args.words.now 0)) (argument c.args.words.now 1) (argument c.args.words.now 2) (argument c.args.words.now 3)) same memory
    (λ left. prlimit_tells guest c.args.below.now.kernel.now c.take_limit.new.mem left c.from-2.result (argument c.args.words.now 0) c.native_number-2.result (argument c.args.words.now 1) c.in_ok-place.place (argument c.args.words.now 2) (argument c.args.words.now 3) (each_fits c.args.below.now.kernel.now c.limits_fit.ensures) c.in_ok-place.ensures.room c.from-2.ensures (omega arith) c.native_number-2.ensures
    (subst (λ (m : Memory). IsTaken m (argument c.args.words.now 2) c.take_limit.new.mem c.in_ok-place.place) (sym memory) c.in_ok-place.ensures.taken) c.if-old-eq0.false)
