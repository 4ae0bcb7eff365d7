-- The native call mirrors the row, over the time that was taken.
use Rattle.std.proofs.Common.{◌≡◌, ◌∙◌, ap, subst, sym, arith}
use Rattle.guest_space.specs.Memory.{Memory}
use Rattle.o32_model.specs.Answered.{Answers}
use Rattle.o32_model.specs.Sleeps.{clock_nanosleep_row}
use Rattle.o32_model.specs.Step.{Guest}
use Rattle.o32_model.specs.Times.{spec_at}
use Rattle.o32_model.specs.Words.{argument}
use Rattle.outside.specs.Streams.{contents}
use Rattle.bridge_wait.proofs.SleepMirrors.{clock_nanosleep_mirrors}
use Rattle.bridge_wait.proofs.sleeping.clock_nanosleep.Goals as goal

pub returns-clause-row : goal.returns-clause-row
returns-clause-row g c = λ guest same memory left told.
    let row = clock_nanosleep_row c.args.below.now.kernel.now guest (argument c.args.words.now 0) (argument c.args.words.now 1) (argument c.args.words.now 2) in
    let taken = λ (guest : Guest) (memory : guest.memory ≡ c.args.space.now). c.in_ok-place.ensures ∙ ap (λ (m : Memory). spec_at m (argument c.args.words.now 2)) (sym memory) in
    subst (λ (m : Memory). Answers (row left) c.number_call.result c.number_call.new.self.kernel.now m guest.processor (contents g.I.Source.left g.O.Sink.written g.E.Sink.written c.args.dev.now) (contents g.I.Source.left g.O.Sink.written g.E.Sink.written c.number_call.new.dev)) memory
    (c.number_call.ensures.row guest row same (λ left. clock_nanosleep_mirrors guest c.args.below.now.kernel.now c.take_time.new.mem left _ _ c.in_ok-place.place (argument c.args.words.now 0) (argument c.args.words.now 1) (argument c.args.words.now 2) c.from.ensures c.from-2.ensures (omega arith) (omega arith) (taken guest memory)) left told)

pub returns-clause-kept : goal.returns-clause-kept
returns-clause-kept g c = λ guest same memory.
    let row = clock_nanosleep_row c.args.below.now.kernel.now guest (argument c.args.words.now 0) (argument c.args.words.now 1) (argument c.args.words.now 2) in
    let taken = λ (guest : Guest) (memory : guest.memory ≡ c.args.space.now). c.in_ok-place.ensures ∙ ap (λ (m : Memory). spec_at m (argument c.args.words.now 2)) (sym memory) in
    c.number_call.ensures.kept guest row same (λ left. clock_nanosleep_mirrors guest c.args.below.now.kernel.now c.take_time.new.mem left _ _ c.in_ok-place.place (argument c.args.words.now 0) (argument c.args.words.now 1) (argument c.args.words.now 2) c.from.ensures c.from-2.ensures (omega arith) (omega arith) (taken guest memory))
