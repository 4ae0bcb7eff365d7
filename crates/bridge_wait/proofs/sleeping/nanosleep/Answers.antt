-- The native call mirrors the row, over the time that was taken.
use Rattle.std.proofs.Common.{◌≡◌, ◌∙◌, ap, subst, sym}
use Rattle.guest_space.specs.Memory.{Memory}
use Rattle.o32_model.specs.Answered.{Answers}
use Rattle.o32_model.specs.Sleeps.{nanosleep_row}
use Rattle.o32_model.specs.Step.{Guest}
use Rattle.o32_model.specs.Times.{spec_at}
use Rattle.outside.specs.Streams.{contents}
use Rattle.bridge_wait.proofs.SleepMirrors.{nanosleep_mirrors}
use Rattle.bridge_wait.proofs.sleeping.nanosleep.Goals as goal

pub returns-clause-row : goal.returns-clause-row
returns-clause-row g c = λ guest same memory left told.
    let row = nanosleep_row c.args.below.now.kernel.now guest c.args.address in
    let taken = λ (guest : Guest) (memory : guest.memory ≡ c.args.space.now). c.in_ok-place.ensures ∙ ap (λ (m : Memory). spec_at m c.args.address) (sym memory) in
    subst (λ (m : Memory). Answers (row left) c.number_call.result c.number_call.new.self.kernel.now m guest.processor (contents g.I.Source.left g.O.Sink.written g.E.Sink.written c.args.dev.now) (contents g.I.Source.left g.O.Sink.written g.E.Sink.written c.number_call.new.dev)) memory
    (c.number_call.ensures.row guest row same (λ left. nanosleep_mirrors guest c.args.below.now.kernel.now c.take_time.new.mem left c.in_ok-place.place c.args.address (taken guest memory)) left told)

pub returns-clause-kept : goal.returns-clause-kept
returns-clause-kept g c = λ guest same memory.
    let row = nanosleep_row c.args.below.now.kernel.now guest c.args.address in
    let taken = λ (guest : Guest) (memory : guest.memory ≡ c.args.space.now). c.in_ok-place.ensures ∙ ap (λ (m : Memory). spec_at m c.args.address) (sym memory) in
    c.number_call.ensures.kept guest row same (λ left. nanosleep_mirrors guest c.args.below.now.kernel.now c.take_time.new.mem left c.in_ok-place.place c.args.address (taken guest memory))
