-- What was found is that of the kernel as it was.
use Rattle.std.proofs.Common.{Some, sym, ap, ◌∙◌}
use Rattle.kernel_model.specs.Opening.{follows}
use Rattle.kernel_model.specs.State.{Kernel}
use Rattle.o32_model.specs.Opening.{open_row}
use Rattle.o32_model.specs.PathArguments.{base}
use Rattle.outside.specs.Streams.{contents}
use Rattle.bridge_open.proofs.OpenRows.{unlimited_by_flags}
use Rattle.bridge_paths.proofs.Passed.{kept_then, row_then, still_told, stopped_row}
use Rattle.bridge_open.specs.inside.Openings.{size_led}
use Rattle.bridge_open.proofs.opening.open_path.Goals as goal

pub returns-then-is_unlimited-clause-row : goal.returns-then-is_unlimited-clause-row
returns-then-is_unlimited-clause-row g c = λ guest same there.
    c.open_now.ensures.row guest same there
    (unlimited_by_flags c.args.below.now.kernel.now.files (base c.args.opening.directory) c.args.path.now c.args.opening.flags (sym c.is_unlimited.ensures ∙ c.if-is_unlimited.true))

pub returns-then-is_unlimited-clause-kept : goal.returns-then-is_unlimited-clause-kept
returns-then-is_unlimited-clause-kept g c = λ guest same there.
    c.open_now.ensures.kept guest same there
    (unlimited_by_flags c.args.below.now.kernel.now.files (base c.args.opening.directory) c.args.path.now c.args.opening.flags (sym c.is_unlimited.ensures ∙ c.if-is_unlimited.true))

pub returns-in_err-size-clause-row : goal.returns-in_err-size-clause-row
returns-in_err-size-clause-row g c = λ guest same there left told.
    stopped_row (open_row c.args.below.now.kernel.now guest (base c.args.opening.directory) c.args.opening.address (Some c.args.opening.flags) c.args.opening.mode left) c.from_residual.result _ _ _ _ _ c.from_residual.ensures.0 (c.in_err-size.ensures.looks left told)

pub returns-clause-row : goal.returns-clause-row
returns-clause-row g c = λ guest same there left told.
    let seen = c.in_ok-size.ensures.looks left told in
    row_then (λ (k : Kernel). open_row k guest (base c.args.opening.directory) c.args.opening.address (Some c.args.opening.flags) c.args.opening.mode left) c.open_sized.result c.args.below.now.kernel.now c.size_led.new.below.kernel.now c.open_sized.new.below.kernel.now guest.memory guest.processor
    (contents g.I.Source.left g.O.Sink.written g.E.Sink.written c.args.dev.now) (contents g.I.Source.left g.O.Sink.written g.E.Sink.written c.size_led.new.dev) (contents g.I.Source.left g.O.Sink.written g.E.Sink.written c.open_sized.new.dev)
    seen.1
    (c.open_sized.ensures.row guest same there
    (seen.0 ∙ ap (size_led c.args.below.now.kernel.now.files (base c.args.opening.directory) c.args.path.now) c.follows.ensures
    ∙ ap (λ (k : Kernel). size_led k.files (base c.args.opening.directory) c.args.path.now (follows c.args.opening.flags)) (sym seen.1.same)) left (still_told seen.1 told))

pub returns-clause-kept : goal.returns-clause-kept
returns-clause-kept g c = λ guest same there left told.
    let seen = c.in_ok-size.ensures.looks left told in
    kept_then (λ (k : Kernel). open_row k guest (base c.args.opening.directory) c.args.opening.address (Some c.args.opening.flags) c.args.opening.mode left) c.open_sized.result c.args.below.now.kernel.now c.size_led.new.below.kernel.now guest
    (contents g.I.Source.left g.O.Sink.written g.E.Sink.written c.args.dev.now) (contents g.I.Source.left g.O.Sink.written g.E.Sink.written c.size_led.new.dev) left c.args.below.now.log.now c.size_led.new.below.log.now c.open_sized.new.below.log.now
    seen.1
    (c.open_sized.ensures.kept guest same there
    (seen.0 ∙ ap (size_led c.args.below.now.kernel.now.files (base c.args.opening.directory) c.args.path.now) c.follows.ensures
    ∙ ap (λ (k : Kernel). size_led k.files (base c.args.opening.directory) c.args.path.now (follows c.args.opening.flags)) (sym seen.1.same)) left (still_told seen.1 told))
