-- The native call tells whether there is a free descriptor.
use Rattle.std.proofs.Common.{Some, ap, sym, ◌∙◌}
use Rattle.kernel_model.specs.Pipes.{nothing}
use Rattle.o32_model.specs.Opening.{open_row}
use Rattle.o32_model.specs.PathArguments.{base}
use Rattle.o32_model.specs.declared.call_words.CallWords.{CallWords}
use Rattle.outside.specs.Streams.{contents}
use Rattle.bridge_paths.proofs.Passed.{fails_before, stopped_alike}
use Rattle.bridge_paths.proofs.Passed.{mirrors_alike, mirrors_called, mirrors_keeps}
use Rattle.bridge_paths.proofs.HostPaths.{one_zero}
use Rattle.bridge_open.proofs.OpenRows.{fails_stopped, large_mirrors}
use Rattle.bridge_open.specs.inside.Openings.{outcome_of_large}
use Rattle.bridge_open.proofs.large.too_large.Goals as goal

pub returns-in_err-push_zeros-clause-row : goal.returns-in_err-push_zeros-clause-row
returns-in_err-push_zeros-clause-row g c = λ guest directory address mode path flags same there large left told.
    fails_before (open_row c.args.below.now.kernel.now guest (base directory) address (Some flags) mode left) c.from_residual.result _ _ _ _ c.from_residual.ensures.0

pub returns-in_err-reply-clause-row : goal.returns-in_err-reply-clause-row
returns-in_err-reply-clause-row g c = λ guest directory address mode path flags same there large left told.
    fails_stopped (open_row c.args.below.now.kernel.now guest (base directory) address (Some flags) mode left) c.from_residual-in_err-reply.result c.native.new.self.kernel.now guest.memory guest.processor
    (contents g.I.Source.left g.O.Sink.written g.E.Sink.written c.args.dev.now) (contents g.I.Source.left g.O.Sink.written g.E.Sink.written c.native.new.dev) c.from_residual-in_err-reply.ensures.0
    (stopped_alike (mirrors_alike
    (large_mirrors guest c.args.below.now.kernel.now directory address mode flags path c.push_zeros.new.self left there
    (one_zero c.clear.new.self c.push_zeros.new.self c.clear.ensures.empty c.in_ok-push_zeros.ensures.ok) large))
    (c.in_err-reply.ensures.row left told))

pub returns-clause-row : goal.returns-clause-row
returns-clause-row g c = λ guest directory address mode path flags same there large left told.
    mirrors_called c.outcome_of_large.result (c.outcome_of_large.ensures ∙ ap (λ (w : CallWords). outcome_of_large w c.in_ok-reply.reply) (sym same))
    (large_mirrors guest c.args.below.now.kernel.now directory address mode flags path c.push_zeros.new.self left there
    (one_zero c.clear.new.self c.push_zeros.new.self c.clear.ensures.empty c.in_ok-push_zeros.ensures.ok) large)
    (c.in_ok-reply.ensures.row left told)

pub returns-clause-kept : goal.returns-clause-kept
returns-clause-kept g c = λ guest directory address mode path flags same there large left told.
    mirrors_keeps
    (large_mirrors guest c.args.below.now.kernel.now directory address mode flags path c.push_zeros.new.self left there
    (one_zero c.clear.new.self c.push_zeros.new.self c.clear.ensures.empty c.in_ok-push_zeros.ensures.ok) large)
    (c.in_ok-reply.ensures.kept left told nothing) c.native.ensures.effects
