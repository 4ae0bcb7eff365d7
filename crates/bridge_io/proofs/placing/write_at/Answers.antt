-- The write that is planned, of the bytes that can be loaded
use Rattle.std.proofs.Common.{sym, subst}
use Rattle.std.specs.Int.{w64, cast_signed}
use Rattle.std.specs.Prelude.{OnOk}
use Rattle.kernel_model.specs.State.{Kernel}
use Rattle.o32_model.specs.Answered.{Answers}
use Rattle.o32_model.specs.Step.{O32Step}
use Rattle.o32_model.specs.Transfers.{small_file_limit}
use Rattle.o32_model.specs.Words.{argument}
use Rattle.outside.specs.Streams.{contents}
use Rattle.bridge_log.specs.Keeping.{Keeps}
use Rattle.bridge_io.proofs.PwriteMirrors.{pwrite_is}
use Rattle.bridge_log.proofs.Looking.{kept_then, row_then, still_told}
use Rattle.bridge_io.specs.inside.Plans.{IsPlan}
use Rattle.bridge_io.specs.inside.Written.{place_write_of}
use Rattle.bridge_io.proofs.placing.write_at.Goals as goal

pub returns-clause-row : goal.returns-clause-row
returns-clause-row g c = λ guest same memory left told.
    let seen = c.in_ok-plan.ensures.looks left told in
    let bytes = c.load_buffer.new.mem in
    subst (λ (s : O32Step). Answers s c.write_planned.result c.write_planned.new.below.kernel.now guest.memory guest.processor
    (contents g.I.Source.left g.O.Sink.written g.E.Sink.written c.args.dev.now) (contents g.I.Source.left g.O.Sink.written g.E.Sink.written c.write_planned.new.dev))
    (pwrite_is c.args.below.now.kernel.now guest c.args.space.now (argument c.args.words.now 0) (argument c.args.words.now 1) (argument c.args.words.now 2) c.args.place bytes left memory c.in_ok-load_buffer.ensures)
    (row_then (λ (k : Kernel). place_write_of k guest (argument c.args.words.now 0) (cast_signed w64 c.args.place) (argument c.args.words.now 2) bytes left) c.write_planned.result c.args.below.now.kernel.now c.plan.new.below.kernel.now c.write_planned.new.below.kernel.now guest.memory guest.processor
    (contents g.I.Source.left g.O.Sink.written g.E.Sink.written c.args.dev.now) (contents g.I.Source.left g.O.Sink.written g.E.Sink.written c.plan.new.dev) (contents g.I.Source.left g.O.Sink.written g.E.Sink.written c.write_planned.new.dev)
    seen.1
    (c.write_planned.ensures.row guest (cast_signed w64 c.args.place) same
    (subst (λ (k : Kernel). IsPlan k.files small_file_limit (argument c.args.words.now 0) (cast_signed w64 c.args.place) c.in_ok-plan.plan) (sym seen.1.same) seen.0) left (still_told seen.1 told)))

pub returns-clause-kept : goal.returns-clause-kept
returns-clause-kept g c = λ guest same memory left told.
    let seen = c.in_ok-plan.ensures.looks left told in
    let bytes = c.load_buffer.new.mem in
    subst (λ (s : O32Step). OnOk c.write_planned.result (Keeps s c.args.below.now.kernel.now left guest c.args.below.now.log.now c.write_planned.new.below.log.now))
    (pwrite_is c.args.below.now.kernel.now guest c.args.space.now (argument c.args.words.now 0) (argument c.args.words.now 1) (argument c.args.words.now 2) c.args.place bytes left memory c.in_ok-load_buffer.ensures)
    (kept_then (λ (k : Kernel). place_write_of k guest (argument c.args.words.now 0) (cast_signed w64 c.args.place) (argument c.args.words.now 2) bytes left) c.write_planned.result c.args.below.now.kernel.now c.plan.new.below.kernel.now guest
    (contents g.I.Source.left g.O.Sink.written g.E.Sink.written c.args.dev.now) (contents g.I.Source.left g.O.Sink.written g.E.Sink.written c.plan.new.dev)
    left c.args.below.now.log.now c.plan.new.below.log.now c.write_planned.new.below.log.now seen.1
    (c.write_planned.ensures.kept guest (cast_signed w64 c.args.place) same
    (subst (λ (k : Kernel). IsPlan k.files small_file_limit (argument c.args.words.now 0) (cast_signed w64 c.args.place) c.in_ok-plan.plan) (sym seen.1.same) seen.0) left (still_told seen.1 told)))
