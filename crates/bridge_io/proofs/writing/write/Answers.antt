-- The write of the bytes that can be loaded
use Rattle.std.proofs.Common.{sym, ap, subst, ◌∙◌, arith}
use Rattle.std.specs.Prelude.{OnOk}
use Rattle.kernel_model.specs.Descriptions.{opened, output_of}
use Rattle.kernel_model.specs.State.{Kernel}
use Rattle.o32_model.specs.Answered.{Answers}
use Rattle.o32_model.specs.Step.{O32Step}
use Rattle.o32_model.specs.Transfers.{small_file_limit}
use Rattle.o32_model.specs.Words.{argument}
use Rattle.outside.specs.Streams.{contents}
use Rattle.bridge_log.specs.Keeping.{Keeps}
use Rattle.bridge_log.proofs.Looking.{kept_then, row_then, still_told}
use Rattle.bridge_io.proofs.WriteMirrors.{loadable_short, write_is}
use Rattle.bridge_io.specs.inside.Rooms.{IsRoom}
use Rattle.bridge_io.specs.inside.Written.{write_of}
use Rattle.bridge_io.proofs.writing.write.Goals as goal

pub returns-in_ok-load_buffer-in-Some-clause-row : goal.returns-in_ok-load_buffer-in-Some-clause-row
returns-in_ok-load_buffer-in-Some-clause-row g c = λ guest same memory left told.
    subst (λ (s : O32Step). Answers s c.send_loaded.result c.send_loaded.new.below.kernel.now guest.memory guest.processor
    (contents g.I.Source.left g.O.Sink.written g.E.Sink.written c.args.dev.now) (contents g.I.Source.left g.O.Sink.written g.E.Sink.written c.send_loaded.new.dev))
    (write_is c.args.below.now.kernel.now guest c.args.space.now (argument c.args.words.now 0) (argument c.args.words.now 1) (argument c.args.words.now 2) c.load_buffer.new.mem left memory c.in_ok-load_buffer-in-Some.ensures)
    (c.send_loaded.ensures.row guest same (sym c.in-Some.ensures) left told)

pub returns-in_ok-load_buffer-in-Some-clause-kept : goal.returns-in_ok-load_buffer-in-Some-clause-kept
returns-in_ok-load_buffer-in-Some-clause-kept g c = λ guest same memory left told.
    subst (λ (s : O32Step). OnOk c.send_loaded.result (Keeps s c.args.below.now.kernel.now left guest c.args.below.now.log.now c.send_loaded.new.below.log.now))
    (write_is c.args.below.now.kernel.now guest c.args.space.now (argument c.args.words.now 0) (argument c.args.words.now 1) (argument c.args.words.now 2) c.load_buffer.new.mem left memory c.in_ok-load_buffer-in-Some.ensures)
    (c.send_loaded.ensures.kept guest same (sym c.in-Some.ensures) (loadable_short c.args.space.now (argument c.args.words.now 1) (argument c.args.words.now 2) c.load_buffer.new.mem (omega arith) c.in_ok-load_buffer-in-Some.ensures) left told)

pub returns-in_ok-load_buffer-in-None-clause-row : goal.returns-in_ok-load_buffer-in-None-clause-row
returns-in_ok-load_buffer-in-None-clause-row g c = λ guest same memory left told.
    let seen = c.in_ok-room-in-None.ensures.looks left told in
    let bytes = c.load_buffer-in-None.new.mem in
    subst (λ (s : O32Step). Answers s c.write_loaded.result c.write_loaded.new.below.kernel.now guest.memory guest.processor
    (contents g.I.Source.left g.O.Sink.written g.E.Sink.written c.args.dev.now) (contents g.I.Source.left g.O.Sink.written g.E.Sink.written c.write_loaded.new.dev))
    (write_is c.args.below.now.kernel.now guest c.args.space.now (argument c.args.words.now 0) (argument c.args.words.now 1) (argument c.args.words.now 2) bytes left memory c.in_ok-load_buffer-in-None.ensures)
    (row_then (λ (k : Kernel). write_of k guest (argument c.args.words.now 0) (argument c.args.words.now 2) bytes left) c.write_loaded.result c.args.below.now.kernel.now c.room.new.below.kernel.now c.write_loaded.new.below.kernel.now guest.memory guest.processor
    (contents g.I.Source.left g.O.Sink.written g.E.Sink.written c.args.dev.now) (contents g.I.Source.left g.O.Sink.written g.E.Sink.written c.room.new.dev) (contents g.I.Source.left g.O.Sink.written g.E.Sink.written c.write_loaded.new.dev)
    seen.1
    (c.write_loaded.ensures.row guest same (ap (λ (k : Kernel). output_of k.files (argument c.args.words.now 0)) seen.1.same ∙ sym c.in-None.ensures)
    (subst (λ (k : Kernel). IsRoom k.files small_file_limit (λ d. d.position) (opened k.files (argument c.args.words.now 0)) c.in_ok-room-in-None.room) (sym seen.1.same) seen.0) left (still_told seen.1 told)))

pub returns-in_ok-load_buffer-in-None-clause-kept : goal.returns-in_ok-load_buffer-in-None-clause-kept
returns-in_ok-load_buffer-in-None-clause-kept g c = λ guest same memory left told.
    let seen = c.in_ok-room-in-None.ensures.looks left told in
    let bytes = c.load_buffer-in-None.new.mem in
    subst (λ (s : O32Step). OnOk c.write_loaded.result (Keeps s c.args.below.now.kernel.now left guest c.args.below.now.log.now c.write_loaded.new.below.log.now))
    (write_is c.args.below.now.kernel.now guest c.args.space.now (argument c.args.words.now 0) (argument c.args.words.now 1) (argument c.args.words.now 2) bytes left memory c.in_ok-load_buffer-in-None.ensures)
    (kept_then (λ (k : Kernel). write_of k guest (argument c.args.words.now 0) (argument c.args.words.now 2) bytes left) c.write_loaded.result c.args.below.now.kernel.now c.room.new.below.kernel.now guest
    (contents g.I.Source.left g.O.Sink.written g.E.Sink.written c.args.dev.now) (contents g.I.Source.left g.O.Sink.written g.E.Sink.written c.room.new.dev)
    left c.args.below.now.log.now c.room.new.below.log.now c.write_loaded.new.below.log.now seen.1
    (c.write_loaded.ensures.kept guest same (ap (λ (k : Kernel). output_of k.files (argument c.args.words.now 0)) seen.1.same ∙ sym c.in-None.ensures)
    (subst (λ (k : Kernel). IsRoom k.files small_file_limit (λ d. d.position) (opened k.files (argument c.args.words.now 0)) c.in_ok-room-in-None.room) (sym seen.1.same) seen.0) left (still_told seen.1 told)))
