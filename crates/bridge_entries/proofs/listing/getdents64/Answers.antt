-- The records that the native call gave are shown as the program's.
use Rattle.std.proofs.Common.{List, Option, sym, ap, arith, subst, ◌∙◌}
use Rattle.kernel_core.specs.declared.log_entry.LogEntry.{LogEntry}
use Rattle.kernel_core.specs.declared.record.Effect.{Effect}
use Rattle.kernel_model.specs.Pipes.{nothing}
use Rattle.native_calls.specs.History.{moment, opening}
use Rattle.o32_model.specs.Effects.{Effected}
use Rattle.o32_model.specs.Entries.{entry64_form, getdents_row}
use Rattle.o32_model.specs.GuestBytes.{with_stored}
use Rattle.o32_model.specs.declared.call_words.CallWords.{CallWords}
use Rattle.o32_model.specs.Words.{argument}
use Rattle.bridge_log.proofs.Ends.{fails_before, stopped_alike, stopped_after}
use Rattle.bridge_log.specs.Keeping.{Logged, reached}
use Rattle.bridge_log.specs.Outcomes.{outcome_of}
use Rattle.bridge_entries.proofs.WideCalls.{Asks, answers_err, native_of, row_of, wide_alike, wide_called, wide_keeps}
use Rattle.bridge_entries.proofs.listing.getdents64.Goals as goal

pub returns-in_err-fresh_room-clause-row : goal.returns-in_err-fresh_room-clause-row
returns-in_err-fresh_room-clause-row g c = λ guest same memory left told.
    fails_before (getdents_row entry64_form c.args.below.now.kernel.now guest (argument c.args.words.now 0) (argument c.args.words.now 1) (argument c.args.words.now 2) left) c.from_residual.result _ _ _ _ c.from_residual.ensures.0

pub returns-in_err-reply-clause-row : goal.returns-in_err-reply-clause-row
returns-in_err-reply-clause-row g c = λ guest same memory left told.
    let asks : Asks guest c.args.below.now.kernel.now (argument c.args.words.now 0) (argument c.args.words.now 1) (argument c.args.words.now 2) c.from.result c.from-2.result c.writable-room.result c.fresh_room.new.mem c.args.space.now = record {
      same = memory;
      zeros = c.in_ok-fresh_room.ensures;
      count = c.writable-room.ensures.value;
      less = c.writable-room.ensures.bound;
      free = c.writable-room.ensures.free;
      first_is = c.from.ensures;
      third_is = c.from-2.ensures;
      fd_fits = omega arith;
      size_fits = omega arith;
      valid = c.files_valid.ensures.nodes;
    } in
    answers_err (row_of guest c.args.below.now.kernel.now (argument c.args.words.now 0) (argument c.args.words.now 1) (argument c.args.words.now 2) c.from.result c.from-2.result c.writable-room.result c.fresh_room.new.mem c.args.space.now asks left) c.from_residual-in_err-reply.result _ _ _ _ _ c.from_residual-in_err-reply.ensures.0
    (stopped_alike (wide_alike guest c.args.below.now.kernel.now (argument c.args.words.now 0) (argument c.args.words.now 1) (argument c.args.words.now 2) c.from.result c.from-2.result c.writable-room.result c.fresh_room.new.mem c.args.space.now asks left) (c.in_err-reply.ensures.row left told))

pub returns-in_err-shown-clause-row : goal.returns-in_err-shown-clause-row
returns-in_err-shown-clause-row g c = λ guest same memory left told.
    let asks : Asks guest c.args.below.now.kernel.now (argument c.args.words.now 0) (argument c.args.words.now 1) (argument c.args.words.now 2) c.from.result c.from-2.result c.writable-room.result c.fresh_room.new.mem c.args.space.now = record {
      same = memory;
      zeros = c.in_ok-fresh_room.ensures;
      count = c.writable-room.ensures.value;
      less = c.writable-room.ensures.bound;
      free = c.writable-room.ensures.free;
      first_is = c.from.ensures;
      third_is = c.from-2.ensures;
      fd_fits = omega arith;
      size_fits = omega arith;
      valid = c.files_valid.ensures.nodes;
    } in
    answers_err (row_of guest c.args.below.now.kernel.now (argument c.args.words.now 0) (argument c.args.words.now 1) (argument c.args.words.now 2) c.from.result c.from-2.result c.writable-room.result c.fresh_room.new.mem c.args.space.now asks left) c.from_residual-in_err-shown.result _ _ _ _ _ c.from_residual-in_err-shown.ensures.0
    (stopped_after (wide_alike guest c.args.below.now.kernel.now (argument c.args.words.now 0) (argument c.args.words.now 1) (argument c.args.words.now 2) c.from.result c.from-2.result c.writable-room.result c.fresh_room.new.mem c.args.space.now asks left) (c.in_ok-reply.ensures.row left told))

pub returns-in_err-put_some-clause-row : goal.returns-in_err-put_some-clause-row
returns-in_err-put_some-clause-row g c = λ guest same memory left told.
    let asks : Asks guest c.args.below.now.kernel.now (argument c.args.words.now 0) (argument c.args.words.now 1) (argument c.args.words.now 2) c.from.result c.from-2.result c.writable-room.result c.fresh_room.new.mem c.args.space.now = record {
      same = memory;
      zeros = c.in_ok-fresh_room.ensures;
      count = c.writable-room.ensures.value;
      less = c.writable-room.ensures.bound;
      free = c.writable-room.ensures.free;
      first_is = c.from.ensures;
      third_is = c.from-2.ensures;
      fd_fits = omega arith;
      size_fits = omega arith;
      valid = c.files_valid.ensures.nodes;
    } in
    answers_err (row_of guest c.args.below.now.kernel.now (argument c.args.words.now 0) (argument c.args.words.now 1) (argument c.args.words.now 2) c.from.result c.from-2.result c.writable-room.result c.fresh_room.new.mem c.args.space.now asks left) c.from_residual-in_err-put_some.result _ _ _ _ _ c.from_residual-in_err-put_some.ensures.0
    (stopped_after (wide_alike guest c.args.below.now.kernel.now (argument c.args.words.now 0) (argument c.args.words.now 1) (argument c.args.words.now 2) c.from.result c.from-2.result c.writable-room.result c.fresh_room.new.mem c.args.space.now asks left) (c.in_ok-reply.ensures.row left told))

pub returns-clause-row : goal.returns-clause-row
returns-clause-row g c = λ guest same memory left told.
    let asks : Asks guest c.args.below.now.kernel.now (argument c.args.words.now 0) (argument c.args.words.now 1) (argument c.args.words.now 2) c.from.result c.from-2.result c.writable-room.result c.fresh_room.new.mem c.args.space.now = record {
      same = memory;
      zeros = c.in_ok-fresh_room.ensures;
      count = c.writable-room.ensures.value;
      less = c.writable-room.ensures.bound;
      free = c.writable-room.ensures.free;
      first_is = c.from.ensures;
      third_is = c.from-2.ensures;
      fd_fits = omega arith;
      size_fits = omega arith;
      valid = c.files_valid.ensures.nodes;
    } in
    wide_called guest c.args.below.now.kernel.now (argument c.args.words.now 0) (argument c.args.words.now 1) (argument c.args.words.now 2) c.from.result c.from-2.result c.writable-room.result c.fresh_room.new.mem c.args.space.now asks left
    c.in_ok-reply.reply c.native.new.self.kernel.now c.native.new.self.memory.now _ _ (c.in_ok-reply.ensures.row left told)
    c.in_ok-shown.shown (λ found listed back. c.in_ok-shown.ensures found listed (c.bytes_back.ensures ∙ back))
    c.put_some.new.space (c.in_ok-put_some.ensures.stored ∙ ap (with_stored c.args.space.now (argument c.args.words.now 1)) c.as_slice.ensures.value) c.outcome_of.result (c.outcome_of.ensures ∙ ap (λ (w : CallWords). outcome_of w c.in_ok-reply.reply) (sym same))

pub returns-clause-kept : goal.returns-clause-kept
returns-clause-kept g c = λ guest same memory left told.
    let asks : Asks guest c.args.below.now.kernel.now (argument c.args.words.now 0) (argument c.args.words.now 1) (argument c.args.words.now 2) c.from.result c.from-2.result c.writable-room.result c.fresh_room.new.mem c.args.space.now = record {
      same = memory;
      zeros = c.in_ok-fresh_room.ensures;
      count = c.writable-room.ensures.value;
      less = c.writable-room.ensures.bound;
      free = c.writable-room.ensures.free;
      first_is = c.from.ensures;
      third_is = c.from-2.ensures;
      fd_fits = omega arith;
      size_fits = omega arith;
      valid = c.files_valid.ensures.nodes;
    } in
    let nstep = native_of guest c.args.below.now.kernel.now (argument c.args.words.now 0) (argument c.args.words.now 1) (argument c.args.words.now 2) c.from.result c.from-2.result c.writable-room.result c.fresh_room.new.mem c.args.space.now asks left in
    wide_keeps guest c.args.below.now.kernel.now (argument c.args.words.now 0) (argument c.args.words.now 1) (argument c.args.words.now 2) c.from.result c.from-2.result c.writable-room.result c.fresh_room.new.mem c.args.space.now asks left
    c.in_ok-reply.reply c.native.new.self.kernel.now c.native.new.self.memory.now _ _ (c.in_ok-reply.ensures.row left told)
    c.in_ok-shown.shown (λ found listed back. c.in_ok-shown.ensures found listed (c.bytes_back.ensures ∙ back))
    c.put_some.new.space (c.in_ok-put_some.ensures.stored ∙ ap (with_stored c.args.space.now (argument c.args.words.now 1)) c.as_slice.ensures.value) c.args.below.now.log.now c.put_some.new.log
    (subst (λ (n : Option (List LogEntry)). Logged c.args.below.now.log.now.native n (opening c.args.below.now.kernel.now left) (moment nstep.kernel nstep.left nstep.sent)) (sym c.put_some.ensures.native) (c.in_ok-reply.ensures.kept left told nothing))
    (subst (λ (o : Option (List Effect)). Effected o c.put_some.new.log.effects (reached guest.processor c.args.space.now.pages nothing) (reached guest.processor c.put_some.new.space.pages nothing)) c.native.ensures.effects
    (c.in_ok-put_some.ensures.effects guest.processor nothing))
