-- The times are read, or the call is refused for them.
use Rattle.std.proofs.Common.{ap, sym, ◌∙◌, option_map, arith}
use Rattle.guest_space.specs.Memory.{Memory}
use Rattle.kernel_model.specs.Came.{given_or_none}
use Rattle.o32_model.specs.NodeCalls.{times_at, utimensat_row}
use Rattle.o32_model.specs.PathArguments.{base}
use Rattle.o32_model.specs.Words.{argument}
use Rattle.o32_model.specs.declared.outcome.Outcome.TheVariants.{Error}
use Rattle.outside.specs.Streams.{contents}
use Rattle.bridge_paths.proofs.Passed.{fails_before, still_called, still_keeps}
use Rattle.bridge_file.proofs.OptionalPaths.{optional_path}
use Rattle.bridge_paths.proofs.Refusing.{still_of}
use Rattle.bridge_file.proofs.TimeRows.{times_lost, utimensat_mirrors}
use Rattle.bridge_file.specs.inside.BothTimes.{path_or_none, times_of, times_read}
use Rattle.bridge_file.proofs.times.set_times.Goals as goal

pub returns-in-Err-clause-row : goal.returns-in-Err-clause-row
returns-in-Err-clause-row g c = λ guest same memory left told.
    let at = contents g.I.Source.left g.O.Sink.written g.E.Sink.written c.args.dev.now in
    let step = utimensat_row c.args.below.now.kernel.now guest (base (argument c.args.caller.now.words.now 0)) (argument c.args.caller.now.words.now 1) (argument c.args.caller.now.words.now 2) (argument c.args.caller.now.words.now 3) left in
    let there = ap (λ (m : Memory). path_or_none m (argument c.args.caller.now.words.now 1)) memory ∙ c.requires.found in
    let given = ap (λ (m : Memory). given_or_none (times_at m (argument c.args.caller.now.words.now 2))) memory ∙ sym c.read_times.ensures ∙ ap times_read c.in-Err.is in
    still_called guest c.args.below.now.kernel.now left (Error c.in-Err.error) step at told
    (still_of guest c.args.below.now.kernel.now c.in-Err.error left step (times_lost guest c.args.below.now.kernel.now (argument c.args.caller.now.words.now 0) (argument c.args.caller.now.words.now 1) (argument c.args.caller.now.words.now 2) (argument c.args.caller.now.words.now 3) c.args.path.now c.in-Err.error left there given))

pub returns-in-Err-clause-kept : goal.returns-in-Err-clause-kept
returns-in-Err-clause-kept g c = λ guest same memory left told.
    let step = utimensat_row c.args.below.now.kernel.now guest (base (argument c.args.caller.now.words.now 0)) (argument c.args.caller.now.words.now 1) (argument c.args.caller.now.words.now 2) (argument c.args.caller.now.words.now 3) left in
    let there = ap (λ (m : Memory). path_or_none m (argument c.args.caller.now.words.now 1)) memory ∙ c.requires.found in
    let given = ap (λ (m : Memory). given_or_none (times_at m (argument c.args.caller.now.words.now 2))) memory ∙ sym c.read_times.ensures ∙ ap times_read c.in-Err.is in
    still_keeps guest c.args.below.now.kernel.now left (Error c.in-Err.error) step c.args.below.now.log.now
    (still_of guest c.args.below.now.kernel.now c.in-Err.error left step (times_lost guest c.args.below.now.kernel.now (argument c.args.caller.now.words.now 0) (argument c.args.caller.now.words.now 1) (argument c.args.caller.now.words.now 2) (argument c.args.caller.now.words.now 3) c.args.path.now c.in-Err.error left there given))

pub returns-in_err-at-in-Ok-clause-row : goal.returns-in_err-at-in-Ok-clause-row
returns-in_err-at-in-Ok-clause-row g c = λ guest same memory left told.
    fails_before (utimensat_row c.args.below.now.kernel.now guest (base (argument c.args.caller.now.words.now 0)) (argument c.args.caller.now.words.now 1) (argument c.args.caller.now.words.now 2) (argument c.args.caller.now.words.now 3) left) c.from_residual.result _ _ _ _ c.from_residual.ensures.0

pub returns-in_err-times_at-in-Ok-clause-row : goal.returns-in_err-times_at-in-Ok-clause-row
returns-in_err-times_at-in-Ok-clause-row g c = λ guest same memory left told.
    fails_before (utimensat_row c.args.below.now.kernel.now guest (base (argument c.args.caller.now.words.now 0)) (argument c.args.caller.now.words.now 1) (argument c.args.caller.now.words.now 2) (argument c.args.caller.now.words.now 3) left) c.from_residual-in_err-times_at-in-Ok.result _ _ _ _ c.from_residual-in_err-times_at-in-Ok.ensures.0

pub returns-in_ok-times_at-in-Ok-clause-row : goal.returns-in_ok-times_at-in-Ok-clause-row
returns-in_ok-times_at-in-Ok-clause-row g c = λ guest same memory.
    let there = ap (λ (m : Memory). path_or_none m (argument c.args.caller.now.words.now 1)) memory ∙ c.requires.found in
    let given = ap (λ (m : Memory). given_or_none (times_at m (argument c.args.caller.now.words.now 2))) memory ∙ sym c.read_times.ensures ∙ ap times_read c.in-Ok.is in
    let here = optional_path c.put_times_or_none.new.mem c.in_ok-at-in-Ok.at c.args.path.now c.requires.short c.requires.plain (c.in_ok-times_at-in-Ok.ensures.path c.in_ok-at-in-Ok.at c.args.path.now c.in_ok-at-in-Ok.ensures) in
    c.number_call.ensures.row guest (utimensat_row c.args.below.now.kernel.now guest (base (argument c.args.caller.now.words.now 0)) (argument c.args.caller.now.words.now 1) (argument c.args.caller.now.words.now 2) (argument c.args.caller.now.words.now 3)) same
    (λ left. utimensat_mirrors guest c.args.below.now.kernel.now (argument c.args.caller.now.words.now 1) (argument c.args.caller.now.words.now 2) _ c.in_ok-at-in-Ok.at c.in_ok-times_at-in-Ok.times_at _ (argument c.args.caller.now.words.now 0) (argument c.args.caller.now.words.now 3) c.args.path.now (option_map times_of c.in-Ok.given) c.put_times_or_none.new.mem left
    c.from.ensures c.from-in-Ok.ensures (omega arith) (omega arith) there here given c.in_ok-times_at-in-Ok.ensures.times)

pub returns-in_ok-times_at-in-Ok-clause-kept : goal.returns-in_ok-times_at-in-Ok-clause-kept
returns-in_ok-times_at-in-Ok-clause-kept g c = λ guest same memory.
    let there = ap (λ (m : Memory). path_or_none m (argument c.args.caller.now.words.now 1)) memory ∙ c.requires.found in
    let given = ap (λ (m : Memory). given_or_none (times_at m (argument c.args.caller.now.words.now 2))) memory ∙ sym c.read_times.ensures ∙ ap times_read c.in-Ok.is in
    let here = optional_path c.put_times_or_none.new.mem c.in_ok-at-in-Ok.at c.args.path.now c.requires.short c.requires.plain (c.in_ok-times_at-in-Ok.ensures.path c.in_ok-at-in-Ok.at c.args.path.now c.in_ok-at-in-Ok.ensures) in
    c.number_call.ensures.kept guest (utimensat_row c.args.below.now.kernel.now guest (base (argument c.args.caller.now.words.now 0)) (argument c.args.caller.now.words.now 1) (argument c.args.caller.now.words.now 2) (argument c.args.caller.now.words.now 3)) same
    (λ left. utimensat_mirrors guest c.args.below.now.kernel.now (argument c.args.caller.now.words.now 1) (argument c.args.caller.now.words.now 2) _ c.in_ok-at-in-Ok.at c.in_ok-times_at-in-Ok.times_at _ (argument c.args.caller.now.words.now 0) (argument c.args.caller.now.words.now 3) c.args.path.now (option_map times_of c.in-Ok.given) c.put_times_or_none.new.mem left
    c.from.ensures c.from-in-Ok.ensures (omega arith) (omega arith) there here given c.in_ok-times_at-in-Ok.ensures.times)
