-- The path is read, or the call is refused for it.
use Rattle.std.proofs.Common.{ℕ, ◌<◌, List, Option, Result, None, ◌≡◌, IfOk, length, position, ap, subst, ◌∙◌}
use Rattle.std.specs.Prelude.{IfSome}
use Rattle.guest_space.specs.Memory.{Memory}
use Rattle.kernel_core.specs.declared.error.Errno.{Errno}
use Rattle.o32_model.specs.NodeCalls.{utimensat_row}
use Rattle.o32_model.specs.PathArguments.{base}
use Rattle.o32_model.specs.Paths.{is_nul, path_limit}
use Rattle.o32_model.specs.Words.{argument}
use Rattle.o32_model.specs.declared.outcome.Outcome.TheVariants.{Error}
use Rattle.outside.specs.Streams.{contents}
use Rattle.bridge_paths.proofs.Passed.{fails_before, still_called, still_keeps}
use Rattle.bridge_paths.proofs.Refusing.{still_of}
use Rattle.bridge_file.proofs.TimeRows.{path_lost}
use Rattle.bridge_file.specs.inside.BothTimes.{path_or_none}
use Rattle.bridge_file.proofs.times.utimensat.Goals as goal

pub set_times-requires : goal.set_times-requires
set_times-requires g c = record {
  found = c.in_ok-error.ensures.answer ∙ c.in-Ok.is;
  short = subst (λ (r : Result (Option (List ℕ)) Errno). IfOk r (λ o. IfSome o (λ p. length p < path_limit))) c.in-Ok.is c.in_ok-error.ensures.short;
  plain = subst (λ (r : Result (Option (List ℕ)) Errno). IfOk r (λ o. IfSome o (λ p. position is_nul p ≡ None))) c.in-Ok.is c.in_ok-error.ensures.plain;
}

pub returns-in_err-error-clause-row : goal.returns-in_err-error-clause-row
returns-in_err-error-clause-row g c = λ guest same memory left told.
    fails_before (utimensat_row c.args.below.now.kernel.now guest (base (argument c.args.caller.now.words.now 0)) (argument c.args.caller.now.words.now 1) (argument c.args.caller.now.words.now 2) (argument c.args.caller.now.words.now 3) left) c.from_residual.result _ _ _ _ c.from_residual.ensures.0

pub returns-in-Err-clause-row : goal.returns-in-Err-clause-row
returns-in-Err-clause-row g c = λ guest same memory left told.
    let at = contents g.I.Source.left g.O.Sink.written g.E.Sink.written c.args.dev.now in
    let step = utimensat_row c.args.below.now.kernel.now guest (base (argument c.args.caller.now.words.now 0)) (argument c.args.caller.now.words.now 1) (argument c.args.caller.now.words.now 2) (argument c.args.caller.now.words.now 3) left in
    let lost = path_lost guest c.args.below.now.kernel.now (argument c.args.caller.now.words.now 0) (argument c.args.caller.now.words.now 1) (argument c.args.caller.now.words.now 2) (argument c.args.caller.now.words.now 3) c.in-Err.error left (ap (λ (m : Memory). path_or_none m (argument c.args.caller.now.words.now 1)) memory ∙ c.in_ok-error.ensures.answer ∙ c.in-Err.is) in
    still_called guest c.args.below.now.kernel.now left (Error c.in-Err.error) step at told (still_of guest c.args.below.now.kernel.now c.in-Err.error left step lost)

pub returns-in-Err-clause-kept : goal.returns-in-Err-clause-kept
returns-in-Err-clause-kept g c = λ guest same memory left told.
    let step = utimensat_row c.args.below.now.kernel.now guest (base (argument c.args.caller.now.words.now 0)) (argument c.args.caller.now.words.now 1) (argument c.args.caller.now.words.now 2) (argument c.args.caller.now.words.now 3) left in
    let lost = path_lost guest c.args.below.now.kernel.now (argument c.args.caller.now.words.now 0) (argument c.args.caller.now.words.now 1) (argument c.args.caller.now.words.now 2) (argument c.args.caller.now.words.now 3) c.in-Err.error left (ap (λ (m : Memory). path_or_none m (argument c.args.caller.now.words.now 1)) memory ∙ c.in_ok-error.ensures.answer ∙ c.in-Err.is) in
    still_keeps guest c.args.below.now.kernel.now left (Error c.in-Err.error) step c.args.below.now.log.now (still_of guest c.args.below.now.kernel.now c.in-Err.error left step lost)
