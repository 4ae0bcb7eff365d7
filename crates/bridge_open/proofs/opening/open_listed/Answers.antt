-- The path is read, or the call is refused for it.
use Rattle.std.proofs.Common.{ℕ, ◌<◌, List, Result, None, Some, ◌≡◌, IfOk, length, position, sym, ap, subst, ◌∙◌}
use Rattle.guest_space.specs.Memory.{Memory}
use Rattle.kernel_core.specs.declared.error.Errno.{Errno}
use Rattle.o32_model.specs.Opening.{open_row}
use Rattle.o32_model.specs.PathArguments.{base}
use Rattle.o32_model.specs.Paths.{is_nul, path_at, path_limit}
use Rattle.o32_model.specs.declared.outcome.Outcome.TheVariants.{Error}
use Rattle.outside.specs.Streams.{contents}
use Rattle.bridge_paths.proofs.Passed.{fails_before, still_called, still_keeps}
use Rattle.bridge_open.proofs.OpenRows.{open_lost}
use Rattle.bridge_paths.proofs.Refusing.{still_of}
use Rattle.bridge_open.proofs.opening.open_listed.Goals as goal

pub open_path-requires : goal.open_path-requires
open_path-requires g c = record {
  listed = c.requires.listed;
  short = subst (λ (r : Result (List ℕ) Errno). IfOk r (λ p. length p < path_limit)) c.in-Ok.is c.in_ok-error.ensures.short;
  plain = subst (λ (r : Result (List ℕ) Errno). IfOk r (λ p. position is_nul p ≡ None)) c.in-Ok.is c.in_ok-error.ensures.plain;
}

pub returns-in_err-error-clause-row : goal.returns-in_err-error-clause-row
returns-in_err-error-clause-row g c = λ guest same memory left told.
    fails_before (open_row c.args.below.now.kernel.now guest (base c.args.opening.directory) c.args.opening.address (Some c.args.opening.flags) c.args.opening.mode left) c.from_residual.result _ _ _ _ c.from_residual.ensures.0

pub returns-in-Err-clause-row : goal.returns-in-Err-clause-row
returns-in-Err-clause-row g c = λ guest same memory left told.
    let at = contents g.I.Source.left g.O.Sink.written g.E.Sink.written c.args.dev.now in
    let step = open_row c.args.below.now.kernel.now guest (base c.args.opening.directory) c.args.opening.address (Some c.args.opening.flags) c.args.opening.mode left in
    let lost = open_lost guest c.args.below.now.kernel.now (base c.args.opening.directory) c.args.opening.address c.args.opening.mode c.args.opening.flags c.in-Err.error left c.requires.allowed
    (ap (λ (m : Memory). path_at m c.args.opening.address) memory ∙ c.in_ok-error.ensures.answer ∙ c.in-Err.is) in
    still_called guest c.args.below.now.kernel.now left (Error c.in-Err.error) step at told (still_of guest c.args.below.now.kernel.now c.in-Err.error left step lost)

pub returns-in-Err-clause-kept : goal.returns-in-Err-clause-kept
returns-in-Err-clause-kept g c = λ guest same memory left told.
    let step = open_row c.args.below.now.kernel.now guest (base c.args.opening.directory) c.args.opening.address (Some c.args.opening.flags) c.args.opening.mode left in
    let lost = open_lost guest c.args.below.now.kernel.now (base c.args.opening.directory) c.args.opening.address c.args.opening.mode c.args.opening.flags c.in-Err.error left c.requires.allowed
    (ap (λ (m : Memory). path_at m c.args.opening.address) memory ∙ c.in_ok-error.ensures.answer ∙ c.in-Err.is) in
    still_keeps guest c.args.below.now.kernel.now left (Error c.in-Err.error) step c.args.below.now.log.now (still_of guest c.args.below.now.kernel.now c.in-Err.error left step lost)

pub returns-in-Ok-clause-row : goal.returns-in-Ok-clause-row
returns-in-Ok-clause-row g c = λ guest same memory.
    c.open_path.ensures.row guest same (ap (λ (m : Memory). path_at m c.args.opening.address) memory ∙ c.in_ok-error.ensures.answer ∙ c.in-Ok.is)

pub returns-in-Ok-clause-kept : goal.returns-in-Ok-clause-kept
returns-in-Ok-clause-kept g c = λ guest same memory.
    c.open_path.ensures.kept guest same (ap (λ (m : Memory). path_at m c.args.opening.address) memory ∙ c.in_ok-error.ensures.answer ∙ c.in-Ok.is)
