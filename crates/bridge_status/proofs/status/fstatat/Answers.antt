-- The path is read, or the call is refused for it or for its flags.
use Rattle.std.proofs.Common.{ℕ, ◌<◌, List, Result, None, ◌≡◌, IfOk, length, position, sym, ap, subst, ◌∙◌}
use Rattle.guest_space.specs.Memory.{Memory}
use Rattle.kernel_core.specs.declared.error.Errno.{Errno}
use Rattle.kernel_core.specs.declared.error.Errno.TheVariants.{EINVAL}
use Rattle.o32_model.specs.Answered.{Called}
use Rattle.o32_model.specs.PathArguments.{base}
use Rattle.o32_model.specs.Paths.{is_nul, path_at, path_limit}
use Rattle.o32_model.specs.declared.outcome.Outcome.TheVariants.{Error}
use Rattle.outside.specs.Streams.{contents}
use Rattle.bridge_paths.proofs.Passed.{fails_before, still_called, still_keeps}
use Rattle.bridge_paths.proofs.Refusing.{still_of}
use Rattle.bridge_status.proofs.StatusRows.{status_lost, status_unlisted}
use Rattle.bridge_status.specs.inside.StatusCalls.{path_status}
use Rattle.bridge_status.proofs.status.fstatat.Goals as goal

pub path_status-requires : goal.path_status-requires
path_status-requires g c = record {
  found = c.in_ok-error.ensures.answer ∙ c.in-Ok.is;
  short = subst (λ (r : Result (List ℕ) Errno). IfOk r (λ p. length p < path_limit)) c.in-Ok.is c.in_ok-error.ensures.short;
  plain = subst (λ (r : Result (List ℕ) Errno). IfOk r (λ p. position is_nul p ≡ None)) c.in-Ok.is c.in_ok-error.ensures.plain;
}

pub returns-then-not-is_listed-clause-row : goal.returns-then-not-is_listed-clause-row
returns-then-not-is_listed-clause-row g c = λ guest same memory left told.
    let at = contents g.I.Source.left g.O.Sink.written g.E.Sink.written c.args.dev.now in
    let step = path_status c.args.asked.to.form c.args.below.now.kernel.now guest (base c.args.asked.directory) c.args.asked.address c.args.asked.to.address c.args.asked.flags left in
    subst (λ (m : Memory). Called step (Error EINVAL) c.args.below.now.kernel.now m guest.processor at at) memory
    (still_called guest c.args.below.now.kernel.now left (Error EINVAL) step at told
    (still_of guest c.args.below.now.kernel.now EINVAL left step (status_unlisted guest c.args.below.now.kernel.now c.args.asked.to.form (base c.args.asked.directory) c.args.asked.address c.args.asked.to.address c.args.asked.flags left (sym c.is_listed.ensures ∙ c.if-not-is_listed.true))))

pub returns-then-not-is_listed-clause-kept : goal.returns-then-not-is_listed-clause-kept
returns-then-not-is_listed-clause-kept g c = λ guest same memory left told.
    let step = path_status c.args.asked.to.form c.args.below.now.kernel.now guest (base c.args.asked.directory) c.args.asked.address c.args.asked.to.address c.args.asked.flags left in
    still_keeps guest c.args.below.now.kernel.now left (Error EINVAL) step c.args.below.now.log.now
    (still_of guest c.args.below.now.kernel.now EINVAL left step (status_unlisted guest c.args.below.now.kernel.now c.args.asked.to.form (base c.args.asked.directory) c.args.asked.address c.args.asked.to.address c.args.asked.flags left (sym c.is_listed.ensures ∙ c.if-not-is_listed.true)))

pub returns-in_err-error-clause-row : goal.returns-in_err-error-clause-row
returns-in_err-error-clause-row g c = λ guest same memory left told.
    fails_before (path_status c.args.asked.to.form c.args.below.now.kernel.now guest (base c.args.asked.directory) c.args.asked.address c.args.asked.to.address c.args.asked.flags left) c.from_residual.result _ _ _ _ c.from_residual.ensures.0

pub returns-in-Err-clause-row : goal.returns-in-Err-clause-row
returns-in-Err-clause-row g c = λ guest same memory left told.
    let at = contents g.I.Source.left g.O.Sink.written g.E.Sink.written c.args.dev.now in
    let step = path_status c.args.asked.to.form c.args.below.now.kernel.now guest (base c.args.asked.directory) c.args.asked.address c.args.asked.to.address c.args.asked.flags left in
    let lost = status_lost guest c.args.below.now.kernel.now c.args.asked.to.form (base c.args.asked.directory) c.args.asked.address c.args.asked.to.address c.args.asked.flags c.in-Err.error left (sym c.is_listed.ensures ∙ c.if-not-is_listed.false)
    (ap (λ (m : Memory). path_at m c.args.asked.address) memory ∙ c.in_ok-error.ensures.answer ∙ c.in-Err.is) in
    subst (λ (m : Memory). Called step (Error c.in-Err.error) c.args.below.now.kernel.now m guest.processor at at) memory
    (still_called guest c.args.below.now.kernel.now left (Error c.in-Err.error) step at told (still_of guest c.args.below.now.kernel.now c.in-Err.error left step lost))

pub returns-in-Err-clause-kept : goal.returns-in-Err-clause-kept
returns-in-Err-clause-kept g c = λ guest same memory left told.
    let step = path_status c.args.asked.to.form c.args.below.now.kernel.now guest (base c.args.asked.directory) c.args.asked.address c.args.asked.to.address c.args.asked.flags left in
    let lost = status_lost guest c.args.below.now.kernel.now c.args.asked.to.form (base c.args.asked.directory) c.args.asked.address c.args.asked.to.address c.args.asked.flags c.in-Err.error left (sym c.is_listed.ensures ∙ c.if-not-is_listed.false)
    (ap (λ (m : Memory). path_at m c.args.asked.address) memory ∙ c.in_ok-error.ensures.answer ∙ c.in-Err.is) in
    still_keeps guest c.args.below.now.kernel.now left (Error c.in-Err.error) step c.args.below.now.log.now (still_of guest c.args.below.now.kernel.now c.in-Err.error left step lost)
