-- The first path is read, or the call is refused for it.
use Rattle.std.proofs.Common.{ℕ, ◌<◌, List, Result, None, ◌≡◌, IfOk, length, position, ap, subst, ◌∙◌}
use Rattle.guest_space.specs.Memory.{Memory}
use Rattle.kernel_core.specs.declared.error.Errno.{Errno}
use Rattle.o32_model.specs.Paths.{is_nul, path_at, path_limit}
use Rattle.o32_model.specs.declared.outcome.Outcome.TheVariants.{Error}
use Rattle.outside.specs.Streams.{contents}
use Rattle.bridge_paths.proofs.Passed.{fails_before, still_called, still_keeps}
use Rattle.bridge_paths.proofs.Refusing.{still_of}
use Rattle.bridge_file.proofs.calls.paths_call.Goals as goal

pub second_call-requires : goal.second_call-requires
second_call-requires g c = record {
  built = c.requires.built;
  unused = c.requires.unused;
  address = c.requires.address;
  place = c.requires.place;
  found = c.in_ok-error.ensures.answer ∙ c.in-Ok.is;
  short = subst (λ (r : Result (List ℕ) Errno). IfOk r (λ p. length p < path_limit)) c.in-Ok.is c.in_ok-error.ensures.short;
  plain = subst (λ (r : Result (List ℕ) Errno). IfOk r (λ p. position is_nul p ≡ None)) c.in-Ok.is c.in_ok-error.ensures.plain;
}

pub returns-in_err-error-clause-row : goal.returns-in_err-error-clause-row
returns-in_err-error-clause-row g c = λ guest step same memory mirrors left told.
    fails_before (step left) c.from_residual.result _ _ _ _ c.from_residual.ensures.0

pub returns-in-Err-clause-row : goal.returns-in-Err-clause-row
returns-in-Err-clause-row g c = λ guest step same memory mirrors left told.
    let at = contents g.I.Source.left g.O.Sink.written g.E.Sink.written c.args.dev.now in
    let lost = mirrors.first_lost c.in-Err.error (ap (λ (m : Memory). path_at m c.args.paths.first) memory ∙ c.in_ok-error.ensures.answer ∙ c.in-Err.is) left in
    still_called guest c.args.below.now.kernel.now left (Error c.in-Err.error) (step left) at told (still_of guest c.args.below.now.kernel.now c.in-Err.error left (step left) lost)

pub returns-in-Err-clause-kept : goal.returns-in-Err-clause-kept
returns-in-Err-clause-kept g c = λ guest step same memory mirrors left told.
    let lost = mirrors.first_lost c.in-Err.error (ap (λ (m : Memory). path_at m c.args.paths.first) memory ∙ c.in_ok-error.ensures.answer ∙ c.in-Err.is) left in
    still_keeps guest c.args.below.now.kernel.now left (Error c.in-Err.error) (step left) c.args.below.now.log.now (still_of guest c.args.below.now.kernel.now c.in-Err.error left (step left) lost)
