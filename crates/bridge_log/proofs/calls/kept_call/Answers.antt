-- A stop before the call.
use Rattle.bridge_log.proofs.Ends.{native_fails_before}
use Rattle.bridge_log.proofs.calls.kept_call.Goals as goal

pub returns-in_err-before-clause-row : goal.returns-in_err-before-clause-row
returns-in_err-before-clause-row g c = λ left told. native_fails_before _ c.from_residual.result _ _ _ c.from_residual.ensures.0
