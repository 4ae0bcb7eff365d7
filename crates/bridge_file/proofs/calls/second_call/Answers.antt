-- The native call is made over both paths, or none where the second can't be read.
use Rattle.std.proofs.Common.{ℕ, ◌<◌, List, Result, None, ◌≡◌, IfOk, length, position, sym, ap, subst, ◌∙◌}
use Rattle.guest_space.specs.Memory.{Memory}
use Rattle.kernel_core.specs.declared.error.Errno.{Errno}
use Rattle.native_calls.specs.Table.{native_call}
use Rattle.o32_model.specs.Paths.{is_nul, path_at, path_limit}
use Rattle.o32_model.specs.declared.outcome.Outcome.TheVariants.{Error}
use Rattle.outside.specs.Streams.{contents}
use Rattle.bridge_paths.proofs.Passed.{fails_before, still_called, still_keeps}
use Rattle.bridge_paths.specs.Passed.{Mirrors}
use Rattle.bridge_paths.specs.Passed.{by_reply}
use Rattle.bridge_paths.proofs.Refusing.{still_of}
use Rattle.bridge_file.proofs.calls.second_call.Goals as goal

pub put_two-requires : goal.put_two-requires
put_two-requires g c = record {
  one_short = c.requires.short;
  one_plain = c.requires.plain;
  two_short = subst (λ (r : Result (List ℕ) Errno). IfOk r (λ p. length p < path_limit)) c.in-Ok.is c.in_ok-error.ensures.short;
  two_plain = subst (λ (r : Result (List ℕ) Errno). IfOk r (λ p. position is_nul p ≡ None)) c.in-Ok.is c.in_ok-error.ensures.plain;
}

pub returns-in_err-error-clause-row : goal.returns-in_err-error-clause-row
returns-in_err-error-clause-row g c = λ guest step same memory mirrors left told.
    fails_before (step left) c.from_residual.result _ _ _ _ c.from_residual.ensures.0

pub returns-in_err-at-in-Ok-clause-row : goal.returns-in_err-at-in-Ok-clause-row
returns-in_err-at-in-Ok-clause-row g c = λ guest step same memory mirrors left told.
    fails_before (step left) c.from_residual-in_err-at-in-Ok.result _ _ _ _ c.from_residual-in_err-at-in-Ok.ensures.0

pub returns-in-Err-clause-row : goal.returns-in-Err-clause-row
returns-in-Err-clause-row g c = λ guest step same memory mirrors left told.
    let at = contents g.I.Source.left g.O.Sink.written g.E.Sink.written c.args.dev.now in
    let lost = mirrors.second_lost c.args.one.now c.in-Err.error (ap (λ (m : Memory). path_at m c.args.paths.first) memory ∙ c.requires.found)
    (ap (λ (m : Memory). path_at m c.args.paths.second) memory ∙ c.in_ok-error.ensures.answer ∙ c.in-Err.is) left in
    still_called guest c.args.below.now.kernel.now left (Error c.in-Err.error) (step left) at told (still_of guest c.args.below.now.kernel.now c.in-Err.error left (step left) lost)

pub returns-in-Err-clause-kept : goal.returns-in-Err-clause-kept
returns-in-Err-clause-kept g c = λ guest step same memory mirrors left told.
    let lost = mirrors.second_lost c.args.one.now c.in-Err.error (ap (λ (m : Memory). path_at m c.args.paths.first) memory ∙ c.requires.found)
    (ap (λ (m : Memory). path_at m c.args.paths.second) memory ∙ c.in_ok-error.ensures.answer ∙ c.in-Err.is) left in
    still_keeps guest c.args.below.now.kernel.now left (Error c.in-Err.error) (step left) c.args.below.now.log.now (still_of guest c.args.below.now.kernel.now c.in-Err.error left (step left) lost)

pub returns-in_ok-at-in-Ok-clause-row : goal.returns-in_ok-at-in-Ok-clause-row
returns-in_ok-at-in-Ok-clause-row g c = λ guest step same memory mirrors.
    c.number_call.ensures.row guest step same (λ left.
    subst (λ (args : List ℕ). Mirrors guest (by_reply guest.words) (native_call c.args.call.nr args c.args.below.now.kernel.now c.put_two.new.mem left) (step left)) (sym c.with_argument-args.ensures)
    (mirrors.found c.args.one.now c.in-Ok.two c.put_two.new.mem c.in_ok-at-in-Ok.at (ap (λ (m : Memory). path_at m c.args.paths.first) memory ∙ c.requires.found)
    (ap (λ (m : Memory). path_at m c.args.paths.second) memory ∙ c.in_ok-error.ensures.answer ∙ c.in-Ok.is) c.in_ok-at-in-Ok.ensures.first c.in_ok-at-in-Ok.ensures.second left))

pub returns-in_ok-at-in-Ok-clause-kept : goal.returns-in_ok-at-in-Ok-clause-kept
returns-in_ok-at-in-Ok-clause-kept g c = λ guest step same memory mirrors.
    c.number_call.ensures.kept guest step same (λ left.
    subst (λ (args : List ℕ). Mirrors guest (by_reply guest.words) (native_call c.args.call.nr args c.args.below.now.kernel.now c.put_two.new.mem left) (step left)) (sym c.with_argument-args.ensures)
    (mirrors.found c.args.one.now c.in-Ok.two c.put_two.new.mem c.in_ok-at-in-Ok.at (ap (λ (m : Memory). path_at m c.args.paths.first) memory ∙ c.requires.found)
    (ap (λ (m : Memory). path_at m c.args.paths.second) memory ∙ c.in_ok-error.ensures.answer ∙ c.in-Ok.is) c.in_ok-at-in-Ok.ensures.first c.in_ok-at-in-Ok.ensures.second left))
