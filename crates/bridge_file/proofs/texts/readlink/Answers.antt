-- The path is read, or the call is refused for it.
use Rattle.std.proofs.Common.{ℕ, ◌<◌, List, Result, None, ◌≡◌, IfOk, length, position, ap, subst, ◌∙◌}
use Rattle.std.specs.Int.{cast_signed, w32}
use Rattle.guest_space.specs.Memory.{Memory}
use Rattle.kernel_core.specs.declared.error.Errno.{Errno}
use Rattle.o32_model.specs.Answered.{Called}
use Rattle.o32_model.specs.Names.{readlink_row}
use Rattle.o32_model.specs.PathArguments.{base}
use Rattle.o32_model.specs.Paths.{is_nul, path_at, path_limit}
use Rattle.o32_model.specs.declared.outcome.Outcome.TheVariants.{Error}
use Rattle.outside.specs.Streams.{contents}
use Rattle.bridge_paths.proofs.Passed.{fails_before, still_called, still_keeps}
use Rattle.bridge_paths.proofs.Refusing.{still_of}
use Rattle.bridge_file.proofs.TextTells.{readlink_lost}
use Rattle.bridge_file.proofs.texts.readlink.Goals as goal

pub link_text-requires : goal.link_text-requires
link_text-requires g c = record {
  found = c.in_ok-error.ensures.answer ∙ c.in-Ok.is;
  short = subst (λ (r : Result (List ℕ) Errno). IfOk r (λ p. length p < path_limit)) c.in-Ok.is c.in_ok-error.ensures.short;
  plain = subst (λ (r : Result (List ℕ) Errno). IfOk r (λ p. position is_nul p ≡ None)) c.in-Ok.is c.in_ok-error.ensures.plain;
}

pub returns-in_err-error-clause-row : goal.returns-in_err-error-clause-row
returns-in_err-error-clause-row g c = λ guest same memory left told.
    fails_before (readlink_row c.args.below.now.kernel.now guest (base c.args.query.link.directory) c.args.query.link.address c.args.query.buffer (cast_signed w32 c.args.query.size) left) c.from_residual.result _ _ _ _ c.from_residual.ensures.0

pub returns-in-Err-clause-row : goal.returns-in-Err-clause-row
returns-in-Err-clause-row g c = λ guest same memory left told.
    let at = contents g.I.Source.left g.O.Sink.written g.E.Sink.written c.args.dev.now in
    let step = readlink_row c.args.below.now.kernel.now guest (base c.args.query.link.directory) c.args.query.link.address c.args.query.buffer (cast_signed w32 c.args.query.size) left in
    let lost = readlink_lost guest c.args.below.now.kernel.now c.args.query.link.directory c.args.query.link.address c.args.query.buffer c.args.query.size c.in-Err.error left (ap (λ (m : Memory). path_at m c.args.query.link.address) memory ∙ c.in_ok-error.ensures.answer ∙ c.in-Err.is) in
    subst (λ (m : Memory). Called step (Error c.in-Err.error) c.args.below.now.kernel.now m guest.processor at at) memory
    (still_called guest c.args.below.now.kernel.now left (Error c.in-Err.error) step at told (still_of guest c.args.below.now.kernel.now c.in-Err.error left step lost))

pub returns-in-Err-clause-kept : goal.returns-in-Err-clause-kept
returns-in-Err-clause-kept g c = λ guest same memory left told.
    let step = readlink_row c.args.below.now.kernel.now guest (base c.args.query.link.directory) c.args.query.link.address c.args.query.buffer (cast_signed w32 c.args.query.size) left in
    let lost = readlink_lost guest c.args.below.now.kernel.now c.args.query.link.directory c.args.query.link.address c.args.query.buffer c.args.query.size c.in-Err.error left (ap (λ (m : Memory). path_at m c.args.query.link.address) memory ∙ c.in_ok-error.ensures.answer ∙ c.in-Err.is) in
    still_keeps guest c.args.below.now.kernel.now left (Error c.in-Err.error) step c.args.below.now.log.now (still_of guest c.args.below.now.kernel.now c.in-Err.error left step lost)
