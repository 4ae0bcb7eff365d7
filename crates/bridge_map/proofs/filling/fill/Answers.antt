-- Piece after piece.
use Rattle.std.proofs.Common.{◌≡◌, ◌≤◌, ◌<◌, ◌+◌, ◌*◌, ℕ, min, length, refl, rules, ap, ◌∙◌, arith}
use Rattle.kernel_model.specs.Transfers.{file_bytes}
use Rattle.outside.proofs.StreamLemmas.{NoCountRose-refl, NoCountRose-trans}
use Rattle.bridge_map.proofs.FileBytes.{length-file_bytes}
use Rattle.bridge_map.proofs.Pieces.{at_place, filled_as, filled_end, fills_stop, further, so_far_none, still_shows, still_storable, still_told}
use Rattle.bridge_map.proofs.Quietly.{silent_after}
use Rattle.bridge_map.proofs.filling.fill.Goals as goal

pub loop-piece-init : goal.loop-piece-init
loop-piece-init g c = record {
  counts = search rules;
  no_fault = NoCountRose-refl _ _ _ _;
  clock = refl;
  same = record { kernel = refl; memory = refl; log = refl };
  so_far = λ left told content shows free. so_far_none content c.args.below.now.kernel.now left _ c.args.space.now c.args.below.now.log.now c.args.part.address c.args.part.offset _ (omega arith);
}

pub returns-in_err-got-clause-filled : goal.returns-in_err-got-clause-filled
returns-in_err-got-clause-filled g c = λ left told content shows free.
    let place : ℕ = c.loop-piece.piece * 65536 in
    let reached : min place c.args.part.count ≡ place = omega (arith, c.div_ceil-piece-end.ensures) in
    let so_far = at_place (c.loop-piece.invariant.so_far left told content shows free) place reached in
    let within : place + c.min-want.result ≤ c.args.part.count = omega (arith, c.div_ceil-piece-end.ensures, c.min-want.ensures) in
    fills_stop _ c.from_residual.result _ _ _ _ _ _ _ _ _ _ _ c.from_residual.ensures.0
    (silent_after so_far.filled.quiet.same
    (c.in_err-got.ensures.filled left (still_told so_far told) content (still_shows so_far c.args.part.fd shows) (still_storable so_far c.args.part.count c.min-want.result free within)))

pub returns-then-got-want-clause-filled : goal.returns-then-got-want-clause-filled
returns-then-got-want-clause-filled g c = λ left told content shows free.
    let place : ℕ = c.loop-piece.piece * 65536 in
    let want : ℕ = c.min-want.result in
    let reached : min place c.args.part.count ≡ place = omega (arith, c.div_ceil-piece-end.ensures) in
    let so_far = at_place (c.loop-piece.invariant.so_far left told content shows free) place reached in
    let within : place + want ≤ c.args.part.count = omega (arith, c.div_ceil-piece-end.ensures, c.min-want.ensures) in
    let piece = c.in_ok-got.ensures.filled left (still_told so_far told) content (still_shows so_far c.args.part.fd shows) (still_storable so_far c.args.part.count want free within) in
    let got : c.in_ok-got.got ≡ length (file_bytes content (c.args.part.offset + place) want) = piece.0 ∙ ap (λ (n : ℕ). length (file_bytes content (c.args.part.offset + n) want)) c.from.ensures in
    let short : length (file_bytes content (c.args.part.offset + place) want) < want = omega (arith, got, c.if-got-want.true) in (
      tt,
      filled_end content c.args.part.address c.args.part.offset place want so_far
          (filled_as piece.1 (ap (λ (n : ℕ). file_bytes content (c.args.part.offset + n) want) c.from.ensures))
          c.args.part.count short within,
    )

pub loop-piece-preserved : goal.loop-piece-preserved
loop-piece-preserved g c = record {
  counts = search (rules, c.in_ok-got.ensures.proceeds.counts, c.loop-piece.invariant.counts);
  no_fault = NoCountRose-trans c.loop-piece.invariant.no_fault c.in_ok-got.ensures.proceeds.cause;
  clock = c.in_ok-got.ensures.proceeds.clock ∙ c.loop-piece.invariant.clock;
  same = record {
    kernel = c.in_ok-got.ensures.proceeds.same.kernel ∙ c.loop-piece.invariant.same.kernel;
    memory = c.in_ok-got.ensures.proceeds.same.memory ∙ c.loop-piece.invariant.same.memory;
    log = c.in_ok-got.ensures.proceeds.same.log ∙ c.loop-piece.invariant.same.log;
  };
  so_far = λ left told content shows free.
      let place : ℕ = c.loop-piece.piece * 65536 in
      let want : ℕ = c.min-want.result in
      let reached : min place c.args.part.count ≡ place = omega (arith, c.div_ceil-piece-end.ensures) in
      let so_far = at_place (c.loop-piece.invariant.so_far left told content shows free) place reached in
      let within : place + want ≤ c.args.part.count = omega (arith, c.div_ceil-piece-end.ensures, c.min-want.ensures) in
      let piece = c.in_ok-got.ensures.filled left (still_told so_far told) content (still_shows so_far c.args.part.fd shows) (still_storable so_far c.args.part.count want free within) in
      let got : c.in_ok-got.got ≡ length (file_bytes content (c.args.part.offset + place) want) = piece.0 ∙ ap (λ (n : ℕ). length (file_bytes content (c.args.part.offset + n) want)) c.from.ensures in
      let size = length-file_bytes content (c.args.part.offset + place) want in
      let whole : length (file_bytes content (c.args.part.offset + place) want) ≡ want = omega (arith, got, size, c.if-got-want.false) in
      let next : place + want ≡ min ((c.loop-piece.piece + 1) * 65536) c.args.part.count = omega (arith, c.div_ceil-piece-end.ensures, c.min-want.ensures) in
      at_place
      (further content c.args.part.address c.args.part.offset place want so_far
      (filled_as piece.1 (ap (λ (n : ℕ). file_bytes content (c.args.part.offset + n) want) c.from.ensures))
      whole) _ next;
}

pub returns-clause-filled : goal.returns-clause-filled
returns-clause-filled g c = λ left told content shows free.
    let all : min (c.loop-piece.piece * 65536) c.args.part.count ≡ c.args.part.count = omega (arith, c.div_ceil-piece-end.ensures) in
    (tt, (at_place (c.loop-piece.invariant.so_far left told content shows free) c.args.part.count all).filled)
