use Rattle.std.proofs.Common.{◌≡◌, ◌+◌, ◌++◌, ap, sym, ◌∙◌, arith, length}
use Rattle.std.proofs.lemmas.Slice.{take-put_mid}
use Rattle.guest_space.specs.Bytes.{bytes_at}
use Rattle.raw_pages.proofs.Puts.{length-part}
use Rattle.guest_space.proofs.ByteLemmas.{bytes_at-append, bytes_at-zero, length-bytes_at}
use Rattle.guest_space.proofs.walk.read_bytes.Goals as goal

pub loop-done-init : goal.loop-done-init
loop-done-init c = record { within = omega arith; read = sym (bytes_at-zero _ _) }

pub loop-done-preserved : goal.loop-done-preserved
loop-done-preserved c =
    let done = c.loop-done.done in
    let size = c.min-size.result in
    let at = c.args.address + done in
    let pages = c.args.pages.now in
    let part = length-part c.loop-done.buf done size (omega arith) in
    let read = c.read_piece.ensures ∙ ap (bytes_at pages at) part in
    let long : length c.read_piece.new.piece ≡ size = ap length read ∙ length-bytes_at pages size at in
    record {
      within = omega arith;
      read =
          take-put_mid done _ c.loop-done.buf c.read_piece.new.piece (done + size) (omega arith) (omega arith)
          ∙ ap (λ s. s ++ c.read_piece.new.piece) c.loop-done.invariant.read
          ∙ ap (λ s. bytes_at pages c.args.address done ++ s) read
          ∙ sym (bytes_at-append pages done size c.args.address);
    }
