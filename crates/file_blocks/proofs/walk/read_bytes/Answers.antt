use Rattle.std.proofs.Common.{◌≡◌, ◌+◌, ◌++◌, ap, sym, ◌∙◌, arith, length}
use Rattle.std.proofs.lemmas.Slice.{take-put_mid}
use Rattle.kernel_core.specs.FileContent.{bytes_at}
use Rattle.paged_bytes.proofs.Puts.{length-part}
use Rattle.file_blocks.proofs.ByteLemmas.{bytes_at-append, bytes_at-zero, length-bytes_at}
use Rattle.file_blocks.proofs.walk.read_bytes.Goals as goal

pub loop-done-init : goal.loop-done-init
loop-done-init c = record { within = omega arith; read = sym (bytes_at-zero _ _) }

pub loop-done-preserved : goal.loop-done-preserved
loop-done-preserved c =
    let done = c.loop-done.done in
    let size = c.count_in_page-size.result in
    let at = c.args.at + done in
    let blocks = c.args.blocks.now in
    let part = length-part c.loop-done.buf done size (omega arith) in
    let read = c.read_piece.ensures ∙ ap (bytes_at blocks at) part in
    let long : length c.read_piece.new.piece ≡ size = ap length read ∙ length-bytes_at blocks size at in
    record {
      within = omega arith;
      read =
          take-put_mid done _ c.loop-done.buf c.read_piece.new.piece (done + size) (omega arith) (omega arith)
          ∙ ap (λ s. s ++ c.read_piece.new.piece) c.loop-done.invariant.read
          ∙ ap (λ s. bytes_at blocks c.args.at done ++ s) read
          ∙ sym (bytes_at-append blocks done size c.args.at);
    }
