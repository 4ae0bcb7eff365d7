use Rattle.std.proofs.Common.{◌≡◌, ◌+◌, ◌-◌, ◌/◌, ◌%◌, ap, sym, ◌∙◌, subst, arith, refl, take, drop, length, None}
use Rattle.std.specs.FinMap.{get}
use Rattle.kernel_core.specs.FileContent.{longest_write}
use Rattle.file_blocks.specs.inside.Pieces.{WritesPiece, with_piece, taken_by}
use Rattle.file_blocks.proofs.ByteLemmas.{with_bytes-nil}
use Rattle.file_blocks.proofs.Spare.{longest_write-none, longest_write-zero}
use Rattle.file_blocks.proofs.WriteSteps.{written-step, reach-step, longest_write-same}
use Rattle.file_blocks.proofs.walk.write_bytes.Goals as goal

pub loop-done-init : goal.loop-done-init
loop-done-init c =
    let blocks = c.args.blocks.now in
    let count = length c.args.bytes.now in
    let same : longest_write blocks c.args.at count c.args.spare ≡ longest_write blocks (c.args.at + 0) (count - 0) c.args.spare =
    longest_write-same blocks c.args.spare (omega arith) (omega arith) in
    record { within = omega arith; written = sym (with_bytes-nil _ _); reach = omega (arith, same); kept = omega arith; few = omega arith }

pub loop-done-preserved : goal.loop-done-preserved
loop-done-preserved c =
    let at = c.args.at in
    let done = c.loop-done.done in
    let size = c.count_in_page-size.result in
    let now = c.loop-done.blocks in
    let new = c.write_piece.new.blocks in
    let bytes = c.args.bytes.now in
    let piece = take (done + size - done) (drop done bytes) in
    let index = c.index_of.ensures in
    let place = c.place_in_page.ensures.place in
    let rest = c.in-Ok-Some.rest in
    let r = length bytes - (done + size) in
    let ok = subst (λ o. WritesPiece o now new c.index_of.result c.place_in_page.result piece c.loop-done.left) (c.in-Ok-Some.field-0-is) c.in-Ok-Some.ensures.ok in
    let is : new ≡ with_piece now ((at + done) / 4096) ((at + done) % 4096) piece = ok.0 ∙ (λ i. with_piece now (index i) (place i) piece) in
    let enough : taken_by (get now ((at + done) / 4096)) + rest ≡ c.loop-done.left = ap (λ n. taken_by (get now n) + rest) (sym index) ∙ ok.1 in
    let step = reach-step now new (at + done) size c.loop-done.left rest r piece (omega arith) (omega arith) (λ h. omega arith) is enough in
    let joined : done + (size + longest_write new (at + done + size) r rest) ≡ done + size + longest_write new (at + done + size) r rest = omega arith in
    record {
      within = omega arith;
      written = written-step _ now new at done size bytes (omega arith) (omega arith) (omega arith) c.loop-done.invariant.written is;
      reach =
          c.loop-done.invariant.reach
          ∙ ap (λ n. done + n) (longest_write-same now c.loop-done.left refl (omega arith) ∙ step)
          ∙ joined
          ∙ ap (λ n. done + size + n) (longest_write-same new rest (omega arith) refl);
      kept = omega (arith, ok.2, c.loop-done.invariant.kept);
      few = omega (arith, ok.1, c.loop-done.invariant.few);
    }

pub returns-in-Ok-None-clause-count : goal.returns-in-Ok-None-clause-count
returns-in-Ok-None-clause-count c =
    let at = c.args.at in
    let done = c.loop-done.done in
    let size = c.count_in_page-size.result in
    let now = c.loop-done.blocks in
    let bytes = c.args.bytes.now in
    let piece = take (done + size - done) (drop done bytes) in
    let ok = subst (λ o. WritesPiece o now c.write_piece.new.blocks c.index_of.result c.place_in_page.result piece c.loop-done.left) (c.in-Ok-None.field-0-is) c.in-Ok-None.ensures.ok in
    let missing : get now ((at + done) / 4096) ≡ None = ap (get now) (sym c.index_of.ensures) ∙ ok.1 in
    let none = ap (longest_write now (at + done) (length bytes - done)) ok.2 ∙ longest_write-none now (at + done) (length bytes - done) missing in
    omega (arith, c.loop-done.invariant.reach, none)

pub returns-clause-count : goal.returns-clause-count
returns-clause-count c =
    let blocks = c.loop-done.blocks in
    let from = c.args.at + c.loop-done.done in
    let end : length c.args.bytes.now - c.loop-done.done ≡ 0 = omega arith in
    let none = ap (λ n. longest_write blocks from n c.loop-done.left) end ∙ longest_write-zero blocks from c.loop-done.left in
    omega (arith, c.loop-done.invariant.reach, none)
