use Rattle.std.proofs.Common.{◌≡◌, ◌+◌, ◌-◌, ◌++◌, ◌∙◌, sym, ap, arith, length, take, drop, get_or, min, append_assoc}
use Rattle.std.proofs.lemmas.Slice.{take-put_mid}
use Rattle.guest_space.specs.Access.{first_denied}
use Rattle.guest_space.specs.Bytes.{bytes_at}
use Rattle.guest_space.specs.declared.access.Access.TheVariants.{Load}
use Rattle.guest_space.proofs.ByteLemmas.{length-bytes_at}
use Rattle.o32_model.specs.declared.range.Range.{Range}
use Rattle.bridge_mem.proofs.Ranges.{to_come, next_of, length_mid, prefix-loads, all-begin, count-begin}
use Rattle.bridge_mem.proofs.vectors.gather.Goals as goal

abbrev no_range : Range
no_range = record { address = 0; length = 0 }

pub read_bytes-requires : goal.read_bytes-requires
read_bytes-requires c =
    let step = next_of c.args.space.now c.args.ranges.now c.loop-range.range-index c.loop-range.done (length c.args.bytes.now) c.min-size.result no_range
    c.loop-range-test.true c.loop-range.invariant.count
    (c.min-size.ensures ∙ ap (λ n. min (n - c.loop-range.done) (get_or c.args.ranges.now c.loop-range.range-index no_range).length) c.loop-range.auto.bytes) in
    ap (first_denied Load c.args.space.now.pages _) (length_mid c.loop-range.bytes c.loop-range.done c.min-size.result (omega (arith, c.min-size.ensures)))
    ∙ prefix-loads c.args.space.now.pages _ _ c.min-size.result step.within

pub loop-range-init : goal.loop-range-init
loop-range-init c = record {
  all = all-begin c.args.space.now c.args.ranges.now (length c.args.bytes.now) c.requires;
  count = count-begin c.args.space.now c.args.ranges.now (length c.args.bytes.now) c.requires;
  within = omega arith;
}

pub loop-range-preserved : goal.loop-range-preserved
loop-range-preserved c =
    let memory = c.args.space.now in
    let done = c.loop-range.done in
    let size = c.min-size.result in
    let later = drop (c.loop-range.range-index + 1) c.args.ranges.now in
    let step = next_of memory c.args.ranges.now c.loop-range.range-index done (length c.args.bytes.now) size no_range
    c.loop-range-test.true c.loop-range.invariant.count
    (c.min-size.ensures ∙ ap (λ n. min (n - done) (get_or c.args.ranges.now c.loop-range.range-index no_range).length) c.loop-range.auto.bytes) in
    let long : length c.loop-range.bytes ≡ length c.args.bytes.now = c.loop-range.auto.bytes in
    let mid = length_mid c.loop-range.bytes done size (omega (arith, c.min-size.ensures)) in
    let piece = c.read_bytes.ensures ∙ ap (bytes_at memory.pages (get_or c.args.ranges.now c.loop-range.range-index no_range).address) mid in
    let front = take-put_mid done (done + size - done) c.loop-range.bytes c.read_bytes.new.bytes (done + size)
    (omega (arith, ap length piece, length-bytes_at memory.pages size (get_or c.args.ranges.now c.loop-range.range-index no_range).address)) (omega arith) in
    record {
      all =
          c.loop-range.invariant.all
          ∙ ap (λ s. take done c.loop-range.bytes ++ s) step.bytes
          ∙ sym (append_assoc (take done c.loop-range.bytes) (bytes_at memory.pages (get_or c.args.ranges.now c.loop-range.range-index no_range).address size) (to_come memory later (done + size) (length c.args.bytes.now)))
          ∙ ap (λ s. (take done c.loop-range.bytes ++ s) ++ to_come memory later (done + size) (length c.args.bytes.now)) (sym piece)
          ∙ ap (λ s. s ++ to_come memory later (done + size) (length c.args.bytes.now)) (sym front);
      count = step.count;
      within = omega (arith, c.min-size.ensures);
    }
