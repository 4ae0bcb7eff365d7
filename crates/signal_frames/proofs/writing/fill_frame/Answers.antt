use Rattle.std.proofs.Common.{◌≡◌, ℕ, List, ◌++◌, map, ℤ, pos, ap, ◌∙◌}
use Rattle.layouts.specs.Frames.{Context, context_values, frame_bytes}
use Rattle.layouts.specs.O32.{frame}
use Rattle.layouts.specs.Shape.{Shape, after_put_record}
use Rattle.layouts.proofs.FrameLaws.{frame_in_range}
use Rattle.signal_frames.specs.Entering.{context_of_processor}
use Rattle.signal_frames.proofs.Steps.{written-in_range}
use Rattle.signal_frames.proofs.writing.fill_frame.Goals as goal

pub returns : goal.returns
unfolding frame_bytes
returns c =
    let kept : Context = context_of_processor c.args.cpu.now in
    let bytes : List ℕ = c.args.bytes.now in
    let pushed : c.push_context.new.values.items ≡ context_values kept =
    c.push_context.ensures.values ∙ ap (λ (items : List ℤ). items ++ context_values kept) c.new-values.ensures in
    let masked : c.push_mask.new.values.items ≡ context_values kept ++ map pos c.args.mask =
    c.push_mask.ensures.values ∙ ap (λ (items : List ℤ). items ++ map pos c.args.mask) pushed in
    let all : c.as_slice.result.now ≡ context_values kept ++ map pos c.args.mask = c.as_slice.ensures.value ∙ masked in
    let left : c.put_record.new.bytes ≡ after_put_record frame (context_values kept ++ map pos c.args.mask) bytes =
    c.put_record.ensures.bytes
    ∙ ap (λ (table : Shape). after_put_record table c.as_slice.result.now bytes) c.o32_layout.ensures.table
    ∙ ap (λ (values : List ℤ). after_put_record frame values bytes) all in
    written-in_range frame (context_values kept ++ map pos c.args.mask) bytes c.put_record.new.bytes
    (frame_in_range kept c.args.mask c.push_context.ensures.words c.push_mask.ensures.words) left
