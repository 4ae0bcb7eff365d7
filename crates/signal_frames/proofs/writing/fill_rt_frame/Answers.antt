use Rattle.std.proofs.Common.{◌≡◌, ℕ, List, ◌++◌, length, map, ℤ, pos, sym, ap, ◌∙◌}
use Rattle.layouts.specs.Frames.{Context, Information, AlternateStack, context_values, stack_values, siginfo_values, siginfo_of, rt_frame_bytes}
use Rattle.layouts.specs.O32.{rt_frame_of}
use Rattle.layouts.specs.Shape.{Shape, shape, after_put_record}
use Rattle.layouts.proofs.FrameLaws.{rt_frame_in_range, length-rt_frame_values}
use Rattle.signal_frames.specs.Entering.{context_of_processor, alternate_stack, information}
use Rattle.signal_frames.proofs.Steps.{written-in_range}
use Rattle.signal_frames.proofs.writing.fill_rt_frame.Goals as goal

pub put_record-requires-clause-one_each : goal.put_record-requires-clause-one_each
put_record-requires-clause-one_each c =
    let kept : Context = context_of_processor c.args.cpu.now in
    let told : Information = information c.args.info.now in
    let shown : AlternateStack = alternate_stack c.args.stack in
    let first : c.push_info.new.values.items ≡ siginfo_values told = c.push_info.ensures.values ∙ ap (λ (items : List ℤ). items ++ siginfo_values told) c.new-values.ensures in
    let second : c.push_stack.new.values.items ≡ siginfo_values told ++ stack_values shown = c.push_stack.ensures.values ∙ ap (λ (items : List ℤ). items ++ stack_values shown) first in
    let third : c.push_context.new.values.items ≡ siginfo_values told ++ stack_values shown ++ context_values kept = c.push_context.ensures.values ∙ ap (λ (items : List ℤ). items ++ context_values kept) second in
    let last : c.push_mask.new.values.items ≡ siginfo_values told ++ stack_values shown ++ context_values kept ++ map pos c.args.mask = c.push_mask.ensures.values ∙ ap (λ (items : List ℤ). items ++ map pos c.args.mask) third in
    let all : c.as_slice.result.now ≡ siginfo_values told ++ stack_values shown ++ context_values kept ++ map pos c.args.mask = c.as_slice.ensures.value ∙ last in
    let table : shape c.o32_layout.result.now ≡ rt_frame_of (siginfo_of told) = c.o32_layout.ensures.table ∙ c.structure_of-structure.ensures in
    ap (λ (values : List ℤ). length values) all
    ∙ length-rt_frame_values told shown kept c.args.mask c.push_context.ensures.words c.push_mask.ensures.words
    ∙ sym (ap (λ (s : Shape). length s.fields) table)

pub put_record-requires-clause-whole : goal.put_record-requires-clause-whole
put_record-requires-clause-whole c =
    let table : shape c.o32_layout.result.now ≡ rt_frame_of (siginfo_of (information c.args.info.now)) = c.o32_layout.ensures.table ∙ c.structure_of-structure.ensures in
    c.requires ∙ sym (ap (λ (s : Shape). s.size) table)

pub returns : goal.returns
unfolding rt_frame_bytes
returns c =
    let kept : Context = context_of_processor c.args.cpu.now in
    let told : Information = information c.args.info.now in
    let shown : AlternateStack = alternate_stack c.args.stack in
    let bytes : List ℕ = c.args.bytes.now in
    let first : c.push_info.new.values.items ≡ siginfo_values told = c.push_info.ensures.values ∙ ap (λ (items : List ℤ). items ++ siginfo_values told) c.new-values.ensures in
    let second : c.push_stack.new.values.items ≡ siginfo_values told ++ stack_values shown = c.push_stack.ensures.values ∙ ap (λ (items : List ℤ). items ++ stack_values shown) first in
    let third : c.push_context.new.values.items ≡ siginfo_values told ++ stack_values shown ++ context_values kept = c.push_context.ensures.values ∙ ap (λ (items : List ℤ). items ++ context_values kept) second in
    let last : c.push_mask.new.values.items ≡ siginfo_values told ++ stack_values shown ++ context_values kept ++ map pos c.args.mask = c.push_mask.ensures.values ∙ ap (λ (items : List ℤ). items ++ map pos c.args.mask) third in
    let all : c.as_slice.result.now ≡ siginfo_values told ++ stack_values shown ++ context_values kept ++ map pos c.args.mask = c.as_slice.ensures.value ∙ last in
    let table : shape c.o32_layout.result.now ≡ rt_frame_of (siginfo_of told) = c.o32_layout.ensures.table ∙ c.structure_of-structure.ensures in
    let left : c.put_record.new.bytes ≡ after_put_record (rt_frame_of (siginfo_of told)) (siginfo_values told ++ stack_values shown ++ context_values kept ++ map pos c.args.mask) bytes =
    c.put_record.ensures.bytes
    ∙ ap (λ (s : Shape). after_put_record s c.as_slice.result.now bytes) table
    ∙ ap (λ (values : List ℤ). after_put_record (rt_frame_of (siginfo_of told)) values bytes) all in
    written-in_range (rt_frame_of (siginfo_of told)) (siginfo_values told ++ stack_values shown ++ context_values kept ++ map pos c.args.mask) bytes c.put_record.new.bytes
    (rt_frame_in_range told shown kept c.args.mask c.push_info.ensures.words c.push_stack.ensures.words c.push_context.ensures.words c.push_mask.ensures.words) left
