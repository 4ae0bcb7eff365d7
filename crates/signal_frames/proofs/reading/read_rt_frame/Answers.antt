use Rattle.std.proofs.Common.{◌≡◌, ℕ, ◌-◌, List, length, map, take, drop, ℤ, sym, ap, ◌∙◌, arith}
use Rattle.std.proofs.lemmas.List.{take_all, take_rest, length-drop}
use Rattle.layouts.specs.Number.{low_number}
use Rattle.layouts.specs.Frames.{context_of, stack_of, ucontext_words, returned_mask, rt_frame_context, rt_frame_mask, rt_frame_stack}
use Rattle.layouts.specs.O32.{siginfo, rt_frame_of}
use Rattle.layouts.specs.Shape.{record_values}
use Rattle.guest_space.specs.Bytes.{bytes_at}
use Rattle.signal_frames.specs.Returning.{returned, rt_frame_at, shown_stack}
use Rattle.signal_frames.specs.declared.AltStack.{AltStack}
use Rattle.signal_frames.specs.declared.Return.{Return}
use Rattle.signal_frames.proofs.Steps.{read-answer, read-denied, drop-words}
use Rattle.signal_frames.proofs.reading.read_rt_frame.Goals as goal

pub returns-in-Ok-clause-answer : goal.returns-in-Ok-clause-answer
unfolding rt_frame_mask rt_frame_stack
returns-in-Ok-clause-answer c =
    let pages = c.args.space.now.pages in
    let bytes : List ℕ = rt_frame_at c.args.space.now c.args.cpu.now in
    let there : bytes_at pages c.register-address.result 784 ≡ bytes = ap (λ (at : ℕ). bytes_at pages at 784) c.register-address.ensures in
    let values : c.load_values.new.values ≡ record_values (rt_frame_of siginfo) bytes = c.in-Ok.ensures.values ∙ ap (record_values (rt_frame_of siginfo)) there in
    let list : List ℤ = c.load_values.new.values in
    let long : length list ≡ 48 = ap (λ (v : List ℤ). length v) values in
    let six : take 42 (drop 6 list) ≡ drop 6 list = take_all 42 (drop 6 list) (omega (arith, length-drop 6 list)) in
    let shorter : List ℤ = take 42 (drop 6 list) in
    let three : take (length shorter - 3) (drop 3 shorter) ≡ drop 3 (drop 6 list) = take_rest shorter 3 ∙ ap (drop 3) six in
    let ucontext : map (low_number 4) (drop 6 list) ≡ ucontext_words bytes =
    drop-words 6 list ∙ ap (λ (v : List ℤ). drop 6 (map (low_number 4) v)) values in
    let context : map (low_number 4) (drop 3 (drop 6 list)) ≡ drop 3 (ucontext_words bytes) = drop-words 3 (drop 6 list) ∙ ap (drop 3) ucontext in
    let shortest : List ℤ = take (length shorter - 3) (drop 3 shorter) in
    let last : take (length shortest - 35) (drop 35 shortest) ≡ drop 35 (drop 3 (drop 6 list)) = take_rest shortest 35 ∙ ap (drop 35) three in
    let mask : c.mask_of.result ≡ rt_frame_mask bytes =
    c.mask_of.ensures ∙ ap returned_mask (ap (map (low_number 4)) last ∙ drop-words 35 (drop 3 (drop 6 list)) ∙ ap (drop 35) context) in
    let shown : c.stack_of.result ≡ shown_stack (rt_frame_stack bytes) =
    c.stack_of.ensures ∙ ap (λ (w : List ℕ). shown_stack (stack_of w)) (ap (map (low_number 4)) six ∙ ucontext) in
    let F : List ℕ → AltStack → Return = λ m s. record { mask = m; stack = s } in
    read-answer pages c.register-address.result _ 784 _ _ _ c.register-address.ensures
    (ap (λ (m : List ℕ). F m c.stack_of.result) mask ∙ ap (λ (s : AltStack). F (rt_frame_mask bytes) s) shown) c.in-Ok.ensures.answer

pub returns-in-Ok-clause-returned : goal.returns-in-Ok-clause-returned
unfolding rt_frame_context
returns-in-Ok-clause-returned c =
    let pages = c.args.space.now.pages in
    let bytes : List ℕ = rt_frame_at c.args.space.now c.args.cpu.now in
    let there : bytes_at pages c.register-address.result 784 ≡ bytes = ap (λ (at : ℕ). bytes_at pages at 784) c.register-address.ensures in
    let values : c.load_values.new.values ≡ record_values (rt_frame_of siginfo) bytes = c.in-Ok.ensures.values ∙ ap (record_values (rt_frame_of siginfo)) there in
    let list : List ℤ = c.load_values.new.values in
    let long : length list ≡ 48 = ap (λ (v : List ℤ). length v) values in
    let six : take 42 (drop 6 list) ≡ drop 6 list = take_all 42 (drop 6 list) (omega (arith, length-drop 6 list)) in
    let shorter : List ℤ = take 42 (drop 6 list) in
    let three : take (length shorter - 3) (drop 3 shorter) ≡ drop 3 (drop 6 list) = take_rest shorter 3 ∙ ap (drop 3) six in
    let ucontext : map (low_number 4) (drop 6 list) ≡ ucontext_words bytes =
    drop-words 6 list ∙ ap (λ (v : List ℤ). drop 6 (map (low_number 4) v)) values in
    let context : map (low_number 4) (drop 3 (drop 6 list)) ≡ drop 3 (ucontext_words bytes) = drop-words 3 (drop 6 list) ∙ ap (drop 3) ucontext in
    c.return_to.ensures.returned ∙ ap (λ (w : List ℕ). returned c.args.cpu.now (context_of w)) (ap (map (low_number 4)) three ∙ context)

pub returns-in-Err-clause-answer : goal.returns-in-Err-clause-answer
returns-in-Err-clause-answer c =
    sym (read-denied c.args.space.now.pages c.register-address.result _ 784 _ _ c.register-address.ensures c.in-Err.ensures.answer)
