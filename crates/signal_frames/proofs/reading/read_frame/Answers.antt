use Rattle.std.proofs.Common.{◌≡◌, ℕ, List, length, map, take, drop, ℤ, sym, ap, ◌∙◌, arith}
use Rattle.std.proofs.lemmas.List.{take_all, length-drop}
use Rattle.layouts.specs.Number.{low_number}
use Rattle.layouts.specs.Frames.{context_of, returned_mask, frame_context, frame_mask}
use Rattle.layouts.specs.O32.{frame}
use Rattle.layouts.specs.Shape.{record_values}
use Rattle.guest_space.specs.Bytes.{bytes_at}
use Rattle.signal_frames.specs.Returning.{returned, frame_at}
use Rattle.signal_frames.proofs.Steps.{read-answer, read-denied, drop-words}
use Rattle.signal_frames.proofs.reading.read_frame.Goals as goal

pub returns-in-Ok-clause-answer : goal.returns-in-Ok-clause-answer
unfolding frame_mask
returns-in-Ok-clause-answer c =
    let pages = c.args.space.now.pages in
    let bytes : List ℕ = frame_at c.args.space.now c.args.cpu.now in
    let there : bytes_at pages c.register-address.result 632 ≡ bytes = ap (λ (at : ℕ). bytes_at pages at 632) c.register-address.ensures in
    let values : c.load_values.new.values ≡ record_values frame bytes = c.in-Ok.ensures.values ∙ ap (record_values frame) there in
    let list : List ℤ = c.load_values.new.values in
    let long : length list ≡ 39 = ap (λ (v : List ℤ). length v) values in
    let last : take 4 (drop 35 list) ≡ drop 35 list = take_all 4 (drop 35 list) (omega (arith, length-drop 35 list)) in
    let mask : c.mask_of.result ≡ frame_mask bytes =
    c.mask_of.ensures
    ∙ ap returned_mask (ap (map (low_number 4)) last ∙ drop-words 35 list ∙ ap (λ (v : List ℤ). drop 35 (map (low_number 4) v)) values) in
    read-answer pages c.register-address.result _ 632 _ _ _ c.register-address.ensures mask c.in-Ok.ensures.answer

pub returns-in-Ok-clause-returned : goal.returns-in-Ok-clause-returned
unfolding frame_context
returns-in-Ok-clause-returned c =
    let pages = c.args.space.now.pages in
    let bytes : List ℕ = frame_at c.args.space.now c.args.cpu.now in
    let there : bytes_at pages c.register-address.result 632 ≡ bytes = ap (λ (at : ℕ). bytes_at pages at 632) c.register-address.ensures in
    let values : c.load_values.new.values ≡ record_values frame bytes = c.in-Ok.ensures.values ∙ ap (record_values frame) there in
    c.return_to.ensures.returned ∙ ap (λ (list : List ℤ). returned c.args.cpu.now (context_of (map (low_number 4) list))) values

pub returns-in-Err-clause-answer : goal.returns-in-Err-clause-answer
returns-in-Err-clause-answer c =
    sym (read-denied c.args.space.now.pages c.register-address.result _ 632 _ _ c.register-address.ensures c.in-Err.ensures.answer)
