use Rattle.std.proofs.Common.{◌≡◌, ℕ, List, [], ◌∷◌, ◌∙◌, None, ap, sym, subst, arith}
use Rattle.guest_space.specs.declared.access.Access.TheVariants.{Store}
use Rattle.guest_space.specs.Access.{first_denied}
use Rattle.guest_space.specs.Bytes.{copied_out}
use Rattle.guest_space.specs.Memory.{Memory}
use Rattle.start_stack.specs.Stack.{big_endian, word_bytes}
use Rattle.start_stack.specs.FirstMemory.{with_pages, with_protected}
use Rattle.start_stack.proofs.Counting.{len-with_zeros}
use Rattle.start_stack.proofs.Writable.{range-allowed, with_zeros-in, copied_out-writable}
use Rattle.start_stack.proofs.stack.map_trampolines.Goals as goal

pub map_pages-requires-clause-room : goal.map_pages-requires-clause-room
map_pages-requires-clause-room c = omega (arith, len-with_zeros c.args.space.now.pages 0x7FFF4 1 3, c.requires)

pub write_bytes-requires : goal.write_bytes-requires
write_bytes-requires c =
    let old = c.args.space.now in
    subst (λ (m : Memory). first_denied Store m.pages 0x7FFF4000 8 ≡ None) (sym c.in_ok-map_pages.ensures.ok)
    (range-allowed (with_pages old 0x7FFF4 1).pages 0x7FFF4 1 0x7FFF4000 8 (omega arith) (omega arith) (omega arith)
    (λ q low high. with_zeros-in old.pages 0x7FFF4 1 q low high))

pub write_bytes-requires-2 : goal.write_bytes-requires-2
write_bytes-requires-2 c =
    let old = c.args.space.now in
    let first : List ℕ = 0x24 ∷ 0x02 ∷ 0x10 ∷ 0x17 ∷ 0 ∷ 0 ∷ 0 ∷ 0x0C ∷ [] in
    subst (λ (m : Memory). first_denied Store m.pages 0x7FFF4010 8 ≡ None)
    (sym (c.in_ok-write_bytes.ensures.ok ∙ ap (λ m. copied_out m 0x7FFF4000 first) c.in_ok-map_pages.ensures.ok))
    (range-allowed (copied_out (with_pages old 0x7FFF4 1) 0x7FFF4000 first).pages 0x7FFF4 1 0x7FFF4010 8 (omega arith) (omega arith) (omega arith)
    (λ q low high. copied_out-writable (with_pages old 0x7FFF4 1) 0x7FFF4000 first q (with_zeros-in old.pages 0x7FFF4 1 q low high)))

pub returns-clause-ok : goal.returns-clause-ok
unfolding big_endian
returns-clause-ok c =
    c.protect_page.ensures
    ∙ ap (λ m. with_protected m 0x7FFF4 1 5) (c.in_ok-write_bytes-2.ensures.ok
    ∙ ap (λ m. copied_out m 0x7FFF4010 (word_bytes (0x24021061 ∷ 0x0000000C ∷ []))) (c.in_ok-write_bytes.ensures.ok
    ∙ ap (λ m. copied_out m 0x7FFF4000 (word_bytes (0x24021017 ∷ 0x0000000C ∷ []))) c.in_ok-map_pages.ensures.ok))
