use Rattle.std.proofs.Common.{◌≡◌, None, ap, sym, subst, arith, length}
use Rattle.guest_space.specs.declared.access.Access.TheVariants.{Store}
use Rattle.guest_space.specs.Access.{first_denied}
use Rattle.std.specs.FinMap.{len}
use Rattle.guest_space.specs.Memory.{Memory}
use Rattle.start_stack.specs.FirstMemory.{with_pages}
use Rattle.start_stack.proofs.Counting.{len-with_zeros, copied_out-len}
use Rattle.start_stack.proofs.Writable.{range-allowed, with_zeros-in}
use Rattle.start_stack.proofs.stack.map_stack.Goals as goal

pub map_pages-requires-clause-room : goal.map_pages-requires-clause-room
map_pages-requires-clause-room c = omega (arith, len-with_zeros c.args.space.now.pages 0x7F7F0 2048 3, c.requires.room)

pub write_bytes-requires : goal.write_bytes-requires
write_bytes-requires c =
    let old = c.args.space.now in
    let size = ap length c.deref.ensures.value in
    subst (λ (m : Memory). first_denied Store m.pages c.args.text.now.stack_pointer (length c.deref.result.now) ≡ None)
    (sym c.in_ok-map_pages.ensures.ok)
    (range-allowed (with_pages old 0x7F7F0 2048).pages 0x7F7F0 2048 _ _ (omega arith) (omega arith) (omega arith)
    (λ q low high. with_zeros-in old.pages 0x7F7F0 2048 q low high))

pub returns-clause-room : goal.returns-clause-room
returns-clause-room c =
    omega (
      arith,
      len-with_zeros c.args.space.now.pages 0x7F7F0 2048 3,
      ap (λ (m : Memory). len m.pages) c.in_ok-map_pages.ensures.ok,
      ap (λ (m : Memory). len m.pages) c.in_ok-write_bytes.ensures.ok,
      copied_out-len c.map_pages.new.space c.args.text.now.stack_pointer c.deref.result.now,
      c.requires.room,
    )
