use Rattle.std.proofs.Common.{◌≡◌, ◌+◌, ◌∙◌, Ok, sym, ap, refl, arith, vec_len, length, position}
use Rattle.guest_space.specs.Bytes.{bytes_at}
use Rattle.guest_space.specs.declared.access.Access.TheVariants.{Load}
use Rattle.guest_space.proofs.ByteLemmas.{bytes_at-zero, length-bytes_at}
use Rattle.o32_model.specs.Paths.{is_nul}
use Rattle.bridge_mem.proofs.Denials.{none_denied-rest}
use Rattle.bridge_mem.proofs.Nul.{found-path, found-short, found-plain, more-first, more-plain, without-path}
use Rattle.bridge_mem.proofs.paths.path.Goals as goal
use Rattle.bridge_mem.proofs.paths.path.Goals.{Else-branch, After-from}

pub loop-bytes-init : goal.loop-bytes-init
loop-bytes-init c = record {
  first = c.new-bytes.ensures.items ∙ sym (bytes_at-zero c.args.space.now.pages c.args.addr) ∙ ap (bytes_at c.args.space.now.pages c.args.addr) (sym c.new-bytes.ensures.len);
  plain = ap (position is_nul) c.new-bytes.ensures.items;
  within = omega arith;
}

pub append_piece-requires-clause-readable : goal.append_piece-requires-clause-readable
append_piece-requires-clause-readable c =
    none_denied-rest Load c.args.space.now.pages c.len-in-loop-bytes-2.result c.min-size.result c.args.addr
    (c.readable-room.ensures.free (c.len-in-loop-bytes-2.result + c.min-size.result) (omega arith))

pub returns-then-branch-clause-answer : goal.returns-then-branch-clause-answer
returns-then-branch-clause-answer c =
    found-path c.args.space.now c.args.addr c.readable-room.result c.readable-room.ensures.value
    (vec_len c.loop-bytes.bytes) c.min-size.result _ c.loop-bytes.bytes.items c.append_piece.new.bytes.items _ (omega arith) (omega arith)
    c.loop-bytes.invariant.first c.loop-bytes.invariant.plain refl c.in_ok-append_piece.ensures.text (sym c.in_ok-append_piece.ensures.found ∙ c.if-branch.true)
    ∙ ap Ok (sym c.from.ensures)

pub returns-then-branch-clause-short : goal.returns-then-branch-clause-short
returns-then-branch-clause-short c =
    omega (
      arith,
      ap length c.from.ensures,
      found-short c.args.space.now c.args.addr c.readable-room.result c.readable-room.ensures.value
          (vec_len c.loop-bytes.bytes) c.min-size.result _ c.loop-bytes.bytes.items c.append_piece.new.bytes.items _ (omega arith) (omega arith)
          c.loop-bytes.invariant.first c.loop-bytes.invariant.plain refl c.in_ok-append_piece.ensures.text (sym c.in_ok-append_piece.ensures.found ∙ c.if-branch.true),
    )

pub returns-then-branch-clause-plain : goal.returns-then-branch-clause-plain
returns-then-branch-clause-plain c =
    ap (position is_nul) c.from.ensures
    ∙ found-plain c.args.space.now c.args.addr c.readable-room.result c.readable-room.ensures.value
    (vec_len c.loop-bytes.bytes) c.min-size.result _ c.loop-bytes.bytes.items c.append_piece.new.bytes.items _ (omega arith) (omega arith)
    c.loop-bytes.invariant.first c.loop-bytes.invariant.plain refl c.in_ok-append_piece.ensures.text (sym c.in_ok-append_piece.ensures.found ∙ c.if-branch.true)

more : (c : Else-branch) → c.append_piece.new.bytes.items ≡ bytes_at c.args.space.now.pages c.args.addr (vec_len c.loop-bytes.bytes + c.min-size.result)
more c =
    more-first c.args.space.now c.args.addr c.readable-room.result c.readable-room.ensures.value
    (vec_len c.loop-bytes.bytes) c.min-size.result _ c.loop-bytes.bytes.items c.append_piece.new.bytes.items _ (omega arith) (omega arith)
    c.loop-bytes.invariant.first c.loop-bytes.invariant.plain refl c.in_ok-append_piece.ensures.text (sym c.in_ok-append_piece.ensures.found ∙ c.if-branch.false)

longer : (c : Else-branch) → vec_len c.append_piece.new.bytes ≡ vec_len c.loop-bytes.bytes + c.min-size.result
longer c =
    omega (arith, ap length (more c), length-bytes_at c.args.space.now.pages (vec_len c.loop-bytes.bytes + c.min-size.result) c.args.addr)

pub loop-bytes-smaller : goal.loop-bytes-smaller
loop-bytes-smaller c = omega (arith, longer c)

pub loop-bytes-preserved : goal.loop-bytes-preserved
loop-bytes-preserved c = record {
  first = more c ∙ ap (bytes_at c.args.space.now.pages c.args.addr) (sym (longer c));
  plain =
      more-plain c.args.space.now c.args.addr c.readable-room.result c.readable-room.ensures.value
      (vec_len c.loop-bytes.bytes) c.min-size.result _ c.loop-bytes.bytes.items c.append_piece.new.bytes.items _ (omega arith) (omega arith)
      c.loop-bytes.invariant.first c.loop-bytes.invariant.plain refl c.in_ok-append_piece.ensures.text (sym c.in_ok-append_piece.ensures.found ∙ c.if-branch.false);
  within = omega (arith, longer c);
}

pub returns-clause-answer : goal.returns-clause-answer
returns-clause-answer c =
    let room : vec_len c.loop-bytes.bytes ≡ c.readable-room.result = omega arith in
    without-path c.args.space.now c.args.addr c.readable-room.result c.why_none.result c.readable-room.ensures.value c.loop-bytes.bytes.items
    (c.loop-bytes.invariant.first ∙ ap (bytes_at c.args.space.now.pages c.args.addr) room) c.loop-bytes.invariant.plain c.why_none.ensures
