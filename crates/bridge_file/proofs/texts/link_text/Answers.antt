-- The native call tells the text.
use Rattle.std.proofs.Common.{◌∙◌, ap, sym, subst, arith}
use Rattle.std.specs.Int.{cast_signed, w32}
use Rattle.guest_space.specs.Access.{writable_prefix}
use Rattle.guest_space.specs.Memory.{Memory}
use Rattle.o32_model.specs.Names.{readlink_row}
use Rattle.o32_model.specs.PathArguments.{base}
use Rattle.o32_model.specs.Paths.{path_at}
use Rattle.bridge_paths.proofs.Passed.{fails_before}
use Rattle.bridge_file.proofs.TextTells.{readlink_tells}
use Rattle.bridge_paths.specs.HostPaths.{HasRoom}
use Rattle.bridge_file.specs.inside.Tells.{size_room}
use Rattle.bridge_file.proofs.texts.link_text.Goals as goal

pub returns-in_err-at-clause-row : goal.returns-in_err-at-clause-row
returns-in_err-at-clause-row g c = λ guest same memory left told.
    fails_before (readlink_row c.args.below.now.kernel.now guest (base c.args.query.link.directory) c.args.query.link.address c.args.query.buffer (cast_signed w32 c.args.query.size) left) c.from_residual.result _ _ _ _ c.from_residual.ensures.0

pub returns-clause-row : goal.returns-clause-row
returns-clause-row g c = λ guest same memory.
    let room = c.writable-room.ensures.value ∙ ap (writable_prefix c.args.space.now.pages c.args.query.buffer) c.size_room.ensures ∙ ap (λ (m : Memory). writable_prefix m.pages c.args.query.buffer (size_room c.args.query.size)) (sym memory) in
    c.tell_call.ensures.row guest (readlink_row c.args.below.now.kernel.now guest (base c.args.query.link.directory) c.args.query.link.address c.args.query.buffer (cast_signed w32 c.args.query.size)) same memory
    (λ left. readlink_tells guest c.args.below.now.kernel.now c.args.query.link.address c.args.query.buffer c.in_ok-at.at _ _ c.args.query.link.directory c.args.query.size c.args.path.now c.put_room.new.mem left c.from.ensures c.from-2.ensures (omega arith) (omega arith)
    (ap (λ (m : Memory). path_at m c.args.query.link.address) memory ∙ c.requires.found) c.in_ok-at.ensures.path
    (subst (HasRoom c.put_room.new.mem c.in_ok-at.at) room c.in_ok-at.ensures.room))

pub returns-clause-kept : goal.returns-clause-kept
returns-clause-kept g c = λ guest same memory.
    let room = c.writable-room.ensures.value ∙ ap (writable_prefix c.args.space.now.pages c.args.query.buffer) c.size_room.ensures ∙ ap (λ (m : Memory). writable_prefix m.pages c.args.query.buffer (size_room c.args.query.size)) (sym memory) in
    c.tell_call.ensures.kept guest (readlink_row c.args.below.now.kernel.now guest (base c.args.query.link.directory) c.args.query.link.address c.args.query.buffer (cast_signed w32 c.args.query.size)) same memory
    (λ left. readlink_tells guest c.args.below.now.kernel.now c.args.query.link.address c.args.query.buffer c.in_ok-at.at _ _ c.args.query.link.directory c.args.query.size c.args.path.now c.put_room.new.mem left c.from.ensures c.from-2.ensures (omega arith) (omega arith)
    (ap (λ (m : Memory). path_at m c.args.query.link.address) memory ∙ c.requires.found) c.in_ok-at.ensures.path
    (subst (HasRoom c.put_room.new.mem c.in_ok-at.at) room c.in_ok-at.ensures.room))
