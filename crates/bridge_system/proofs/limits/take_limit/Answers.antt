-- The program's limit stands in host memory.
use Rattle.std.proofs.Common.{length, ap, ◌∙◌}
use Rattle.host_mem.specs.Memory.{written}
use Rattle.bridge_system.proofs.LimitMirrors.{taken}
use Rattle.bridge_system.proofs.limits.take_limit.Goals as goal

pub returns-in-Ok-clause-taken : goal.returns-in-Ok-clause-taken
returns-in-Ok-clause-taken c =
    taken c.args.space.now c.args.address c.fresh_room.new.mem c.write.new.self c.load_structure.new.bytes c.limit_in.result c.if-address-eq0.false (ap length c.in_ok-fresh_room.ensures) c.in-Ok.ensures.answer c.limit_in.ensures.value c.limit_in.ensures.fits
    (c.write.ensures.written ∙ ap (written c.fresh_room.new.mem 65536) c.native_limit_bytes.ensures)
