-- The row at its place.
use Rattle.std.proofs.Common.{◌*◌, sym}
use Rattle.kernel_model.specs.Transfers.{file_bytes}
use Rattle.bridge_map.proofs.Placing.{maps_as, placed_at}
use Rattle.bridge_map.proofs.mmap_file.map_shown.Goals as goal

pub returns-in-Ok-clause-row : goal.returns-in-Ok-clause-row
returns-in-Ok-clause-row g c = λ left told content shows.
    let asked = c.args.asked.now in
    maps_as _ _ c.args.args.now c.map_shown_at.result _ _ _ _ _ _ _ _ _
    (placed_at c.args.space.now asked.flags asked.address asked.count asked.protection (file_bytes content asked.offset (asked.count * 4096)) c.in-Ok.first (sym c.in-Ok.ensures.value))
    (c.map_shown_at.ensures.row left told content shows)
