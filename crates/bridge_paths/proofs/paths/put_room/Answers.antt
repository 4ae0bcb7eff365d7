-- The path is read back, and the room stands behind it.
use Rattle.host_mem.specs.Memory.{padded}
use Rattle.bridge_paths.proofs.HostPaths.{path_before}
use Rattle.bridge_paths.proofs.paths.put_room.Goals as goal

pub returns-clause-path : goal.returns-clause-path
returns-clause-path c =
    path_before c.clear.new.self c.put_path.new.mem c.push_zeros.new.self c.args.path.now _ c.args.room c.clear.ensures.empty c.in_ok-put_path.ensures.address
    c.requires.short c.requires.plain c.in_ok-put_path.ensures.here c.in_ok-at.ensures.ok

pub returns-clause-room : goal.returns-clause-room
returns-clause-room c = record { front = padded c.put_path.new.mem; stands = c.in_ok-at.ensures.ok; from = c.in_ok-at.ensures.address }
