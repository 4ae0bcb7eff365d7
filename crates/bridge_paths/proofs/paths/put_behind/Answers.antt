-- The path is read back, behind the zeros.
use Rattle.std.proofs.Common.{List, ℕ, subst}
use Rattle.bridge_paths.proofs.HostPaths.{has_path}
use Rattle.bridge_paths.specs.HostPaths.{BeginsWith}
use Rattle.bridge_paths.proofs.paths.put_behind.Goals as goal

pub returns-clause-path : goal.returns-clause-path
returns-clause-path c = has_path c.put_path.new.mem c.args.path.now c.in_ok-at.at c.requires.short c.requires.plain c.in_ok-at.ensures.here

pub returns-clause-room : goal.returns-clause-room
returns-clause-room c = subst (λ (m : List ℕ). BeginsWith m c.put_path.new.mem) c.in_ok-fresh_room.ensures c.in_ok-at.ensures.front
