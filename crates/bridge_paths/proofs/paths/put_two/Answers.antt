-- Both paths are read back.
use Rattle.bridge_paths.proofs.HostPaths.{first_path, has_path}
use Rattle.bridge_paths.proofs.paths.put_two.Goals as goal

pub returns-clause-first : goal.returns-clause-first
returns-clause-first c =
    first_path c.clear.new.self c.put_path-2.new.mem c.args.one.now _ c.clear.ensures.empty c.in_ok-put_path.ensures.address
    c.requires.one_short c.requires.one_plain (c.in_ok-at.ensures.others _ c.args.one.now c.in_ok-put_path.ensures.here)

pub returns-clause-second : goal.returns-clause-second
returns-clause-second c =
    has_path c.put_path-2.new.mem c.args.two.now c.in_ok-at.at c.requires.two_short c.requires.two_plain c.in_ok-at.ensures.here
