-- The path is read back.
use Rattle.bridge_paths.proofs.HostPaths.{first_path}
use Rattle.bridge_paths.proofs.paths.put_one.Goals as goal

pub returns : goal.returns
returns c =
    first_path c.clear.new.self c.put_path.new.mem c.args.path.now _ c.clear.ensures.empty c.in_ok-put_path.ensures.address
    c.requires.short c.requires.plain c.in_ok-put_path.ensures.here
