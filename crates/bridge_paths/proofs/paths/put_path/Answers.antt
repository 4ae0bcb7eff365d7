-- Where the path stands, and what stood before.
use Rattle.std.proofs.Common.{ℕ, List, ◌++◌, ap, ◌∙◌}
use Rattle.host_mem.specs.Memory.{padded}
use Rattle.bridge_paths.proofs.HostPaths.{put_behind, put_front, put_here}
use Rattle.bridge_paths.proofs.paths.put_path.Goals as goal

pub returns-clause-here : goal.returns-clause-here
returns-clause-here c =
    put_here c.args.mem.now c.args.path.now c.push.new.self c.push_zeros.new.self c.in_ok-address.address
    (c.in_ok-address.ensures.ok ∙ ap (λ (p : List ℕ). padded c.args.mem.now ++ p) c.as_slice.ensures)
    c.in_ok-push_zeros.ensures.ok c.in_ok-address.ensures.address

pub returns-clause-others : goal.returns-clause-others
returns-clause-others c =
    put_behind c.args.mem.now c.args.path.now c.push.new.self c.push_zeros.new.self
    (c.in_ok-address.ensures.ok ∙ ap (λ (p : List ℕ). padded c.args.mem.now ++ p) c.as_slice.ensures)
    c.in_ok-push_zeros.ensures.ok

pub returns-clause-front : goal.returns-clause-front
returns-clause-front c =
    put_front c.args.mem.now c.args.path.now c.push.new.self c.push_zeros.new.self
    (c.in_ok-address.ensures.ok ∙ ap (λ (p : List ℕ). padded c.args.mem.now ++ p) c.as_slice.ensures)
    c.in_ok-push_zeros.ensures.ok
