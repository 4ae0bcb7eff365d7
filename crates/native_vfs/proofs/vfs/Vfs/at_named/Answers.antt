use Rattle.std.proofs.Common.{subst, sym, ◌+◌}
use Rattle.std.specs.Prelude.{option_map}
use Rattle.kernel_core.specs.PathWalk as walking
use Rattle.native_vfs.specs.Keyed.{number_at}
use Rattle.native_vfs.specs.inside.Walking.{Gives, walk_of, steps_left}
use Rattle.native_vfs.proofs.vfs.Vfs.at_named.Goals as goal

pub returns-in_default : goal.returns-in_default
returns-in_default c =
    let system = c.args.self.now in
    let walk = c.args.walk.now in
    let most = steps_left walk + 1 in
    subst (λ o. Gives system most
    (walking.at_named system.nodes c.args.follow (walk_of system walk) c.args.found.name.now walk.rest (option_map (number_at system) o)) walk c.at_missing.result)
    (sym c.in_default.is) (c.at_missing.ensures system most c.requires.found)
