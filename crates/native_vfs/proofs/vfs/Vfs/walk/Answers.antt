use Rattle.std.proofs.Common.{Ok, ap}
use Rattle.std.proofs.lemmas.Result.{err_from_is_err_and}
use Rattle.native_vfs.specs.Keyed.{number_at}
use Rattle.native_vfs.specs.inside.Walking.{steps_left}
use Rattle.native_vfs.proofs.walks.TextLemmas.{is-empty}
use Rattle.native_vfs.proofs.walks.WalkLemmas.{walk-empty, one-step, walked-found, walked-error}
use Rattle.native_vfs.proofs.vfs.Vfs.walk.Goals as goal

pub returns-then-is_empty : goal.returns-then-is_empty
returns-then-is_empty c =
    let system = c.args.self.now in
    walk-empty system.nodes (number_at system c.args.from) c.args.path.now c.args.follow
    (is-empty c.is_empty.result c.args.path.now c.is_empty.ensures c.if-is_empty.true)

pub loop-walk-preserved : goal.loop-walk-preserved
loop-walk-preserved c =
    let system = c.args.self.now in
    let gives = rw c.in_default.is at c.in_ok-found.ensures in
    record {
      way = gives.1;
      same = λ result ends. c.loop-walk.invariant.same result (one-step system.nodes c.args.follow _ _ result gives.0 ends);
    }

pub returns-in-Some : goal.returns-in-Some
returns-in-Some c =
    let system = c.args.self.now in
    walked-found system (number_at system c.args.from) c.args.path.now c.args.follow c.loop-walk.walk c.walk_step.new.walk
    (steps_left c.loop-walk.walk) c.loop-walk.invariant.same c.in-Some.found (Ok (record { dir = c.in-Some.found.dir; name = c.in_ok-name.name; node = c.in-Some.found.node }))
    (rw c.in-Some.is at c.in_ok-found.ensures) (ap (λ n. record { dir = c.in-Some.found.dir; name = n; node = c.in-Some.found.node }) c.in_ok-name.ensures)

pub returns-in_err-found : goal.returns-in_err-found
returns-in_err-found c =
    let system = c.args.self.now in
    let p = err_from_is_err_and c.from_residual.result c.from_residual.ensures.1 in
    rw (p.1, p.2)
    (walked-error system (number_at system c.args.from) c.args.path.now c.args.follow c.loop-walk.walk c.walk_step.new.walk
    (steps_left c.loop-walk.walk) c.loop-walk.invariant.same c.in_err-found.field-0.0 c.in_err-found.ensures)
