use Rattle.std.proofs.Common.{sym, ap, ◌∙◌}
use Rattle.std.specs.Prelude.{Result}
use Rattle.kernel_core.specs.declared.error.Errno.{Errno}
use Rattle.native_calls.specs.HostBytes.{read_as}
use Rattle.native_calls.specs.Polls as polls
use Rattle.native_polls.specs.Answers.{places_of}
use Rattle.native_polls.specs.declared.fd_sets.FdSets.{FdSets}
use Rattle.native_polls.specs.inside.FdSets.{sets_of}
use Rattle.native_polls.proofs.SelectLaws.{given_finds}
use Rattle.native_polls.proofs.select.select_sets.Goals as goal

pub returns : goal.returns
returns g c =
    given_finds (g.F.Readiness.files c.args.files.now) c.args.clock c.args.wait c.args.counted.count c.in_ok-sets.sets (places_of c.args.counted.places) c.args.mem.now
    (polls.sets_at c.args.mem.now c.args.counted.count (places_of c.args.counted.places)) c.select_counted.new.mem c.select_counted.result
    (ap (λ (r : Result FdSets Errno). read_as (sets_of c.args.counted.count) r) (sym c.in_ok-sets.was) ∙ c.sets_at.ensures) c.select_counted.ensures
