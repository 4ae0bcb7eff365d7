use Rattle.native_files.proofs.PlaceLemmas.{place-none, place-some}
use Rattle.native_files.proofs.flow.least_free.Goals as goal

pub returns-in-Some : goal.returns-in-Some
returns-in-Some c = place-some c.args.pipes.now c.in-Some.number c.in-Some.ensures.first

pub returns-in-None : goal.returns-in-None
returns-in-None c = place-none c.args.pipes.now c.in-None.ensures.first
