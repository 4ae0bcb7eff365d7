-- What is told, and then the time that is left
use Rattle.bridge_limits.proofs.Passed.{effected_then}
use Rattle.bridge_poll.proofs.Limiting.{left_stored}
use Rattle.bridge_poll.specs.inside.Telling.{told_bytes}
use Rattle.bridge_poll.proofs.limited.end.Goals as goal

pub returns-clause-stored : goal.returns-clause-stored
returns-clause-stored c = λ time shows.
    left_stored c.args.places.left c.args.ended c.args.space.now c.tell.new.space c.store_time.new.space c.args.places.entries c.native_entries-told.result.now (told_bytes c.args.mem.now c.args.answer.entries c.args.places.entries.count) time
    c.native_entries-told.ensures c.in_ok-outcome.ensures.stored (c.in_ok-store_time.ensures.stored time shows)

pub returns-clause-effects : goal.returns-clause-effects
returns-clause-effects c = λ processor sent. effected_then (c.in_ok-outcome.ensures.effects processor sent) (c.in_ok-store_time.ensures.effects processor sent)
