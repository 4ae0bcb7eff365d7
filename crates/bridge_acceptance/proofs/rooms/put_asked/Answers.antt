-- A set, and a time behind it.
use Rattle.std.proofs.Common.{◌≡◌, ◌∙◌, Ok, OnOk, ap, subst}
use Rattle.kernel_model.specs.SignalSets.{SignalSet}
use Rattle.native_calls.specs.SignalBytes.{set_at}
use Rattle.bridge_acceptance.proofs.HostRooms.{length_put, put_behind, set_alone}
use Rattle.bridge_acceptance.proofs.rooms.put_asked.Goals as goal

pub push_time-requires : goal.push_time-requires
push_time-requires c = length_put c.put_set.new.mem c.blockable.result c.in_ok-put_set.ensures

pub returns-in-None-clause-set : goal.returns-in-None-clause-set
returns-in-None-clause-set c = set_alone c.put_set.new.mem c.blockable.result c.in_ok-put_set.ensures c.blockable.ensures.words ∙ ap (λ (s : SignalSet). Ok s) c.blockable.ensures.value

pub returns-in-Some-clause-set : goal.returns-in-Some-clause-set
returns-in-Some-clause-set c =
    subst (λ (s : SignalSet). OnOk c.push_time.result (set_at c.push_time.new.mem 65536 ≡ Ok s)) c.blockable.ensures.value
    (put_behind c.push_time.result c.push_time.new.mem c.put_set.new.mem c.blockable.result c.in_ok-put_set.ensures c.blockable.ensures.words c.push_time.ensures.before)
