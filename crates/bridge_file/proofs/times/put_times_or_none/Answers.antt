-- The times stand at the end, and what stood before still does.
use Rattle.std.proofs.Common.{List, ℕ, ◌≡◌, Ok, Option, sym, ◌∙◌, ap, length}
use Rattle.std.specs.Prelude.{option_map}
use Rattle.host_mem.specs.Memory.{padded}
use Rattle.bridge_file.proofs.OptionalPaths.{optional_kept}
use Rattle.bridge_file.proofs.TimeRows.{both_long, times_stand}
use Rattle.bridge_file.specs.declared.times.BothTimes.{BothTimes}
use Rattle.bridge_file.specs.inside.BothTimes.{host_times_or_none, times_of}
use Rattle.bridge_file.proofs.times.put_times_or_none.Goals as goal

pub returns-in_ok-at-in-Some-clause-path : goal.returns-in_ok-at-in-Some-clause-path
returns-in_ok-at-in-Some-clause-path c = optional_kept c.args.mem.now c.push.new.self c.native_bytes.result c.in_ok-at-in-Some.ensures.ok

pub returns-in_ok-at-in-Some-clause-times : goal.returns-in_ok-at-in-Some-clause-times
returns-in_ok-at-in-Some-clause-times c =
    let long : length c.native_bytes.result ≡ 32 = ap length c.native_bytes.ensures.bytes ∙ both_long c.in-Some.times in
    ap (λ (m : List ℕ). host_times_or_none m c.in_ok-at-in-Some.at) c.in_ok-at-in-Some.ensures.ok
    ∙ times_stand (padded c.args.mem.now) c.native_bytes.result c.in_ok-at-in-Some.at c.in-Some.times c.in_ok-at-in-Some.ensures.address long c.native_bytes.ensures.times
    ∙ ap (λ (o : Option BothTimes). Ok (option_map times_of o)) (sym c.in-Some.is)
