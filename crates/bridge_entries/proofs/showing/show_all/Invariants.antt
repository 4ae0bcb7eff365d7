use Rattle.std.proofs.Common.{◌≡◌, ◌≤◌, ◌-◌, length}
use Rattle.bridge_entries.proofs.ShownLemmas.{ShowsAll}
use Rattle.bridge_entries.proofs.showing.show_all.Given as goal

-- the records so far are those of the entries before the place
abbrev pub invariant-loop-found : goal.invariant-loop-found
invariant-loop-found l = record { inside : l.place ≤ length l.given; long : length l.room ≡ 280; shows : ShowsAll l.form l.size l.position l.place l.given l.shown }

abbrev pub decreases-loop-found : goal.decreases-loop-found
decreases-loop-found l = length l.given - l.place
