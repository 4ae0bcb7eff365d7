use Rattle.native_files.specs.inside.Listings.{AreGiven, all_listed}
use Rattle.native_files.proofs.listing.fill.Given as goal

abbrev pub invariant-loop-entry : goal.invariant-loop-entry
invariant-loop-entry l = AreGiven (all_listed l.vfs l.listed) l.initial.given.cookie l.initial.given.left l.given

abbrev pub decreases-loop-entry : goal.decreases-loop-entry
decreases-loop-entry l = l.given.left
