use Rattle.std.proofs.Common.{subst}
use Rattle.native_files.specs.inside.Listings.{NextIs, all_listed}
use Rattle.native_files.proofs.Listings.{AreGiven-put}
use Rattle.native_files.proofs.listing.fill.Goals as goal

pub loop-entry-preserved : goal.loop-entry-preserved
loop-entry-preserved c =
    let entries = all_listed c.args.vfs.now c.args.listed in
    let old = c.loop-entry.given in
    let next = subst (λ n. NextIs entries old.cookie old.left n) c.in-Fits.is c.in_ok-next_fitting.ensures in
    AreGiven-put entries c.args.given.now.cookie c.args.given.now.left old c.in-Fits.entry c.put.new.given c.loop-entry.invariant next.0 next.1 next.2 c.in_ok-put-in-Fits.ensures
