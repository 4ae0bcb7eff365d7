use Rattle.std.proofs.Common.{◌≤◌, length, sym, subst}
use Rattle.kernel_core.specs.Nodes.{entries_in, listing_at}
use Rattle.native_files.proofs.Listings.{AreEntries-here, short-above}
use Rattle.native_files.proofs.listing.named_entry.Goals as goal
use Rattle.native_vfs.specs.Keyed.{number_at}

pub returns-in_ok-copied-in-Some-clause-short : goal.returns-in_ok-copied-in-Some-clause-short
returns-in_ok-copied-in-Some-clause-short c =
    let nodes = c.args.vfs.now.nodes in
    let number = number_at c.args.vfs.now c.args.key in
    subst (λ l. length l ≤ 255) (sym c.in_ok-copied-in-Some.ensures)
    (short-above (entries_in (listing_at nodes number)) (AreEntries-here nodes c.requires.valid number c.requires.directory) c.args.cookie _ c.in-Some.ensures.entry)
