use Rattle.std.proofs.Common.{sym, ap, ◌∙◌}
use Rattle.native_files.proofs.Listings.{parent-none, parent-some}
use Rattle.native_files.proofs.listing.parent_of.Goals as goal
use Rattle.native_vfs.specs.Keyed.{number_at}

pub returns-then-status-eq0-clause-parent : goal.returns-then-status-eq0-clause-parent
returns-then-status-eq0-clause-parent c =
    let told = c.status.ensures in
    sym (parent-none c.args.vfs.now.nodes c.requires.valid (number_at c.args.vfs.now c.args.key) told.0 told.1 (sym (ap (λ s. s.links) told.2) ∙ c.if-status-eq0.true))

pub parent-requires-clause-directory : goal.parent-requires-clause-directory
parent-requires-clause-directory c =
    let told = c.status.ensures in
    parent-some c.args.vfs.now.nodes c.requires.valid (number_at c.args.vfs.now c.args.key) told.0 told.1 c.requires.directory
    (λ zero. c.if-status-eq0.false (ap (λ s. s.links) told.2 ∙ zero))
