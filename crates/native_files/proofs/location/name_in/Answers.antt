use Rattle.std.proofs.Common.{sym, ap, ◌∙◌, arith}
use Rattle.std.proofs.lemmas.List.Elements.{recursion_from_All}
use Rattle.kernel_core.specs.Nodes.{entries_in, listing_at}
use Rattle.kernel_core.specs.ValidTree.{IsEntry}
use Rattle.kernel_model.specs.NodeRows.{slash_name}
use Rattle.native_vfs.specs.Keyed.{number_at}
use Rattle.native_files.proofs.Listings.{AreEntries-here}
use Rattle.native_files.proofs.NamesUp.{above-high, above-past, named-found, named-none, none-first, none-next}
use Rattle.native_files.proofs.location.name_in.Goals as goal

pub loop-next-init : goal.loop-next-init
loop-next-init c =
    let nodes = c.args.vfs.now.nodes in
    let parent = number_at c.args.vfs.now c.args.parent in
    let es = entries_in (listing_at nodes parent) in
    none-first c.args.number 0 es (recursion_from_All IsEntry es (AreEntries-here nodes c.requires.valid parent c.requires.directory).each) (omega arith)

pub loop-next-preserved : goal.loop-next-preserved
loop-next-preserved c =
    let nodes = c.args.vfs.now.nodes in
    let parent = number_at c.args.vfs.now c.args.parent in
    let es = entries_in (listing_at nodes parent) in
    let told = c.status.ensures in
    none-next c.args.number c.loop-next.cookie es _ (AreEntries-here nodes c.requires.valid parent c.requires.directory).rising c.loop-next.invariant (sym c.in-Some.ensures.entry)
    (λ same. c.if-status-number.false (ap (λ s. s.number) told.2 ∙ same))

pub loop-next-smaller : goal.loop-next-smaller
loop-next-smaller c =
    let nodes = c.args.vfs.now.nodes in
    let parent = number_at c.args.vfs.now c.args.parent in
    let es = entries_in (listing_at nodes parent) in
    let past = above-past c.args.number c.loop-next.cookie es _ (sym c.in-Some.ensures.entry) in
    let high = above-high c.args.number c.loop-next.cookie es _ (recursion_from_All IsEntry es (AreEntries-here nodes c.requires.valid parent c.requires.directory).each) (sym c.in-Some.ensures.entry) in
    omega (arith, past, high)

pub returns-then-status-number : goal.returns-then-status-number
returns-then-status-number c =
    let nodes = c.args.vfs.now.nodes in
    let parent = number_at c.args.vfs.now c.args.parent in
    let told = c.status.ensures in
    sym (ap slash_name (named-found c.args.number c.loop-next.cookie (entries_in (listing_at nodes parent)) _ c.loop-next.invariant (sym c.in-Some.ensures.entry)
    (sym (ap (λ s. s.number) told.2) ∙ c.if-status-number.true)))

pub returns : goal.returns
returns c =
    let nodes = c.args.vfs.now.nodes in
    let parent = number_at c.args.vfs.now c.args.parent in
    sym (ap slash_name (named-none c.args.number c.loop-next.cookie (entries_in (listing_at nodes parent)) c.loop-next.invariant (sym c.in_default.ensures.entry)))
