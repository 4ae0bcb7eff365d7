use Rattle.std.proofs.Common.{◌≡◌, refl, sym, ap, ◌∙◌}
use Rattle.std.specs.Prelude.{true, false, Option, Some, None, is_some, option_map}
use Rattle.kernel_core.specs.FileSystem.{parent_at, parent_of}
use Rattle.kernel_core.specs.Nodes.{Listing, listing_in}
use Rattle.native_vfs.specs.Keyed.{number_at}
use Rattle.native_vfs.specs.inside.Stored.{number_of, content_of}
use Rattle.native_vfs.proofs.tables.Facts.{no-directory, part-seen, parent-seen, parent-leads, lead-live, lead-number}
use Rattle.native_vfs.proofs.tables.Kept.{live-seen}
use Rattle.native_vfs.proofs.vfs.Vfs.parent.Goals as goal

parented : (o : Option Listing) → is_some (parent_of o) ≡ true → is_some o ≡ true
parented None some = some
parented (Some listing) some = refl

pub index-requires : goal.index-requires
index-requires c = live-seen c.self.inside.inodes.table c.args.self.now c.self.view_is c.args.dir c.requires.live

pub unreachable-requires : goal.unreachable-requires
unreachable-requires c =
    no-directory c.index.result.now.content c.in_default.not-Directory
    (parented (listing_in (content_of c.index.result.now.content))
    (sym (ap is_some (ap parent_of (part-seen c.self.inside.inodes.table c.args.self.now c.self.view_is c.self.inside.inodes.distinct c.args.dir
    c.index.result.now c.index.ensures listing_in))) ∙ c.requires.directory))

pub unreachable-requires-in_default-parent : goal.unreachable-requires-in_default-parent
unreachable-requires-in_default-parent c =
    let none : parent_at c.args.self.now.nodes (number_at c.args.self.now c.args.dir) ≡ None =
    parent-seen c.self.inside.inodes.table c.args.self.now c.self.view_is c.self.inside.inodes.distinct c.args.dir c.index.result.now c.index.ensures
    c.in-Directory.directory c.in-Directory.is ∙ ap (option_map number_of) c.in_default-parent.is in
    let h : false ≡ true = sym (ap is_some none) ∙ c.requires.directory in
    cc

pub returns-clause-parent : goal.returns-clause-parent
returns-clause-parent c =
    parent-seen c.self.inside.inodes.table c.args.self.now c.self.view_is c.self.inside.inodes.distinct c.args.dir c.index.result.now c.index.ensures
    c.in-Directory.directory c.in-Directory.is ∙ ap (option_map number_of) c.in-Some.is
    ∙ ap (λ n. Some n) (sym (lead-number c.self.inside.inodes.table c.args.self.now c.self.view_is c.self.inside.inodes.distinct c.in-Some.parent
    (parent-leads c.self.inside.inodes.table c.args.self.now c.self.view_is c.self.inside.inodes.distinct c.args.dir c.index.result.now c.index.ensures
    c.self.invariant.sound.references c.in-Directory.directory c.in-Directory.is c.in-Some.parent c.in-Some.is)))

pub returns-clause-live : goal.returns-clause-live
returns-clause-live c =
    lead-live c.self.inside.inodes.table c.args.self.now c.self.view_is c.self.inside.inodes.distinct c.in-Some.parent
    (parent-leads c.self.inside.inodes.table c.args.self.now c.self.view_is c.self.inside.inodes.distinct c.args.dir c.index.result.now c.index.ensures
    c.self.invariant.sound.references c.in-Directory.directory c.in-Directory.is c.in-Some.parent c.in-Some.is)
