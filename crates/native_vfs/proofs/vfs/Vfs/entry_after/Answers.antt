use Rattle.std.proofs.Common.{◌≡◌, sym, ap, ◌∙◌}
use Rattle.std.specs.Prelude.{ℕ, Some, is_some, option_map}
use Rattle.kernel_core.specs.Nodes.{listing_in}
use Rattle.kernel_core.specs.declared.tree.DirEntry.{DirEntry}
use Rattle.directory_names.specs.Names.{plain, shown, entry_after}
use Rattle.directory_names.specs.declared.entry.EntryView.{EntryView}
use Rattle.native_vfs.specs.Seen.{shown_entry}
use Rattle.native_vfs.proofs.tables.Facts.{no-directory, part-seen, entry-seen, entry-leads, lead-live, lead-number}
use Rattle.native_vfs.proofs.tables.Kept.{live-seen}
use Rattle.native_vfs.proofs.vfs.Vfs.entry_after.Goals as goal

pub index-requires : goal.index-requires
index-requires c = live-seen c.self.inside.inodes.table c.args.self.now c.self.view_is c.args.dir c.requires.live

pub unreachable-requires : goal.unreachable-requires
unreachable-requires c =
    no-directory c.index.result.now.content c.in_default.not-Directory
    (sym (ap is_some (part-seen c.self.inside.inodes.table c.args.self.now c.self.view_is c.self.inside.inodes.distinct c.args.dir c.index.result.now
    c.index.ensures listing_in)) ∙ c.requires.directory)

pub returns-in_err-entry-in-Directory-clause-entry : goal.returns-in_err-entry-in-Directory-clause-entry
returns-in_err-entry-in-Directory-clause-entry c =
    ap (option_map (shown_entry c.args.self.now)) c.from_residual.ensures
    ∙ sym (entry-seen c.self.inside.inodes.table c.args.self.now c.self.view_is c.self.inside.inodes.distinct c.args.dir c.index.result.now c.index.ensures
    c.in-Directory.directory c.in-Directory.is c.args.cookie ∙ ap (option_map plain) (sym c.in_err-entry-in-Directory.ensures.entry))

pub returns-clause-entry : goal.returns-clause-entry
returns-clause-entry c =
    let comes : entry_after c.in-Directory.directory.names.entries c.args.cookie ≡ Some (shown c.in_ok-entry-in-Directory.entry) = sym c.in_ok-entry-in-Directory.ensures.entry in
    let lead = entry-leads c.self.inside.inodes.table c.args.self.now c.self.view_is c.self.inside.inodes.distinct c.args.dir c.index.result.now c.index.ensures
    c.self.invariant.sound.references c.in-Directory.directory c.in-Directory.is c.entry_after.ensures.valid c.args.cookie (shown c.in_ok-entry-in-Directory.entry) comes in
    let entry : EntryView = c.in_ok-entry-in-Directory.entry in
    ap (λ (e : DirEntry). Some e) (ap (λ (n : ℕ). record { cookie = entry.cookie; name = entry.name.now; node = n })
    (lead-number c.self.inside.inodes.table c.args.self.now c.self.view_is c.self.inside.inodes.distinct entry.node lead))
    ∙ sym (entry-seen c.self.inside.inodes.table c.args.self.now c.self.view_is c.self.inside.inodes.distinct c.args.dir c.index.result.now c.index.ensures
    c.in-Directory.directory c.in-Directory.is c.args.cookie ∙ ap (option_map plain) comes)

pub returns-clause-live : goal.returns-clause-live
returns-clause-live c =
    let comes : entry_after c.in-Directory.directory.names.entries c.args.cookie ≡ Some (shown c.in_ok-entry-in-Directory.entry) = sym c.in_ok-entry-in-Directory.ensures.entry in
    let lead = entry-leads c.self.inside.inodes.table c.args.self.now c.self.view_is c.self.inside.inodes.distinct c.args.dir c.index.result.now c.index.ensures
    c.self.invariant.sound.references c.in-Directory.directory c.in-Directory.is c.entry_after.ensures.valid c.args.cookie (shown c.in_ok-entry-in-Directory.entry) comes in
    lead-live c.self.inside.inodes.table c.args.self.now c.self.view_is c.self.inside.inodes.distinct c.in_ok-entry-in-Directory.entry.node lead
