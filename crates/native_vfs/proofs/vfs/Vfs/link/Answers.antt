use Rattle.std.proofs.Common.{◌≡◌, ◌+◌, None, refl, sym, subst, ◌∙◌}
use Rattle.std.specs.Int.{w128}
use Rattle.std.proofs.lemmas.Result.{err_from_is_err_and}
use Rattle.std.proofs.Math.Facts.{to_z-of_z}
use Rattle.kernel_core.specs.NameCalls as names
use Rattle.native_vfs.specs.inside.Making.{IsNamedAgain}
use Rattle.native_vfs.specs.Keyed.{place_at, number_at}
use Rattle.native_vfs.specs.inside.Stored.{IsKept, nodes_of, keyed_of, number_of_key}
use Rattle.native_vfs.proofs.tables.Kept.{valid-sound, whole-of, kept-of, IsWhole, valid-view, are-keys-view, live-seen}
use Rattle.native_vfs.proofs.additions.MadeCalls.{agrees-kept, view-same, kept-same, none-left}
use Rattle.native_vfs.proofs.removals.Ends.{valid-seen, are-keys-seen}
use Rattle.native_vfs.proofs.additions.NamedAgain.{link-refusal-seen, whole-named, nodes-named, keys-named}
use Rattle.file_system_laws.proofs.HeldNodes.{keeps-lost, link_loses}
use Rattle.native_vfs.proofs.tables.HeldKeys.{held-same, held-same_keys}
use Rattle.native_vfs.proofs.tables.Tables.{AreKeys-table}
use Rattle.native_vfs.proofs.vfs.Vfs.link.Goals as goal

pub link_refusal-requires-clause-live : goal.link_refusal-requires-clause-live
link_refusal-requires-clause-live c = live-seen c.self.inside.inodes.table c.args.self.now c.self.view_is c.args.node c.requires.live

pub name_again-requires-clause-live : goal.name_again-requires-clause-live
name_again-requires-clause-live c = live-seen c.self.inside.inodes.table c.args.self.now c.self.view_is c.args.node c.requires.live

pub returns-in-Some-clause-answer : goal.returns-in-Some-clause-answer
returns-in-Some-clause-answer c = sym (c.in-Some.ensures ∙ link-refusal-seen c.self.inside.inodes.table c.args.self.now c.self.view_is c.args.node c.args.at.now)

pub returns-in-Some-clause-valid : goal.returns-in-Some-clause-valid
returns-in-Some-clause-valid c = valid-seen c.self.inside.inodes.table c.args.self.now c.self.view_is c.self.inside.inodes.entries c.self.invariant.sound

pub returns-in-Some-clause-keys : goal.returns-in-Some-clause-keys
returns-in-Some-clause-keys c = are-keys-seen c.self.inside.inodes.table c.args.self.now c.self.view_is c.self.inside.inodes.distinct

-- a name is made

free : (c : goal.After-self-1)
    → names.link_refusal (nodes_of c.self.inside.inodes.table) (number_of_key c.self.inside.inodes.table c.args.node) (place_at (keyed_of c.self.inside.inodes.table) c.args.at.now) ≡ None
free c = sym c.link_refusal.ensures ∙ none-left c.link_refusal.result c.in_default.not-Some

named : (c : goal.After-self-1)
    → IsNamedAgain c.self.inside.inodes.table c.name_again.new.inodes.table
    (names.after_link (nodes_of c.self.inside.inodes.table) (number_of_key c.self.inside.inodes.table c.args.node) (place_at (keyed_of c.self.inside.inodes.table) c.args.at.now) c.args.now)
named c = rw (to_z-of_z {w = w128} {z = c.args.now} c.ranges.now) at c.in_ok-name_again.ensures.named

whole : (c : goal.After-self-1) → IsWhole c.name_again.new.inodes.table c.self.inside.inodes.numbers (c.self.inside.inodes.entries + 1) c.self.inside.inodes.blocks c.self.inside.root
whole c =
    whole-named c.self.inside.inodes.table c.name_again.new.inodes.table c.args.node c.args.at.now c.args.now (named c) c.self.inside.inodes.numbers c.self.inside.inodes.entries c.self.inside.inodes.blocks c.self.inside.root
    (whole-of c.self.inside.inodes c.self.inside.root c.self.invariant) (agrees-kept c.self.inside.inodes.table c.args.self.now c.self.view_is c.args.at.now c.requires.agrees) (free c)
    (live-seen c.self.inside.inodes.table c.args.self.now c.self.view_is c.args.node c.requires.live) c.requires.time

pub invariant_of-self-2 : goal.invariant_of-self-2
invariant_of-self-2 c =
    subst (λ n. IsKept c.name_again.new.inodes.table (n + 1) c.self.inside.root) (sym c.in_ok-name_again.ensures.entries) (kept-of _ _ _ _ _ (whole c))

pub returns-clause-answer : goal.returns-clause-answer
returns-clause-answer c = sym (link-refusal-seen c.self.inside.inodes.table c.args.self.now c.self.view_is c.args.node c.args.at.now) ∙ free c

pub returns-clause-named : goal.returns-clause-named
returns-clause-named c = nodes-named c.self.inside.inodes.table c.name_again.new.inodes.table c.args.node c.args.at.now c.args.now (named c) c.args.self.now c.self.view_is

pub returns-clause-same : goal.returns-clause-same
returns-clause-same c = keys-named c.self.inside.inodes.table c.name_again.new.inodes.table c.args.node c.args.at.now c.args.now (named c) c.args.self.now c.self.view_is

pub returns-clause-valid : goal.returns-clause-valid
returns-clause-valid c = valid-view _ _ _ _ _ (whole c)

pub returns-clause-keys : goal.returns-clause-keys
returns-clause-keys c = are-keys-view _ _ _ _ _ (whole c)

-- memory runs out

same_kept : (c : goal.After-from_residual) → IsKept c.name_again.new.inodes.table c.name_again.new.inodes.entries c.self.inside.root
same_kept c =
    kept-same c.self.inside.inodes.table c.name_again.new.inodes.table c.in_err-name_again.ensures.same _ _ _ c.in_err-name_again.ensures.entries c.self.invariant

pub invariant_of-self : goal.invariant_of-self
invariant_of-self c = same_kept c

pub returns-in_err-name_again-clause-answer : goal.returns-in_err-name_again-clause-answer
returns-in_err-name_again-clause-answer c =
    let p = err_from_is_err_and c.from_residual.result c.from_residual.ensures.1 in
    rw (p.1, p.2) (sym (link-refusal-seen c.self.inside.inodes.table c.args.self.now c.self.view_is c.args.node c.args.at.now) ∙ sym c.link_refusal.ensures
    ∙ none-left c.link_refusal.result c.in_default.not-Some)

pub returns-in_err-name_again-clause-err : goal.returns-in_err-name_again-clause-err
returns-in_err-name_again-clause-err c =
    let p = err_from_is_err_and c.from_residual.result c.from_residual.ensures.1 in
    rw p.1 (view-same c.self.inside.inodes.table c.name_again.new.inodes.table c.in_err-name_again.ensures.same c.args.self.now c.self.view_is)

pub returns-in_err-name_again-clause-valid : goal.returns-in_err-name_again-clause-valid
returns-in_err-name_again-clause-valid c = valid-sound _ _ (same_kept c).sound

pub returns-in_err-name_again-clause-keys : goal.returns-in_err-name_again-clause-keys
returns-in_err-name_again-clause-keys c = AreKeys-table _ c.name_again.new.inodes.distinct

pub returns-in-Some-clause-held : goal.returns-in-Some-clause-held
returns-in-Some-clause-held c = held-same c.args.self.now c.args.self.now refl

pub returns-clause-held : goal.returns-clause-held
returns-clause-held c =
    held-same_keys c.args.self.now (keyed_of c.name_again.new.inodes.table) _ (returns-clause-named c)
    (keeps-lost _ _ (link_loses c.args.self.now.nodes (place_at c.args.self.now c.args.at.now) (number_at c.args.self.now c.args.node) c.args.now))
    (returns-clause-same c)

pub returns-in_err-name_again-clause-held : goal.returns-in_err-name_again-clause-held
returns-in_err-name_again-clause-held c =
    held-same c.args.self.now (keyed_of c.name_again.new.inodes.table)
    (view-same c.self.inside.inodes.table c.name_again.new.inodes.table c.in_err-name_again.ensures.same c.args.self.now c.self.view_is)
