use Rattle.std.proofs.Common.{◌≡◌, ◌+◌, None, sym, subst, ◌∙◌, refl}
use Rattle.std.specs.Int.{w128}
use Rattle.std.proofs.lemmas.Result.{err_from_is_err_and}
use Rattle.std.proofs.Math.Facts.{to_z-of_z}
use Rattle.kernel_core.specs.NameCalls as names
use Rattle.kernel_core.specs.Nodes.{NodeContent}
use Rattle.native_vfs.specs.inside.Making.{IsMade}
use Rattle.native_vfs.specs.Keyed.{place_at, number_at}
use Rattle.native_vfs.specs.inside.Stored.{nodes_of, keyed_of, IsKept}
use Rattle.native_vfs.proofs.tables.Kept.{step-distinct, pool-stepped, valid-sound, blocks-stepped}
use Rattle.native_vfs.proofs.additions.MadeCalls.{refusal-seen, agrees-kept, view-same, makes-seen, kept-mkdir, made-step, above-live, above-number, above-few, empty-directory, empty-leads, none-left, kept-same}
use Rattle.native_vfs.proofs.removals.Ends.{valid-seen, are-keys-seen}
use Rattle.native_vfs.proofs.tables.Reasons.{live-dir}
use Rattle.native_vfs.proofs.tables.Tables.{number_at-table, AreKeys-table}
use Rattle.file_system_laws.proofs.HeldNodes.{mkdir_keeps_holds}
use Rattle.native_vfs.proofs.tables.HeldKeys.{held-same, held-made}
use Rattle.native_vfs.proofs.vfs.Vfs.mkdir.Goals as goal

pub returns-in-Some-clause-answer : goal.returns-in-Some-clause-answer
returns-in-Some-clause-answer c = sym (c.in-Some.ensures ∙ refusal-seen c.self.inside.inodes.table c.args.self.now c.self.view_is names.make_refusal c.args.at.now)

pub returns-in-Some-clause-valid : goal.returns-in-Some-clause-valid
returns-in-Some-clause-valid c = valid-seen c.self.inside.inodes.table c.args.self.now c.self.view_is c.self.inside.inodes.entries c.self.invariant.sound

pub returns-in-Some-clause-keys : goal.returns-in-Some-clause-keys
returns-in-Some-clause-keys c = are-keys-seen c.self.inside.inodes.table c.args.self.now c.self.view_is c.self.inside.inodes.distinct

-- a directory is made

pub number-requires : goal.number-requires
number-requires c = record { live = live-dir c.self.inside.inodes.table c.args.at.now (agrees-kept c.self.inside.inodes.table c.args.self.now c.self.view_is c.args.at.now c.requires.agrees) }

pub make-requires-clause-leads : goal.make-requires-clause-leads
make-requires-clause-leads c =
    empty-leads c.self.inside.inodes.table c.number.result c.args.at.now.dir c.new.result
    (live-dir c.self.inside.inodes.table c.args.at.now (agrees-kept c.self.inside.inodes.table c.args.self.now c.self.view_is c.args.at.now c.requires.agrees)) c.number.ensures c.new.ensures.entries

pub add_link-requires-clause-live : goal.add_link-requires-clause-live
add_link-requires-clause-live c =
    above-live c.self.inside.inodes.table c.make.new.inodes.table c.in_ok-key.key c.args.at.now
    (agrees-kept c.self.inside.inodes.table c.args.self.now c.self.view_is c.args.at.now c.requires.agrees) _ _ c.in_ok-key.ensures.made

pub add_link-requires-clause-few : goal.add_link-requires-clause-few
add_link-requires-clause-few c =
    above-few c.self.inside.inodes.table c.make.new.inodes.table c.in_ok-key.key c.args.at.now
    (agrees-kept c.self.inside.inodes.table c.args.self.now c.self.view_is c.args.at.now c.requires.agrees) _ _ c.in_ok-key.ensures.made c.self.invariant.sound.system

free : (c : goal.After-self-2-1) → names.make_refusal (nodes_of c.self.inside.inodes.table) (place_at (keyed_of c.self.inside.inodes.table) c.args.at.now) ≡ None
free c = sym c.make_refusal.ensures ∙ none-left c.make_refusal.result c.in_default.not-Some

made : (c : goal.After-self-2-1)
    → IsMade c.self.inside.inodes.table c.add_link.new.table c.in_ok-key.key
    (λ number. names.after_mkdir (nodes_of c.self.inside.inodes.table) (place_at (keyed_of c.self.inside.inodes.table) c.args.at.now) number c.args.mode c.args.now)
made c =
    made-step c.self.inside.inodes.table c.make.new.inodes.table c.in_ok-key.key
    (λ number. names.after_make (nodes_of c.self.inside.inodes.table) (place_at (keyed_of c.self.inside.inodes.table) c.args.at.now) number
    (names.new_directory c.args.mode (number_at (keyed_of c.self.inside.inodes.table) c.args.at.now.dir) c.args.now) c.args.now)
    (subst
    (λ (content : NodeContent). IsMade c.self.inside.inodes.table c.make.new.inodes.table c.in_ok-key.key
    (λ number. names.after_make (nodes_of c.self.inside.inodes.table) (place_at (keyed_of c.self.inside.inodes.table) c.args.at.now) number (names.new_inode c.args.mode 2 content c.args.now) c.args.now))
    (empty-directory c.number.result (number_at (keyed_of c.self.inside.inodes.table) c.args.at.now.dir) c.args.at.now.dir c.new.result
    (c.number.ensures ∙ sym (number_at-table c.self.inside.inodes.table c.args.at.now.dir)) c.new.ensures.entries c.new.ensures.greatest)
    (rw (to_z-of_z {w = w128} {z = c.args.now} c.ranges.now) at c.in_ok-key.ensures.made))
    c.add_link.new.table c.args.at.now.dir (number_at (keyed_of c.self.inside.inodes.table) c.args.at.now.dir) names.one_link_more c.add_link.ensures.step
    (above-number c.self.inside.inodes.table c.make.new.inodes.table c.in_ok-key.key c.args.at.now
    (agrees-kept c.self.inside.inodes.table c.args.self.now c.self.view_is c.args.at.now c.requires.agrees) _ _ c.in_ok-key.ensures.made)

kept : (c : goal.After-self-2-1) → IsKept c.add_link.new.table (c.self.inside.inodes.entries + 1) c.self.inside.root
kept c =
    kept-mkdir c.self.inside.inodes.table c.add_link.new.table c.self.inside.inodes.entries c.self.inside.root c.in_ok-key.key c.args.at.now c.args.now
    c.self.invariant (agrees-kept c.self.inside.inodes.table c.args.self.now c.self.view_is c.args.at.now c.requires.agrees) c.requires.time (free c) c.args.mode c.requires.mode (made c)

pub invariant_of-self-inside : goal.invariant_of-self-inside
invariant_of-self-inside c = record {
  distinct = step-distinct c.make.new.inodes.table c.add_link.new.table c.args.at.now.dir names.one_link_more c.add_link.ensures.step c.make.new.inodes.distinct;
  pool = pool-stepped c.make.new.inodes.table c.add_link.new.table c.args.at.now.dir names.one_link_more c.add_link.ensures.step c.make.new.inodes.numbers c.make.new.inodes.pool;
  block_total = blocks-stepped c.make.new.inodes.table c.add_link.new.table c.args.at.now.dir names.one_link_more c.add_link.ensures.step (λ i. refl) c.make.new.inodes.blocks c.make.new.inodes.block_total;
}

pub invariant_of-self-2 : goal.invariant_of-self-2
invariant_of-self-2 c =
    subst (λ n. IsKept c.add_link.new.table (n + 1) c.self.inside.root) (sym c.in_ok-key.ensures.entries) (kept c)

pub returns-clause-answer : goal.returns-clause-answer
returns-clause-answer c = sym (refusal-seen c.self.inside.inodes.table c.args.self.now c.self.view_is names.make_refusal c.args.at.now) ∙ free c

pub returns-clause-made : goal.returns-clause-made
returns-clause-made c =
    makes-seen c.self.inside.inodes.table c.add_link.new.table c.in_ok-key.key c.args.at.now (λ nodes place number. names.after_mkdir nodes place number c.args.mode c.args.now) c.args.self.now
    c.self.view_is (made c)

pub returns-clause-valid : goal.returns-clause-valid
returns-clause-valid c = valid-sound _ _ (kept c).sound

pub returns-clause-keys : goal.returns-clause-keys
returns-clause-keys c = AreKeys-table _ (step-distinct c.make.new.inodes.table c.add_link.new.table c.args.at.now.dir names.one_link_more c.add_link.ensures.step c.make.new.inodes.distinct)

-- memory runs out

same_kept : (c : goal.After-from_residual) → IsKept c.make.new.inodes.table c.make.new.inodes.entries c.self.inside.root
same_kept c = kept-same c.self.inside.inodes.table c.make.new.inodes.table c.in_err-key.ensures.same _ _ _ c.in_err-key.ensures.entries c.self.invariant

pub invariant_of-self : goal.invariant_of-self
invariant_of-self c = same_kept c

pub returns-in_err-key-clause-answer : goal.returns-in_err-key-clause-answer
returns-in_err-key-clause-answer c =
    let p = err_from_is_err_and c.from_residual.result c.from_residual.ensures.1 in
    rw (p.1, p.2) (sym (refusal-seen c.self.inside.inodes.table c.args.self.now c.self.view_is names.make_refusal c.args.at.now) ∙ sym c.make_refusal.ensures
    ∙ none-left c.make_refusal.result c.in_default.not-Some)

pub returns-in_err-key-clause-err : goal.returns-in_err-key-clause-err
returns-in_err-key-clause-err c =
    let p = err_from_is_err_and c.from_residual.result c.from_residual.ensures.1 in
    rw p.1 (view-same c.self.inside.inodes.table c.make.new.inodes.table c.in_err-key.ensures.same c.args.self.now c.self.view_is)

pub returns-in_err-key-clause-valid : goal.returns-in_err-key-clause-valid
returns-in_err-key-clause-valid c = valid-sound _ _ (same_kept c).sound

pub returns-in_err-key-clause-keys : goal.returns-in_err-key-clause-keys
returns-in_err-key-clause-keys c = AreKeys-table _ c.make.new.inodes.distinct

pub returns-in-Some-clause-held : goal.returns-in-Some-clause-held
returns-in-Some-clause-held c = held-same c.args.self.now c.args.self.now refl

pub returns-clause-held : goal.returns-clause-held
returns-clause-held c =
    held-made c.args.self.now (keyed_of c.add_link.new.table) c.in_ok-key.key _ (returns-clause-made c)
    (λ number new. mkdir_keeps_holds c.args.self.now.nodes (place_at c.args.self.now c.args.at.now) number new c.args.now c.args.mode)

pub returns-in_err-key-clause-held : goal.returns-in_err-key-clause-held
returns-in_err-key-clause-held c =
    held-same c.args.self.now (keyed_of c.make.new.inodes.table)
    (view-same c.self.inside.inodes.table c.make.new.inodes.table c.in_err-key.ensures.same c.args.self.now c.self.view_is)
