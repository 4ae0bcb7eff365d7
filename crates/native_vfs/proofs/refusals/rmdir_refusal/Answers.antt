use Rattle.std.proofs.Common.{ℕ, List, length, eqb, ◌∙◌, refl, sym, ap, true, false, codes}
use Rattle.std.proofs.lemmas.Bool.{eq-eqb, ne_eqb}
use Rattle.kernel_core.specs.ValidTree.{root}
use Rattle.native_vfs.specs.inside.Stored.{number_of_key}
use Rattle.native_vfs.proofs.tables.Reasons.{live-node}
use Rattle.native_vfs.proofs.removals.RemovalReasons.{same-test, empty-length, rmdir-refused}
use Rattle.native_vfs.proofs.refusals.rmdir_refusal.Goals as goal

pub number-requires : goal.number-requires
number-requires c = record { live = live-node c.args.inodes.now.table c.args.at.now c.in-Some.node c.requires.agrees c.in-Some.is }

pub is_directory-requires-clause-live : goal.is_directory-requires-clause-live
is_directory-requires-clause-live c = live-node c.args.inodes.now.table c.args.at.now c.in-Some.node c.requires.agrees c.in-Some.is

pub has_entries-requires : goal.has_entries-requires
has_entries-requires c = record { live = live-node c.args.inodes.now.table c.args.at.now c.in-Some.node c.requires.agrees c.in-Some.is }

pub returns-then-number-eq-ROOT : goal.returns-then-number-eq-ROOT
returns-then-number-eq-ROOT c =
    rmdir-refused c.args.inodes.now.table c.args.at.now c.requires.agrees c.in-Some.node c.in-Some.is false false true _ _ _
    (same-test _ _ _ (codes ".") false c.as_slice-name.ensures c.as_slice.ensures c.if-eq.ensures)
    (same-test _ _ _ (codes "..") false c.as_slice-name.ensures c.as_slice-2.ensures c.if-eq-2.ensures)
    (eq-eqb (number_of_key c.args.inodes.now.table c.in-Some.node) root (sym c.number.ensures ∙ c.if-number-eq-ROOT.true)) refl refl refl

pub returns-then-is_empty : goal.returns-then-is_empty
returns-then-is_empty c =
    rmdir-refused c.args.inodes.now.table c.args.at.now c.requires.agrees c.in-Some.node c.in-Some.is false false false true _ _
    (same-test _ _ _ (codes ".") false c.as_slice-name.ensures c.as_slice.ensures c.if-eq.ensures)
    (same-test _ _ _ (codes "..") false c.as_slice-name.ensures c.as_slice-2.ensures c.if-eq-2.ensures)
    (ne_eqb (number_of_key c.args.inodes.now.table c.in-Some.node) root (λ e. c.if-number-eq-ROOT.false (c.number.ensures ∙ e)))
    (empty-length c.args.at.now.name ∙ sym (c.if-is_empty.ensures ∙ ap (λ (xs : List ℕ). eqb (length xs) 0) c.as_slice-name.ensures)) refl refl

pub returns-then-not-is_directory : goal.returns-then-not-is_directory
returns-then-not-is_directory c =
    rmdir-refused c.args.inodes.now.table c.args.at.now c.requires.agrees c.in-Some.node c.in-Some.is false false false false false _
    (same-test _ _ _ (codes ".") false c.as_slice-name.ensures c.as_slice.ensures c.if-eq.ensures)
    (same-test _ _ _ (codes "..") false c.as_slice-name.ensures c.as_slice-2.ensures c.if-eq-2.ensures)
    (ne_eqb (number_of_key c.args.inodes.now.table c.in-Some.node) root (λ e. c.if-number-eq-ROOT.false (c.number.ensures ∙ e)))
    (empty-length c.args.at.now.name ∙ sym (c.if-is_empty.ensures ∙ ap (λ (xs : List ℕ). eqb (length xs) 0) c.as_slice-name.ensures))
    (sym c.if-not-is_directory.ensures) refl

pub returns-then-has_entries : goal.returns-then-has_entries
returns-then-has_entries c =
    rmdir-refused c.args.inodes.now.table c.args.at.now c.requires.agrees c.in-Some.node c.in-Some.is false false false false true true
    (same-test _ _ _ (codes ".") false c.as_slice-name.ensures c.as_slice.ensures c.if-eq.ensures)
    (same-test _ _ _ (codes "..") false c.as_slice-name.ensures c.as_slice-2.ensures c.if-eq-2.ensures)
    (ne_eqb (number_of_key c.args.inodes.now.table c.in-Some.node) root (λ e. c.if-number-eq-ROOT.false (c.number.ensures ∙ e)))
    (empty-length c.args.at.now.name ∙ sym (c.if-is_empty.ensures ∙ ap (λ (xs : List ℕ). eqb (length xs) 0) c.as_slice-name.ensures))
    (sym c.if-not-is_directory.ensures) (sym c.if-has_entries.ensures)

pub returns : goal.returns
returns c =
    rmdir-refused c.args.inodes.now.table c.args.at.now c.requires.agrees c.in-Some.node c.in-Some.is false false false false true false
    (same-test _ _ _ (codes ".") false c.as_slice-name.ensures c.as_slice.ensures c.if-eq.ensures)
    (same-test _ _ _ (codes "..") false c.as_slice-name.ensures c.as_slice-2.ensures c.if-eq-2.ensures)
    (ne_eqb (number_of_key c.args.inodes.now.table c.in-Some.node) root (λ e. c.if-number-eq-ROOT.false (c.number.ensures ∙ e)))
    (empty-length c.args.at.now.name ∙ sym (c.if-is_empty.ensures ∙ ap (λ (xs : List ℕ). eqb (length xs) 0) c.as_slice-name.ensures))
    (sym c.if-not-is_directory.ensures) (sym c.if-has_entries.ensures)
