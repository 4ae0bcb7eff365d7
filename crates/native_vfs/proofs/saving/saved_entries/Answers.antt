use Rattle.std.proofs.Common.{List, [], ◌∷◌, ◌++◌, map, length, sym, ap, ◌∙◌, arith}
use Rattle.std.specs.Prelude.{option_map}
use Rattle.std.proofs.lemmas.List.{append-nil}
use Rattle.kernel_core.specs.declared.tree.DirEntry.{DirEntry}
use Rattle.directory_names.specs.Names.{plain, shown}
use Rattle.native_vfs.proofs.trees.SavedLists.{above, above-zero, above-next, none_above, entries-next}
use Rattle.native_vfs.proofs.saving.saved_entries.Goals as goal

pub loop-entry-init : goal.loop-entry-init
loop-entry-init c = (
  ap (λ (es : List DirEntry). es ++ map plain (above 0 c.args.names.now.entries)) c.in_ok-entries.ensures.items
      ∙ ap (map plain) (above-zero c.args.names.now c.len.ensures.valid),
  c.len.ensures.valid,
)

pub loop-entry-smaller : goal.loop-entry-smaller
loop-entry-smaller c =
    let next = ap length (above-next c.args.names.now c.loop-entry.cookie (shown c.in-Some.entry) c.loop-entry.invariant.1 (sym c.in-Some.ensures.entry)) in
    omega (arith, next)

pub loop-entry-preserved : goal.loop-entry-preserved
loop-entry-preserved c = (
  ap (λ (es : List DirEntry). es ++ map plain (above c.in-Some.entry.cookie c.args.names.now.entries))
      (c.in_ok-push.ensures.items ∙ ap (λ name. c.loop-entry.entries.items ++ record { cookie = c.in-Some.entry.cookie; name = name; node = c.in-Some.entry.node.number } ∷ []) c.in_ok-name.ensures)
      ∙ entries-next c.args.names.now c.loop-entry.cookie (shown c.in-Some.entry) c.loop-entry.entries.items c.loop-entry.invariant.1 (sym c.in-Some.ensures.entry) c.loop-entry.invariant.0,
  c.loop-entry.invariant.1,
)

pub returns : goal.returns
returns c =
    sym (append-nil c.loop-entry.entries.items)
    ∙ ap (λ es. c.loop-entry.entries.items ++ map plain es) (sym (none_above c.loop-entry.cookie c.args.names.now.entries (sym c.entry_after.ensures.entry ∙ ap (option_map shown) c.in_default.is)))
    ∙ c.loop-entry.invariant.0
